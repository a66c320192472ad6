-- `reading::keep::keep_rule`: the places up to k are kept, those above are as they were.
use Rattle.reading.proofs.Keeps.{NotedTo}
use Rattle.reading.proofs.keep.keep_rule.Given as goal

abbrev pub invariant-loop-k : goal.invariant-loop-k
invariant-loop-k l = NotedTo l.o.first l.m l.place l.initial.places l.k l.places
