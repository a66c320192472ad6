use Rattle.std.proofs.Common.{length}
use Rattle.names.proofs.Placing.{Placing}
use Rattle.names.proofs.places.place_fields.Given as goal

abbrev pub invariant-loop-j : goal.invariant-loop-j
invariant-loop-j l =
    record {
      on : (goal.iterator-loop-j).can_next l.j-iterator;
      ends : (goal.iterator-loop-j).is_finite l.j-iterator;
      placing : Placing l.text l.base l.first l.initial.bounds l.bounds (length l.yielded) l.start;
    }
