use Rattle.rules.specs.Splitting.{words_of}
use Rattle.rules.proofs.WordLoops.{RightFrom}
use Rattle.rules.proofs.judge.right_words.Given as goal

abbrev pub invariant-loop-j : goal.invariant-loop-j
invariant-loop-j l = RightFrom l.indexed (words_of l.line.text.now) l.from l.j l.malformed
