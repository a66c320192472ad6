use Rattle.rules.specs.Words.{left_word}
use Rattle.rules.specs.Splitting.{words_of}
use Rattle.rules.proofs.WordLoops.{AllUpTo}
use Rattle.rules.proofs.judge.left_words.Given as goal

abbrev pub invariant-loop-j : goal.invariant-loop-j
invariant-loop-j l = AllUpTo left_word (words_of l.line.text.now) l.n l.j
