-- The words of a line whose places are kept.
use Rattle.text.specs.Bytes.{Words}
use Rattle.rules.specs.declared.placed.PlacedWords.{PlacedWords}
use Rattle.rules.specs.Splitting.{words_of}

abbrev pub words_in : PlacedWords → Words
words_in l = words_of l.text.now
