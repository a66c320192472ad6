use mathlib.Core.Path.{sym, ap, ◌∙◌}
use Rattle.rules.specs.Words.{ordinary}
use Rattle.rules.proofs.PlainLines.{word_plain}
use Rattle.rules.proofs.plain.right_word.Goals as goal

pub returns-else-not-is_ordinary : goal.returns-else-not-is_ordinary
returns-else-not-is_ordinary c =
    word_plain _ _ _ _ _ _ c.in-Some.ensures (ap ordinary (sym c.word.ensures) ∙ sym c.if-not-is_ordinary.ensures)
