use mathlib.Core.Path.{sym, ap, ◌∙◌}
use Rattle.rules.specs.Words.{left_word}
use Rattle.rules.proofs.PlainLines.{lefts_more}
use Rattle.rules.proofs.plain.left_end.Goals as goal

pub loop-preserved : goal.loop-preserved
loop-preserved c =
    lefts_more _ _ _ _ _ _ c.loop.invariant _ _ c.loop-test.true c.in_ok-word.ensures (ap left_word (sym c.word.ensures) ∙ sym c.if-not-is_left_word.ensures)
