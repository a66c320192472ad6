use native.Mathlib.Omega.{arith}
use mathlib.Core.Path.{sym, ap, ◌∙◌}
use mathlib.Core.Bool.{◌||◌}
use Rattle.rules.specs.Words.{ordinary}
use Rattle.rules.specs.Percent.{malformed}
use Rattle.rules.proofs.WordLoops.{right_odd, right_more, right_bad, right_fine}
use Rattle.rules.proofs.judge.right_words.Goals as goal

pub returns-then-not-is_ordinary : goal.returns-then-not-is_ordinary
returns-then-not-is_ordinary c =
    right_odd _ _ _ _ _ c.loop-j.invariant (omega arith) (ap ordinary (sym c.word-word.ensures) ∙ (sym c.is_ordinary.ensures ∙ c.if-not-is_ordinary.true))

pub loop-j-preserved : goal.loop-j-preserved
loop-j-preserved c =
    right_more _ _ _ _ _ c.loop-j.invariant _ (omega arith) (ap ordinary (sym c.word-word.ensures) ∙ (sym c.is_ordinary.ensures ∙ c.if-not-is_ordinary.false))
    (ap (λ b. c.loop-j.malformed || b) (c.is_malformed-malformed.ensures ∙ ap (malformed c.args.indexed) c.word-word.ensures))

pub returns-then-malformed : goal.returns-then-malformed
returns-then-malformed c = right_bad _ _ _ _ _ c.loop-j.invariant (omega arith) c.if-malformed.true

pub returns : goal.returns
returns c = right_fine _ _ _ _ _ c.loop-j.invariant (omega arith) c.if-malformed.false
