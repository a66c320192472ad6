use native.Mathlib.Omega.{arith}
use mathlib.Core.Path.{sym, ap, ◌∙◌}
use Rattle.rules.specs.Words.{left_word}
use Rattle.rules.proofs.WordLoops.{upto_more, upto_miss, upto_end}
use Rattle.rules.proofs.judge.left_words.Goals as goal

pub returns-then-not-is_left_word : goal.returns-then-not-is_left_word
returns-then-not-is_left_word c =
    upto_miss left_word _ _ _ c.loop-j.invariant (omega arith) (omega arith)
    (ap left_word (sym c.word.ensures) ∙ (sym c.is_left_word.ensures ∙ c.if-not-is_left_word.true))

pub loop-j-preserved : goal.loop-j-preserved
loop-j-preserved c =
    upto_more left_word _ _ _ c.loop-j.invariant (omega arith) (omega arith)
    (ap left_word (sym c.word.ensures) ∙ (sym c.is_left_word.ensures ∙ c.if-not-is_left_word.false))

pub returns : goal.returns
returns c = upto_end left_word _ _ _ c.loop-j.invariant c.loop-j-test.false
