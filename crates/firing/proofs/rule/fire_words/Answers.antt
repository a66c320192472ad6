use mathlib.Core.Path.{refl, ◌∙◌}
use native.Mathlib.Omega.{arith}
use Rattle.text.proofs.Sources.{found, stopped}
use Rattle.firing.proofs.ValueFires.{words_start, word_fits, words_more, words_fired, words_none, fires_again}
use Rattle.firing.proofs.rule.fire_words.Goals as goal

pub loop-component-init : goal.loop-component-init
loop-component-init c =
    (words_start _ _ _ _ _ _ _ _ c.requires.0.high c.requires.0.few c.requires.1.short c.requires.2.low, refl, refl)

pub word_at-requires : goal.word_at-requires
word_at-requires c =
    record { high = c.loop-component.invariant.0.passing.high; few = c.loop-component.invariant.0.passing.few }

pub fire_value-next-requires : goal.fire_value-next-requires
fire_value-next-requires c =
    let v = c.loop-component.invariant in
    (fires_again _ _ _ _ _ _ _ _ c.requires.2 v.1 v.2 (v.0.going 0).low, rw c.word-word.ensures (word_fits _ _ _ _ _ _ _ _ _ _ _ _ _ v.0 _ _ _ _ (found _ _ _ _ _ _ _ _ c.in-Found.is c.word_at.ensures)))

pub loop-component-preserved : goal.loop-component-preserved
loop-component-preserved c =
    let v = c.loop-component.invariant in (
      words_more _ _ _ _ _ _ _ _ _ _ _ _ _ v.0 _ _ _ _ (found _ _ _ _ _ _ _ _ c.in-Found.is c.word_at.ensures) c.loop-component-test.true _ _
          (rw c.word-word.ensures at c.fire_value-next.ensures.0),
      c.fire_value-next.ensures.1 ∙ v.1,
      c.fire_value-next.auto.buf ∙ v.2,
    )

pub returns-in-Stop : goal.returns-in-Stop
returns-in-Stop c =
    let v = c.loop-component.invariant in
    (words_none _ _ _ _ _ _ _ _ _ _ _ _ _ v.0 _ _ (stopped _ _ _ _ _ _ c.in-Stop.is c.word_at.ensures), v.1)

pub returns : goal.returns
returns c =
    let v = c.loop-component.invariant in
    let t = c.loop-component-test.false in
    (words_fired _ _ _ _ _ _ _ _ _ _ _ _ _ v.0 (omega (arith, c.requires.1.all, c.loop-component-test.false)), v.1)
