use native.Mathlib.Omega.{arith}
use Rattle.profile.proofs.OptionFields.{tallied_start, tallied_field, tallied_none, tallied_end}
use Rattle.profile.proofs.fields.option_count.Goals.{then-start-end, else-start-end}
use Rattle.profile.proofs.fields.option_count.Goals as goal

pub loop-start-init : goal.loop-start-init
loop-start-init c = tallied_start _

pub overflow_add-count : goal.overflow_add-count
overflow_add-count c = omega (arith, c.loop-start.invariant.few, c.loop-start-test.true)

pub loop-start-preserved : goal.loop-start-preserved
loop-start-preserved c =
    elim c.if-start-end.branch [
      | then-start-end w ↦ rw w.count-is (tallied_field _ _ _ c.loop-start.invariant _ c.field_end-end.ensures w.if-start-end.true)
      | else-start-end w ↦ rw w.count-is (tallied_none _ _ _ c.loop-start.invariant _ c.field_end-end.ensures w.if-start-end.false)
    ]

pub returns : goal.returns
returns c = tallied_end _ _ _ c.loop-start.invariant c.loop-start-test.false
