use native.Mathlib.Omega.{arith}
use Rattle.profile.proofs.FieldWalk.{counted_start, counted_comma, counted_byte, counted_end}
use Rattle.profile.proofs.fields.field_count.Goals.{then-b-eq44, else-b-eq44}
use Rattle.profile.proofs.fields.field_count.Goals as goal

pub loop-b-init : goal.loop-b-init
loop-b-init c = counted_start _

pub overflow_add-count : goal.overflow_add-count
overflow_add-count c = omega (arith, c.loop-b.invariant.few, c.loop-b-test.true)

pub loop-b-preserved : goal.loop-b-preserved
loop-b-preserved c =
    elim c.if-b-eq44.branch [
      | then-b-eq44 w ↦ rw w.count-is (counted_comma _ _ _ c.loop-b.invariant c.loop-b-test.true w.if-b-eq44.true)
      | else-b-eq44 w ↦ rw w.count-is (counted_byte _ _ _ c.loop-b.invariant c.loop-b-test.true w.if-b-eq44.false)
    ]

pub returns : goal.returns
returns c = counted_end _ _ _ c.loop-b.invariant c.loop-b-test.false
