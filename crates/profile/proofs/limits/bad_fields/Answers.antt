use mathlib.Core.Path.{sym, ap, ◌∙◌}
use mathlib.Core.Bool.{not}
use native.Mathlib.Omega.{arith}
use Rattle.profile.proofs.Parts.{graphic}
use Rattle.profile.proofs.FieldWalk.{bad_short, bad_long, walked_start, walked_bad, walked_long, walked_comma, walked_byte, walked_end}
use Rattle.profile.proofs.limits.bad_fields.Goals.{then-b-eq44+else-long, else-b-eq44}
use Rattle.profile.proofs.limits.bad_fields.Goals as goal

pub returns-then-text-gt1024 : goal.returns-then-text-gt1024
returns-then-text-gt1024 c = bad_long _ c.if-text-gt1024.true

pub loop-i-init : goal.loop-i-init
loop-i-init c = walked_start _

pub returns-then-not-is_ascii_graphic : goal.returns-then-not-is_ascii_graphic
returns-then-not-is_ascii_graphic c =
    walked_bad _ _ _ c.loop-i.invariant c.loop-i-test.true (graphic _ ∙ ap not (sym c.is_ascii_graphic.ensures.value ∙ c.if-not-is_ascii_graphic.true))
    ∙ sym (bad_short _ c.if-text-gt1024.false)

pub overflow_sub-long : goal.overflow_sub-long
overflow_sub-long c = c.loop-i.invariant.low

pub returns-then-long : goal.returns-then-long
returns-then-long c =
    walked_long _ _ _ c.loop-i.invariant c.loop-i-test.true (graphic _ ∙ ap not (sym c.is_ascii_graphic.ensures.value ∙ c.if-not-is_ascii_graphic.false)) c.if-b-eq44.true
    c.if-long.true
    ∙ sym (bad_short _ c.if-text-gt1024.false)

pub loop-i-preserved : goal.loop-i-preserved
loop-i-preserved c =
    let fine = graphic _ ∙ ap not (sym c.is_ascii_graphic.ensures.value ∙ c.if-not-is_ascii_graphic.false) in
    elim c.if-b-eq44.branch [
      | then-b-eq44+else-long w ↦ rw w.start-is (walked_comma _ _ _ c.loop-i.invariant c.loop-i-test.true fine w.if-b-eq44.true w.if-long.false)
      | else-b-eq44 w ↦ rw w.start-is (walked_byte _ _ _ c.loop-i.invariant c.loop-i-test.true fine w.if-b-eq44.false)
    ]

pub overflow_sub-result : goal.overflow_sub-result
overflow_sub-result c = omega (arith, c.loop-i.invariant.low, c.loop-i-test.false)

pub returns : goal.returns
returns c = walked_end _ _ _ c.loop-i.invariant c.loop-i.auto.i-end c.loop-i-test.false ∙ sym (bad_short _ c.if-text-gt1024.false)
