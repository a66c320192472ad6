use native.Mathlib.Omega.{arith}
use Rattle.judging.proofs.SetLines.{set_judged}
use Rattle.rules.proofs.LineKinds.{set_none, set_nothing, set_ends, set_again, set_shaped, first_count}
use Rattle.judging.proofs.set.judge_set.Goals.{then-first-eq0-via-then-first-eq0, then-first-eq0-via-else-first-eq0+then-t-first-lt2, then-first-eq0-via-else-first-eq0+else-t-first-lt2+then-t}
use Rattle.judging.proofs.set.judge_set.Goals as goal

pub returns-in_default : goal.returns-in_default
returns-in_default c = set_none _ _ c.requires c.in_default.is

pub overflow_sub-t : goal.overflow_sub-t
overflow_sub-t c = first_count _ _ c.requires _ c.in-Some.is

pub returns-then-first-eq0 : goal.returns-then-first-eq0
returns-then-first-eq0 c =
    let v = c.requires in
    let f = c.in-Some.is in
    elim c.then-first-eq0.branch [
      | then-first-eq0-via-then-first-eq0 w ↦ set_nothing _ _ v _ f w.if-first-eq0.true
      | then-first-eq0-via-else-first-eq0+then-t-first-lt2 w ↦ set_ends _ _ v _ f w.if-first-eq0.false (omega (arith, w.if-t-first-lt2.true))
      | then-first-eq0-via-else-first-eq0+else-t-first-lt2+then-t w ↦
          set_again _ _ v _ f w.if-first-eq0.false (omega (arith, w.if-t-first-lt2.false)) w.if-t.true
    ]

pub returns : goal.returns
returns c =
    rw c.ok_or.ensures.value
    (set_judged _ (set_shaped _ _ c.requires _ c.in-Some.is c.if-first-eq0.false (omega (arith, c.if-t-first-lt2.false)) c.if-t.false) _ c.read_set.ensures)
