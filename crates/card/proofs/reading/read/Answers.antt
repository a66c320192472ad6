use native.Mathlib.Omega.{arith}
use Rattle.std.proofs.lemmas.Result.{err_from_is_err_and}
use Rattle.card.proofs.Judged.{size, way_bad, way_short, way_read}
use Rattle.card.proofs.reading.read.Goals as goal

pub returns-in_err-sections : goal.returns-in_err-sections
returns-in_err-sections c =
    let p = err_from_is_err_and c.from_residual.result c.from_residual.ensures.1 in
    let e = c.in_err-sections.ensures in
    rw (p.1, p.2, e.0) (way_bad _ e.1 _)

pub overflow_sub-card : goal.overflow_sub-card
overflow_sub-card c = omega (arith, size _ _ c.in_ok-sections.ensures)

pub returns-then-texts-card : goal.returns-then-texts-card
returns-then-texts-card c = way_short _ _ c.in_ok-sections.ensures _ c.if-texts-card.true

pub copy-requires : goal.copy-requires
copy-requires c = omega (arith, size _ _ c.in_ok-sections.ensures, c.if-texts-card.false)

pub returns : goal.returns
returns c = way_read _ _ c.in_ok-sections.ensures _ _ _ c.if-texts-card.false c.copy.ensures c.lengths.ensures
