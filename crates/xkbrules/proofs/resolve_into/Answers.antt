use borrow.Author.Rules.{rules}
use Rattle.std.proofs.lemmas.Result.{err_from_is_err_and}
use Rattle.xkbrules.proofs.OneByOne.{sheet_put}
use Rattle.xkbrules.proofs.Ways.{way_measured, way_refused, way_short, way_accepted}
use Rattle.xkbrules.proofs.resolve_into.Goals as goal

pub returns-in_err-measure : goal.returns-in_err-measure
returns-in_err-measure c =
    let p = err_from_is_err_and c.from_residual.result c.from_residual.ensures.1 in
    rw (p.1, p.2) (way_measured _ _ _ _ _ c.in_err-measure.ensures)

pub returns-then-sheet-lt40 : goal.returns-then-sheet-lt40
returns-then-sheet-lt40 c = way_short _ _ _ _ _ c.in_ok-measure.ensures c.if-sheet-lt40.true

pub returns-in_err-lengths : goal.returns-in_err-lengths
returns-in_err-lengths c =
    let p = err_from_is_err_and c.from_residual-in_err-lengths.result c.from_residual-in_err-lengths.ensures.1 in
    rw (p.1, p.2) (way_refused _ _ _ _ _ _ c.in_err-lengths.ensures)

pub returns : goal.returns
returns c = way_accepted _ _ _ _ _ _ _ c.if-sheet-lt40.false c.in_ok-lengths.ensures (sheet_put _ _ _ 10 (search rules) c.put_lengths.ensures)
