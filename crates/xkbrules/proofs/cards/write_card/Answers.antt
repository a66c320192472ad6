use Rattle.std.proofs.lemmas.Result.{err_from_is_err_and}
use Rattle.xkbrules.proofs.CardWays.{write_profile, write_sheet, write_so}
use Rattle.xkbrules.proofs.cards.write_card.Goals as goal

pub returns-in_err-check : goal.returns-in_err-check
returns-in_err-check c =
    let p = err_from_is_err_and c.from_residual.result c.from_residual.ensures.1 in
    rw (p.1, p.2) (write_profile _ _ _ _ _ c.in_err-check.ensures)

pub returns-then-sheet-lt40 : goal.returns-then-sheet-lt40
returns-then-sheet-lt40 c = write_sheet _ _ _ _ c.in_ok-check.ensures c.if-sheet-lt40.true

pub returns : goal.returns
returns c = write_so _ _ _ _ _ c.lengths_in.ensures c.if-sheet-lt40.false _ _ c.write.ensures
