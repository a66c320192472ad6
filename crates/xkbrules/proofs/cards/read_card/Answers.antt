use borrow.Author.Rules.{rules}
use Rattle.std.proofs.lemmas.Result.{err_from_is_err_and}
use Rattle.xkbrules.proofs.CardWays.{read_broken, read_sheet, read_refused, read_done}
use Rattle.xkbrules.proofs.OneByOne.{sheet_put}
use Rattle.xkbrules.proofs.cards.read_card.Goals as goal

pub returns-in_err-judge : goal.returns-in_err-judge
returns-in_err-judge c =
    let p = err_from_is_err_and c.from_residual.result c.from_residual.ensures.1 in
    rw (p.1, p.2) (read_broken _ _ _ _ c.in_err-judge.ensures)

pub returns-then-sheet-lt56 : goal.returns-then-sheet-lt56
returns-then-sheet-lt56 c = read_sheet _ _ _ c.in_ok-judge.ensures.0 c.if-sheet-lt56.true

pub returns-in_err-lengths : goal.returns-in_err-lengths
returns-in_err-lengths c =
    let p = err_from_is_err_and c.from_residual-in_err-lengths.result c.from_residual-in_err-lengths.ensures.1 in
    rw (p.1, p.2) (read_refused _ _ _ c.if-sheet-lt56.false _ _ c.in_err-lengths.ensures)

pub returns : goal.returns
returns c = read_done _ _ _ c.if-sheet-lt56.false _ _ _ c.in_ok-lengths.ensures (sheet_put _ _ _ 14 (search rules) c.put_lengths.ensures)
