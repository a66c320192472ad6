use Rattle.std.proofs.Common.{rules}
use Rattle.rules.proofs.Sides.{column_bad, index_bad, held_alike, held_bare, held_first}
use Rattle.rules.proofs.sets.LeftSide.with.Goals as goal

pub returns-in_err-columns : goal.returns-in_err-columns
returns-in_err-columns c = λ ls v. rw c.from_residual.ensures (column_bad ls _ v _ _ c.column.ensures c.in_err-columns.ensures)

pub returns-then-not-alike : goal.returns-then-not-alike
returns-then-not-alike c = λ ls v. index_bad ls _ v _ _ c.column.ensures _ _ c.in-Some-Some.is-0 c.in-Some-Some.ensures (search rules)

pub returns-else-not-alike : goal.returns-else-not-alike
returns-else-not-alike c = λ ls v. held_alike ls _ v _ _ c.column.ensures _ c.in_ok-columns.ensures.0 c.in_ok-columns.ensures.2 _ _ c.in-Some-Some.is-0 c.in-Some-Some.ensures (search rules)

pub returns-in-Some-None : goal.returns-in-Some-None
returns-in-Some-None c = λ ls v. held_bare ls _ v _ _ c.column.ensures _ c.in_ok-columns.ensures.0 c.in_ok-columns.ensures.2 _ c.in-Some-None.is-0 c.in-Some-None.ensures

pub returns-in-None-default : goal.returns-in-None-default
returns-in-None-default c = λ ls v. held_first ls _ v _ _ c.column.ensures _ c.in_ok-columns.ensures.0 c.in_ok-columns.ensures.2 c.in-None-default.is-0 _ c.index.ensures
