use Rattle.values.proofs.Copying.{plus_sign, sign_signs, sign_inside, sign_first, behind_first, sign_plain, behind_plain}
use Rattle.values.proofs.spread.Copies.of.Goals as goal

pub bounds-t-0 : goal.bounds-t-0
bounds-t-0 c = sign_inside _ c.if-is_signed.ensures

pub slice_bounds-result-count : goal.slice_bounds-result-count
slice_bounds-result-count c = sign_inside _ c.if-is_signed.ensures

pub slice_bounds-result-start : goal.slice_bounds-result-start
slice_bounds-result-start c = sign_inside _ c.if-is_signed.ensures

pub invariant_of-result : goal.invariant_of-result
invariant_of-result c = record { is_sign = sign_signs _ c.if-is_signed.ensures }

pub invariant_of-result-2 : goal.invariant_of-result-2
invariant_of-result-2 c = record { is_sign = plus_sign }

pub returns-then-is_signed : goal.returns-then-is_signed
returns-then-is_signed c = (sign_first _ c.if-is_signed.ensures, behind_first _ c.if-is_signed.ensures)

pub returns : goal.returns
returns c = (sign_plain _ c.if-is_signed.ensures, behind_plain _ c.if-is_signed.ensures)
