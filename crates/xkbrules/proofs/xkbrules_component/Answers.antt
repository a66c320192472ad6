use native.Mathlib.Omega.{arith}
use lib.ListN.{length}
use Rattle.xkbrules.proofs.Sheet.{code_number, code_sheet, code_texts, code_wide, code_bounds, code_found}
use Rattle.xkbrules.proofs.xkbrules_component.Goals as goal

pub returns-then-component-gt4 : goal.returns-then-component-gt4
returns-then-component-gt4 c =
    code_number _ c.args.sheet.now _ c.if-component-gt4.true

pub returns-then-sheet-lt40 : goal.returns-then-sheet-lt40
returns-then-sheet-lt40 c =
    code_sheet _ c.args.sheet.now _ c.if-component-gt4.false c.if-sheet-lt40.true

pub returns-then-texts-total : goal.returns-then-texts-total
returns-then-texts-total c =
    code_texts _ c.args.sheet.now _ _ _ c.if-component-gt4.false c.if-sheet-lt40.false c.lengths_in-lengths.ensures c.sum_first-total.ensures c.if-texts-total.true

pub returns-then-over : goal.returns-then-over
returns-then-over c =
    code_wide _ c.args.sheet.now _ _ _ c.if-component-gt4.false c.if-sheet-lt40.false c.lengths_in-lengths.ensures c.sum_first-total.ensures c.if-texts-total.false c.if-over.true

pub overflow_mul-result : goal.overflow_mul-result
overflow_mul-result c =
    let b = code_bounds (length c.args.texts.now) c.args.sheet.now _ _ _ c.if-component-gt4.false c.if-sheet-lt40.false c.lengths_in-lengths.ensures c.sum_first-total.ensures _ _
    c.sum_first-start.ensures c.sum_first-end.ensures c.if-over.false in
    omega (arith, b.0, b.1)

pub overflow_sub-result : goal.overflow_sub-result
overflow_sub-result c =
    let b = code_bounds (length c.args.texts.now) c.args.sheet.now _ _ _ c.if-component-gt4.false c.if-sheet-lt40.false c.lengths_in-lengths.ensures c.sum_first-total.ensures _ _
    c.sum_first-start.ensures c.sum_first-end.ensures c.if-over.false in
    omega (arith, b.0, b.1)

pub overflow_add-result : goal.overflow_add-result
overflow_add-result c =
    let b = code_bounds (length c.args.texts.now) c.args.sheet.now _ _ _ c.if-component-gt4.false c.if-sheet-lt40.false c.lengths_in-lengths.ensures c.sum_first-total.ensures _ _
    c.sum_first-start.ensures c.sum_first-end.ensures c.if-over.false in
    omega (arith, b.0, b.1)

pub returns : goal.returns
returns c =
    code_found _ c.args.sheet.now _ _ _ c.if-component-gt4.false c.if-sheet-lt40.false c.lengths_in-lengths.ensures c.sum_first-total.ensures _ _ c.sum_first-start.ensures c.sum_first-end.ensures c.if-texts-total.false c.if-over.false
