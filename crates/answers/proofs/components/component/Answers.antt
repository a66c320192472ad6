use mathlib.Core.Path.{sym}
use native.Mathlib.Omega.{arith}
use Rattle.answers.proofs.Stretch.{stretch_number, too_long_lem, in_order, within, read_out}
use Rattle.answers.proofs.components.component.Goals.{then-c-gt4-via-then-c-gt4, then-c-gt4-via-else-c-gt4+then-texts-sum_first}
use Rattle.answers.proofs.components.component.Goals as goal

pub returns-then-c-gt4 : goal.returns-then-c-gt4
returns-then-c-gt4 c =
    elim c.then-c-gt4.branch [
      | then-c-gt4-via-then-c-gt4 w ↦ sym (stretch_number _ _ _ w.if-c-gt4.true)
      | then-c-gt4-via-else-c-gt4+then-texts-sum_first w ↦ too_long_lem c.args.texts.now c.args.lengths c.args.c _ (omega arith) w.sum_first.ensures w.if-texts-sum_first.true
    ]

pub slice_bounds-result-count : goal.slice_bounds-result-count
slice_bounds-result-count c =
    in_order c.args.texts.now c.args.lengths c.args.c _ (omega arith) c.sum_first.ensures _ _ c.sum_first-start.ensures c.sum_first-end.ensures

pub slice_bounds-result-start : goal.slice_bounds-result-start
slice_bounds-result-start c =
    in_order c.args.texts.now c.args.lengths c.args.c _ (omega arith) c.sum_first.ensures _ _ c.sum_first-start.ensures c.sum_first-end.ensures

pub slice_bounds-result-end-2 : goal.slice_bounds-result-end-2
slice_bounds-result-end-2 c =
    within c.args.texts.now c.args.lengths c.args.c _ (omega arith) c.sum_first.ensures _ _ c.sum_first-start.ensures c.sum_first-end.ensures c.if-texts-sum_first.false

pub returns : goal.returns
returns c =
    read_out c.args.texts.now c.args.lengths c.args.c _ (omega arith) c.sum_first.ensures _ _ c.sum_first-start.ensures c.sum_first-end.ensures c.if-c-gt4.false c.if-texts-sum_first.false
