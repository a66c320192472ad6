use native.Mathlib.Omega.{arith}
use Rattle.card.proofs.Limits.{small_texts}
use Rattle.card.proofs.Written.{no_long, sum_most, sized_so, sized_not}
use Rattle.card.proofs.writing.card_size.Goals as goal
use Rattle.card.proofs.writing.card_size.Goals.{then-total-ten, else-total-ten}

pub returns-then-any_long : goal.returns-then-any_long
returns-then-any_long c = no_long _ _ _ _ _ c.any_long.ensures c.if-any_long.true

pub overflow_add-size-2 : goal.overflow_add-size-2
overflow_add-size-2 c = omega (arith, small_texts _ _ c.texts.view_is c.requires)

pub overflow_add-size-3 : goal.overflow_add-size-3
overflow_add-size-3 c = omega (arith, small_texts _ _ c.texts.view_is c.requires)

pub overflow_add-size-4 : goal.overflow_add-size-4
overflow_add-size-4 c = omega (arith, small_texts _ _ c.texts.view_is c.requires)

pub overflow_add-size-5 : goal.overflow_add-size-5
overflow_add-size-5 c =
    omega (arith, small_texts _ _ c.texts.view_is c.requires, sum_most _ _ (omega arith) c.sum_first-total.ensures _ c.any_long.ensures c.if-any_long.false)

pub returns : goal.returns
returns c =
    let s = c.sum_first-total.ensures in
    elim c.if-total-ten.branch [
      | then-total-ten w ↦
          sized_so _ _ (omega arith) s _ c.args.texts.now c.args.ten.now _ c.texts.view_is _ _ c.then_some.ensures w.if-total-ten.true _ c.any_long.ensures c.if-any_long.false w.fits-is
      | else-total-ten w ↦ sized_not _ _ (omega arith) s _ c.args.texts.now c.args.ten.now _ c.texts.view_is _ _ c.then_some.ensures w.if-total-ten.false w.fits-is
    ]
