use native.Mathlib.Omega.{arith}
use mathlib.Core.Path.{refl}
use Rattle.values.proofs.Keeping.{start_inside}
use Rattle.values.proofs.Copying.{behind_low, few_copies}
use Rattle.values.proofs.Spreading.{more_nothing, more_wrote, more_written}
use Rattle.values.proofs.spread.put_more.Goals as goal

pub returns-then-n-lt2 : goal.returns-then-n-lt2
returns-then-n-lt2 c = more_nothing _ _ _ _ _ _ c.requires.6 c.if-n-lt2.true

pub slice_bounds-of-count : goal.slice_bounds-of-count
slice_bounds-of-count c = start_inside _ _ _ _ c.requires.0 c.requires.1 c.piece_start.ensures

pub slice_bounds-of-start : goal.slice_bounds-of-start
slice_bounds-of-start c = start_inside _ _ _ _ c.requires.0 c.requires.1 c.piece_start.ensures

pub length-length-requires : goal.length-length-requires
length-length-requires c =
    (c.requires.2, c.requires.3, behind_low c.args.t.now c.piece_start.result c.args.c _ c.requires.4 c.of-copies.ensures.1)

pub overflow_add-start : goal.overflow_add-start
overflow_add-start c =
    omega (arith, c.length-length.ensures, few_copies _ _ _ c.requires.2 c.requires.3 (behind_low c.args.t.now c.piece_start.result c.args.c _ c.requires.4 c.of-copies.ensures.1))

pub returns-then-start-length : goal.returns-then-start-length
returns-then-start-length c =
    more_written _ _ _ _ _ c.piece_start.ensures _ c.requires.2 c.requires.3 c.of-copies.ensures.1 _ _ _ _ _ _ c.of-copies.ensures.0 c.write.ensures c.length-length.ensures c.if-start-length.true c.requires.5 refl

pub returns : goal.returns
returns c =
    more_wrote _ _ _ _ _ c.piece_start.ensures _ _ _ _ _ _ c.of-copies.ensures.0 c.of-copies.ensures.1 c.put.ensures
