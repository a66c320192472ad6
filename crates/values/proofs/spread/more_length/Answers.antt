use Rattle.values.proofs.Keeping.{start_inside}
use Rattle.values.proofs.Copying.{behind_low}
use Rattle.values.proofs.Spreading.{more_zero, more_counted}
use Rattle.values.proofs.spread.more_length.Goals as goal

pub returns-then-n-lt2 : goal.returns-then-n-lt2
returns-then-n-lt2 c = more_zero _ _ _ _ c.if-n-lt2.true

pub slice_bounds-of-count : goal.slice_bounds-of-count
slice_bounds-of-count c = start_inside _ _ _ _ c.requires.0 c.requires.1 c.piece_start.ensures

pub slice_bounds-of-start : goal.slice_bounds-of-start
slice_bounds-of-start c = start_inside _ _ _ _ c.requires.0 c.requires.1 c.piece_start.ensures

pub length-requires : goal.length-requires
length-requires c = (c.requires.2, c.requires.3, behind_low c.args.t.now c.piece_start.result c.args.c _ c.requires.4 c.of.ensures.1)

pub returns : goal.returns
returns c = more_counted _ _ _ _ _ c.piece_start.ensures _ c.requires.2 c.requires.3 c.of.ensures.1 _ c.length.ensures
