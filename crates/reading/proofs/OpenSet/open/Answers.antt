-- `reading::OpenSet::open`: a set that does not apply, or one at its layouts.
use native.Mathlib.Omega.{arith}
use Rattle.reading.proofs.Opens.{opened_closed, range_room, opened_set}
use Rattle.reading.proofs.OpenSet.open.Goals as goal

pub returns-then-count-eq0 : goal.returns-then-count-eq0
returns-then-count-eq0 c =
    let v = c.requires in
    opened_closed _ _ v.0 v.1 v.2 v.3 _ c.layout_range-range.ensures _ _ c.present-present.ensures c.if-count-eq0.true c.closed.ensures

pub span-requires : goal.span-requires
span-requires c =
    let v = c.requires in
    range_room _ _ v.0 v.1 v.2 v.3 _ c.layout_range-range.ensures (omega (arith, c.if-count-eq0.false))

pub returns : goal.returns
returns c =
    let v = c.requires in
    opened_set _ _ v.0 v.1 v.2 v.3 _ c.layout_range-range.ensures (omega (arith, c.if-count-eq0.false)) _ _ _ c.present-present.ensures c.has_options.ensures c.span.ensures
