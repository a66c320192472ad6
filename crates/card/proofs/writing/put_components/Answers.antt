use native.Mathlib.Omega.{arith}
use mathlib.Core.Path.{refl}
use Rattle.card.proofs.WriteLoops.{putting_start, putting_room, putting_more, putting_end}
use Rattle.card.proofs.writing.put_components.Goals as goal

pub loop-length-init : goal.loop-length-init
loop-length-init c = putting_start _ _ _ _ (omega arith) c.requires.0 c.requires.1 c.requires.2

pub split_at-requires : goal.split_at-requires
split_at-requires c = (putting_room _ _ _ _ _ _ _ _ c.loop-length.invariant (omega arith) _ refl).0

pub put_section-at-requires : goal.put_section-at-requires
put_section-at-requires c =
    let w = putting_room _ _ _ _ _ _ _ _ c.loop-length.invariant (omega arith) _ refl in
    (omega (arith, w.1, c.split_at.ensures.front_len), omega (arith, w.2, c.split_at.ensures.front_len))

pub loop-length-preserved : goal.loop-length-preserved
loop-length-preserved c =
    let s = c.split_at.ensures in
    putting_more _ _ _ _ _ _ _ _ c.loop-length.invariant (omega arith) _ refl _ _ s.front s.back s.front_len _ _ c.put_section-at.ensures.0 c.put_section-at.ensures.1

pub returns : goal.returns
returns c = putting_end _ _ _ _ _ _ _ _ c.loop-length.invariant (omega arith)
