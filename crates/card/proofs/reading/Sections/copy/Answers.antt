use native.Mathlib.Omega.{arith}
use Rattle.card.proofs.ReadLoops.{copying_start, copying_room, copying_more, copying_end}
use Rattle.card.proofs.reading.Sections.copy.Goals as goal

pub loop-text-init : goal.loop-text-init
loop-text-init c = copying_start _ _ c.requires

pub store-requires : goal.store-requires
store-requires c = omega (arith, copying_room _ _ c.requires _ _ _ c.loop-text.invariant (omega arith))

pub overflow_add-at : goal.overflow_add-at
overflow_add-at c = omega (arith, copying_room _ _ c.requires _ _ _ c.loop-text.invariant (omega arith))

pub loop-text-preserved : goal.loop-text-preserved
loop-text-preserved c = copying_more _ _ c.requires _ _ _ c.loop-text.invariant (omega arith) _ c.store.ensures

pub returns : goal.returns
returns c = copying_end _ _ c.requires _ _ _ c.loop-text.invariant (omega arith)
