use mathlib.Core.Path.{sym}
use Rattle.output.proofs.Stores.{stored_none, stored_next}
use Rattle.output.proofs.store.Goals as goal

pub loop-i-init : goal.loop-i-init
loop-i-init c = sym (stored_none _ _)

pub loop-i-preserved : goal.loop-i-preserved
loop-i-preserved c = stored_next _ _ _ _ _ c.loop-i.invariant c.loop-i-test.true
