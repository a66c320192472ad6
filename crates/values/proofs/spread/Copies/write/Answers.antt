use native.Mathlib.Omega.{arith}
use mathlib.Core.Path.{refl}
use Rattle.values.proofs.Copying.{storing_start, storing_more, storing_last, storing_end, copy_written}
use Rattle.values.proofs.spread.Copies.write.Goals as goal

pub loop-k-init : goal.loop-k-init
loop-k-init c = storing_start _ _ _ _ _ c.requires.0 c.requires.2

pub loop-k-preserved : goal.loop-k-preserved
loop-k-preserved c =
    storing_more _ _ _ _ _ _ _ _ c.loop-k.invariant _ _ (omega arith) c.requires.1 c.args.self.now.is_sign (copy_written _ _ _ _ _ _ _ c.loop-k.invariant.some (omega arith) c.args.self.now.is_sign c.store.ensures refl) (omega arith)

pub returns : goal.returns
returns c = storing_end _ _ _ _ _ _ _ _ c.loop-k.invariant (omega arith)

pub returns-2 : goal.returns-2
returns-2 c =
    storing_last _ _ _ _ _ _ _ _ c.loop-k.invariant _ (omega arith) (omega arith) c.requires.1 c.args.self.now.is_sign
    (copy_written _ _ _ _ _ _ _ c.loop-k.invariant.some (omega arith) c.args.self.now.is_sign c.store.ensures refl)
