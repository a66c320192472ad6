use native.Mathlib.Omega.{arith}
use Rattle.xkbresolve.proofs.Prints.{put_so}
use Rattle.xkbresolve.proofs.printing.Page.put.Goals as goal

pub returns : goal.returns
returns c = rw (← c.self.view_is, c.store.ensures) (put_so _ _ _ _ c.self.invariant (omega arith) c.min.ensures)
