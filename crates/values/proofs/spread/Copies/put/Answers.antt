use native.Mathlib.Omega.{arith}
use Rattle.values.proofs.Writes.{wrote_low, wrote_long}
use Rattle.values.proofs.Copying.{copying_start, copying_more, copying_end, copy_put}
use Rattle.values.proofs.spread.Copies.put.Goals as goal

pub loop-k-init : goal.loop-k-init
loop-k-init c = copying_start _ _ _ _ c.requires.0 c.requires.2 c.requires.3

pub put_numbered-o-requires : goal.put_numbered-o-requires
put_numbered-o-requires c =
    (omega (arith, c.requires.1), omega (arith, wrote_long _ _ _ _ _ c.put_byte-behind.ensures, c.loop-k.invariant.left.long, c.requires.2), wrote_low _ _ _ _ _ c.put_byte-behind.ensures)

pub loop-k-preserved : goal.loop-k-preserved
loop-k-preserved c =
    copying_more _ _ _ _ _ _ _ c.loop-k.invariant _ _ (omega arith)
    (copy_put _ _ _ _ _ _ _ _ _ c.loop-k.invariant.some c.args.self.now.is_sign (omega (arith, c.loop-k.invariant.left.long, c.requires.2)) c.put_byte-behind.ensures c.put_numbered-o.ensures)

pub returns : goal.returns
returns c = copying_end _ _ _ _ _ _ _ c.loop-k.invariant (omega arith)

pub returns-2 : goal.returns-2
returns-2 c =
    copying_end _ _ _ _ _ _ _ (copying_more _ _ _ _ _ _ _ c.loop-k.invariant _ _ (omega arith)
    (copy_put _ _ _ _ _ _ _ _ _ c.loop-k.invariant.some c.args.self.now.is_sign (omega (arith, c.loop-k.invariant.left.long, c.requires.2)) c.put_byte-behind.ensures c.put_numbered-o.ensures))
    (omega arith)
