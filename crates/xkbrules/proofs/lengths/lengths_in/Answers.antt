use borrow.Author.Rules.{rules}
use native.Mathlib.Omega.{arith}
use mathlib.Core.Path.{refl}
use lib.ListN.{replicate}
use Rattle.xkbrules.proofs.OneByOne.{read_none, read_more, read_all}
use Rattle.xkbrules.proofs.lengths.lengths_in.Goals as goal

pub loop-i-init : goal.loop-i-init
loop-i-init c = (omega arith, refl, read_none c.args.sheet.now (replicate 10 0))

pub loop-i-preserved : goal.loop-i-preserved
loop-i-preserved c = (omega arith, search rules, read_more c.args.sheet.now _ _ _ c.loop-i.invariant.1 (omega arith) c.loop-i.invariant.2 c.number_at.ensures)

pub returns : goal.returns
returns c = read_all c.args.sheet.now _ _ c.loop-i.invariant.1 c.loop-i.invariant.0 c.loop-i-test.false c.loop-i.invariant.2
