use mathlib.Core.Path.{refl}
use Rattle.xkbrules.proofs.OneByOne.{put_none, put_more, put_all}
use Rattle.xkbrules.proofs.lengths.put_lengths.Goals as goal

pub loop-i-init : goal.loop-i-init
loop-i-init c = put_none _ c.args.lengths.now

pub loop-i-preserved : goal.loop-i-preserved
loop-i-preserved c = put_more c.args.sheet.now c.args.lengths.now _ c.loop-i.i _ _ _ refl c.loop-i-test.true refl c.loop-i.invariant c.put_number.ensures

pub returns : goal.returns
returns c = put_all _ c.args.lengths.now _ _ _ refl c.loop-i.auto.i-end c.loop-i-test.false c.loop-i.invariant
