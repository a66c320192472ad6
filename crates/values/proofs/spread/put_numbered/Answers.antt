use mathlib.Core.Path.{refl}
use Rattle.values.proofs.Copying.{numbered_written, numbered_then}
use Rattle.values.proofs.spread.put_numbered.Goals as goal

pub returns-then-start-n : goal.returns-then-start-n
returns-then-start-n c =
    numbered_written _ c.args.t.now c.args.k c.args.at c.requires.1 _ _ c.requires.0 c.if-start-n.true c.store.ensures refl

pub returns : goal.returns
returns c =
    numbered_then _ c.args.t.now c.args.k c.args.at c.requires.1 _ _ _ _ _ _ c.put-colon.ensures c.put_byte-number.ensures c.put_number.ensures
