use Rattle.xkbresolve.proofs.Prints.{decimal_is}
use Rattle.xkbresolve.proofs.printing.Page.put_number.Goals as goal

pub returns : goal.returns
returns c = rw (decimal_is c.args.n c.ranges.n.fits, ← c.format.ensures.text, ← c.as_bytes.ensures.value) c.put.ensures
