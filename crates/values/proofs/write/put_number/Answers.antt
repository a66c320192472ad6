use Rattle.values.proofs.Writes.{wrote_digit, wrote_digits}
use Rattle.values.proofs.write.put_number.Goals as goal

pub returns-then-k-lt10 : goal.returns-then-k-lt10
returns-then-k-lt10 c = wrote_digit _ _ _ _ _ c.if-k-lt10.true c.put_byte.ensures

pub returns : goal.returns
returns c = wrote_digits _ _ _ _ _ _ _ c.if-k-lt10.false c.requires.1 c.put_byte-next.ensures c.put_byte-2.ensures
