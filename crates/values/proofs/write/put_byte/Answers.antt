use Rattle.values.proofs.Writes.{wrote_byte, byte_behind}
use Rattle.values.proofs.write.put_byte.Goals as goal

pub returns-then-i-out : goal.returns-then-i-out
returns-then-i-out c = wrote_byte _ _ _ _ c.past.ensures

pub returns : goal.returns
returns c = byte_behind _ _ _ _ c.if-i-out.false c.past-2.ensures
