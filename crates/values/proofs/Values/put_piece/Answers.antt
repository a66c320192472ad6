use Rattle.output.proofs.Stores.{wrote_none}
use Rattle.values.specs.Values.{piece_text}
use Rattle.values.specs.Filling.{enclosed, prefixed}
use Rattle.values.proofs.Values.put_piece.Goals as goal

pub returns-in-Byte : goal.returns-in-Byte
unfolding piece_text
returns-in-Byte c = rw c.in-Byte.is c.put_byte.ensures

pub returns-in-Number : goal.returns-in-Number
unfolding piece_text
returns-in-Number c = rw c.in-Number.is c.put_number.ensures

pub returns-in-Bare : goal.returns-in-Bare
unfolding piece_text
returns-in-Bare c = rw (c.in-Bare.is, ← c.value_of.ensures) c.put.ensures

pub returns-in-Parens : goal.returns-in-Parens
unfolding piece_text enclosed
returns-in-Parens c = rw (c.in-Parens.is, ← c.value_of-in-Parens.ensures) c.put_parens.ensures

pub returns-in-Prefixed : goal.returns-in-Prefixed
unfolding piece_text prefixed
returns-in-Prefixed c = rw (c.in-Prefixed.is, ← c.value_of-in-Prefixed.ensures) c.put_prefixed.ensures

pub returns-in-Unclosed : goal.returns-in-Unclosed
unfolding piece_text
returns-in-Unclosed c = rw c.in-Unclosed.is (wrote_none _ _ c.requires.2)
