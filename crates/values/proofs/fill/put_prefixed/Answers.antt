use Rattle.output.proofs.Stores.{wrote_none, wrote_then}
use Rattle.values.specs.Filling.{prefixed}
use Rattle.values.proofs.Choices.{empty_is}
use Rattle.values.proofs.fill.put_prefixed.Goals as goal

pub returns-then-is_empty : goal.returns-then-is_empty
unfolding prefixed
returns-then-is_empty c = rw (empty_is _ _ c.if-is_empty.ensures) (wrote_none _ _ c.requires.1)

pub returns : goal.returns
unfolding prefixed
returns c = rw (empty_is _ _ c.if-is_empty.ensures) (wrote_then _ _ _ _ _ _ _ _ c.requires.0 c.put_byte-start.ensures c.put.ensures)
