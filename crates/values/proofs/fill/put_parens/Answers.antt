use Rattle.output.proofs.Stores.{wrote_none, wrote_then}
use Rattle.values.specs.Filling.{enclosed}
use Rattle.values.proofs.Choices.{empty_is, parens_prefixed}
use Rattle.values.proofs.fill.put_parens.Goals as goal

pub returns-then-is_empty : goal.returns-then-is_empty
unfolding enclosed
returns-then-is_empty c = rw (empty_is _ _ c.if-is_empty.ensures) (wrote_none _ _ c.requires.1)

pub returns : goal.returns
returns c = rw (parens_prefixed _ (empty_is _ _ c.if-is_empty.ensures)) (wrote_then _ _ _ _ _ _ _ _ c.requires.0 c.put_prefixed-end.ensures c.put_byte.ensures)
