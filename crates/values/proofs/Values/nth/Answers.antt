use Rattle.values.proofs.Placed.{nth_none, nth_some}
use Rattle.values.proofs.Values.nth.Goals as goal

pub returns-then-self-i : goal.returns-then-self-i
returns-then-self-i c = nth_none _ _ _ _ _ c.if-self-i.true

pub returns : goal.returns
returns c = nth_some _ _ _ _ _ c.if-self-i.false _ c.value_at.ensures
