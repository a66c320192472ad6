use Rattle.std.proofs.Common.{rules}
use Rattle.output.proofs.Stores.{wrote_room}
use Rattle.output.proofs.put.Goals as goal

pub returns : goal.returns
returns c = wrote_room _ _ _ _ _ _ (search rules) c.store.ensures c.past.ensures
