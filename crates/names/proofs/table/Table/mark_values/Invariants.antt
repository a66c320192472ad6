use Rattle.listing.specs.Lists.{text_of}
use Rattle.names.specs.Marked.{Marked}
use Rattle.names.specs.Asked.{values_ask}
use Rattle.names.proofs.table.Table.mark_values.Given as goal

abbrev pub invariant-loop-j : goal.invariant-loop-j
invariant-loop-j l = Marked l.initial.self l.self l.j (values_ask (text_of l.initial.self.list) l.bounds l.j)
