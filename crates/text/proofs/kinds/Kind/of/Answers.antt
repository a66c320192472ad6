use borrow.Author.Rules.{rules}
use Rattle.text.proofs.Tables.{kinds, kind_entry}
use Rattle.text.proofs.kinds.Kind.of.Goals as goal

pub returns : goal.returns
unfolding kinds
returns c = rw c.from.ensures (kind_entry c.args.b (search rules))
