use Rattle.std.proofs.Common.{sym, ◌∙◌}
use Rattle.listing.proofs.Orders.{told_by_bytes, told_same}
use Rattle.listing.proofs.names.Listing.order.Goals as goal

pub returns-then-same : goal.returns-then-same
returns-then-same c =
    told_same c.args.self.now.text c.args.self.now.spans _ _ _ c.requires
    (rw c.name-other.ensures at (sym c.same.ensures ∙ c.if-same.true))

pub returns : goal.returns
returns c =
    (rw c.name-other.ensures at c.cmp.ensures)
    ∙ told_by_bytes c.args.self.now.text c.args.self.now.spans _ _ _ c.requires
