use Rattle.std.proofs.Common.{sym, ◌∙◌, arith}
use Rattle.listing.proofs.Orders.{told_less, told_greater}
use Rattle.listing.proofs.Finding.{halving_up, halving_down, halving_hit}
use Rattle.listing.proofs.names.Listing.search.Goals as goal

pub loop-low-preserved-then-kept-key : goal.loop-low-preserved-then-kept-key
loop-low-preserved-then-kept-key c =
    halving_up _ _ _ _ _ _ _ _ _ _ _ c.loop-low.invariant _ (omega arith) (omega arith)
    (told_less c.args.self.now.text c.args.self.now.spans _ _ _ (rw (c.from.ensures, c.key_of-key.ensures) at c.if-kept-key.true))

pub loop-low-preserved-then-key-kept : goal.loop-low-preserved-then-key-kept
loop-low-preserved-then-key-kept c =
    halving_down _ _ _ _ _ _ _ _ _ _ _ c.loop-low.invariant _ (omega arith) (omega arith)
    (told_greater c.args.self.now.text c.args.self.now.spans _ _ _ (rw (c.from.ensures, c.key_of-key.ensures) at c.if-key-kept.true))

pub loop-low-preserved-in-Less : goal.loop-low-preserved-in-Less
loop-low-preserved-in-Less c =
    halving_up _ _ _ _ _ _ _ _ _ _ _ c.loop-low.invariant _ (omega arith) (omega arith) (sym c.in-Less.is ∙ c.order.ensures)

pub returns-in-Equal : goal.returns-in-Equal
returns-in-Equal c =
    halving_hit _ _ _ _ _ _ _ _ _ _ _ c.loop-low.invariant _ (omega arith) (omega arith) (sym c.in-Equal.is ∙ c.order.ensures)

pub loop-low-preserved : goal.loop-low-preserved
loop-low-preserved c =
    halving_down _ _ _ _ _ _ _ _ _ _ _ c.loop-low.invariant _ (omega arith) (omega arith) (sym c.in-Greater.is ∙ c.order.ensures)
