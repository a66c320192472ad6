use native.Mathlib.Omega.{arith}
use mathlib.Core.Path.{refl}
use lib.ListN.{length}
use borrow.Author.Tests.{eqb-true, eqb-false}
use Rattle.card.proofs.ReadLoops.{finding_start, finding_cut, finding_more, finding_left, finding_end, finding_short}
use Rattle.card.proofs.reading.Sections.find.Goals as goal

pub loop-i-init : goal.loop-i-init
loop-i-init c = finding_start _ _ refl

pub returns-in_err-text : goal.returns-in_err-text
returns-in_err-text c = rw c.from_residual.ensures (finding_cut _ _ _ _ c.loop-i.invariant c.loop-i-test.true c.in_err-text.ensures)

pub loop-i-preserved : goal.loop-i-preserved
loop-i-preserved c =
    let e = c.in_ok-text.ensures in
    finding_more _ _ _ _ c.loop-i.invariant c.loop-i-test.true _ _ e.0 e.1 e.2

pub returns-then-whole : goal.returns-then-whole
returns-then-whole c = finding_end _ _ _ _ c.loop-i.invariant c.loop-i-test.false (eqb-true _ 0 (cc))

pub returns-else-whole : goal.returns-else-whole
returns-else-whole c = finding_left _ _ _ _ c.loop-i.invariant c.loop-i-test.false (omega (arith, eqb-false (length c.loop-i.rest.now) 0 (cc)))

pub invariant_of-result : goal.invariant_of-result
invariant_of-result c = record { short = finding_short _ _ _ _ c.loop-i.invariant c.loop-i-test.false (λ i. omega (arith, c.type_inv.card i)) (eqb-true _ 0 (cc)) }
