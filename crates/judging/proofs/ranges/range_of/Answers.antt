use Rattle.judging.proofs.LayoutRange.{at_lone_word, at_first, at_later, at_any, at_number, at_lone, at_beyond}
use Rattle.judging.proofs.ranges.range_of.Goals.{then-lone-via-then-lone, then-lone-via-else-lone+then-n-k}
use Rattle.judging.proofs.ranges.range_of.Goals as goal

pub returns-then-lone : goal.returns-then-lone
returns-then-lone c =
    elim c.then-lone.branch [
      | then-lone-via-then-lone w ↦ at_lone _ _ _ c.in-Numbered.is w.if-lone.true
      | then-lone-via-else-lone+then-n-k w ↦ at_beyond _ _ _ c.in-Numbered.is w.if-lone.false w.if-n-k.true
    ]

pub returns-in-Absent : goal.returns-in-Absent
returns-in-Absent c = at_lone_word _ _ _ c.in-Absent.is c.alone.ensures

pub returns-in-First : goal.returns-in-First
returns-in-First c = at_first _ _ c.in-First.is

pub returns-in-Later : goal.returns-in-Later
returns-in-Later c = rw c.saturating_sub.ensures (at_later _ _ c.in-Later.is)

pub returns-in-Any : goal.returns-in-Any
returns-in-Any c = at_any _ _ c.in-Any.is

pub returns-else-n-k : goal.returns-else-n-k
returns-else-n-k c = at_number _ _ _ c.in-Numbered.is c.if-lone.false c.if-n-k.false
