-- `reading::seek::seek_rule`: the walk over rules and left words. The outer loop: the lines so far are passed over. The inner: the layouts and the words that are left
-- say the same as all of them.
use mathlib.Core.Path.{sym, ◌∙◌}
use Rattle.rules.proofs.HeldHeadings.{columns_are}
use Rattle.reading.proofs.Seeks.{left_more, seek_end, seek_miss, seek_found}
use Rattle.reading.proofs.seek.seek_rule.Goals as goal

pub rules-preserved-then-x-eq0 : goal.rules-preserved-then-x-eq0
rules-preserved-then-x-eq0 c =
    let v = c.rules.invariant in
    let w = rw c.in-Ok-Read.field-0-is at c.in-Ok-Read.ensures in
    record { seeking = seek_miss _ _ _ _ _ _ _ v.seeking c.requires.1 _ _ _ _ w _ _ c.loop-column.invariant c.if-x-eq0.true; found = v.found }

pub loop-column-preserved : goal.loop-column-preserved
loop-column-preserved c =
    let e = c.items-column-items.ensures ∙ sym (columns_are c.args.o.now.set) in
    left_more _ _ _ _ _ _ c.loop-column.invariant _ e c.loop-column-test.true c.if-x-eq0.false _ _ c.left_word-x.ensures

pub rules-preserved : goal.rules-preserved
rules-preserved c =
    let v = c.rules.invariant in
    let w = rw c.in-Ok-Read.field-0-is at c.in-Ok-Read.ensures in
    record { seeking = seek_miss _ _ _ _ _ _ _ v.seeking c.requires.1 _ _ _ _ w _ _ c.loop-column.invariant c.if-x-eq0-2.true; found = v.found }

pub returns-after-rules : goal.returns-after-rules
returns-after-rules c = rw c.rules.invariant.found (seek_end _ _ _ _ _ _ _ c.rules.invariant.seeking c.rules-test.false)

pub returns-else-x-eq0-2 : goal.returns-else-x-eq0-2
returns-else-x-eq0-2 c =
    let e = c.items-column-items.ensures ∙ sym (columns_are c.args.o.now.set) in
    let w = rw c.in-Ok-Read.field-0-is at c.in-Ok-Read.ensures in
    seek_found _ _ _ _ _ _ _ c.rules.invariant.seeking c.requires.1 _ _ _ _ w _ _ c.loop-column.invariant (rw e at c.loop-column-test.false) (rw e at c.loop-column.auto.column-index-end) c.if-x-eq0-2.false
