use mathlib.Core.Path.{sym, ◌∙◌}
use Rattle.text.proofs.Readers.{between_feed, plain_behind, fence_in, joins_inside, joins_less, joins_more}
use Rattle.text.proofs.source.Source.next_word.Goals as goal

pub returns-then-self-start-eq10 : goal.returns-then-self-start-eq10
returns-then-self-start-eq10 c =
    let v = c.loop-start.invariant in
    between_feed _ _ _ _ _ v.between (fence_in _ _ _ c.args.self.now.fenced v.inside) c.if-self-start-eq10.true

pub returns-in-loop-start : goal.returns-in-loop-start
returns-in-loop-start c =
    let v = c.loop-start.invariant in
    plain_behind _ _ _ _ c.args.self.now.fenced v.inside (sym c.begins_plain.ensures ∙ c.if-begins_plain.true) _ _ _ _ v.between c.in-Some.ensures

pub skip_blanks-start-requires-in-loop-start : goal.skip_blanks-start-requires-in-loop-start
skip_blanks-start-requires-in-loop-start c = joins_inside _ _ _ _ _ _ c.args.self.now.fenced c.loop-start.invariant _ c.join_end.ensures _ c.in-Some-join_end.is

pub loop-start-smaller : goal.loop-start-smaller
loop-start-smaller c = joins_less _ _ _ _ _ _ c.args.self.now.fenced c.loop-start.invariant _ c.join_end.ensures _ c.in-Some-join_end.is _ c.skip_blanks-start-in-loop-start.ensures

pub loop-start-preserved : goal.loop-start-preserved
loop-start-preserved c = joins_more _ _ _ _ _ _ c.args.self.now.fenced c.loop-start.invariant _ c.join_end.ensures _ c.in-Some-join_end.is _ c.skip_blanks-start-in-loop-start.ensures
