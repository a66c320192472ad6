use Rattle.std.proofs.Common.{length, rules, tests, ap, ◌∙◌, arith, of_calls}
use Rattle.std.specs.Slice.Iter.{split_rest, split_done, split_callee}
use Rattle.std.proofs.lemmas.Iterator.Consumers.{YieldsList-turn, YieldsList-end}
use Rattle.std.proofs.lemmas.Iterator.Splits.{YieldsList-from_slice_split}
use Rattle.std.proofs.lemmas.List.{length_push}
use Rattle.profile.proofs.Parts.{comma}
use Rattle.names.proofs.Fields.{Turn, turn, fields_count}
use Rattle.names.proofs.Asked.{options_start, options_more, options_done, option_high}
use Rattle.names.proofs.table.Table.mark_options.Goals.{In-Some, After-mark_value}
use Rattle.names.proofs.table.Table.mark_options.Goals as goal

pub loop-option-init : goal.loop-option-init
loop-option-init c = record { on = search (rules, of_calls); ends = tt; so = options_start _ _ _ }

-- the field of a turn
this : (c : In-Some) → Turn c.args.options.now (length c.loop-option.yielded) c.in-Some.option.now
this c =
    let g = c.into_iter-option-iterator.ensures.into_iter_gives in
    let s = c.split-option-items.ensures in
    turn _ _ _ (YieldsList-turn (YieldsList-from_slice_split _ comma c.args.options.now (ap split_rest g ∙ s.rest) (ap split_done g ∙ s.done) (ap split_callee g ∙ s.closure) (λ x b q k. search (rules, tests))) c.loop-option.yielded _ c.loop-option.yielded_by _ _ _ c.in-Some.is c.next.ensures.steps)

pub overflow_add-end : goal.overflow_add-end
overflow_add-end c =
    let h = option_high _ _ _ _ _ _ c.loop-option.invariant.so c.requires.0 _ (this c) in
    let l = c.args.self.now.list in
    omega (arith, l.long, l.room)

pub mark_value-requires : goal.mark_value-requires
mark_value-requires c =
    let h = option_high _ _ _ _ _ _ c.loop-option.invariant.so c.requires.0 _ (this (goal.at.mark_value-requires c).In-Some) in
    let so = c.loop-option.invariant.so in
    (omega arith, omega (arith, c.args.self.now.list.long, so.marked.used), omega (arith, so.marked.few, so.few, c.requires.1))

pub overflow_add-start : goal.overflow_add-start
overflow_add-start c =
    let h = option_high _ _ _ _ _ _ c.loop-option.invariant.so c.requires.0 _ (this (goal.at.overflow_add-start c).In-Some) in
    let l = c.args.self.now.list in
    omega (arith, l.long, l.room)

pub loop-option-preserved : goal.loop-option-preserved
loop-option-preserved c =
    record {
      on = search (rules, of_calls);
      ends = tt;
      so = options_more _ _ _ _ _ _ c.loop-option.invariant.so c.requires.0 _ (this (goal.at.loop-option-preserved c).In-Some) _ c.mark_value.ensures _ (length_push _ _);
    }

pub returns : goal.returns
returns c =
    let g = c.into_iter-option-iterator.ensures.into_iter_gives in
    let s = c.split-option-items.ensures in
    let t = YieldsList-end (YieldsList-from_slice_split _ comma c.args.options.now (ap split_rest g ∙ s.rest) (ap split_done g ∙ s.done) (ap split_callee g ∙ s.closure) (λ x b q k. search (rules, tests))) c.loop-option.yielded _ c.loop-option.yielded_by _ _ c.in-None.is c.next.ensures.steps in
    options_done _ _ _ _ _ _ c.loop-option.invariant.so c.requires.0 (fields_count _ _ t.1)
