use Rattle.std.proofs.Common.{◌≡◌, ◌<◌, length, rules, tests, ap, ◌∙◌, arith, of_calls}
use Rattle.std.specs.Iterator.Adapters.{enumerate_source, enumerate_count, take_source, take_count}
use Rattle.std.specs.Slice.Iter.{split_rest, split_done, split_callee}
use Rattle.std.proofs.lemmas.Iterator.Consumers.{YieldsList-turn, YieldsList-end, YieldsList-from_enumerate}
use Rattle.std.proofs.lemmas.Iterator.{YieldsList-from_take}
use Rattle.std.proofs.lemmas.Iterator.Splits.{YieldsList-from_slice_split}
use Rattle.std.proofs.lemmas.List.{length_push}
use Rattle.profile.proofs.Parts.{comma}
use Rattle.names.proofs.Fields.{Turn, numbered_turn, numbered_end}
use Rattle.names.proofs.Placing.{placing_start, placing_low, placing_more, placing_end}
use Rattle.names.proofs.places.place_fields.Goals.{In-Some}
use Rattle.names.proofs.places.place_fields.Goals as goal

pub loop-j-init : goal.loop-j-init
loop-j-init c = record { on = search (rules, of_calls); ends = tt; placing = placing_start _ _ _ _ }

-- the field of a turn
this : (c : In-Some) → (c.in-Some.j ≡ length c.loop-j.yielded) × (length c.loop-j.yielded < 32) × Turn c.args.text.now (length c.loop-j.yielded) c.in-Some.field.now
this c =
    let g = c.into_iter-j-iterator.ensures.into_iter_gives in
    let z = ap enumerate_source g ∙ c.enumerate-j-items.ensures.source in
    let y = ap take_source z ∙ c.take.ensures.source in
    let s = c.split.ensures in
    let rest = ap split_rest y ∙ s.rest in
    let done = ap split_done y ∙ s.done in
    let commas = ap split_callee y ∙ s.closure in
    let taken = ap take_count z ∙ c.take.ensures.count in
    let counted = ap enumerate_count g ∙ c.enumerate-j-items.ensures.count in
    numbered_turn _ _ _ _ (YieldsList-turn (YieldsList-from_enumerate (YieldsList-from_take 32 (YieldsList-from_slice_split _ comma c.args.text.now rest done commas (λ x b q k. search (rules, tests))) taken) counted) c.loop-j.yielded _ c.loop-j.yielded_by _ _ _ c.in-Some.is c.next.ensures.steps)

pub overflow_add-end : goal.overflow_add-end
overflow_add-end c = let t = this (goal.at.overflow_add-end c).In-Some in let l = placing_low _ _ _ _ _ _ _ c.loop-j.invariant.placing t.2.few in omega (arith, ap length t.2.field)

pub bounds-bounds-first : goal.bounds-bounds-first
bounds-bounds-first c = let t = this (goal.at.bounds-bounds-first c).In-Some in omega (arith, t.1, c.requires.0)

pub overflow_add-start : goal.overflow_add-start
overflow_add-start c = let t = this (goal.at.overflow_add-start c).In-Some in let l = placing_low _ _ _ _ _ _ _ c.loop-j.invariant.placing t.2.few in omega (arith, ap length t.2.field)

pub loop-j-preserved : goal.loop-j-preserved
loop-j-preserved c =
    let t = this (goal.at.loop-j-preserved c).In-Some in
    record {
      on = search (rules, of_calls);
      ends = tt;
      placing = rw t.0 (placing_more _ _ _ _ _ _ _ c.loop-j.invariant.placing t.2.few t.1 (omega (arith, c.requires.0)) _ t.2.field _ (length_push _ _));
    }

pub returns : goal.returns
returns c =
    let g = c.into_iter-j-iterator.ensures.into_iter_gives in
    let z = ap enumerate_source g ∙ c.enumerate-j-items.ensures.source in
    let y = ap take_source z ∙ c.take.ensures.source in
    let s = c.split.ensures in
    let rest = ap split_rest y ∙ s.rest in
    let done = ap split_done y ∙ s.done in
    let commas = ap split_callee y ∙ s.closure in
    let taken = ap take_count z ∙ c.take.ensures.count in
    let counted = ap enumerate_count g ∙ c.enumerate-j-items.ensures.count in
    let t = YieldsList-end (YieldsList-from_enumerate (YieldsList-from_take 32 (YieldsList-from_slice_split _ comma c.args.text.now rest done commas (λ x b q k. search (rules, tests))) taken) counted) c.loop-j.yielded _ c.loop-j.yielded_by _ _ c.in-None.is c.next.ensures.steps in
    placing_end _ _ _ _ _ _ _ c.loop-j.invariant.placing (numbered_end _ _ t.1) _ c.empty_places.ensures
