-- `reading::keep::fire_kept`: what is fired so far, with what the layouts from k on fire, is the whole.
use native.Mathlib.Omega.{arith}
use mathlib.Core.Path.{sym, ◌∙◌}
use Rattle.rules.proofs.HeldHeadings.{components_are}
use Rattle.reading.proofs.Keeps.{kept_skip, kept_more, kept_end, place_words, fires_on}
use Rattle.reading.proofs.keep.fire_kept.Goals as goal

pub loop-k-preserved-then-contains : goal.loop-k-preserved-then-contains
loop-k-preserved-then-contains c =
    let v = c.loop-k.invariant in
    record { going = kept_skip _ _ _ _ _ _ _ _ _ v.going c.loop-k-test.true (sym c.contains.ensures ∙ c.if-contains.true); scratch = v.scratch }

pub fire_line-cursors-requires : goal.fire_line-cursors-requires
fire_line-cursors-requires c =
    let h = c.args.o.now.set in
    let v = c.loop-k.invariant in
    let w = c.requires.0.place _ v.going.low c.loop-k-test.true (sym c.contains.ensures ∙ c.if-contains.false) in (
      record { high = w.high; few = omega arith },
      place_words h _ _ _ (c.items.ensures ∙ sym (components_are h)) w,
      fires_on _ _ _ _ _ _ _ _ _ c.requires.1 (omega (arith, c.requires.0.range, c.loop-k-test.true)) v.scratch (v.going.going (λ k. k)).long (v.going.going (λ k. k)).low,
    )

pub loop-k-preserved : goal.loop-k-preserved
loop-k-preserved c =
    let v = c.loop-k.invariant in
    record {
      going = kept_more _ _ _ _ _ _ _ _ _ v.going c.loop-k-test.true _ (c.items.ensures ∙ sym (components_are c.args.o.now.set)) _ _ (sym c.contains.ensures ∙ c.if-contains.false) c.fire_line-cursors.ensures.0;
      scratch = c.fire_line-cursors.ensures.1 ∙ v.scratch;
    }

pub returns : goal.returns
returns c = let v = c.loop-k.invariant in (kept_end _ _ _ _ _ _ _ _ _ v.going c.loop-k-test.false, v.scratch)
