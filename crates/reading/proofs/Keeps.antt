-- Places kept, and the rules at them fired: one law for each way through the loops.
use Prim.Native.Nat.{ℕ, suc, ◌+◌, ◌-◌, ◌≤◌, ◌<◌}
use native.Mathlib.Omega.{arith}
use mathlib.Core.Path.{◌≡◌, refl, ap, ◌∙◌}
use mathlib.Core.List.{List, [], ◌++◌}
use mathlib.Core.Bool.{true, false, cond}
use lib.ListN.{length, get_or, drop, length-drop}
use Rattle.text.specs.Bytes.{Text, concat_map}
use Rattle.text.specs.Reading.{left}
use Rattle.text.specs.Words.{too_long}
use Rattle.text.proofs.Lists.{any_drop}
use Rattle.profile.specs.Profile.{Profile}
use Rattle.rules.specs.declared.SetHeading.{SetHeading}
use Rattle.rules.specs.Headings.{up_from}
use Rattle.answers.specs.Firings.{Firing, rule_fires}
use Rattle.bitsets.specs.Sets.{is_in}
use Rattle.firing.specs.declared.Cursors.{Cursors}
use Rattle.firing.specs.Writing.{run_buf, run_cur, Low, FiredRule}
use Rattle.firing.specs.Rule.{Fires, RightWords}
use Rattle.firing.proofs.Going.{Going, going_start, going_more, going_end}
use Rattle.rules.specs.Held.{heading_by}
use Rattle.reading.specs.declared.OpenSet.{OpenSet}
use Rattle.reading.specs.Owed.{layouts_in}
use Rattle.reading.specs.Keeping.{PlaceAt, most_places, place_fires, KeptFired}

-- a place kept

module _ (first m i : ℕ) (ps : List ℕ) where
  pub record NotedTo (k : ℕ) (ps' : List ℕ) : Type 0 where
    pub at : (j : ℕ) → first ≤ j → j < k → get_or ps' j 0 ≡ cond (is_in j m) i (get_or ps j 0)
    pub above : (j : ℕ) → k ≤ j → get_or ps' j 0 ≡ get_or ps j 0
    pub size : length ps' ≡ most_places

range_more : (f : ℕ → List Firing) (j k : ℕ) → concat_map f (up_from (suc j) k) ≡ f k ++ concat_map f (up_from j (k + 1))
unfolding concat_map up_from
range_more f j k = refl

range_next : (f : ℕ → List Firing) (b k : ℕ) → k < b → concat_map f (up_from (b - k) k) ≡ f k ++ concat_map f (up_from (b - (k + 1)) (k + 1))
range_next f b k h = let e : b - k ≡ suc (b - (k + 1)) = omega arith in ap (λ (j : ℕ). concat_map f (up_from j k)) e ∙ range_more f (b - (k + 1)) k

range_none : (f : ℕ → List Firing) (n k : ℕ) → n ≡ 0 → concat_map f (up_from n k) ≡ []
unfolding concat_map up_from
range_none f n k e = rw e refl

-- the rules at the places, one by one

module _ (p : Profile) (o : OpenSet) (s : Text) (ps : List ℕ) (d₀ : Text) (q₀ : Cursors) where
  -- what is fired so far, with what the layouts from k on fire, is the whole
  pub record KeptGoing (k : ℕ) (d : Text) (q : Cursors) : Type 0 where
    pub low : o.first ≤ k
    pub high : k ≤ o.first + o.count
    pub going : (l : ℕ → ℕ) → Going d₀ q₀ (concat_map (place_fires p o s ps l) (layouts_in o)) d q (concat_map (place_fires p o s ps l) (up_from (o.first + o.count - k) k))

  pub kept_start : Low q₀.at → KeptGoing o.first d₀ q₀
  kept_start h =
      let e : o.first + o.count - o.first ≡ o.count = omega arith in
      record { low = omega arith; high = omega arith; going = λ l. rw e (going_start d₀ q₀ _ h) }

  module _ (k : ℕ) (d : Text) (q : Cursors) (v : KeptGoing k d q) where
    pub kept_end : o.first + o.count ≤ k → KeptFired p o s ps d₀ d q₀ q
    kept_end h = record { bytes = λ l. (done l).0; places = λ l. (done l).1 }
      where
        done : (l : ℕ → ℕ) → (d ≡ run_buf d₀ q₀ (concat_map (place_fires p o s ps l) (layouts_in o))) × (q ≡ run_cur q₀ (concat_map (place_fires p o s ps l) (layouts_in o)))
        done l =
            let e : o.first + o.count - k ≡ 0 = omega arith in
            going_end d₀ q₀ _ d q (rw (range_none (place_fires p o s ps l) (o.first + o.count - k) k e) at (v.going l))

    module _ (h : k < o.first + o.count) where
      next : (l : ℕ → ℕ) → concat_map (place_fires p o s ps l) (up_from (o.first + o.count - k) k) ≡
          place_fires p o s ps l k ++ concat_map (place_fires p o s ps l) (up_from (o.first + o.count - (k + 1)) (k + 1))
      next l = range_next (place_fires p o s ps l) (o.first + o.count) k h

      pub kept_skip : is_in k o.wanted ≡ true → KeptGoing (k + 1) d q
      unfolding place_fires
      kept_skip e =
          record {
            low = omega (arith, v.low);
            high = omega arith;
            going = λ l.
                let y : place_fires p o s ps l k ≡ [] = rw e refl in
                rw (next l, y) at (v.going l);
          }

      -- cs are the set's components
      pub kept_more : (cs : List ℕ) → cs ≡ (heading_by o.set).components → (d' : Text) (q' : Cursors) → is_in k o.wanted ≡ false →
          FiredRule p d d' q q' k cs (drop 1 (left s (get_or ps k 0))) → KeptGoing (k + 1) d' q'
      unfolding place_fires
      kept_more cs is d' q' e f =
          record {
            low = omega (arith, v.low);
            high = omega arith;
            going = λ l.
                let y : place_fires p o s ps l k ≡ rule_fires p (l k) k cs (drop 1 (left s (get_or ps k 0))) = rw (e, is) refl in
                let z : Going d₀ q₀ (concat_map (place_fires p o s ps l) (layouts_in o)) d q
                (rule_fires p (l k) k cs (drop 1 (left s (get_or ps k 0))) ++ concat_map (place_fires p o s ps l) (up_from (o.first + o.count - (k + 1)) (k + 1))) =
                rw (next l, y) at (v.going l) in
                going_more d₀ q₀ _ d q _ _ d' q' z (f.bytes (l k)) (f.places (l k));
          }

-- the right words at a place
pub place_words : (h : SetHeading) (s : Text) (place : ℕ) (cs : List ℕ) → cs ≡ (heading_by h).components → PlaceAt h s place → RightWords (drop 1 (left s place)) cs
place_words h s place cs is w =
    record {
      all = rw is (length-drop 1 (left s place) ∙ omega (arith, w.count));
      short = any_drop too_long 1 (left s place) w.short;
    }

-- firing goes on with other cursors, at another layout
pub fires_on : (n k k' : ℕ) (x x' d d' : Text) (q q' : Cursors) → Fires n k x d q → k' ≤ 32 → length x' ≡ length x → length d' ≡ length d → Low q'.at → Fires n k' x' d' q'
fires_on n k k' x x' d d' q q' v h e f g =
    record {
      some = v.some;
      digit = v.digit;
      layout = h;
      room = rw e v.room;
      scratch = rw e v.scratch;
      buf = rw f v.buf;
      low = g;
    }
