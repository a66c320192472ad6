-- The profile whose values stand in one text: its values by their numbers, and that it is the profile of the texts that they come from.
use Prim.Native.Nat.{ℕ, zero, suc, ◌+◌, ◌-◌, ◌≤◌, ◌<◌}
use native.Mathlib.Omega.{arith}
use mathlib.Core.Path.{◌≡◌, refl, sym, ap, ◌∙◌}
use mathlib.Core.List.{List, []}
use mathlib.Core.Bool.{Bool, true, false}
use lib.Dec.{ltb}
use lib.ListN.{length, drop, get_or, length-take, get_or-eq_default}
use borrow.Author.Tests.{ltb-true, ltb-false}
use Rattle.text.specs.declared.Span.{Span}
use Rattle.text.specs.Limits.{longest_field}
use Rattle.text.specs.Bytes.{Text, part}
use Rattle.profile.specs.Profile.{Texts, fields, profile_of, layout_count}
use Rattle.profile.specs.Spans.{most_values, before_layouts, before_variants, no_span, value_at, values_from, profile_at, Placed, ValuesOf}
use Rattle.values.specs.Spread.{expanded}
use Rattle.values.proofs.Filling.{ShortValues}
use Rattle.values.proofs.Profiles.{SameValues, expanded_same}

none_beyond : (ts : List Text) (i : ℕ) → length ts ≤ i → get_or ts i [] ≡ []
none_beyond ts i h = get_or-eq_default ts [] h

-- one value

part_short : (s : Text) (a e : ℕ) → length (part s a e) ≤ e - a
unfolding part
part_short s a e = omega (arith, length-take (e - a) (drop a s))

pub value_beyond : (s : Text) (b : List Span) (j : ℕ) → length b ≤ j → [] ≡ value_at s b j
unfolding value_at part
value_beyond s b j h = sym (rw (get_or-eq_default b no_span h))

module _ (s : Text) (b : List Span) (p : Placed s b) where
  short_in : (j : ℕ) → j < most_values → length (value_at s b j) ≤ longest_field
  unfolding value_at
  short_in j h =
      let q = get_or b j no_span in
      omega (arith, part_short s q.start q.end, (p.place j h).short)

  short_at : (j : ℕ) → length (value_at s b j) ≤ longest_field
  short_at j = go (ltb j most_values) refl
    where
      go : (c : Bool) → ltb j most_values ≡ c → length (value_at s b j) ≤ longest_field
      go true e = short_in j (ltb-true j most_values e)
      go false e = rw (← value_beyond s b j (omega (arith, p.size, ltb-false j most_values e))) (omega arith)

-- several values

module _ (s : Text) (b : List Span) where
  values_length : (j n : ℕ) → length (values_from s b j n) ≡ n
  unfolding values_from
  values_length j zero = refl
  values_length j (suc n) = ap suc (values_length (suc j) n)

  values_at : (j n i : ℕ) → i < n → get_or (values_from s b j n) i [] ≡ value_at s b (j + i)
  unfolding values_from
  values_at j zero i h = absurd (omega arith)
  values_at j (suc n) zero h = let z : j + 0 ≡ j = omega arith in rw z
  values_at j (suc n) (suc i) h = let z : j + suc i ≡ suc j + i = omega arith in rw z (values_at (suc j) n i (omega arith))

  values_beyond : (j n i : ℕ) → n ≤ i → get_or (values_from s b j n) i [] ≡ []
  values_beyond j n i h = none_beyond (values_from s b j n) i (omega (arith, values_length j n))

  -- by the ways of `nth`
  pub nth_none : (j n i : ℕ) → n ≤ i → [] ≡ get_or (values_from s b j n) i []
  nth_none j n i h = sym (values_beyond j n i h)

  pub nth_some : (j n i : ℕ) → i < n → (r : Text) → r ≡ value_at s b (j + 1 + i) → r ≡ get_or (values_from s b (suc j) n) i []
  nth_some j n i h r e = let z : j + 1 + i ≡ suc j + i = omega arith in rw z at e ∙ sym (values_at (suc j) n i h)

  pub count_at : (n : ℕ) → n ≡ layout_count (profile_at s b n)
  unfolding layout_count profile_at
  count_at n = sym (values_length 1 n)

  module _ (p : Placed s b) where
    short_nth : (j n i : ℕ) → length (get_or (values_from s b j n) i []) ≤ longest_field
    short_nth j n i = go (ltb i n) refl
      where
        go : (c : Bool) → ltb i n ≡ c → length (get_or (values_from s b j n) i []) ≤ longest_field
        go true e = rw (values_at j n i (ltb-true i n e)) (short_at s b p (j + i))
        go false e = rw (values_beyond j n i (ltb-false i n e)) (omega arith)

    pub short_placed : (n : ℕ) → ShortValues (profile_at s b n)
    unfolding profile_at
    short_placed n =
        record {
          model = short_at s b p 0;
          layouts = λ i. short_nth (suc before_layouts) n i;
          variants = λ i. short_nth (suc before_variants) n i;
        }

  -- the values behind a number are those of a list that has no more
  same_nth : (ts : List Text) (j n : ℕ) → n ≤ 32 → length ts ≤ n → ((k : ℕ) → 1 ≤ k → k ≤ 32 → value_at s b (j + k) ≡ get_or ts (k - 1) []) →
      (i : ℕ) → get_or (values_from s b (suc j) n) i [] ≡ get_or ts i []
  same_nth ts j n few most at i = go (ltb i n) refl
    where
      go : (c : Bool) → ltb i n ≡ c → get_or (values_from s b (suc j) n) i [] ≡ get_or ts i []
      go true e =
          let h = ltb-true i n e in
          let z : suc j + i ≡ j + suc i = omega arith in
          let w : suc i - 1 ≡ i = omega arith in
          values_at (suc j) n i h ∙ rw (z, at (suc i) (omega arith) (omega arith), w)
      go false e =
          let h = ltb-false i n e in
          values_beyond (suc j) n i h ∙ sym (none_beyond ts i (omega arith))

-- the profile of the values is that of the texts, but for the options

module _ (x : Texts) (s : Text) (b : List Span) (v : ValuesOf x s b) (n : ℕ) (count : n ≡ layout_count (profile_of x)) (few : n ≤ 32)
    (missing : length (profile_of x).variants ≤ n) where
  pub placed_same : SameValues (profile_at s b n) (profile_of x)
  unfolding profile_at profile_of layout_count
  placed_same =
      record {
        model = v.model;
        count = values_length s b 1 n ∙ count;
        layouts = same_nth s b (fields x.layouts) before_layouts n few (omega (arith, count)) v.layout;
        variants = same_nth s b (fields x.variants) before_variants n few missing v.variant;
      }

  pub placed_expanded : (k : ℕ) (w : Text) → expanded (profile_at s b n) k w ≡ expanded (profile_of x) k w
  placed_expanded k w = expanded_same (profile_at s b n) (profile_of x) placed_same k w
