-- Sections read one after the other.
use Prim.Native.Nat.{ℕ, zero, suc, ◌+◌, ◌*◌, ◌-◌, ◌≤◌, ◌<◌}
use native.Mathlib.Numerals.{add-one}
use native.Mathlib.Omega.{arith}
use mathlib.Core.Path.{◌≡◌, refl, sym, ap, ◌∙◌}
use mathlib.Core.List.{List, [], ◌∷◌, ◌++◌, map, append-nil, append_assoc}
use mathlib.Core.Bool.{true, false, ◌||◌}
use lib.ListN.{length, take, drop, get_or, set, length-set, drop_of_length-le}
use lib.Dec.{ltb}
use lib.Seq.{drop-cons, drop-drop, take-suc, take-suc-set, take_all}
use borrow.Author.Tests.{lt-ltb, le-ltb, ltb-false}
use Rattle.std.proofs.lemmas.List.{map-append, get_or-map}
use Rattle.std.proofs.Common.{Bor, Option, Some, None, MatchOption}
use Rattle.std.specs.List.{IsSplitAt}
use Rattle.text.specs.Bytes.{Text, empty, any_of}
use Rattle.text.proofs.Lists.{empty_some, neither}
use Rattle.output.specs.Store.{stored}
use Rattle.output.proofs.Stores.{stored_append, stored_none, length_stored, stored_front}
use Rattle.profile.specs.Profile.{texts_of}
use Rattle.answers.specs.Answer.{sum, joined, total, accepted, buffer_after}
use Rattle.answers.proofs.Stretch.{joined_length}
use Rattle.card.specs.Card.{longest_section, section_count, card_profile, section_length, section_text, cut_short, behind_section, sections_in, broken, Bytes}
use Rattle.card.specs.Writing.{long_section}
use Rattle.card.specs.Reading.{texts_on}
use Rattle.card.proofs.Format.{sections_short}

-- `split_section`
module _ (s : Text) where
  abbrev Split : Option (Bor Text × Bor Text) → Type 0
  Split r = MatchOption r (cut_short s ≡ true) (λ p. (cut_short s ≡ false) × (p.0.now ≡ section_text s) × (p.1.now ≡ behind_section s))

  pub cut_early : length s < 2 → cut_short s ≡ true
  unfolding cut_short
  cut_early h = lt-ltb (length s) (2 + section_length s) (omega arith)

  module _ (size behind : Text) (n : ℕ) (front : size ≡ take 2 s) (back : behind ≡ drop 2 s) (enough : length behind + 2 ≡ length s) (e : n ≡ get_or size 0 0 + get_or size 1 0 * 256) where
    same_length : n ≡ section_length s
    unfolding section_length
    same_length = go s (rw front at e) enough
      where
        go : (s : Text) → n ≡ get_or (take 2 s) 0 0 + get_or (take 2 s) 1 0 * 256 → length behind + 2 ≡ length s → n ≡ get_or s 0 0 + 256 * get_or s 1 0
        go [] q h = absurd (omega arith)
        go (a ∷ []) q h = absurd (omega arith)
        go (a ∷ b ∷ r) q h = omega arith

    pub split_there : (r : Option (Bor Text × Bor Text)) → MatchOption r (length behind < n) (λ p. IsSplitAt behind n p.0.now p.1.now) → Split r
    unfolding cut_short behind_section
    split_there None h = lt-ltb (length s) (2 + section_length s) (omega (arith, same_length))
    split_there (Some p) h =
        (le-ltb (length s) (2 + section_length s) (omega (arith, h.0, same_length)), h.1 ∙ rw (back, same_length), h.2 ∙ rw (back, same_length) (drop-drop (section_length s) 2 s))

broken_cons : (n : ℕ) (s : Text) → broken (suc n) s ≡ cut_short s || broken n (behind_section s)
unfolding broken
broken_cons n s = refl

sections_cons : (n : ℕ) (s : Text) → sections_in (suc n) s ≡ section_text s ∷ sections_in n (behind_section s)
unfolding sections_in
sections_cons n s = refl

-- what slices hold
abbrev pub held : List (Bor Text) → List Text
held ts = map (λ t. t.now) ts

-- what the code would read behind the end of its slices
abbrev no_text : Bor Text
no_text = record { ref_ptr = (0, 0); now = [] }

-- `Sections::profile`
pub profile_held : (ts : List (Bor Text)) → length ts ≡ section_count →
    texts_of (get_or ts 0 no_text).now (get_or ts 1 no_text).now (get_or ts 2 no_text).now (get_or ts 3 no_text).now ≡ card_profile (held ts)
unfolding card_profile
profile_held ts n = λ i. record { model = at 0 (omega arith) i; layouts = at 1 (omega arith) i; variants = at 2 (omega arith) i; options = at 3 (omega arith) i }
  where
    at : (k : ℕ) → k < section_count → (get_or ts k no_text).now ≡ get_or (held ts) k []
    at k l = sym (get_or-map (λ (t : Bor Text). t.now) ts k no_text [] (omega arith))

-- `Sections::lengths`
pub short_at : (ts : List (Bor Text)) (i : ℕ) → any_of long_section (map length (held ts)) ≡ false → i < length ts → length (get_or ts i no_text).now ≤ longest_section
unfolding any_of long_section
short_at [] i h l = absurd (omega arith)
short_at (t ∷ ts) zero h l = ltb-false longest_section _ (neither (ltb longest_section (length t.now)) _ h).0
short_at (t ∷ ts) (suc i) h l = short_at ts i (neither (ltb longest_section (length t.now)) _ h).1 (omega arith)

pub record Measured (ts : List (Bor Text)) (ns : List ℕ) (i : ℕ) : Type 0 where
  pub size : length ns ≡ section_count
  pub front : take i ns ≡ map length (held (take i ts))

pub measured_start : (ts : List (Bor Text)) (ns : List ℕ) → length ns ≡ section_count → Measured ts ns 0
measured_start ts ns h = record { size = h; front = refl }

module _ (ts : List (Bor Text)) (ns : List ℕ) (i : ℕ) (v : Measured ts ns i) (n : length ts ≡ section_count) where
  pub measured_more : i < section_count → Measured ts (set ns i (length (get_or ts i no_text).now)) (i + 1)
  measured_more l =
      let a : i < length ts = omega arith in
      let b : i < length ns = omega (arith, v.size) in
      record {
        size = length-set ns i _ ∙ v.size;
        front = rw (add-one i, take-suc-set ns i _ b, take-suc ts i no_text a, map-append, map-append, v.front) refl;
      }

  pub measured_end : section_count ≤ i → ns ≡ map length (held ts)
  measured_end h =
      sym (take_all i ns (omega (arith, v.size))) ∙ v.front ∙ ap (λ (us : List (Bor Text)). map length (held us)) (take_all i ts (omega arith))

-- `Sections::find`: the first i texts are found, and `rest` is left of the card
pub record Finding (s : Text) (ts : List (Bor Text)) (rest : Text) (i : ℕ) : Type 0 where
  pub size : length ts ≡ section_count
  pub whole : broken section_count s ≡ broken (section_count - i) rest
  pub found : texts_on s ≡ held (take i ts) ++ sections_in (section_count - i) rest

module _ (s : Text) where
  pub finding_start : (ts : List (Bor Text)) → length ts ≡ section_count → Finding s ts s 0
  unfolding texts_on
  finding_start ts h = record { size = h; whole = refl; found = refl }

  module _ (ts : List (Bor Text)) (rest : Text) (i : ℕ) (v : Finding s ts rest i) where
    module _ (l : i < section_count) where
      one_more : section_count - i ≡ suc (section_count - (i + 1))
      one_more = omega arith

      -- the section is cut short
      pub finding_cut : cut_short rest ≡ true → broken section_count s ≡ true
      finding_cut h = v.whole ∙ rw (one_more, broken_cons, h)

      -- it is there
      pub finding_more : (t : Bor Text) (behind : Text) → cut_short rest ≡ false → t.now ≡ section_text rest → behind ≡ behind_section rest → Finding s (set ts i t) behind (i + 1)
      finding_more t behind h e g =
          record {
            size = length-set ts i t ∙ v.size;
            whole = v.whole ∙ rw (one_more, broken_cons, h, g) refl;
            found = v.found ∙ rw (one_more, sections_cons, add-one i, take-suc-set ts i t (omega (arith, v.size)), map-append, append_assoc, e, g) refl;
          }

    module _ (l : section_count ≤ i) where
      none_more : section_count - i ≡ 0
      none_more = omega arith

      -- something stands behind the last
      pub finding_left : 0 < length rest → broken section_count s ≡ true
      unfolding broken
      finding_left h = v.whole ∙ rw (none_more, empty_some rest (λ z. omega arith))

      pub finding_end : length rest ≡ 0 → (broken section_count s ≡ false) × (held ts ≡ texts_on s)
      unfolding broken empty sections_in
      finding_end h =
          let e : texts_on s ≡ held ts = v.found ∙ rw none_more (append-nil (held (take i ts))) ∙ ap held (take_all i ts (omega (arith, v.size))) in
          (v.whole ∙ rw (none_more, nothing rest h), sym e)
        where
          nothing : (t : Text) → length t ≡ 0 → t ≡ []
          nothing [] h = refl
          nothing (b ∷ t) h = absurd (omega arith)

      pub finding_short : Bytes s → length rest ≡ 0 → any_of long_section (map length (held ts)) ≡ false
      unfolding texts_on
      finding_short b h = let e = finding_end h in rw e.1 (sections_short section_count s b e.0)

-- `Sections::copy`: the texts from the number i on are left, for the place `at`
pub record Copying (ts : List (Bor Text)) (d₀ d : Text) (at i : ℕ) : Type 0 where
  pub size : length d ≡ length d₀
  pub room : at + total (held (drop i ts)) ≤ length d₀
  pub bytes : stored d₀ 0 (joined (held ts)) ≡ stored d at (joined (held (drop i ts)))

total_cons : (t : Text) (ts : List Text) → total (t ∷ ts) ≡ length t + total ts
unfolding total sum
total_cons t ts = refl

joined_cons : (t : Text) (ts : List Text) → joined (t ∷ ts) ≡ t ++ joined ts
unfolding joined
joined_cons t ts = refl

module _ (ts : List (Bor Text)) (d₀ : Text) (fits : total (held ts) ≤ length d₀) where
  pub copying_start : Copying ts d₀ d₀ 0 0
  copying_start = record { size = refl; room = omega arith; bytes = refl }

  module _ (d : Text) (at i : ℕ) (v : Copying ts d₀ d at i) where
    module _ (l : i < length ts) where
      abbrev t : Bor Text
      t = get_or ts i no_text

      next : drop i ts ≡ t ∷ drop (i + 1) ts
      next = rw (drop-cons ts i no_text l, add-one i) refl

      left : at + (length t.now + total (held (drop (i + 1) ts))) ≤ length d₀
      left = rw (next, total_cons) at v.room

      pub copying_room : at + length t.now ≤ length d
      copying_room = omega (arith, left, v.size)

      pub copying_more : (d' : Text) → d' ≡ stored d at t.now → Copying ts d₀ d' (at + length t.now) (i + 1)
      copying_more d' g =
          record {
            size = rw g (length_stored d at t.now) ∙ v.size;
            room = omega (arith, left);
            bytes = v.bytes ∙ rw (g, next, joined_cons, stored_append) refl;
          }

    pub copying_end : length ts ≤ i → d ≡ buffer_after d₀ (accepted (held ts))
    unfolding buffer_after joined
    copying_end h =
        let b : d ≡ stored d₀ 0 (joined (held ts)) = sym (v.bytes ∙ rw (drop_of_length-le ts h) (stored_none d at)) in
        let k : length (joined (held ts)) ≤ length d₀ = omega (arith, joined_length (held ts)) in
        b ∙ stored_front d₀ (joined (held ts)) k ∙ rw (joined_length (held ts))
