-- The ways out of a reading.
use Prim.Native.Nat.{ℕ, ◌+◌, ◌-◌, ◌≤◌, ◌<◌}
use native.Mathlib.Omega.{arith}
use mathlib.Core.Path.{◌≡◌, refl, sym, ap, ◌∙◌}
use mathlib.Core.List.{List, [], ◌∷◌, ◌++◌, map}
use mathlib.Core.Bool.{Bool, true, false, ◌||◌}
use lib.ListN.{length}
use lib.Dec.{ltb}
use borrow.Author.Tests.{lt-ltb, le-ltb, ltb-true, ltb-false}
use Rattle.std.proofs.Common.{Result, Ok, Err}
use Rattle.std.specs.Result.{is_err}
use Rattle.text.specs.declared.Refusal.{Refusal}
use Rattle.text.specs.declared.faults.Refusal.{Refusal as Refused}
use Rattle.text.specs.declared.faults.Fault.TheVariants.{NoRoom, BadCard}
use Rattle.text.specs.Told.{told}
use Rattle.text.specs.Bytes.{Text, empty}
use Rattle.text.specs.Refusals.{refused_if, first_refusal}
use Rattle.text.proofs.Lists.{or_right, neither, no}
use Rattle.text.proofs.Numbers.{clear_if}
use Rattle.text.proofs.Told.{number_some}
use Rattle.profile.specs.Refusals.{profile_refusals}
use Rattle.answers.specs.Answer.{total, refused, accepted, first_of, buffer_after}
use Rattle.answers.proofs.Answers.{accepted_first}
use Rattle.card.specs.Card.{section_count, card_profile, broken}
use Rattle.card.specs.Reading.{texts_on, beyond, card_refusals, read_refusals, judged, read_answer, Clear, Reads}
use Rattle.card.proofs.Format.{sections_length}
use Rattle.card.proofs.Limits.{unrefused, unempty}

abbrev pub bad : Refusal
bad = record { number = 16; place = 0 }

abbrev pub short : Refusal
short = record { number = 11; place = 0 }

-- `judged`
module _ (s : Text) where
  refused_when : broken section_count s || beyond (texts_on s) ≡ true → card_refusals s ≡ bad ∷ []
  unfolding card_refusals refused_if
  refused_when h = rw h

  pub judged_broken : broken section_count s ≡ true → card_refusals s ≡ bad ∷ []
  judged_broken h = refused_when (rw h)

  -- a card that is not broken, by what the check of its profile gave
  module _ (ts : List Text) (whole : broken section_count s ≡ false) (found : ts ≡ texts_on s) where
    pub judged_beyond : {A : Type 0} (r : Result A Refused) → told r ≡ first_refusal (profile_refusals (card_profile ts)) → is_err r ≡ true → card_refusals s ≡ bad ∷ []
    unfolding beyond
    judged_beyond (Ok a) e h = absurd (no h)
    judged_beyond (Err r) e h =
        let b : beyond (texts_on s) ≡ true = rw (unempty (card_profile (texts_on s)) _ (rw found at e) (number_some r.fault)) in
        refused_when (or_right (broken section_count s) (beyond (texts_on s)) b)

    pub judged_clear : {A : Type 0} (r : Result A Refused) → told r ≡ first_refusal (profile_refusals (card_profile ts)) → is_err r ≡ false → Clear s ts
    unfolding card_refusals refused_if beyond empty
    judged_clear (Ok a) e h =
        let b : beyond (texts_on s) ≡ false = rw (unrefused (card_profile (texts_on s)) _ (rw found at e) refl) in
        record { clear = rw (whole, b); texts = found }
    judged_clear (Err r) e h = absurd (no (sym h))

-- `read`
pub read_bad : (room : ℕ) (s : Text) → broken section_count s || beyond (texts_on s) ≡ true → read_answer room s ≡ refused bad
unfolding read_answer read_refusals card_refusals refused_if first_of
read_bad room s h = rw h

pub read_short : (room : ℕ) (s : Text) → broken section_count s || beyond (texts_on s) ≡ false → room < total (texts_on s) → read_answer room s ≡ refused short
unfolding read_answer read_refusals card_refusals refused_if first_of
read_short room s h k = rw (h, lt-ltb room (total (texts_on s)) k)

pub read_whole : (room : ℕ) (s : Text) → broken section_count s || beyond (texts_on s) ≡ false → total (texts_on s) ≤ room → read_answer room s ≡ accepted (texts_on s)
unfolding read_answer read_refusals card_refusals refused_if first_of
read_whole room s h k = rw (h, le-ltb room (total (texts_on s)) k)

-- a card that is refused by itself
module _ (s : Text) (h : card_refusals s ≡ bad ∷ []) where
  pub judge_bad : judged s ≡ refused bad
  unfolding judged first_of
  judge_bad = rw h

  pub way_bad : (d : Text) → Reads s d d (Err BadCard)
  unfolding read_answer read_refusals first_of buffer_after
  way_bad d = record { result = rw h; buffer = rw h }

-- and one that is not
module _ (s : Text) (ts : List Text) (v : Clear s ts) where
  pub judge_good : judged s ≡ accepted (texts_on s)
  unfolding judged first_of
  judge_good = rw v.clear

  clear : broken section_count s || beyond (texts_on s) ≡ false
  unfolding card_refusals
  clear = clear_if _ 16 0 v.clear

  pub size : length s ≡ 28 + total ts
  unfolding texts_on
  size = rw v.texts (sections_length section_count s (neither (broken section_count s) (beyond (texts_on s)) clear).0)

  pub way_short : (d : Text) → length d < length s - 28 → Reads s d d (Err NoRoom)
  unfolding buffer_after
  way_short d h =
      let z = read_short (length d) s clear (omega (arith, size, ap total v.texts)) in
      record { result = z; buffer = rw z }

  pub way_read : (d d' : Text) (ns : List ℕ) → length s - 28 ≤ length d → d' ≡ buffer_after d (accepted ts) → ns ≡ map length ts → Reads s d d' (Ok ns)
  way_read d d' ns h g e =
      let z = read_whole (length d) s clear (omega (arith, size, ap total v.texts)) in
      record { result = (z, e ∙ ap (map length) v.texts); buffer = g ∙ rw (v.texts, z) }

-- a judgement as its answer says

pub stays : (rs qs : List Refusal) (ts : List Text) (p : Refusal) → first_of rs ts ≡ refused p → first_of (rs ++ qs) ts ≡ refused p
unfolding first_of
stays [] qs ts p h = cc
stays (r ∷ rs) qs ts p h = h

pub judged_clear_lem : (s : Text) (ts : List Text) → judged s ≡ accepted ts → card_refusals s ≡ []
unfolding judged
judged_clear_lem s ts h = (accepted_first (card_refusals s) (texts_on s) ts h).0

pub judged_refused : (s : Text) (p : Refusal) → judged s ≡ refused p → (room : ℕ) → read_answer room s ≡ refused p
unfolding judged read_answer read_refusals
judged_refused s p h room = stays (card_refusals s) _ (texts_on s) p h

is_zero : (q p : Refusal) → refused q ≡ refused p → q.place ≡ 0 → p.place ≡ 0
is_zero q p h z = let e : q ≡ p = cc in ap (λ (r : Refusal). r.place) (sym e) ∙ z

never : (ts : List Text) (p : Refusal) → accepted ts ≡ refused p → ⊥
never ts p h = let z : ◌≡◌ {A = ℕ} 0 1 = cc in omega arith

-- a refusal of a reading has no place
module _ (room : ℕ) (s : Text) where
  place_when : (b : Bool) → broken section_count s || beyond (texts_on s) ≡ b → (k : Bool) → ltb room (total (texts_on s)) ≡ k → (p : Refusal) → read_answer room s ≡ refused p → p.place ≡ 0
  place_when true z k y p h = is_zero bad p (sym (read_bad room s z) ∙ h) refl
  place_when false z true y p h = is_zero short p (sym (read_short room s z (ltb-true _ _ y)) ∙ h) refl
  place_when false z false y p h = absurd (never (texts_on s) p (sym (read_whole room s z (ltb-false _ _ y)) ∙ h))

  pub place_zero : (p : Refusal) → read_answer room s ≡ refused p → p.place ≡ 0
  place_zero p h = place_when (broken section_count s || beyond (texts_on s)) refl (ltb room (total (texts_on s))) refl p h
