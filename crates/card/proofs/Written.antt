-- The ways out of a writing.
use Prim.Native.Nat.{ℕ, ◌+◌, ◌≤◌, ◌<◌}
use native.Mathlib.Omega.{arith}
use mathlib.Core.Path.{◌≡◌, refl, sym, ap, ◌∙◌}
use mathlib.Core.List.{List, [], ◌∷◌, ◌++◌}
use mathlib.Core.Bool.{Bool, true, false}
use lib.ListN.{length, take}
use lib.Seq.{take_all}
use lib.Dec.{ltb, leb}
use borrow.Author.Tests.{lt-ltb, le-ltb, ltb-false, leb-true, leb-false, lt-leb}
use Rattle.std.proofs.Common.{Option, MatchOption, Ok, Err}
use Rattle.std.specs.Bool.{then_some}
use Rattle.text.specs.declared.Refusal.{Refusal}
use Rattle.text.specs.declared.faults.Refusal.{Refusal as Refused}
use Rattle.text.specs.Told.{told_refusal}
use Rattle.text.proofs.Told.{number_some}
use Rattle.text.specs.Bytes.{Text, empty, any_of}
use Rattle.text.specs.Refusals.{refused_if, first_refusal}
use Rattle.text.proofs.Lists.{or_right, neither, no}
use Rattle.output.specs.Store.{stored}
use Rattle.output.proofs.Stores.{length_stored, stored_front}
use Rattle.profile.specs.Profile.{Texts}
use Rattle.profile.specs.Refusals.{profile_refusals}
use Rattle.answers.specs.Answer.{sum, total, texts_in, refused, accepted, first_of}
use Rattle.card.specs.Card.{card_of, card_texts}
use Rattle.card.specs.Writing.{lent_texts, long_section, unwritable, write_refusals, write_answer, card_after, Short, Writes}
use Rattle.card.proofs.Format.{card_length_lem}
use Rattle.card.proofs.WriteLoops.{put_then, four_length}
use Rattle.card.proofs.Limits.{unempty, limited, texts_count, texts_total, sum_short}

-- how long the card of what is lent is
pub lent_length : (t : Texts) (x : Text) (ns : List ℕ) → length ns ≡ 10 → sum ns ≤ length x →
    length (card_of (lent_texts t x ns)) ≡ 28 + (length t.model + length t.layouts + length t.variants + length t.options) + sum ns
unfolding lent_texts card_texts total sum
lent_length t x ns ten h = omega (arith, card_length_lem (lent_texts t x ns), texts_count x ns, texts_total x ns h)

pub some_refusal : (rs qs : List Refusal) (ts : List Text) → empty rs ≡ false → first_of (rs ++ qs) ts ≡ refused (first_refusal rs)
unfolding empty first_of first_refusal
some_refusal [] qs ts h = absurd (no (sym h))
some_refusal (r ∷ rs) qs ts h = refl

module _ (room : ℕ) (t : Texts) (x : Text) (ns : List ℕ) where
  pub answer_profile : (e : Refused) → told_refusal e ≡ first_refusal (profile_refusals t) → write_answer room t x ns ≡ refused (told_refusal e)
  unfolding write_answer write_refusals
  answer_profile e h =
      some_refusal (profile_refusals t) _ (lent_texts t x ns) (unempty t (told_refusal e) h (number_some e.fault)) ∙ ap refused (sym h)

  module _ (clear : profile_refusals t ≡ []) where
    pub answer_unwritable : unwritable room t x ns ≡ true → write_answer room t x ns ≡ refused (record { number = 11; place = 0 })
    unfolding write_answer write_refusals refused_if first_of
    answer_unwritable h = rw (clear, h)

    pub answer_written : unwritable room t x ns ≡ false → write_answer room t x ns ≡ accepted (lent_texts t x ns)
    unfolding write_answer write_refusals refused_if first_of
    answer_written h = rw (clear, h)

-- the tests as they are made: n is the sum of the ten lengths, `size` the length of the card
pub no_long : (room : ℕ) (t : Texts) (x : Text) (ns : List ℕ) (b : Bool) → b ≡ any_of long_section ns → b ≡ true → unwritable room t x ns ≡ true
unfolding unwritable
no_long room t x ns b e h = rw (← e, h)

module _ (ns : List ℕ) (n : ℕ) (ten : length ns ≡ 10) (summed : n ≡ sum (take 10 ns)) where
  pub whole_sum : n ≡ sum ns
  whole_sum = summed ∙ ap sum (take_all 10 ns (omega arith))

  pub sum_most : (b : Bool) → b ≡ any_of long_section ns → b ≡ false → n ≤ 655350
  sum_most b e h = omega (arith, whole_sum, sum_short ns (sym e ∙ h))

  pub sum_inside : (x : Text) → n ≤ length x → sum ns ≤ length x
  sum_inside x h = omega (arith, whole_sum)

  module _ (room : ℕ) (t : Texts) (x : Text) where
    pub no_texts : length x < n → unwritable room t x ns ≡ true
    unfolding unwritable
    no_texts h = or_right (any_of long_section ns) _ (rw (lt-ltb (length x) (sum ns) (omega (arith, whole_sum))))

    module _ (size : ℕ) (sized : size ≡ 28 + (length t.model + length t.layouts + length t.variants + length t.options) + n) (inside : n ≤ length x) where
      pub lent_size : size ≡ length (card_of (lent_texts t x ns))
      lent_size = omega (arith, whole_sum, lent_length t x ns ten (sum_inside x inside))

      pub no_room : room < size → unwritable room t x ns ≡ true
      unfolding unwritable
      no_room h = or_right (any_of long_section ns) _ (or_right (ltb (length x) (sum ns)) _ (lt-ltb room _ (omega (arith, lent_size))))

      pub writable : (b : Bool) → b ≡ any_of long_section ns → b ≡ false → size ≤ room → unwritable room t x ns ≡ false
      unfolding unwritable
      writable b e h l =
          rw (← e, h, le-ltb (length x) (sum ns) (sum_inside x inside), le-ltb room (length (card_of (lent_texts t x ns))) (omega (arith, lent_size)))

    -- the result of `card_size`, after the test for a long section; u are the four texts by another name
    abbrev Sized : Option ℕ → Type 0
    Sized r = MatchOption r (unwritable room t x ns ≡ true) (λ k. (unwritable room t x ns ≡ false) × (k ≡ length (card_of (lent_texts t x ns))))

    module _ (u : Texts) (same : u ≡ t) (r : Option ℕ) (k : Bool)
        (g : r ≡ then_some k (28 + (length u.model + length u.layouts + length u.variants + length u.options) + n)) where
      pub sized_so : n ≤ length x → (b : Bool) → b ≡ any_of long_section ns → b ≡ false →
          k ≡ leb (28 + (length u.model + length u.layouts + length u.variants + length u.options) + n) room → Sized r
      sized_so inside b e h f = rw g (go k f)
        where
          size : ℕ
          size = 28 + (length u.model + length u.layouts + length u.variants + length u.options) + n

          sized : size ≡ 28 + (length t.model + length t.layouts + length t.variants + length t.options) + n
          sized = rw same refl

          go : (k : Bool) → k ≡ leb size room → Sized (then_some k size)
          go true f = (writable size sized inside b e h (leb-true size room (sym f)), lent_size size sized inside)
          go false f = no_room size sized inside (leb-false size room (sym f))

      pub sized_not : length x < n → k ≡ leb n (length x) → Sized r
      sized_not h f = rw (g, f, lt-leb n (length x) h) (no_texts h)

-- what can be written fits
pub able : (room : ℕ) (t : Texts) (x : Text) (ns : List ℕ) → unwritable room t x ns ≡ false →
    (any_of long_section ns ≡ false) × (sum ns ≤ length x) × (length (card_of (lent_texts t x ns)) ≤ room)
unfolding unwritable
able room t x ns h =
    let v = neither (any_of long_section ns) _ h in
    let w = neither (ltb (length x) (sum ns)) _ v.1 in
    (v.0, ltb-false (length x) (sum ns) w.0, ltb-false room _ w.1)

module _ (room : ℕ) (t : Texts) (x : Text) (ns : List ℕ) (ten : length ns ≡ 10) (h : unwritable room t x ns ≡ false) where
  whole : 28 + (length t.model + length t.layouts + length t.variants + length t.options) + sum ns ≤ room
  whole = let v = able room t x ns h in omega (arith, v.2, lent_length t x ns ten v.1)

  pub room_first : profile_refusals t ≡ [] → Short t room
  room_first clear =
      let l = limited t clear in
      record { model = l.model; layouts = l.layouts; variants = l.variants; options = l.options; fits = omega (arith, whole) }

  -- behind the four sections of a profile, in a buffer d that is d' then
  pub room_then : (d d' : Text) (at : ℕ) → room ≡ length d → d' ≡ stored d 0 (card_of (card_texts t [])) → at ≡ length (card_of (card_texts t [])) →
      (any_of long_section ns ≡ false) × (sum ns ≤ length x) × (at + (20 + sum ns) ≤ length d')
  room_then d d' at e g k =
      let v = able room t x ns h in
      let l : length d' ≡ length d = rw g (length_stored d 0 _) in
      (v.0, v.1, omega (arith, whole, four_length t.model t.layouts t.variants t.options))

-- the sections that are written one after the other
pub put_both : (d d' d'' : Text) (t : Texts) (x : Text) (ns : List ℕ) (at : ℕ) → d' ≡ stored d 0 (card_of (card_texts t [])) → at ≡ length (card_of (card_texts t [])) →
    d'' ≡ stored d' at (card_of (texts_in x ns)) → d'' ≡ stored d 0 (card_of (lent_texts t x ns))
unfolding lent_texts card_texts
put_both d d' d'' t x ns at e n g = put_then d d' (t.model ∷ t.layouts ∷ t.variants ∷ t.options ∷ []) at (record { text = e; next = n }) (texts_in x ns) d'' g

-- what is returned and what the buffer holds
module _ (t : Texts) (x : Text) (ns : List ℕ) (d : Text) where
  pub way_refused : (e : Refused) → write_answer (length d) t x ns ≡ refused (told_refusal e) → Writes t x ns d d (Err e)
  unfolding card_after
  way_refused e h = record { result = h; card = rw h }

  pub way_written : (d' : Text) (n : ℕ) → write_answer (length d) t x ns ≡ accepted (lent_texts t x ns) → n ≡ length (card_of (lent_texts t x ns)) → n ≤ length d →
      d' ≡ stored d 0 (card_of (lent_texts t x ns)) → Writes t x ns d d' (Ok n)
  unfolding card_after
  way_written d' n h m k g =
      let l : length (card_of (lent_texts t x ns)) ≤ length d = omega arith in
      record { result = (h, m); card = g ∙ stored_front d (card_of (lent_texts t x ns)) l ∙ rw h }
