-- The ways out of the entries that write and read a card.
use Prim.Native.Nat.{ℕ, ◌+◌, ◌*◌, ◌^◌, ◌≤◌, ◌<◌}
use mathlib.Core.Path.{◌≡◌, refl, sym, ap, ◌∙◌}
use mathlib.Core.List.{List, ◌++◌, append-nil}
use mathlib.Core.Bool.{Bool, true, false}
use lib.ListN.{length, drop}
use lib.Dec.{ltb}
use borrow.Author.Tests.{lt-ltb, le-ltb}
use Rattle.std.proofs.Common.{Result, Ok, Err}
use Rattle.text.specs.declared.Refusal.{Refusal}
use Rattle.text.specs.declared.faults.Fault.{Fault}
use Rattle.text.specs.declared.faults.Fault.TheVariants.{NoRoom}
use Rattle.text.specs.declared.faults.Refusal.{Refusal as Refused}
use Rattle.text.specs.Told.{number_of as fault_of, told_refusal}
use Rattle.text.specs.Bytes.{Text, concat_map}
use Rattle.text.specs.Refusals.{refused_if, first_refusal}
use Rattle.text.proofs.Told.{number_some}
use Rattle.profile.specs.Profile.{Texts}
use Rattle.profile.specs.Refusals.{profile_refusals}
use Rattle.answers.specs.Answer.{total, refused, accepted, first_of, number_of, place_of, buffer_after}
use Rattle.card.specs.Writing.{lent_texts, write_refusals, write_answer, card_after, Writes}
use Rattle.card.specs.Reading.{texts_on, read_refusals, judged, read_answer, Reads}
use Rattle.card.proofs.Limits.{unempty, unrefused}
use Rattle.card.proofs.Written.{some_refusal}
use Rattle.card.proofs.Judged.{judged_clear_lem, judged_refused, stays}
use Rattle.xkbrules.specs.Sheet.{sheet_length, little_endian, lengths_in, code}
use Rattle.xkbrules.specs.Cards.{entry_write_refusals, entry_writing, write_code, card_sheet_length, entry_read_refusals, entry_reading, card_sheet_after, EntryWrites, EntryReads, CardWrites, CardReads}

-- writing

module _ (t : Texts) (x s d : Text) where
  refuses : (e : Refused) → entry_writing (length d) t x s ≡ refused (told_refusal e) → EntryWrites t x s d d (Err e)
  unfolding card_after
  refuses e h = record { result = h; card = rw h }

  -- with a sheet under 40 bytes the profile alone decides
  pub write_profile : (e : Refused) → told_refusal e ≡ first_refusal (profile_refusals t) → EntryWrites t x s d d (Err e)
  unfolding entry_writing entry_write_refusals
  write_profile e h =
      refuses e
      (some_refusal (profile_refusals t) _ (lent_texts t x (lengths_in s)) (unempty t (told_refusal e) h (number_some e.fault)) ∙ ap refused (sym h))

  pub write_sheet : record { number = 0; place = 0 } ≡ first_refusal (profile_refusals t) → length s < sheet_length → EntryWrites t x s d d (Err (record { fault = NoRoom; place = 0 }))
  unfolding entry_writing entry_write_refusals refused_if first_of
  write_sheet h k = refuses _ (rw (unrefused t _ h refl, lt-ltb (length s) sheet_length k))

  -- with any other, the answer is the writing's
  pub entry_write : sheet_length ≤ length s → entry_writing (length d) t x s ≡ write_answer (length d) t x (lengths_in s)
  unfolding entry_writing entry_write_refusals write_answer write_refusals
  entry_write k = rw (le-ltb (length s) sheet_length k)

  pub write_so : (ns : List ℕ) → ns ≡ lengths_in s → sheet_length ≤ length s → (d' : Text) (r : Result ℕ Refused) → Writes t x ns d d' r → EntryWrites t x s d d' r
  write_so ns held long d' r v =
      let same : entry_writing (length d) t x s ≡ write_answer (length d) t x ns = entry_write long ∙ rw held in
      record { result = rw (same, ← held) v.result; card = v.card ∙ rw same }

  -- the number that stands for either
  pub write_done : (d' : Text) (n : ℕ) → EntryWrites t x s d d' (Ok n) → CardWrites t x s d d' n
  unfolding write_code
  write_done d' n v = record { returned = v.result.1 ∙ rw v.result.0; card = v.card }

  pub write_refused : (d' : Text) (e : Refused) (n : ℕ) → EntryWrites t x s d d' (Err e) → n ≡ fault_of e.fault * 2 ^ 48 + e.place → CardWrites t x s d d' n
  unfolding write_code
  write_refused d' e n v g = record { returned = g ∙ rw v.result; card = v.card }

-- reading

module _ (c d s : Text) where
  turns_away : (f : Fault) → entry_reading (length d) (length s) c ≡ refused (record { number = fault_of f; place = 0 }) → EntryReads c d d s s (Err f)
  unfolding buffer_after card_sheet_after
  turns_away f h = record { result = h; texts = rw h; sheet = rw h }

  entry_refuses : (p : Refusal) → read_answer (length d) c ≡ refused p → entry_reading (length d) (length s) c ≡ refused p
  unfolding entry_reading entry_read_refusals read_answer
  entry_refuses p h = stays (read_refusals (length d) c) _ (texts_on c) p h

  -- with a sheet under 56 bytes the card alone decides
  pub read_broken : (f : Fault) → judged c ≡ refused (record { number = fault_of f; place = 0 }) → EntryReads c d d s s (Err f)
  read_broken f h = turns_away f (entry_refuses _ (judged_refused c _ h (length d)))

  pub read_sheet : judged c ≡ accepted (texts_on c) → length s < card_sheet_length → EntryReads c d d s s (Err NoRoom)
  unfolding entry_reading entry_read_refusals read_refusals refused_if first_of
  read_sheet h k = turns_away NoRoom (go (ltb (length d) (total (texts_on c))) refl)
    where
      go : (b : Bool) → ltb (length d) (total (texts_on c)) ≡ b → entry_reading (length d) (length s) c ≡ refused (record { number = 11; place = 0 })
      go true z = rw (judged_clear_lem c _ h, z)
      go false z = rw (judged_clear_lem c _ h, z, lt-ltb (length s) card_sheet_length k)

  -- with any other, the answer is the reading's
  pub entry_read : card_sheet_length ≤ length s → entry_reading (length d) (length s) c ≡ read_answer (length d) c
  unfolding entry_reading entry_read_refusals read_answer refused_if
  entry_read k = rw (le-ltb (length s) card_sheet_length k, append-nil (read_refusals (length d) c))

  module _ (long : card_sheet_length ≤ length s) (d' : Text) where
    pub read_refused : (f : Fault) → Reads c d d' (Err f) → EntryReads c d d' s s (Err f)
    unfolding card_sheet_after
    read_refused f v = let q = entry_read long ∙ v.result in record { result = q; texts = v.buffer ∙ rw (entry_read long); sheet = rw q }

    pub read_done : (ns : List ℕ) (s' : Text) → Reads c d d' (Ok ns) → s' ≡ concat_map little_endian ns ++ drop card_sheet_length s → EntryReads c d d' s s' (Ok tt)
    unfolding card_sheet_after
    read_done ns s' v e =
        let q = entry_read long ∙ v.result.0 in
        record { result = q; texts = v.buffer ∙ rw (entry_read long); sheet = e ∙ rw (q, v.result.1) }

  -- the number that stands for either
  pub read_number : (d' s' : Text) → EntryReads c d d' s s' (Ok tt) → CardReads c d d' s s' 0
  unfolding code number_of place_of
  read_number d' s' v = record { returned = rw v.result; texts = v.texts; sheet = v.sheet }

  pub read_code : (d' s' : Text) (f : Fault) (n : ℕ) → EntryReads c d d' s s' (Err f) → n ≡ fault_of f * 2 ^ 48 + 0 → CardReads c d d' s s' n
  unfolding code number_of place_of
  read_code d' s' f n v g = record { returned = g ∙ rw v.result; texts = v.texts; sheet = v.sheet }
