-- How high an answer's number and place are, and how long what is read is.
use Prim.Native.Nat.{ℕ, ◌≤◌}
use native.Mathlib.Omega.{arith}
use mathlib.Core.Path.{◌≡◌, refl}
use mathlib.Core.List.{List, ◌++◌}
use lib.ListN.{length}
use borrow.Author.Tests.{ltb-false}
use Rattle.std.proofs.Common.{Ok, Err}
use Rattle.std.specs.Prelude.{Result}
use Rattle.text.specs.declared.Refusal.{Refusal}
use Rattle.text.specs.declared.faults.Refusal.{Refusal as Refused}
use Rattle.text.specs.Told.{told, told_refusal}
use Rattle.text.specs.Bytes.{Text}
use Rattle.text.specs.Refusals.{refused_if}
use Rattle.text.proofs.Lists.{all_append, nil_right}
use Rattle.text.proofs.Numbers.{clear_if}
use Rattle.profile.specs.Profile.{Texts}
use Rattle.profile.specs.Refusals.{profile_refusals}
use Rattle.answers.specs.Answer.{total, refused, accepted}
use Rattle.answers.proofs.Answers.{accepted_first}
use Rattle.card.specs.Writing.{lent_texts, unwritable, write_refusals, write_answer, Writes}
use Rattle.card.specs.Reading.{texts_on, card_refusals, read_refusals, read_answer}
use Rattle.card.proofs.Limits.{numbered, if_numbered, profile_numbered, Numbered, first_numbered}

-- a refusal of a writing
pub write_numbered : (room : ℕ) (t : Texts) (x : Text) (ns : List ℕ) (p : Refusal) → write_answer room t x ns ≡ refused p → Numbered p
unfolding write_answer write_refusals
write_numbered room t x ns p h =
    first_numbered (profile_refusals t ++ refused_if (unwritable room t x ns) 11 0) (lent_texts t x ns) p
    (all_append numbered (profile_refusals t) _ (profile_numbered t) (if_numbered _ 11 0 refl)) h

-- a writing as its result tells it
pub writes_low : (t : Texts) (x : Text) (ns : List ℕ) (d d' : Text) (r : Result ℕ Refused) → Writes t x ns d d' r →
    ((told r).number ≤ 16) × ((told r).place ≤ 4)
writes_low t x ns d d' (Ok n) v = (omega arith, omega arith)
writes_low t x ns d d' (Err e) v = let w = write_numbered (length d) t x ns (told_refusal e) v.result in (w.most, w.place)

-- an accepted reading fits what it is lent
pub read_room : (room : ℕ) (s : Text) (ts : List Text) → read_answer room s ≡ accepted ts → total ts ≤ room
unfolding read_answer read_refusals
read_room room s ts h =
    let w = accepted_first (read_refusals room s) (texts_on s) ts h in
    rw (← w.1) (ltb-false room (total (texts_on s)) (clear_if _ 11 0 (nil_right (card_refusals s) _ w.0)))
