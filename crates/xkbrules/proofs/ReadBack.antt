-- Number and place, read back from the one number that C is given.
use Prim.Native.Nat.{ℕ, ◌+◌, ◌*◌, ◌/◌, ◌%◌, ◌^◌, ◌≤◌}
use native.Mathlib.Omega.{arith}
use mathlib.Core.Path.{◌≡◌, refl, ap}
use mathlib.Core.Bool.{Bool, true, false}
use lib.Dec.{ltb}
use borrow.Author.Tests.{ltb-true, ltb-false}
use Rattle.text.specs.Bytes.{Text}
use Rattle.profile.specs.Profile.{Texts}
use Rattle.answers.specs.Answer.{Answer, refused, accepted, answer, number_of, place_of}
use Rattle.answers.proofs.Places.{place_low}
use Rattle.xkbrules.specs.Sheet.{sheet_length, entry_answer, code}
use Rattle.xkbrules.proofs.Entry.{entry_same, entry_refused, entry_short}

packed : (n p : ℕ) → p ≤ 65537 → ((n * 281474976710656 + p) / 281474976710656 ≡ n) × ((n * 281474976710656 + p) % 281474976710656 ≡ p)
packed n p h = (omega arith, omega arith)

pub code_read : (a : Answer) → place_of a ≤ 65537 → (code a / 2 ^ 48 ≡ number_of a) × (code a % 2 ^ 48 ≡ place_of a)
unfolding code
code_read a h = packed (number_of a) (place_of a) h

short_place : (a : Answer) → a ≡ refused (record { number = 11; place = 0 }) → place_of a ≤ 65537
unfolding place_of
short_place a e = let z : place_of a ≡ 0 = ap place_of e in omega (arith, z)

-- the place of an answer for C is as low as that of a resolve
pub entry_low : (room sheet : ℕ) (f : Text) (t : Texts) → place_of (entry_answer room sheet f t) ≤ 65537
entry_low room sheet f t = go (ltb sheet sheet_length) refl (answer room f t) refl
  where
    go : (b : Bool) → ltb sheet sheet_length ≡ b → (a : Answer) → answer room f t ≡ a → place_of (entry_answer room sheet f t) ≤ 65537
    go false e a q = rw (entry_same room sheet f t (ltb-false sheet sheet_length e)) (place_low room f t)
    go true e (refused r) q = rw (entry_refused room sheet f t r q, ← q) (place_low room f t)
    go true e (accepted ts) q = short_place _ (entry_short room sheet f t ts (ltb-true sheet sheet_length e) q)
