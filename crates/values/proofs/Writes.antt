-- Texts written one after the other.
use Prim.Native.Nat.{ℕ, ◌+◌, ◌/◌, ◌%◌, ◌≤◌, ◌<◌}
use native.Mathlib.Omega.{arith}
use mathlib.Core.Path.{◌≡◌, refl, sym, ap, ◌∙◌}
use mathlib.Core.List.{[], ◌∷◌, ◌++◌}
use lib.ListN.{length, set}
use borrow.Author.Tests.{lt-ltb, le-ltb}
use Rattle.text.specs.Bytes.{Text}
use Rattle.output.specs.Store.{stored, farthest, past, Wrote}
use Rattle.output.proofs.Stores.{length_stored, stored_behind, wrote_none, wrote_then}
use Rattle.rules.specs.Headings.{decimal}

-- a position within the buffer
pub past_near : (at n : ℕ) → at + n ≤ farthest → at + n ≡ past at n
unfolding past
past_near at n h = omega arith

-- one byte, with room for it and without
pub wrote_byte : (d : Text) (at b r : ℕ) → r ≡ past at 1 → Wrote d (set d at b) at (b ∷ []) r
unfolding stored
wrote_byte d at b r q = record { text = refl; next = q }

pub byte_behind : (d : Text) (at b r : ℕ) → length d ≤ at → r ≡ past at 1 → Wrote d d at (b ∷ []) r
byte_behind d at b r h q = record { text = sym (stored_behind d at (b ∷ []) h); next = q }

-- a number below 100
pub wrote_digit : (d d' : Text) (at k r : ℕ) → k < 10 → Wrote d d' at ((48 + k) ∷ []) r → Wrote d d' at (decimal k) r
unfolding decimal
wrote_digit d d' at k r h w = rw (lt-ltb k 10 h) w

pub wrote_digits : (d d' d'' : Text) (at k a r : ℕ) → 10 ≤ k → length d ≤ farthest →
    Wrote d d' at ((48 + k / 10) ∷ []) a → Wrote d' d'' a ((48 + k % 10) ∷ []) r → Wrote d d'' at (decimal k) r
unfolding decimal
wrote_digits d d' d'' at k a r h l u v = rw (le-ltb k 10 h) (wrote_then d d' d'' at ((48 + k / 10) ∷ []) ((48 + k % 10) ∷ []) a r l u v)

-- what a write keeps: the room, and that positions end at the farthest
pub wrote_long : (d d' : Text) (at : ℕ) (t : Text) (r : ℕ) → Wrote d d' at t r → length d' ≡ length d
wrote_long d d' at t r w = ap length w.text ∙ length_stored d at t

pub wrote_low : (d d' : Text) (at : ℕ) (t : Text) (r : ℕ) → Wrote d d' at t r → r ≤ farthest
unfolding past
wrote_low d d' at t r w = omega (arith, w.next)

-- A loop that writes: what it has written, with whatever writes what is left, is the whole.
pub record Writing (d d' : Text) (at : ℕ) (whole : Text) (r : ℕ) (left : Text) : Type 0 where
  pub room : length d ≤ farthest
  pub low : r ≤ farthest
  pub long : length d' ≡ length d
  pub rest : (d'' : Text) (s : ℕ) → Wrote d' d'' r left s → Wrote d d'' at whole s

pub writing_start : (d : Text) (at : ℕ) (whole : Text) → length d ≤ farthest → at ≤ farthest → Writing d d at whole at whole
writing_start d at whole l h = record { room = l; low = h; long = refl; rest = λ d'' s w. w }

module _ (d d' : Text) (at : ℕ) (whole : Text) (r : ℕ) where
  pub writing_more : (x y d'' : Text) (s : ℕ) → Writing d d' at whole r (x ++ y) → Wrote d' d'' r x s → Writing d d'' at whole s y
  writing_more x y d'' s v w =
      let l : length d' ≤ farthest = omega (arith, v.room, v.long) in
      record {
        room = v.room;
        low = wrote_low d' d'' r x s w;
        long = wrote_long d' d'' r x s w ∙ v.long;
        rest = λ e q u. v.rest e q (wrote_then d' d'' e r x y s q l w u);
      }

  pub writing_end : Writing d d' at whole r [] → Wrote d d' at whole r
  writing_end v = v.rest d' r (wrote_none d' r v.low)
