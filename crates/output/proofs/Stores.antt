-- Laws of texts stored in a buffer.
use Prim.Native.Nat.{ℕ, ◌+◌, ◌-◌, ◌≤◌, ◌<◌, min}
use native.Mathlib.Nat.{add-zero}
use native.Mathlib.Numerals.{add-one}
use native.Mathlib.Omega.{arith}
use mathlib.Core.Path.{◌≡◌, refl, sym, ap, ◌∙◌}
use mathlib.Core.List.{[], ◌∷◌, ◌++◌, append_assoc, append-nil}
use mathlib.Core.Bool.{Bool, true, false}
use lib.ListN.{length, take, drop, get_or, set, length-set, length-append, length-take, take-append-drop, drop_of_length-le}
use lib.Seq.{set_out, set_comm, take-suc-set, take-set-le, drop-set-lt}
use lib.Dec.{ltb}
use borrow.Author.Tests.{ltb-true, ltb-false}
use Rattle.std.proofs.lemmas.List.{take_more}
use Rattle.text.specs.Bytes.{Text}
use Rattle.output.specs.Store.{stored, farthest, past, Wrote}

pub stored_append : (d : Text) (at : ℕ) (x y : Text) → stored d at (x ++ y) ≡ stored (stored d at x) (at + length x) y
unfolding stored
stored_append d at [] y = rw add-zero
stored_append d at (b ∷ x) y =
    let e : at + 1 + length x ≡ at + length (b ∷ x) = omega arith in
    stored_append (set d at b) (at + 1) x y ∙ rw e

pub length_stored : (d : Text) (at : ℕ) (t : Text) → length (stored d at t) ≡ length d
unfolding stored
length_stored d at [] = refl
length_stored d at (b ∷ t) = length_stored (set d at b) (at + 1) t ∙ length-set d at b

pub stored_behind : (d : Text) (at : ℕ) (t : Text) → length d ≤ at → stored d at t ≡ d
unfolding stored
stored_behind d at [] h = refl
stored_behind d at (b ∷ t) h = rw (set_out d at b h) (stored_behind d (at + 1) t (omega arith))

-- stores at two stretches, of which one lies before the other, can be made in either order
set_stored : (d : Text) (i b at : ℕ) (t : Text) → i < at → stored (set d i b) at t ≡ set (stored d at t) i b
unfolding stored
set_stored d i b at [] h = refl
set_stored d i b at (c ∷ t) h =
    rw (set_comm d i at b c (λ e. omega arith)) (set_stored (set d at c) i b (at + 1) t (omega arith))

pub stored_swap : (d : Text) (at : ℕ) (x : Text) (p : ℕ) (y : Text) → at + length x ≤ p → stored (stored d p y) at x ≡ stored (stored d at x) p y
unfolding stored
stored_swap d at [] p y h = refl
stored_swap d at (b ∷ x) p y h =
    rw (← set_stored d at b p y (omega arith)) (stored_swap (set d at b) (at + 1) x p y (omega arith))

-- what stands before the end of a stored text that fits, and what stands behind it
pub take_stored : (d : Text) (at : ℕ) (t : Text) → at + length t ≤ length d → take (at + length t) (stored d at t) ≡ take at d ++ t
unfolding stored
take_stored d at [] h = rw (add-zero, append-nil)
take_stored d at (b ∷ t) h =
    let e : at + length (b ∷ t) ≡ at + 1 + length t = omega arith in
    let l : at + 1 + length t ≤ length (set d at b) = simp length-set (omega arith) in
    rw (e, take_stored (set d at b) (at + 1) t l, add-one, take-suc-set d at b (omega arith), append_assoc)

pub drop_stored : (d : Text) (at : ℕ) (t : Text) (n : ℕ) → at + length t ≤ n → drop n (stored d at t) ≡ drop n d
unfolding stored
drop_stored d at [] n h = refl
drop_stored d at (b ∷ t) n h = drop_stored (set d at b) (at + 1) t n (omega arith) ∙ drop-set-lt n d at b (omega arith)

pub take_before : (d : Text) (at : ℕ) (t : Text) (n : ℕ) → n ≤ at → take n (stored d at t) ≡ take n d
unfolding stored
take_before d at [] n h = refl
take_before d at (b ∷ t) n h = take_before (set d at b) (at + 1) t n (omega arith) ∙ take-set-le n d at b h

-- a text stored at the start of a buffer
pub stored_front : (d t : Text) → length t ≤ length d → stored d 0 t ≡ t ++ drop (length t) d
stored_front d t h =
    let e : 0 + length t ≡ length t = omega arith in
    let a : take (length t) (stored d 0 t) ≡ t = rw e at (take_stored d 0 t (omega arith)) in
    let b : drop (length t) (stored d 0 t) ≡ drop (length t) d = drop_stored d 0 t (length t) (omega arith) in
    sym (take-append-drop (length t) (stored d 0 t)) ∙ rw (a, b)

pub stored_none : (d : Text) (at : ℕ) → stored d at [] ≡ d
unfolding stored
stored_none d at = refl

stored_one : (d : Text) (at b : ℕ) → set d at b ≡ stored d at (b ∷ [])
unfolding stored
stored_one d at b = refl

-- one byte more of a text that is stored
pub stored_next : (d d' t : Text) (at i : ℕ) → d' ≡ stored d at (take i t) → i < length t → set d' (at + i) (get_or t i 0) ≡ stored d at (take (i + 1) t)
stored_next d d' t at i e h =
    let z : length (take i t) ≡ i = length-take i t ∙ omega arith in
    sym (rw (take_more t i 0 h, stored_append, z, ← e) (sym (stored_one d' (at + i) (get_or t i 0))))

-- a text of which only what has room is stored
pub wrote_room : (d d' t : Text) (at n r : ℕ) → n ≡ min (length t) (length d - at) → d' ≡ stored d at (take n t) → r ≡ past at (length t) → Wrote d d' at t r
wrote_room d d' t at n r m g q =
    record {
      text = g ∙ sym (ap (stored d at) (sym (take-append-drop n t)) ∙ stored_append d at (take n t) (drop n t) ∙ go (ltb n (length t)) refl);
      next = q;
    }
  where
    x : Text
    x = take n t

    k : length x ≡ n
    k = length-take n t ∙ omega arith

    go : (b : Bool) → ltb n (length t) ≡ b → stored (stored d at x) (at + length x) (drop n t) ≡ stored d at x
    go true z =
        let y : n < length t = ltb-true n (length t) z in
        stored_behind (stored d at x) (at + length x) (drop n t) (rw (length_stored d at x) (omega (arith, k)))
    go false z = rw (drop_of_length-le t (ltb-false n (length t) z), stored_none)

-- One text after the other is the joined text, and nothing written is the empty text. A value that is written in pieces is built of these.
-- The room ends where positions do, so that what is counted behind it is stored nowhere.
pub wrote_none : (d : Text) (at : ℕ) → at ≤ farthest → Wrote d d at [] at
unfolding past
wrote_none d at h = record { text = sym (stored_none d at); next = omega arith }

pub wrote_then : (d d' d'' : Text) (at : ℕ) (x y : Text) (r s : ℕ) → length d ≤ farthest → Wrote d d' at x r → Wrote d' d'' r y s → Wrote d d'' at (x ++ y) s
unfolding past
wrote_then d d' d'' at x y r s h u v =
    record {
      text = v.text ∙ rw (u.text, stored_append) (go (ltb farthest (at + length x)) refl);
      next = simp length-append (omega (arith, u.next, v.next));
    }
  where
    e : Text
    e = stored d at x

    go : (t : Bool) → ltb farthest (at + length x) ≡ t → stored e r y ≡ stored e (at + length x) y
    go true z =
        let k : farthest < at + length x = ltb-true farthest (at + length x) z in
        let a : length e ≤ r = rw (length_stored d at x) (omega (arith, u.next)) in
        let b : length e ≤ at + length x = rw (length_stored d at x) (omega arith) in
        stored_behind e r y a ∙ sym (stored_behind e (at + length x) y b)
    go false z =
        let k : at + length x ≤ farthest = ltb-false farthest (at + length x) z in
        let w : r ≡ at + length x = omega (arith, u.next) in
        rw w
