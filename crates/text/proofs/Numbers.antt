-- Each refusal has a number of document 01; a test that refuses nothing does not hold.
use Prim.Native.Nat.{ℕ, ◌≤◌, ◌<◌}
use native.Mathlib.Omega.{arith}
use mathlib.Core.Path.{◌≡◌, refl}
use mathlib.Core.List.{[], ◌∷◌}
use mathlib.Core.Bool.{Bool, true, false, not, cond}
use lib.Dec.{eqb, ltb}
use borrow.Author.Tests.{ltb-true, ltb-false}
use Rattle.text.specs.Bytes.{Words, all_of, any_of}
use Rattle.text.specs.Words.{bad_byte, too_long, words_fault}
use Rattle.text.specs.Refusals.{refused_if, refused_as, is_number, has_number}

pub if_number : (t : Bool) (n p : ℕ) → is_number n ≡ true → all_of has_number (refused_if t n p) ≡ true
unfolding refused_if all_of has_number
if_number true n p h = rw h
if_number false n p h = refl

pub clear_if : (t : Bool) (n p : ℕ) → refused_if t n p ≡ [] → t ≡ false
unfolding refused_if
clear_if true n p h = cc
clear_if false n p h = refl

-- a number that is 0 or one of document 01's
pub as_number : (n p : ℕ) → cond (eqb n 0) true (is_number n) ≡ true → all_of has_number (refused_as n p) ≡ true
unfolding refused_as refused_if all_of has_number
as_number n p h = go (eqb n 0) h
  where
    go : (t : Bool) → cond t true (is_number n) ≡ true → all_of has_number (cond (not t) (record { number = n; place = p } ∷ []) []) ≡ true
    go true k = refl
    go false k = rw k

pub words_number : (ws : Words) → cond (eqb (words_fault ws) 0) true (is_number (words_fault ws)) ≡ true
unfolding words_fault is_number
words_number ws = go (any_of (any_of bad_byte) ws) (any_of too_long ws)
  where
    go : (t u : Bool) → cond (eqb (cond t 4 (cond u 5 0)) 0) true (is_number (cond t 4 (cond u 5 0))) ≡ true
    go true u = refl
    go false true = refl
    go false false = refl

-- at most, and not equal
pub below_or : (x y : ℕ) → x ≤ y → (x ≡ y → ⊥) → x < y
below_or x y l d = by (ltb x y) refl
  where
    by : (u : Bool) → ltb x y ≡ u → x < y
    by true z = ltb-true x y z
    by false z = absurd (d (let k = ltb-false x y z in omega arith))
