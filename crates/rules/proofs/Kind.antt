-- Kinds of words by their length and first byte.
use Prim.Native.Nat.{ℕ}
use native.Mathlib.Omega.{arith}
use mathlib.Core.Path.{◌≡◌, refl}
use mathlib.Core.List.{[], ◌∷◌}
use mathlib.Core.Bool.{Bool, true, false, not, ◌||◌, ◌&&◌}
use lib.ListN.{length, get_or}
use lib.Dec.{eqb, ltb}
use borrow.Author.Tests.{ne_eqb, lt-ltb}
use Rattle.text.specs.Bytes.{Text, same, first, rest, empty}
use Rattle.rules.specs.Words.{is_equals, is_star, has_dollar, ordinary, is_group_name}

-- a word is one byte, and which
one_byte : (w : Text) (b : ℕ) → same w (b ∷ []) ≡ (eqb (length w) 1 && eqb (get_or w 0 0) b)
unfolding same
one_byte [] b = refl
one_byte (x ∷ []) b = go (eqb x b)
  where
    go : (t : Bool) → (t && true) ≡ t
    go true = refl
    go false = refl
one_byte (x ∷ y ∷ w) b = rw (ne_eqb (length (x ∷ y ∷ w)) 1 (λ e. omega arith)) (go (eqb x b))
  where
    go : (t : Bool) → (t && false) ≡ false
    go true = refl
    go false = refl

pub equals_reads : (w : Text) → is_equals w ≡ (eqb (length w) 1 && eqb (get_or w 0 0) 61)
unfolding is_equals
equals_reads w = one_byte w 61

pub star_reads : (w : Text) → is_star w ≡ (eqb (length w) 1 && eqb (get_or w 0 0) 42)
unfolding is_star
star_reads w = one_byte w 42

first_at : (w : Text) → first w ≡ get_or w 0 0
unfolding first
first_at [] = refl
first_at (b ∷ w) = refl

pub ordinary_reads : (w : Text) →
    ordinary w ≡ not ((eqb (length w) 1 && eqb (get_or w 0 0) 61)
    || (ltb 0 (length w) && (eqb (get_or w 0 0) 33 || (eqb (get_or w 0 0) 36 || eqb (get_or w 0 0) 42))))
unfolding ordinary has_dollar
ordinary_reads [] = rw (equals_reads [], first_at []) refl
ordinary_reads (b ∷ w) = rw (equals_reads (b ∷ w), first_at (b ∷ w), lt-ltb 0 (length (b ∷ w)) (omega arith)) refl

pub group_reads : (w : Text) → is_group_name w ≡ (eqb (get_or w 0 0) 36 && ltb 1 (length w))
unfolding is_group_name has_dollar first rest empty
group_reads [] = refl
group_reads (b ∷ []) = refl
group_reads (b ∷ c ∷ w) = rw (lt-ltb 1 (length (b ∷ c ∷ w)) (omega arith)) refl
