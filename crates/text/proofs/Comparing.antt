-- Two texts compared byte by byte.
use Prim.Native.Nat.{ℕ, suc, ◌+◌, ◌<◌}
use native.Mathlib.Numerals.{add-one}
use native.Mathlib.Omega.{arith}
use mathlib.Core.Path.{◌≡◌, refl, ap}
use mathlib.Core.List.{[], ◌∷◌}
use mathlib.Core.Bool.{Bool, true, false, ◌&&◌}
use lib.ListN.{length, drop, get_or}
use lib.Seq.{drop-cons}
use lib.Dec.{eqb}
use Rattle.std.specs.Cmp.Lexicographic.{pointwise}
use Rattle.text.specs.Bytes.{Text, same}
use Rattle.text.proofs.Lists.{same_eq}

pub drop_at : (s : Text) (i : ℕ) → i < length s → drop i s ≡ get_or s i 0 ∷ drop (i + 1) s
drop_at s i h = rw add-one (drop-cons s i 0 h)

-- as the library compares them
pub pointwise_same : (s t : Text) → pointwise eqb s t ≡ same s t
unfolding same
pointwise_same [] [] = refl
pointwise_same [] (c ∷ t) = refl
pointwise_same (b ∷ s) [] = refl
pointwise_same (b ∷ s) (c ∷ t) = rw (pointwise_same s t)

pub same_length : (s t : Text) → (length s ≡ length t → ⊥) → same s t ≡ false
unfolding same
same_length [] [] h = absurd (h refl)
same_length [] (c ∷ t) h = refl
same_length (b ∷ s) [] h = refl
same_length (b ∷ s) (c ∷ t) h = go (eqb b c) (same_length s t (λ e. h (ap suc e)))
  where
    go : (x : Bool) → same s t ≡ false → x && same s t ≡ false
    go true e = e
    go false e = refl

pub same_none : (s t : Text) → length s ≡ length t → length s ≡ 0 → same s t ≡ true
unfolding same
same_none [] [] h k = refl
same_none [] (c ∷ t) h k = absurd (omega arith)
same_none (b ∷ s) t h k = absurd (omega arith)

-- texts that differ at a place are not the same
pub same_differ : (s t : Text) (i : ℕ) → (get_or s i 0 ≡ get_or t i 0 → ⊥) → same s t ≡ false
same_differ s t i h = go (same s t) refl
  where
    go : (x : Bool) → same s t ≡ x → same s t ≡ false
    go true e = absurd (h (ap (λ (y : Text). get_or y i 0) (same_eq s t e)))
    go false e = e
