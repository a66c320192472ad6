-- What the keys of two names tell.
use Prim.Native.Nat.{ℕ}
use native.Mathlib.Omega.{arith}
use mathlib.Core.Path.{◌≡◌, refl, sym, ap, ◌∙◌}
use mathlib.Core.List.{[], ◌∷◌}
use mathlib.Core.Bool.{Bool, true, false}
use lib.ListN.{length}
use Rattle.text.specs.Bytes.{Text, same}
use Rattle.text.proofs.Lists.{same_eq}
use Rattle.listing.specs.Names.{key_of}

pub key_none : (w : Text) → length w ≡ 0 → 0 ≡ key_of w
unfolding key_of
key_none [] e = refl
key_none (b ∷ w) e = absurd (omega arith)

-- names with other keys are not the same
pub other_key : (w x : Text) (k l : ℕ) → k ≡ key_of x → l ≡ key_of w → (k ≡ l → ⊥) → false ≡ same w x
other_key w x k l p q d = by (same w x) refl
  where
    by : (b : Bool) → same w x ≡ b → false ≡ same w x
    by false e = sym e
    by true e = absurd (d (p ∙ (sym (ap key_of (same_eq w x e)) ∙ sym q)))
