-- A text read field by field.
use Prim.Native.Nat.{ℕ, zero, suc, ◌+◌, ◌-◌, ◌≤◌}
use native.Mathlib.Omega.{arith}
use mathlib.Core.Path.{◌≡◌, refl, ap, ◌∙◌}
use mathlib.Core.List.{List, [], ◌∷◌}
use mathlib.Core.Bool.{Bool, true, false, not, cond}
use lib.Dec.{eqb, ltb}
use lib.ListN.{length, take, drop, get_or, length-drop}
use borrow.Author.Tests.{eq-eqb, ne_eqb, ltb-false}
use Rattle.std.proofs.Common.{Some, None, unwrap_or}
use Rattle.std.specs.List.{position_or_len, prefix_len}
use Rattle.std.proofs.lemmas.List.{drop-drop}
use Rattle.std.proofs.lemmas.List.Sums.{prefix_len-le-length}
use Rattle.text.specs.Bytes.{Text, part}
use Rattle.profile.specs.Profile.{push, fields}
use Rattle.profile.specs.Splitting.{behind, FieldEnd}
use Rattle.profile.proofs.Parts.{comma}

-- the clauses of the definitions

pub fields_nil : fields [] ≡ [] ∷ []
unfolding fields
fields_nil = refl

pub fields_comma : (b : ℕ) (r : Text) → b ≡ 44 → fields (b ∷ r) ≡ [] ∷ fields r
unfolding fields
fields_comma b r e = rw (eq-eqb b 44 e)

pub fields_other : (b : ℕ) (r : Text) → (b ≡ 44 → ⊥) → fields (b ∷ r) ≡ push b (fields r)
unfolding fields
fields_other b r n = rw (ne_eqb b 44 n)

pub behind_nil : behind [] ≡ []
unfolding behind
behind_nil = refl

pub behind_cons : (b : ℕ) (r : Text) → behind (b ∷ r) ≡ fields r
unfolding behind
behind_cons b r = refl

pub length_push : (b : ℕ) (fs : List Text) → 1 ≤ length fs → length (push b fs) ≡ length fs
unfolding push
length_push b [] h = absurd (omega arith)
length_push b (f ∷ fs) h = refl

some_push : (b : ℕ) (fs : List Text) → 1 ≤ length (push b fs)
unfolding push
some_push b [] = omega arith
some_push b (f ∷ fs) = omega arith

-- a text has a field
pub some_field : (t : Text) → 1 ≤ length (fields t)
unfolding fields
some_field [] = omega arith
some_field (b ∷ r) = go (eqb b 44)
  where
    go : (t : Bool) → 1 ≤ length (cond t ([] ∷ fields r) (push b (fields r)))
    go true = omega arith
    go false = some_push b (fields r)

-- the first field ends at the first comma

first_field : (t : Text) → fields t ≡ take (position_or_len comma t) t ∷ behind (drop (position_or_len comma t) t)
unfolding fields behind push
first_field [] = refl
first_field (b ∷ r) = go (eqb b 44) refl (first_field r)
  where
    go : (t : Bool) → eqb b 44 ≡ t → fields r ≡ take (position_or_len comma r) r ∷ behind (drop (position_or_len comma r) r) →
        fields (b ∷ r) ≡ take (position_or_len comma (b ∷ r)) (b ∷ r) ∷ behind (drop (position_or_len comma (b ∷ r)) (b ∷ r))
    go true e ih = rw e
    go false e ih = let z : 1 + prefix_len (λ x. not (comma x)) r ≡ suc (position_or_len comma r) = omega arith in rw (e, ih, z)

found_at : (n p l : ℕ) → Some n ≡ cond (ltb p l) (Some p) None → n ≡ p
found_at n p l e = go (ltb p l) e
  where
    go : (t : Bool) → Some n ≡ cond t (Some p) None → n ≡ p
    go true e = ap (λ o. unwrap_or o 0) e
    go false e = absurd (let z : ◌≡◌ {A = ℕ} 0 1 = cc in omega arith)

not_found : (p l : ℕ) → None ≡ cond (ltb p l) (Some p) None → l ≤ p
not_found p l e = go (ltb p l) refl e
  where
    go : (t : Bool) → ltb p l ≡ t → None ≡ cond t (Some p) None → l ≤ p
    go true z e = absurd (let z : ◌≡◌ {A = ℕ} 0 1 = cc in omega arith)
    go false z e = ltb-false p l z

-- the search of `field_end`, among the bytes l from `from` on
module _ (s : Text) (from : ℕ) (h : from ≤ length s) where
  found_end : (p : ℕ) → position_or_len comma (drop from s) ≡ p → p ≤ length s - from → FieldEnd s from (from + p)
  unfolding part
  found_end p e k =
      let z : from + p - from ≡ p = omega arith in
      record { low = omega arith; high = omega arith; split = first_field (drop from s) ∙ rw (e, z, drop-drop) }

  module _ (l : Text) (q : l ≡ drop from s) where
    all_bytes : length l ≡ length s - from
    all_bytes = rw q (length-drop from s)

    pub end_at : (n : ℕ) → Some n ≡ cond (ltb (position_or_len comma l) (length l)) (Some (position_or_len comma l)) None → FieldEnd s from (from + n)
    end_at n e =
        let z : n ≡ position_or_len comma l = found_at _ _ _ e in
        found_end n (rw (← q, z)) (rw z (omega (arith, all_bytes, prefix_len-le-length (λ x. not (comma x)) l)))

    pub end_last : None ≡ cond (ltb (position_or_len comma l) (length l)) (Some (position_or_len comma l)) None → FieldEnd s from (length s)
    end_last e =
        let z : position_or_len comma l ≡ length s - from = omega (arith, not_found _ _ e, all_bytes, prefix_len-le-length (λ x. not (comma x)) l) in
        let y : from + (length s - from) ≡ length s = omega arith in
        rw y at (found_end (length s - from) (rw (← q) z) (omega arith))

pub get_d_nil : (n : ℕ) → get_or {A = Text} [] n [] ≡ []
get_d_nil zero = refl
get_d_nil (suc n) = refl
