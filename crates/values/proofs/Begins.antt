-- A filled value's beginning is kept where its `:all` is spread: whether it is empty, plain or an addition is known before.
use Prim.Native.Nat.{ℕ, zero, suc, ◌+◌, ◌-◌, ◌≤◌}
use native.Mathlib.Omega.{arith}
use mathlib.Core.Path.{◌≡◌, refl, ap}
use mathlib.Core.List.{[], ◌∷◌, ◌++◌}
use mathlib.Core.Bool.{Bool, true, false, ◌||◌, cond}
use lib.ListN.{length, take, drop}
use lib.Dec.{eqb}
use Rattle.text.specs.Bytes.{Text, bytes, same, empty, first, concat_map}
use Rattle.text.proofs.Lists.{same_eq}
use Rattle.rules.specs.Headings.{decimal}
use Rattle.values.specs.Spread.{is_sign, signed, cuts, ends_all, stem, copy, copies, spread}
use Rattle.values.specs.Cutting.{upto}
use Rattle.values.proofs.Cuts.{beyond, cuts_piece, cuts_none}
use Rattle.values.proofs.Copying.{spread_nil}

-- a text that begins with b
pub record Begins (b : ℕ) (t : Text) : Type 0 where
  pub some : empty t ≡ false
  pub byte : first t ≡ b

begins_cons : (b : ℕ) (t : Text) → Begins b (b ∷ t)
unfolding empty first
begins_cons b t = record { some = refl; byte = refl }

begins_append : (b : ℕ) (t u : Text) → Begins b t → Begins b (t ++ u)
unfolding empty first
begins_append b [] u v = absurd (let z : ◌≡◌ {A = ℕ} 0 1 = cc in omega arith)
begins_append b (c ∷ t) u v = record { some = refl; byte = v.byte }

-- the first copy of a piece begins as what stands before `:all`, or with the colon
first_copy : (t : Text) → copy 1 t ≡ t ++ (58 ∷ decimal 1)
unfolding copy
first_copy t = go (signed t)
  where
    go : (s : Bool) → cond (s || eqb 1 1) t (43 ∷ t) ++ (58 ∷ decimal 1) ≡ t ++ (58 ∷ decimal 1)
    go true = refl
    go false = refl

copies_begin : (n b : ℕ) (t : Text) → 1 ≤ n → Begins b (t ++ (58 ∷ decimal 1)) → Begins b (copies n 1 t)
unfolding copies
copies_begin zero b t h v = absurd (omega arith)
copies_begin (suc j) b t h v = begins_append b (copy 1 t) (copies j (1 + 1) t) (rw (first_copy t) v)

stem_begins : (b : ℕ) (u : Text) → ends_all (b ∷ u) ≡ true → Begins b (stem (b ∷ u) ++ (58 ∷ decimal 1))
unfolding ends_all stem bytes
stem_begins b u e = go (length (b ∷ u) - 4) refl e
  where
    go : (n : ℕ) → length (b ∷ u) - 4 ≡ n → same (drop n (b ∷ u)) (58 ∷ 97 ∷ 108 ∷ 108 ∷ []) ≡ true → Begins b (take n (b ∷ u) ++ (58 ∷ decimal 1))
    go zero q h =
        let z = same_eq (b ∷ u) (58 ∷ 97 ∷ 108 ∷ 108 ∷ []) h in
        let c : 58 ≡ b = cc in
        rw (← c) (begins_cons 58 (decimal 1))
    go (suc n) q h = begins_cons b (take n u ++ (58 ∷ decimal 1))

spread_begins : (n b : ℕ) (u : Text) → 1 ≤ n → Begins b (spread n (b ∷ u))
unfolding spread
spread_begins n b u h = go (ends_all (b ∷ u)) refl
  where
    go : (t : Bool) → ends_all (b ∷ u) ≡ t → Begins b (cond t (copies n 1 (stem (b ∷ u))) (b ∷ u))
    go true e = copies_begin n b (stem (b ∷ u)) h (stem_begins b u e)
    go false e = begins_cons b u

value_begins : (n b : ℕ) (r : Text) → 1 ≤ n → Begins b (concat_map (spread n) (cuts (b ∷ r)))
value_begins n b r h =
    rw (cuts_piece (spread n) b r (spread_nil n))
    (begins_append b (spread n (b ∷ upto r)) (concat_map (spread n) (cuts (beyond r))) (spread_begins n b (upto r) h))

-- for a layout count, which is 1 or more
pub spread_empty : (n : ℕ) (t : Text) → 1 ≤ n → empty (concat_map (spread n) (cuts t)) ≡ empty t
unfolding empty
spread_empty n [] h = rw (cuts_none (spread n) (spread_nil n))
spread_empty n (b ∷ r) h = (value_begins n b r h).some

pub spread_first : (n : ℕ) (t : Text) → 1 ≤ n → first (concat_map (spread n) (cuts t)) ≡ first t
unfolding first
spread_first n [] h = rw (cuts_none (spread n) (spread_nil n))
spread_first n (b ∷ r) h = (value_begins n b r h).byte

pub spread_signed : (n : ℕ) (t : Text) → 1 ≤ n → signed (concat_map (spread n) (cuts t)) ≡ signed t
unfolding signed
spread_signed n t h = ap is_sign (spread_first n t h)
