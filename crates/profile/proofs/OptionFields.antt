-- The options of a text, read field by field.
use Prim.Native.Nat.{ℕ, suc, ◌+◌, ◌-◌, ◌≤◌, ◌<◌}
use native.Mathlib.Omega.{arith}
use mathlib.Core.Path.{◌≡◌, refl, ap}
use mathlib.Core.List.{List, [], ◌∷◌}
use mathlib.Core.Bool.{Bool, true, false}
use lib.Dec.{ltb}
use lib.ListN.{length, drop, length-take, length-drop, drop_of_length-le}
use borrow.Author.Tests.{ltb-true, ltb-false}
use Rattle.text.specs.Bytes.{Text, empty, part}
use Rattle.text.proofs.Comparing.{drop_at}
use Rattle.text.proofs.Positions.{part_empty}
use Rattle.profile.specs.Profile.{fields, drop_empty, options_of}
use Rattle.profile.specs.Splitting.{behind, FieldEnd}
use Rattle.profile.proofs.Splitting.{fields_nil, behind_nil, behind_cons}

-- the clauses of the definitions

drop_nil : drop_empty [] ≡ []
unfolding drop_empty
drop_nil = refl

drop_field : (t : Text) (ts : List Text) → 0 < length t → drop_empty (t ∷ ts) ≡ t ∷ drop_empty ts
unfolding drop_empty empty
drop_field [] ts h = absurd (omega arith)
drop_field (b ∷ t) ts h = refl

drop_none : (ts : List Text) → drop_empty ([] ∷ ts) ≡ drop_empty ts
unfolding drop_empty empty
drop_none ts = refl

options_nil : options_of [] ≡ []
unfolding options_of
options_nil = rw (fields_nil, drop_none, drop_nil)

pub length_part : (s : Text) (a e : ℕ) → a ≤ e → e ≤ length s → length (part s a e) ≡ e - a
unfolding part
length_part s a e le h = simp (length-take, length-drop) (omega arith)

options_is : (t : Text) → options_of t ≡ drop_empty (fields t)
unfolding options_of
options_is t = refl

-- one field of the options

after : (s : Text) (e : ℕ) → drop_empty (behind (drop e s)) ≡ options_of (drop (e + 1) s)
after s e = go (ltb e (length s)) refl
  where
    go : (t : Bool) → ltb e (length s) ≡ t → drop_empty (behind (drop e s)) ≡ options_of (drop (e + 1) s)
    go true z = rw (drop_at s e (ltb-true e (length s) z), behind_cons, options_is)
    go false z =
        let h : length s ≤ e = ltb-false e (length s) z in
        let k : length s ≤ e + 1 = omega arith in
        rw (drop_of_length-le s h, drop_of_length-le s k, behind_nil, drop_nil, options_nil)

module _ (s : Text) (a e : ℕ) (f : FieldEnd s a e) where
  pub options_field : a < e → options_of (drop a s) ≡ part s a e ∷ options_of (drop (e + 1) s)
  unfolding options_of
  options_field h =
      let l : 0 < length (part s a e) = rw (length_part s a e f.low f.high) (omega arith) in
      rw (f.split, drop_field (part s a e) (behind (drop e s)) l) (ap (λ (l : List Text). part s a e ∷ l) (after s e))

  pub options_none : e ≤ a → options_of (drop a s) ≡ options_of (drop (e + 1) s)
  unfolding options_of
  options_none h =
      let z : e ≡ a = omega (arith, f.low) in
      rw f.split (rw (ap (part s a) z, part_empty, drop_none) (after s e))

-- up to a field's start n options are counted
pub record Tallied (s : Text) (n start : ℕ) : Type 0 where
  pub few : n ≤ start
  pub high : start ≤ length s + 1
  pub rest : n + length (options_of (drop start s)) ≡ length (options_of s)

options_end : (s : Text) (i : ℕ) → length s ≤ i → options_of (drop i s) ≡ []
options_end s i h = rw (drop_of_length-le s h, options_nil)

module _ (s : Text) where
  pub tallied_start : Tallied s 0 0
  tallied_start = record { few = omega arith; high = omega arith; rest = omega arith }

  module _ (n start : ℕ) (v : Tallied s n start) where
    module _ (e : ℕ) (f : FieldEnd s start e) where
      pub tallied_field : start < e → Tallied s (n + 1) (e + 1)
      tallied_field h =
          let z : length (options_of (drop start s)) ≡ suc (length (options_of (drop (e + 1) s))) = ap length (options_field s start e f h) in
          record { few = omega (arith, v.few); high = omega (arith, f.high); rest = omega (arith, v.rest) }

      pub tallied_none : e ≤ start → Tallied s n (e + 1)
      tallied_none h =
          let z : length (options_of (drop start s)) ≡ length (options_of (drop (e + 1) s)) = ap length (options_none s start e f h) in
          record { few = omega (arith, v.few, f.low); high = omega (arith, f.high); rest = omega (arith, v.rest) }

    pub tallied_end : length s ≤ start → n ≡ length (options_of s)
    tallied_end h =
        let z : length (options_of (drop start s)) ≡ 0 = ap length (options_end s start h) in
        omega (arith, v.rest)
