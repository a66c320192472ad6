-- The fields of a text walked byte by byte: what is left to be judged of it, and to be counted.
use Rattle.std.proofs.Common.{ℕ, suc, ◌+◌, ◌-◌, ◌≤◌, ◌<◌, ◌≡◌, refl, sym, ap, ◌∙◌, [], ◌∷◌, Bool, true, false, ◌||◌, length, arith}
use mathlib.Core.List.{List}
use mathlib.Core.Bool.{cond}
use lib.ListN.{drop, get_or, drop_of_length-le}
use lib.Dec.{eqb, ltb}
use borrow.Author.Tests.{ne_eqb, eq-eqb, lt-ltb, le-ltb}
use Rattle.std.proofs.Math.Bool.{or-false, or_assoc}
use Rattle.text.specs.Limits.{longest_field, longest_text}
use Rattle.text.specs.Bytes.{Text, any_of}
use Rattle.text.proofs.Comparing.{drop_at}
use Rattle.profile.specs.Profile.{push, fields}
use Rattle.profile.specs.Refusals.{outside, long_field, bad_text}
use Rattle.profile.proofs.Splitting.{fields_nil, fields_comma, fields_other, length_push, some_field}

-- a byte is outside, or a field is long, of a text whose first field has n bytes more
unfoldable pub bad_from : ℕ → Text → Bool
bad_from n [] = ltb longest_field n
bad_from n (b ∷ r) = outside b || cond (eqb b 44) (ltb longest_field n || bad_from 0 r) (bad_from (n + 1) r)

-- a field is long, of which the first has n bytes more
unfoldable pub long_from : ℕ → List Text → Bool
long_from n [] = ltb longest_field n
long_from n (f ∷ fs) = ltb longest_field (n + length f) || any_of long_field fs

or_turn : (o l a m : Bool) → o || (l || (a || m)) ≡ (o || a) || (l || m)
or_turn true l a m = refl
or_turn false true true m = refl
or_turn false true false m = refl
or_turn false false a m = refl

long_all : (fs : List Text) → 1 ≤ length fs → long_from 0 fs ≡ any_of long_field fs
unfolding long_from any_of long_field
long_all [] h = absurd (omega arith)
long_all (f ∷ fs) h = let e : 0 + length f ≡ length f = omega arith in rw e refl

from_comma : (n : ℕ) (t : Text) → long_from n ([] ∷ fields t) ≡ ltb longest_field n || long_from 0 (fields t)
unfolding long_from
from_comma n t = let e : n + 0 ≡ n = omega arith in rw (long_all (fields t) (some_field t), e) refl

from_byte : (n b : ℕ) (fs : List Text) → long_from n (push b fs) ≡ long_from (n + 1) fs
unfolding long_from push any_of
from_byte n b [] = or-false (ltb longest_field (n + 1))
from_byte n b (f ∷ fs) = let e : n + length (b ∷ f) ≡ n + 1 + length f = omega arith in ap (λ (k : ℕ). ltb longest_field k || any_of long_field fs) e

pub bad_is : (n : ℕ) (t : Text) → bad_from n t ≡ any_of outside t || long_from n (fields t)
unfolding bad_from any_of fields long_from
bad_is n [] = let e : n + 0 ≡ n = omega arith in sym (rw e (or-false (ltb longest_field n)))
bad_is n (b ∷ r) = go (λ m. bad_is m r) (eqb b 44)
  where
    go : ((m : ℕ) → bad_from m r ≡ any_of outside r || long_from m (fields r)) → (c : Bool) →
        outside b || cond c (ltb longest_field n || bad_from 0 r) (bad_from (n + 1) r) ≡ (outside b || any_of outside r) || long_from n (cond c ([] ∷ fields r) (push b (fields r)))
    go f true = rw (f 0, from_comma n r) (or_turn (outside b) (ltb longest_field n) (any_of outside r) (long_from 0 (fields r)))
    go f false = rw (f (n + 1), from_byte n b (fields r)) (sym (or_assoc (outside b) (any_of outside r) (long_from (n + 1) (fields r))))

pub bad_short : (t : Text) → length t ≤ longest_text → bad_text t (fields t) ≡ bad_from 0 t
unfolding bad_text
bad_short t h = rw (le-ltb longest_text (length t) h) (sym (bad_is 0 t ∙ ap (λ (a : Bool). any_of outside t || a) (long_all (fields t) (some_field t))))

pub bad_long : (t : Text) → longest_text < length t → true ≡ bad_text t (fields t)
unfolding bad_text
bad_long t h = rw (lt-ltb longest_text (length t) h) refl

-- up to the byte i nothing is bad, and the field that goes on began at `start`
pub record Walked (t : Text) (start i : ℕ) : Type 0 where
  pub low : start ≤ i
  pub left : bad_from (i - start) (drop i t) ≡ bad_from 0 t

pub walked_start : (t : Text) → Walked t 0 0
walked_start t = record { low = omega arith; left = refl }

pub walked_end : (t : Text) (start i : ℕ) → Walked t start i → i ≤ length t → length t ≤ i → ltb longest_field (length t - start) ≡ bad_from 0 t
unfolding bad_from
walked_end t start i v l h =
    let z : i ≡ length t = omega arith in
    rw (drop_of_length-le t h, z) at v.left

module _ (t : Text) (start i : ℕ) (v : Walked t start i) (h : i < length t) where
  abbrev byte : ℕ
  byte = get_or t i 0

  next : outside byte || cond (eqb byte 44) (ltb longest_field (i - start) || bad_from 0 (drop (i + 1) t)) (bad_from (i - start + 1) (drop (i + 1) t)) ≡ bad_from 0 t
  unfolding bad_from
  next = rw (drop_at t i h) at v.left

  pub walked_bad : outside byte ≡ true → true ≡ bad_from 0 t
  walked_bad e = rw e at next

  module _ (fine : outside byte ≡ false) where
    pub walked_long : byte ≡ 44 → longest_field < i - start → true ≡ bad_from 0 t
    walked_long e l = rw (fine, eq-eqb byte 44 e, lt-ltb longest_field (i - start) l) at next

    pub walked_comma : byte ≡ 44 → i - start ≤ longest_field → Walked t (i + 1) (i + 1)
    walked_comma e l =
        let z : i + 1 - (i + 1) ≡ 0 = omega arith in
        record { low = omega arith; left = rw z (rw (fine, eq-eqb byte 44 e, le-ltb longest_field (i - start) l) at next) }

    pub walked_byte : (byte ≡ 44 → ⊥) → Walked t start (i + 1)
    walked_byte e =
        let z : i + 1 - start ≡ i - start + 1 = omega (arith, v.low) in
        record { low = omega (arith, v.low); left = rw z (rw (fine, ne_eqb byte 44 e) at next) }

-- up to the byte i the fields are counted, the one that goes on with them
pub record Counted (t : Text) (i n : ℕ) : Type 0 where
  pub few : n ≤ i + 1
  pub left : n + length (fields (drop i t)) ≡ length (fields t) + 1

pub counted_start : (t : Text) → Counted t 0 1
counted_start t = record { few = omega arith; left = omega arith }

module _ (t : Text) (i n : ℕ) (v : Counted t i n) where
  pub counted_comma : i < length t → get_or t i 0 ≡ 44 → Counted t (i + 1) (n + 1)
  counted_comma h e =
      let k : length (fields (drop i t)) ≡ suc (length (fields (drop (i + 1) t))) = ap (λ (s : Text). length (fields s)) (drop_at t i h) ∙ ap length (fields_comma _ _ e) in
      record { few = omega (arith, v.few); left = omega (arith, v.left, k) }

  pub counted_byte : i < length t → (get_or t i 0 ≡ 44 → ⊥) → Counted t (i + 1) n
  counted_byte h e =
      let k : length (fields (drop i t)) ≡ length (fields (drop (i + 1) t)) =
      ap (λ (s : Text). length (fields s)) (drop_at t i h) ∙ (ap length (fields_other _ _ e) ∙ length_push _ _ (some_field (drop (i + 1) t))) in
      record { few = omega (arith, v.few); left = omega (arith, v.left, k) }

  pub counted_end : length t ≤ i → n ≡ length (fields t)
  counted_end h =
      let k : length (fields (drop i t)) ≡ 1 = ap (λ (s : Text). length (fields s)) (drop_of_length-le t h) ∙ ap length fields_nil in
      omega (arith, v.left, k)
