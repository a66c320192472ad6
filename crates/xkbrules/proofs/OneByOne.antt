-- Lengths written into a sheet one by one, k of them, and ten read from it one by one.
use Prim.Native.Nat.{ℕ, zero, suc, ◌+◌, ◌*◌, ◌≤◌, ◌<◌}
use native.Mathlib.Nat.{add-zero}
use native.Mathlib.Numerals.{add-one}
use native.Mathlib.Omega.{arith}
use mathlib.Core.Path.{◌≡◌, refl, sym, ap, ◌∙◌}
use mathlib.Core.List.{List, [], ◌∷◌, ◌++◌, append_assoc, append-nil}
use lib.ListN.{length, take, drop, set, get_or}
use lib.Seq.{take-suc, take-suc-set, take_all, take_at, drop-append-add, drop-drop, length-take-le}
use Rattle.text.specs.Bytes.{Text, concat_map}
use Rattle.text.proofs.Lists.{concat_append}
use Rattle.xkbrules.specs.Sheet.{little_endian, number_at, numbers_from, lengths_in}
use Rattle.xkbrules.proofs.Sheet.{written_length}

-- a sheet that held s, after the first i numbers
unfoldable pub put_to : Text → List ℕ → ℕ → Text
put_to s ns i = concat_map little_endian (take i ns) ++ drop (4 * i) s

module _ (s : Text) (ns : List ℕ) where
  pub put_none : s ≡ put_to s ns 0
  unfolding put_to concat_map
  put_none = refl

  -- one number more
  pub put_more : (k i x : ℕ) (r r' : Text) → length ns ≡ k → i < k → x ≡ get_or ns i 0 → r ≡ put_to s ns i →
      r' ≡ take (4 * i) r ++ (little_endian x ++ drop (4 * i + 4) r) → r' ≡ put_to s ns (i + 1)
  unfolding put_to concat_map
  put_more k i x r r' all h v e p =
      let w = concat_map little_endian (take i ns) in
      let l : length w ≡ 4 * i = written_length (take i ns) ∙ ap (λ n. 4 * n) (length-take-le i ns (omega arith)) in
      let t : take (4 * i) r ≡ w = ap (take (4 * i)) e ∙ take_at w (drop (4 * i) s) (4 * i) l in
      let n : 4 * i + 4 ≡ 4 * (i + 1) = omega arith in
      let d : drop (4 * i + 4) r ≡ drop (4 * (i + 1)) s =
      ap (drop (4 * i + 4)) e ∙ ap (λ n. drop (n + 4) (w ++ drop (4 * i) s)) (sym l) ∙ drop-append-add w (drop (4 * i) s) 4 ∙ drop-drop 4 (4 * i) s
      ∙ ap (λ n. drop n s) n in
      let m : concat_map little_endian (take (i + 1) ns) ≡ w ++ little_endian x =
      ap (λ n. concat_map little_endian (take n ns)) (add-one i) ∙ ap (concat_map little_endian) (take-suc ns i 0 (omega arith))
      ∙ concat_append little_endian (take i ns) (get_or ns i 0 ∷ []) ∙ rw (v, append-nil (little_endian (get_or ns i 0))) in
      p ∙ rw (t, d, m, append_assoc w (little_endian x) (drop (4 * (i + 1)) s))

  pub put_all : (k i : ℕ) (r : Text) → length ns ≡ k → i ≤ k → k ≤ i → r ≡ put_to s ns i → r ≡ concat_map little_endian ns ++ drop (4 * k) s
  unfolding put_to
  put_all k i r all h l e = let z : i ≡ k = omega arith in e ∙ rw (z, take_all k ns (omega arith))

-- the numbers up to one more
numbers_more : (s : Text) (a n : ℕ) → numbers_from s a (suc n) ≡ numbers_from s a n ++ (number_at s (a + 4 * n) ∷ [])
unfolding numbers_from
numbers_more s a zero = rw (add-zero a)
numbers_more s a (suc n) = let e : a + 4 + 4 * n ≡ a + 4 * suc n = omega arith in ap (λ r. number_at s a ∷ r) (numbers_more s (a + 4) n ∙ rw e)

module _ (s : Text) where
  pub read_none : (ns : List ℕ) → take 0 ns ≡ numbers_from s 0 0
  unfolding numbers_from
  read_none ns = refl

  pub read_more : (ns : List ℕ) (i x : ℕ) → length ns ≡ 10 → i < 10 → take i ns ≡ numbers_from s 0 i → x ≡ number_at s (4 * i) →
      take (i + 1) (set ns i x) ≡ numbers_from s 0 (i + 1)
  read_more ns i x ten h e v =
      let z : 0 + 4 * i ≡ 4 * i = omega arith in
      rw (add-one i, numbers_more s 0 i, z, ← v, ← e) (take-suc-set ns i x (omega arith))

  pub read_all : (ns : List ℕ) (i : ℕ) → length ns ≡ 10 → i ≤ 10 → 10 ≤ i → take i ns ≡ numbers_from s 0 i → ns ≡ lengths_in s
  unfolding lengths_in
  read_all ns i ten h k e = let z : i ≡ 10 = omega arith in sym (take_all 10 ns (omega arith)) ∙ (rw z at e)

-- a sheet of k numbers, whose size is named
pub sheet_put : (s s' : Text) (ns : List ℕ) (k : ℕ) → length ns ≡ k → s' ≡ concat_map little_endian ns ++ drop (4 * length ns) s → s' ≡ concat_map little_endian ns ++ drop (4 * k) s
sheet_put s s' ns k all e = e ∙ rw all
