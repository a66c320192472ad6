-- The sheet of lengths: what is written is read back, and a component's code fits 64 bits.
use Prim.Native.Nat.{ℕ, zero, suc, ◌+◌, ◌*◌, ◌-◌, ◌/◌, ◌%◌, ◌^◌, ◌≤◌, ◌<◌}
use native.Mathlib.Nat.{div-div-eq-div-mul}
use native.Mathlib.Omega.{arith}
use mathlib.Core.Path.{◌≡◌, refl, sym, ap, ◌∙◌}
use mathlib.Core.List.{List, [], ◌∷◌, ◌++◌, map, append_assoc}
use mathlib.Core.Bool.{Bool, true, false, ◌||◌, cond}
use lib.ListN.{length, take, drop, length-append, length-drop, length-map}
use lib.Seq.{get_or-append-add, drop_at, take_all}
use lib.Dec.{leb, ltb}
use borrow.Author.Tests.{lt-ltb, le-ltb, le-leb, lt-leb, leb-false}
use Rattle.text.specs.Bytes.{Text, concat_map}
use Rattle.answers.specs.Answer.{sum, total, accepted, stretch_start, stretch_length}
use Rattle.answers.proofs.Stretch.{sum_take, in_order}
use Rattle.xkbrules.specs.Sheet.{sheet_length, little_endian, sheet_after, number_at, numbers_from, lengths_in, component_code}

-- a number in four bytes

nested : (x q r t : ℕ) → x < 2 ^ 32 → q ≡ x / 256 → r ≡ q / 256 → t ≡ r / 256 →
    x % 256 + 256 * (q % 256) + 65536 * (r % 256) + 16777216 * (t % 256) ≡ x
nested x q r t h a b c = omega arith

read_back : (x : ℕ) (s : Text) → x < 2 ^ 32 → number_at (little_endian x ++ s) 0 ≡ x
unfolding number_at little_endian
read_back x s h =
    nested x (x / 256) (x / 65536) (x / 16777216) h refl (sym (div-div-eq-div-mul x 256 256)) (sym (div-div-eq-div-mul x 65536 256))

-- the numbers behind four bytes

number_behind : (x : ℕ) (s : Text) (i : ℕ) → number_at (little_endian x ++ s) (i + 4) ≡ number_at s i
unfolding number_at little_endian
number_behind x s i =
    let p = little_endian x in
    let a : i + 4 ≡ 4 + i = omega arith in
    let b : i + 4 + 1 ≡ 4 + (i + 1) = omega arith in
    let c : i + 4 + 2 ≡ 4 + (i + 2) = omega arith in
    let d : i + 4 + 3 ≡ 4 + (i + 3) = omega arith in
    rw (b, c, d, a, get_or-append-add p s i 0, get_or-append-add p s (i + 1) 0, get_or-append-add p s (i + 2) 0, get_or-append-add p s (i + 3) 0)

numbers_behind : (x : ℕ) (s : Text) (i n : ℕ) → numbers_from (little_endian x ++ s) (i + 4) n ≡ numbers_from s i n
unfolding numbers_from
numbers_behind x s i zero = refl
numbers_behind x s i (suc n) = rw (number_behind x s i, numbers_behind x s (i + 4) n)

pub numbers_back : (ns : List ℕ) (s : Text) → sum ns < 2 ^ 32 → numbers_from (concat_map little_endian ns ++ s) 0 (length ns) ≡ ns
unfolding numbers_from concat_map sum
numbers_back [] s h = refl
numbers_back (x ∷ ns) s h =
    let a : x < 2 ^ 32 = omega arith in
    let b : sum ns < 2 ^ 32 = omega arith in
    let e : concat_map little_endian (x ∷ ns) ++ s ≡ little_endian x ++ (concat_map little_endian ns ++ s) = append_assoc (little_endian x) (concat_map little_endian ns) s in
    let f : number_at (concat_map little_endian (x ∷ ns) ++ s) 0 ≡ x = ap (λ (u : Text). number_at u 0) e ∙ read_back x (concat_map little_endian ns ++ s) a in
    let g : numbers_from (concat_map little_endian (x ∷ ns) ++ s) (0 + 4) (length ns) ≡ ns =
    ap (λ (u : Text). numbers_from u (0 + 4) (length ns)) e ∙ numbers_behind x (concat_map little_endian ns ++ s) 0 (length ns) ∙ numbers_back ns s b in
    rw f (ap (λ (u : List ℕ). x ∷ u) g)

pub written_length : (ns : List ℕ) → length (concat_map little_endian ns) ≡ 4 * length ns
unfolding concat_map little_endian
written_length [] = refl
written_length (x ∷ ns) = omega (arith, written_length ns)

-- the sheet after ten texts

module _ (s : Text) (ts : List Text) (ten : length ts ≡ 10) where
  forty : length (concat_map little_endian (map length ts)) ≡ sheet_length
  forty = written_length (map length ts) ∙ (rw (length-map ts (length {A = ℕ}), ten))

  pub sheet_lengths : total ts < 2 ^ 32 → lengths_in (sheet_after s (accepted ts)) ≡ map length ts
  unfolding lengths_in sheet_after total
  sheet_lengths h =
      let e : length (map length ts) ≡ 10 = length-map ts length ∙ ten in
      rw e at (numbers_back (map length ts) (drop sheet_length s) h)

  pub sheet_later : drop sheet_length (sheet_after s (accepted ts)) ≡ drop sheet_length s
  unfolding sheet_after
  sheet_later = drop_at (concat_map little_endian (map length ts)) (drop sheet_length s) sheet_length forty

  pub sheet_long : sheet_length ≤ length s → length (sheet_after s (accepted ts)) ≡ length s
  unfolding sheet_after
  sheet_long h = simp (length-append, length-drop) (omega (arith, forty))

-- a component's code

untold : (a b c d : Bool) (n m : ℕ) → 0 < m → (d ≡ false → n < m) → cond (a || (b || (c || d))) 0 n < m
untold true b c d n m z f = z
untold false true c d n m z f = z
untold false false true d n m z f = z
untold false false false true n m z f = z
untold false false false false n m z f = f refl

pub code_fits : (room : ℕ) (s : Text) (c : ℕ) → component_code room s c < 2 ^ 64
unfolding component_code stretch_start stretch_length
code_fits room s c =
    let ns = lengths_in s in
    untold (ltb 4 c) (ltb (length s) sheet_length) (ltb room (sum ns)) (leb (2 ^ 32) (sum ns)) _ (2 ^ 64) (omega arith)
    (λ e. omega (arith, leb-false (2 ^ 32) (sum ns) e, sum_take (2 * c) ns, sum_take (2 * (c + 1)) ns))

-- a component's code as it is found, test by test: n is the sum of the ten lengths ns

pub code_number : (room : ℕ) (s : Text) (c : ℕ) → 4 < c → 0 ≡ component_code room s c
unfolding component_code
code_number room s c h = rw (lt-ltb 4 c h)

pub code_sheet : (room : ℕ) (s : Text) (c : ℕ) → c ≤ 4 → length s < sheet_length → 0 ≡ component_code room s c
unfolding component_code
code_sheet room s c h k = rw (le-ltb 4 c h, lt-ltb (length s) sheet_length k)

pub numbers_length : (s : Text) (i n : ℕ) → length (numbers_from s i n) ≡ n
unfolding numbers_from
numbers_length s i zero = refl
numbers_length s i (suc n) = ap suc (numbers_length s (i + 4) n)

module _ (room : ℕ) (s : Text) (c : ℕ) (ns : List ℕ) (n : ℕ) (few : c ≤ 4) (long : sheet_length ≤ length s) (held : ns ≡ lengths_in s) (summed : n ≡ sum (take 10 ns)) where
  whole : n ≡ sum (lengths_in s)
  unfolding lengths_in
  whole = summed ∙ rw held (ap sum (take_all 10 (lengths_in s) (omega (arith, numbers_length s 0 10))))

  pub code_texts : room < n → 0 ≡ component_code room s c
  unfolding component_code
  code_texts h = rw (le-ltb 4 c few, le-ltb (length s) sheet_length long, lt-ltb room (sum (lengths_in s)) (omega (arith, whole)))

  pub code_wide : n ≤ room → 2 ^ 32 ≤ n → 0 ≡ component_code room s c
  unfolding component_code
  code_wide h k =
      rw (
        le-ltb 4 c few,
        le-ltb (length s) sheet_length long,
        le-ltb room (sum (lengths_in s)) (omega (arith, whole)),
        le-leb (2 ^ 32) (sum (lengths_in s)) (omega (arith, whole)),
      )

  module _ (a e : ℕ) (start : a ≡ sum (take (2 * c) ns)) (end : e ≡ sum (take (2 * c + 2) ns)) where
    pub code_bounds : n < 2 ^ 32 → (a ≤ e) × (e < 2 ^ 32)
    unfolding lengths_in
    code_bounds h =
        (in_order [] ns c n (rw held (numbers_length s 0 10)) summed a e start end, rw (end, held) (omega (arith, whole, sum_take (2 * c + 2) (lengths_in s))))

    pub code_found : n ≤ room → n < 2 ^ 32 → a * 2 ^ 32 + (e - a) ≡ component_code room s c
    unfolding component_code stretch_start stretch_length
    code_found h k =
        let d : 2 * (c + 1) ≡ 2 * c + 2 = omega arith in
        rw (
          le-ltb 4 c few,
          le-ltb (length s) sheet_length long,
          le-ltb room (sum (lengths_in s)) (omega (arith, whole)),
          lt-leb (2 ^ 32) (sum (lengths_in s)) (omega (arith, whole)),
          ← held,
          d,
          ← start,
          ← end,
        )
