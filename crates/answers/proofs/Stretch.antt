-- One component of the buffer after an answer: its base, then its additions.
use Prim.Native.Nat.{ℕ, zero, suc, ◌+◌, ◌*◌, ◌-◌, ◌≤◌, ◌<◌}
use native.Mathlib.Nat.{zero-add, sub-zero}
use native.Mathlib.Omega.{arith}
use mathlib.Core.Path.{◌≡◌, refl, sym, ap, ◌∙◌}
use mathlib.Core.List.{List, [], ◌∷◌, ◌++◌, map, append_assoc, append-nil}
use mathlib.Core.Bool.{Bool, true, false, ◌||◌, cond}
use lib.ListN.{length, take, drop, get_or, length-append}
use lib.Seq.{take_all, take-nil, take-append-add, drop-append-add}
use lib.Dec.{ltb}
use borrow.Author.Tests.{lt-ltb, le-ltb}
use Rattle.std.specs.List.{sum as std_sum, sum_by}
use Rattle.std.proofs.lemmas.List.Sums.{sum_by-cons, sum-map}
use Rattle.text.specs.Bytes.{Text}
use Rattle.answers.specs.Answer.{sum, joined, total, accepted, lengths_of, buffer_after, stretch_start, stretch_length, stretch}

-- sums

-- in std's words
sum_cons : (ns : List ℕ) → sum_by (λ x. x) ns ≡ sum ns
unfolding sum
sum_cons [] = refl
sum_cons (x ∷ ns) = sum_by-cons (λ x. x) x ns ∙ rw (sum_cons ns)

pub sum_is : (ns : List ℕ) → std_sum (map (λ x. x) ns) ≡ sum ns
sum_is ns = sum-map (λ x. x) ns ∙ sum_cons ns

pub sum_take : (n : ℕ) (ns : List ℕ) → sum (take n ns) ≤ sum ns
unfolding sum
sum_take zero ns = omega arith
sum_take (suc n) [] = omega arith
sum_take (suc n) (x ∷ ns) = omega (arith, sum_take n ns)

sum_suc : (n : ℕ) (ns : List ℕ) → n < length ns → sum (take n ns) + get_or ns n 0 ≡ sum (take (n + 1) ns)
unfolding sum
sum_suc n [] h = absurd (omega arith)
sum_suc zero (x ∷ ns) h = omega arith
sum_suc (suc n) (x ∷ ns) h =
    let s : suc n + 1 ≡ suc (n + 1) = omega arith in
    rw s (omega (arith, sum_suc n ns (omega arith)))

pub sum_next : (m v i k : ℕ) (ns : List ℕ) → length ns ≡ k → m ≡ sum (take i ns) → v ≡ get_or ns i 0 → i < k → m + v ≡ sum (take (i + 1) ns)
sum_next m v i k ns l e g h = rw (e, g) (sum_suc i ns (omega arith))

sum_more : (i : ℕ) (ns : List ℕ) → sum (take i ns) ≤ sum (take (i + 2) ns)
unfolding sum
sum_more i [] = rw (take-nil {A = ℕ} i, take-nil {A = ℕ} (i + 2)) (omega arith)
sum_more zero (x ∷ ns) = omega arith
sum_more (suc i) (x ∷ ns) = let s : suc i + 2 ≡ suc (i + 2) = omega arith in rw s (omega (arith, sum_more i ns))

pub joined_length : (ts : List Text) → length (joined ts) ≡ total ts
unfolding joined total sum
joined_length [] = refl
joined_length (t ∷ ts) = length-append t (joined ts) ∙ ap (λ n. length t + n) (joined_length ts)

-- of joined texts, the first k; and k behind the first n

take_texts : (k : ℕ) (ts : List Text) (r : Text) → take (sum (take k (map length ts))) (joined ts ++ r) ≡ joined (take k ts)
unfolding sum joined
take_texts zero ts r = refl
take_texts (suc k) [] r = refl
take_texts (suc k) (t ∷ ts) r =
    rw (append_assoc t (joined ts) r, take-append-add t (joined ts ++ r) (sum (take k (map length ts))), take_texts k ts r)

some_texts : (n k : ℕ) (ts : List Text) (r : Text) →
    take (sum (take (n + k) (map length ts)) - sum (take n (map length ts))) (drop (sum (take n (map length ts))) (joined ts ++ r)) ≡ joined (take k (drop n ts))
unfolding sum joined
some_texts zero k ts r = rw (zero-add k, sub-zero (sum (take k (map length ts)))) (take_texts k ts r)
some_texts (suc n) k [] r = let s : suc n + k ≡ suc (n + k) = omega arith in rw (s, take-nil {A = Text} k)
some_texts (suc n) k (t ∷ ts) r =
    let s : suc n + k ≡ suc (n + k) = omega arith in
    let e : length t + sum (take (n + k) (map length ts)) - (length t + sum (take n (map length ts))) ≡ sum (take (n + k) (map length ts)) - sum (take n (map length ts)) =
    omega arith in
    rw (s, append_assoc t (joined ts) r, drop-append-add t (joined ts ++ r) (sum (take n (map length ts))), e) (some_texts n k ts r)

two_texts : (n : ℕ) (ts : List Text) → joined (take 2 (drop n ts)) ≡ get_or ts n [] ++ get_or ts (n + 1) []
unfolding joined
two_texts zero [] = refl
two_texts zero (t ∷ []) = refl
two_texts zero (t ∷ u ∷ ts) = rw (append-nil u)
two_texts (suc n) [] = refl
two_texts (suc n) (t ∷ ts) = let s : suc n + 1 ≡ suc (n + 1) = omega arith in rw s (two_texts n ts)

-- the stretch of a component

pub stretch_texts : (d : Text) (ts : List Text) (c : ℕ) → c ≤ 4 →
    stretch (buffer_after d (accepted ts)) (lengths_of (accepted ts)) c ≡ get_or ts (2 * c) [] ++ get_or ts (2 * c + 1) []
unfolding total stretch stretch_start stretch_length buffer_after lengths_of
stretch_texts d ts c h =
    let l : sum (map length ts) ≤ length (joined ts ++ drop (total ts) d) = simp length-append (omega (arith, joined_length ts)) in
    let e : 2 * (c + 1) ≡ 2 * c + 2 = omega arith in
    rw (le-ltb 4 c h, le-ltb (length (joined ts ++ drop (total ts) d)) (sum (map length ts)) l, e)
    (some_texts (2 * c) 2 ts (drop (total ts) d) ∙ two_texts (2 * c) ts)

pub stretch_number : (d : Text) (ns : List ℕ) (c : ℕ) → 4 < c → stretch d ns c ≡ []
unfolding stretch
stretch_number d ns c h = rw (lt-ltb 4 c h)

pub stretch_lengths : (d : Text) (ns : List ℕ) (c : ℕ) → length d < sum ns → stretch d ns c ≡ []
unfolding stretch
stretch_lengths d ns c h = rw (lt-ltb (length d) (sum ns) h) (go (ltb 4 c))
  where
    go : (t : Bool) → cond (t || true) [] (take (stretch_length ns c) (drop (stretch_start ns c) d)) ≡ []
    go true = refl
    go false = refl

-- a component as it is read out: n is the sum of the ten lengths, a and e are where it starts and ends
module _ (d : Text) (ns : List ℕ) (c n : ℕ) (ten : length ns ≡ 10) (summed : n ≡ sum (take 10 ns)) where
  whole : n ≡ sum ns
  whole = summed ∙ ap sum (take_all 10 ns (omega arith))

  pub too_long_lem : length d < n → [] ≡ stretch d ns c
  too_long_lem h = sym (stretch_lengths d ns c (omega (arith, whole)))

  module _ (a e : ℕ) (start : a ≡ sum (take (2 * c) ns)) (end : e ≡ sum (take (2 * c + 2) ns)) where
    pub in_order : a ≤ e
    in_order = omega (arith, sum_more (2 * c) ns)

    pub within : n ≤ length d → e ≤ length d
    within h = omega (arith, whole, sum_take (2 * c + 2) ns)

    pub read_out : c ≤ 4 → n ≤ length d → take (e - a) (drop a d) ≡ stretch d ns c
    unfolding stretch stretch_length stretch_start
    read_out k h =
        let z : 2 * (c + 1) ≡ 2 * c + 2 = omega arith in
        let f : ltb (length d) (sum ns) ≡ false = le-ltb (length d) (sum ns) (omega (arith, whole)) in
        rw (le-ltb 4 c k, f, z, ← start, ← end) refl
