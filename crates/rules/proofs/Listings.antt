-- Numbers kept in order, none twice.
use Prim.Native.Nat.{ℕ, zero, suc, ◌+◌, ◌≤◌, ◌<◌}
use native.Mathlib.Omega.{arith}
use mathlib.Core.Path.{◌≡◌, refl, sym, ap, ◌∙◌}
use mathlib.Core.List.{List, [], ◌∷◌, ◌++◌}
use mathlib.Core.Bool.{Bool, true, false, not, ◌||◌, ◌&&◌, cond, and-true, and_assoc}
use lib.ListN.{length}
use lib.Dec.{eqb, ltb}
use borrow.Author.Tests.{eqb-true, ltb-true, not-true}
use Rattle.std.proofs.lemmas.Bool.Decides.{nat_tests}
use Rattle.text.specs.Bytes.{any_of, all_of}
use Rattle.text.proofs.Lists.{and_both, both_and}
use Rattle.rules.specs.Headings.{distinct}

-- "None twice.", with one number more behind

pub all_snoc {ℓ} : {A : Type ℓ} (p : A → Bool) (xs : List A) (x : A) → all_of p (xs ++ (x ∷ [])) ≡ (all_of p xs && p x)
unfolding all_of
all_snoc p [] x = and-true (p x)
all_snoc p (y ∷ xs) x = ap (λ (b : Bool). p y && b) (all_snoc p xs x) ∙ sym (and_assoc (p y) (all_of p xs) (p x))

pub eqb_swap : (a b : ℕ) → eqb a b ≡ eqb b a
eqb_swap a b = grind (arith, nat_tests)

behind : (a e d g : Bool) → ((a && not e) && (d && not g)) ≡ ((a && d) && not (e || g))
behind true true true g = refl
behind true true false g = refl
behind true false true g = refl
behind true false false g = refl
behind false e d g = refl

pub distinct_snoc : (xs : List ℕ) (x : ℕ) → distinct (xs ++ (x ∷ [])) ≡ (distinct xs && not (any_of (eqb x) xs))
unfolding distinct all_of any_of
distinct_snoc [] x = refl
distinct_snoc (y ∷ xs) x =
    rw (all_snoc (λ m. not (eqb y m)) xs x, distinct_snoc xs x, eqb_swap y x)
    (behind (all_of (λ m. not (eqb y m)) xs) (eqb x y) (distinct xs) (any_of (eqb x) xs))

-- what holds of all numbers, or of distinct ones, holds of the first of them

pub all_front {ℓ} : {A : Type ℓ} (p : A → Bool) (xs ys : List A) → all_of p (xs ++ ys) ≡ true → all_of p xs ≡ true
unfolding all_of
all_front p [] ys h = refl
all_front p (x ∷ xs) ys h =
    let b = and_both (p x) (all_of p (xs ++ ys)) h in
    both_and (p x) (all_of p xs) b.0 (all_front p xs ys b.1)

pub distinct_front : (xs ys : List ℕ) → distinct (xs ++ ys) ≡ true → distinct xs ≡ true
unfolding distinct
distinct_front [] ys h = refl
distinct_front (x ∷ xs) ys h =
    let b = and_both (all_of (λ m. not (eqb x m)) (xs ++ ys)) (distinct (xs ++ ys)) h in
    both_and (all_of (λ m. not (eqb x m)) xs) (distinct xs) (all_front (λ m. not (eqb x m)) xs ys b.0) (distinct_front xs ys b.1)

-- Distinct numbers below five are at most five.

occurs : ℕ → List ℕ → ℕ
occurs k [] = 0
occurs k (x ∷ xs) = cond (eqb k x) 1 0 + occurs k xs

occurs_not : (k : ℕ) (xs : List ℕ) → all_of (λ m. not (eqb k m)) xs ≡ true → occurs k xs ≡ 0
unfolding occurs all_of
occurs_not k [] h = refl
occurs_not k (x ∷ xs) h =
    let b = and_both (not (eqb k x)) (all_of (λ m. not (eqb k m)) xs) h in
    rw (not-true (eqb k x) b.0, occurs_not k xs b.1)

occurs_once : (k : ℕ) (xs : List ℕ) → distinct xs ≡ true → occurs k xs ≤ 1
unfolding occurs distinct
occurs_once k [] h = omega arith
occurs_once k (x ∷ xs) h = go (eqb k x) refl (and_both (all_of (λ m. not (eqb x m)) xs) (distinct xs) h) (occurs_once k xs)
  where
    go : (t : Bool) → eqb k x ≡ t → ((all_of (λ m. not (eqb x m)) xs ≡ true) × (distinct xs ≡ true)) → (distinct xs ≡ true → occurs k xs ≤ 1) → cond t 1 0 + occurs k xs ≤ 1
    go true e b ih = let z : occurs k xs ≡ 0 = rw (eqb-true k x e) (occurs_not x xs b.0) in omega arith
    go false e b ih = omega (arith, ih b.1)

occurs_five : (x : ℕ) → x < 5 → cond (eqb 0 x) 1 0 + (cond (eqb 1 x) 1 0 + (cond (eqb 2 x) 1 0 + (cond (eqb 3 x) 1 0 + cond (eqb 4 x) 1 0))) ≡ 1
occurs_five zero h = refl
occurs_five (suc zero) h = refl
occurs_five (suc (suc zero)) h = refl
occurs_five (suc (suc (suc zero))) h = refl
occurs_five (suc (suc (suc (suc zero)))) h = refl
occurs_five (suc (suc (suc (suc (suc x))))) h = absurd (omega arith)

occurs_sum : (xs : List ℕ) → all_of (λ c. ltb c 5) xs ≡ true →
    length xs ≡ occurs 0 xs + (occurs 1 xs + (occurs 2 xs + (occurs 3 xs + occurs 4 xs)))
unfolding occurs all_of
occurs_sum [] h = refl
occurs_sum (x ∷ xs) h =
    let b = and_both (ltb x 5) (all_of (λ c. ltb c 5) xs) h in
    omega (arith, occurs_sum xs b.1, occurs_five x (ltb-true x 5 b.0))

pub few : (xs : List ℕ) → distinct xs ≡ true → all_of (λ c. ltb c 5) xs ≡ true → length xs ≤ 5
few xs d h = omega (arith, occurs_sum xs h, occurs_once 0 xs d, occurs_once 1 xs d, occurs_once 2 xs d, occurs_once 3 xs d, occurs_once 4 xs d)
