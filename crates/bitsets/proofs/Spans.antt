-- A span of numbers that are in a set: none, fewer, and one more.
use Prim.Native.Nat.{ℕ, ◌+◌, ◌≤◌, ◌<◌}
use native.Mathlib.Omega.{arith}
use mathlib.Core.Path.{◌≡◌, refl, ◌∙◌}
use mathlib.Core.Bool.{Bool, true, false, ◌||◌}
use lib.Dec.{eqb}
use borrow.Author.Tests.{eqb-false}
use Rattle.bitsets.specs.Sets.{is_in, Spans}

or_left : (a b : Bool) → a ≡ true → (a || b) ≡ true
or_left a b e = rw e refl

or_right : (a b : Bool) → b ≡ true → (a || b) ≡ true
or_right true b e = refl
or_right false b e = e

pub spans_none : (first n s : ℕ) → n ≡ 0 → Spans first n s
spans_none first n s e = record { inside = λ k a b. absurd (omega arith) }

pub spans_all : (first n m s : ℕ) → m ≤ n → Spans first n s → Spans first m s
spans_all first n m s h v = record { inside = λ k a b. v.inside k a (omega arith) }

-- one number more
module _ (first n s s' k m : ℕ) (e : k ≡ first + n) (f : m ≡ n + 1) (v : Spans first n s) (h : (j : ℕ) → is_in j s' ≡ (is_in j s || eqb k j)) where
  pub spans_more : Spans first m s'
  spans_more = record { inside = λ j a b. h j ∙ go j a b (eqb k j) refl }
    where
      go : (j : ℕ) → first ≤ j → j < first + m → (t : Bool) → eqb k j ≡ t → (is_in j s || t) ≡ true
      go j a b true q = or_right (is_in j s) true refl
      go j a b false q = or_left (is_in j s) false (v.inside j a (omega (arith, eqb-false k j q)))
