-- At which layouts a heading applies, for any number of layouts.
use Prim.Native.Nat.{ℕ, zero, suc, ◌+◌, ◌-◌, ◌≤◌, ◌<◌}
use native.Mathlib.Omega.{arith}
use mathlib.Core.Path.{◌≡◌, refl, ap, ◌∙◌}
use mathlib.Core.List.{[], ◌∷◌, ◌++◌}
use mathlib.Core.Bool.{Bool, true, false, ◌&&◌, cond}
use lib.ListN.{length}
use lib.Dec.{ltb, leb}
use borrow.Author.Tests.{lt-ltb, le-leb, lt-leb, ne_eqb}
use Rattle.text.specs.Bytes.{all_of}
use Rattle.rules.specs.declared.Index.TheVariants as index
use Rattle.rules.specs.Headings.{up_from}
use Rattle.answers.specs.Layouts.{layouts_at}

-- `[k]` applies to no lone layout, and beyond one layout just where k is one of them
pub lone_numbered : (k : ℕ) → layouts_at 1 (index.Numbered k) ≡ []
unfolding layouts_at
lone_numbered k = refl

pub numbered : (n k : ℕ) → 1 < n → k ≤ n → layouts_at n (index.Numbered k) ≡ k ∷ []
unfolding layouts_at
numbered n k h l = rw (lt-ltb 1 n h, le-leb k n l)

pub beyond : (n k : ℕ) → n < k → layouts_at n (index.Numbered k) ≡ []
unfolding layouts_at
beyond n k h = go (ltb 1 n)
  where
    go : (t : Bool) → cond (t && leb k n) (k ∷ []) [] ≡ []
    go true = rw (lt-leb k n h)
    go false = refl

-- without an index, or with `single`, a heading applies to a lone layout only
pub several_plain : (n : ℕ) → 1 < n → (layouts_at n index.Absent ≡ []) × (layouts_at n index.Single ≡ [])
unfolding layouts_at
several_plain n h = (rw (ne_eqb n 1 (omega arith)), rw (ne_eqb n 1 (omega arith)))

-- `any` is `first`, which is once, and then `later`
pub any_later : (n : ℕ) → 0 < n → layouts_at n index.Any ≡ layouts_at n index.First ++ layouts_at n index.Later
unfolding layouts_at up_from
any_later n h = let e : n ≡ suc (n - 1) = omega arith in ap (λ (m : ℕ). up_from m 1) e ∙ step (n - 1)
  where
    step : (m : ℕ) → up_from (suc m) 1 ≡ 1 ∷ up_from m 2
    step m = refl

-- each layout of a range is one of the profile's, and there are n of `any`
pub up_length : (j k : ℕ) → length (up_from j k) ≡ j
unfolding up_from
up_length zero k = refl
up_length (suc j) k = ap suc (up_length j (k + 1))

pub any_length : (n : ℕ) → length (layouts_at n index.Any) ≡ n
unfolding layouts_at
any_length n = up_length n 1

up_within : (j k a b : ℕ) → a ≤ k → k + j ≤ b + 1 → all_of (λ i. leb a i && leb i b) (up_from j k) ≡ true
unfolding up_from all_of
up_within zero k a b l h = refl
up_within (suc j) k a b l h =
    let e : k + suc j ≡ k + 1 + j = omega arith in
    rw (le-leb a k l, le-leb k b (omega arith)) (up_within j (k + 1) a b (omega arith) (rw e at h))

pub later_within : (n : ℕ) → 0 < n → all_of (λ i. leb 2 i && leb i n) (layouts_at n index.Later) ≡ true
unfolding layouts_at
later_within n h = up_within (n - 1) 2 2 n (omega arith) (omega arith)
