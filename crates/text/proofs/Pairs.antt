-- A table of pairs: the n-th pair stands at 2 n and 2 n + 1.
use Prim.Native.Nat.{ℕ, ◌+◌, ◌*◌, ◌<◌}
use native.Mathlib.Omega.{arith}
use mathlib.Core.Path.{◌≡◌, ◌∙◌}
use mathlib.Core.List.{List}
use lib.ListN.{length, get_or, set, length-set}
use lib.Seq.{get_or-set_same, get_or-set_other}

unfoldable pub with_pair : List ℕ → ℕ → ℕ → ℕ → List ℕ
with_pair t n a e = set (set t (2 * n) a) (2 * n + 1) e

module _ (t : List ℕ) (n a e : ℕ) where
  pub pair_length : length (with_pair t n a e) ≡ length t
  unfolding with_pair
  pair_length = simp length-set

  -- the pairs before it stay
  pub pair_old : (j : ℕ) → j < n → (get_or (with_pair t n a e) (2 * j) 0 ≡ get_or t (2 * j) 0) × (get_or (with_pair t n a e) (2 * j + 1) 0 ≡ get_or t (2 * j + 1) 0)
  unfolding with_pair
  pair_old j k = (
    get_or-set_other (set t (2 * n) a) (2 * n + 1) (2 * j) e 0 (λ (z : 2 * j ≡ 2 * n + 1). omega arith) ∙ get_or-set_other t (2 * n) (2 * j) a 0 (λ (z : 2 * j ≡ 2 * n). omega arith),
    get_or-set_other (set t (2 * n) a) (2 * n + 1) (2 * j + 1) e 0 (λ (z : 2 * j + 1 ≡ 2 * n + 1). omega arith) ∙
        get_or-set_other t (2 * n) (2 * j + 1) a 0 (λ (z : 2 * j + 1 ≡ 2 * n). omega arith),
  )

  pub pair_new : 2 * n + 1 < length t → (get_or (with_pair t n a e) (2 * n) 0 ≡ a) × (get_or (with_pair t n a e) (2 * n + 1) 0 ≡ e)
  unfolding with_pair
  pair_new l =
      let s₀ : 2 * n < length t = omega arith in
      let s₁ : 2 * n + 1 < length (set t (2 * n) a) = simp length-set l in (
        get_or-set_other (set t (2 * n) a) (2 * n + 1) (2 * n) e 0 (λ (z : 2 * n ≡ 2 * n + 1). omega arith) ∙ get_or-set_same t (2 * n) a 0 s₀,
        get_or-set_same (set t (2 * n) a) (2 * n + 1) e 0 s₁,
      )
