-- The first byte of a kind from a place on, as an iterator finds it: what a reader keeps over the bytes before it.
use Prim.Native.Nat.{ℕ, zero, suc, ◌+◌, ◌-◌, ◌≤◌, ◌<◌}
use native.Mathlib.Omega.{arith}
use mathlib.Core.Path.{◌≡◌, sym, ap, ◌∙◌}
use mathlib.Core.List.{List}
use lib.ListN.{length, get_or, take, drop, length-drop}
use lib.Seq.{get_or-drop, take-length}
use Rattle.std.specs.Prelude.{Option}
use Rattle.std.specs.Option.{MatchOption}
use Rattle.std.specs.List.{AllWithin, HoldsAt}

-- the bytes from a place on, as code has them
abbrev pub tail : List ℕ → ℕ → List ℕ
tail s from = take (length s - from) (drop from s)

tail_is : (s : List ℕ) (from : ℕ) → tail s from ≡ drop from s
tail_is s from = rw (sym (length-drop from s), take-length)

pub tail_length : (s : List ℕ) (from : ℕ) → length (tail s from) ≡ length s - from
tail_length s from = ap length (tail_is s from) ∙ length-drop from s

pub tail_at : (s : List ℕ) (from k : ℕ) → get_or (tail s from) k 0 ≡ get_or s (from + k) 0
tail_at s from k = rw (tail_is s from) (get_or-drop from s k 0)

abbrev pub FirstAt : (ℕ → Type 0) → (ℕ → Type 0) → List ℕ → ℕ → Type 0
FirstAt Yes No xs i = (i < length xs) × HoldsAt Yes xs i × AllWithin No xs 0 i

-- what `position` gives
abbrev pub First : (ℕ → Type 0) → (ℕ → Type 0) → List ℕ → Option ℕ → Type 0
First Yes No xs r = MatchOption r (AllWithin No xs 0 (length xs)) (λ i. FirstAt Yes No xs i)

-- what is kept at each byte that is none of them is kept up to the first that is
module _ (s : List ℕ) (from : ℕ) (No V : ℕ → Type 0) (more : (i : ℕ) → V i → i < length s → No (get_or s i 0) → V (i + 1)) (start : V from) where
  pub along : (n : ℕ) → from + n ≤ length s → ((k : ℕ) → k < n → No (get_or s (from + k) 0)) → V (from + n)
  along zero h f = let q : from + 0 ≡ from = omega arith in rw q start
  along (suc n) h f =
      let q : from + suc n ≡ from + n + 1 = omega arith in
      rw q (more (from + n) (along n (omega arith) (λ k l. f k (omega arith))) (omega arith) (f n (omega arith)))

  -- what `position` gives of them
  module _ (h : from ≤ length s) (Yes : ℕ → Type 0) where
    pub first_some : (n : ℕ) → FirstAt Yes No (tail s from) n → V (from + n) × (from + n < length s) × Yes (get_or s (from + n) 0)
    first_some n w =
        let l = tail_length s from in (
          along n (omega (arith, w.0)) (λ k b. rw (tail_at s from k) at (w.2 k 0 (omega arith) b)),
          omega (arith, w.0),
          rw (tail_at s from n) at (w.1 0),
        )

    pub first_none : AllWithin No (tail s from) 0 (length (tail s from)) → V (length s)
    first_none w =
        let l = tail_length s from in
        let q : from + (length s - from) ≡ length s = omega arith in
        rw q at (along (length s - from) (omega arith) (λ k b. rw (tail_at s from k) at (w k 0 (omega arith) (omega arith))))
