-- The rest of a line, passed over word by word.
use Prim.Native.Nat.{ℕ, ◌+◌, ◌≤◌}
use native.Mathlib.Omega.{arith}
use mathlib.Core.Path.{◌≡◌, refl, ◌∙◌}
use mathlib.Core.List.{List}
use lib.ListN.{length}
use Rattle.text.specs.Reading.{ahead, Passed, FoundWord, NoWord}

pub record Passing (s : List ℕ) (from n i m : ℕ) : Type 0 where
  pub low : from ≤ i
  pub high : i ≤ length s
  pub few : m ≤ i + 1
  pub onto : ahead s from n ≡ ahead s i m

pub passing_start : (s : List ℕ) (from n : ℕ) → from ≤ length s → n ≤ from + 1 → Passing s from n from n
passing_start s from n h k = record { low = omega arith; high = h; few = k; onto = refl }

module _ (s : List ℕ) (from n i m : ℕ) (v : Passing s from n i m) where
  pub passing_word : (a e l f : ℕ) → FoundWord s i m a e l f → Passing s from n e l
  passing_word a e l f w = record { low = omega (arith, v.low, w.low, w.some); high = w.high; few = w.few; onto = v.onto ∙ w.onto }

  pub passing_stop : (p l : ℕ) → NoWord s i m p l → Passed s from n p l
  passing_stop p l w = record { onwards = omega (arith, v.low, w.onwards); high = w.high; few = w.few; onto = v.onto ∙ w.onto }

  pub passing_then : (p l : ℕ) → Passed s i m p l → Passed s from n p l
  passing_then p l w = record { onwards = omega (arith, v.low, w.onwards); high = w.high; few = w.few; onto = v.onto ∙ w.onto }
