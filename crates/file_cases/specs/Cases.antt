-- Files that stand one after the other in a text, with a line `====` between two.
use Rattle.std.specs.Prelude.{ℕ, ◌-◌, ◌≤◌, ◌<◌, ◌≡◌, [], ◌∷◌, Bool, true, false, ◌||◌, ◌&&◌, length, get_or, drop, eqb}
use Rattle.std.specs.List.{starts_with}
use Rattle.text.specs.Bytes.{Text}

-- `====` and LF
abbrev pub separator : Text
separator = 61 ∷ 61 ∷ 61 ∷ 61 ∷ 10 ∷ []

-- a line starts at i
abbrev pub starts : Text → ℕ → Bool
starts s i = eqb i 0 || eqb (get_or s (i - 1) 0) 10

abbrev pub separates : Text → ℕ → Bool
separates s i = starts s i && starts_with eqb (drop i s) separator

-- no separator starts before i
pub record NoneTo (s : Text) (i : ℕ) : Type 0 where
  pub high : i ≤ length s
  pub none : (j : ℕ) → j < i → separates s j ≡ false

-- the first file of s ends at r: the first separator starts there, or s ends
pub record CaseEnd (s : Text) (r : ℕ) : Type 0 where
  pub before : NoneTo s r
  pub here : r < length s → separates s r ≡ true
