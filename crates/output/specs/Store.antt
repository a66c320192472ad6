-- A text written into a lent buffer from a position on. A byte behind the buffer's end is counted and not stored.
use Rattle.std.specs.Prelude.{ℕ, ◌+◌, min, ◌≡◌, [], ◌∷◌, length, set}
use Rattle.text.specs.Bytes.{Text}

unfoldable pub stored : Text → ℕ → Text → Text
stored d at [] = d
stored d at (b ∷ t) = stored (set d at b) (at + 1) t

-- Positions end, so that no sum can wrap: one behind the longest total, 1,048,576, that begins at the end of a stage of 10,240 bytes. A text that starts within
-- the stage and reaches the last position is longer than any total may be.
abbrev pub farthest : ℕ
farthest = 1058817

unfoldable pub past : ℕ → ℕ → ℕ
past at n = min (at + n) farthest

-- the text t was written from position `at` on: the buffer went from d to d', and the next position is r
pub record Wrote (d d' : Text) (at : ℕ) (t : Text) (r : ℕ) : Type 0 where
  pub text : d' ≡ stored d at t
  pub next : r ≡ past at (length t)
