-- A word filled in a lent buffer.
use Rattle.std.specs.Prelude.{ℕ, ◌≤◌, ◌≡◌, [], ◌∷◌, ◌++◌, Bool, false, cond, eqb, length, take}
use Rattle.text.specs.Bytes.{Text, empty, any_of}
use Rattle.profile.specs.Profile.{fields}
use Rattle.profile.specs.Refusals.{long_field}

-- "one whose value is empty, yields nothing, prefix and parentheses included"
unfoldable pub enclosed : Text → Text
enclosed t = cond (empty t) [] ((40 ∷ t) ++ (41 ∷ []))

unfoldable pub prefixed : ℕ → Text → Text
prefixed b t = cond (empty t) [] (b ∷ t)

abbrev pub is_percent : ℕ → Bool
is_percent b = eqb b 37

-- "No field exceeds 64 bytes.": the model, which is one field, the layouts and the variants.
pub record Short (m l v : Text) : Type 0 where
  pub model : long_field m ≡ false
  pub layouts : any_of long_field (fields l) ≡ false
  pub variants : any_of long_field (fields v) ≡ false

-- `%m`, two bytes, yields a field of 64 at most, and the longer items yield no more for each of their bytes.
abbrev pub most_per_byte : ℕ
most_per_byte = 32

-- the text t stands at the buffer's start, r bytes long: the buffer went from d to d'
pub record Filled (d d' : Text) (t : Text) (r : ℕ) : Type 0 where
  pub size : r ≡ length t
  pub text : take r d' ≡ t
  pub fits : r ≤ length d'
  pub long : length d' ≡ length d
