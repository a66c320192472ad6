-- What the readers of a profile's fields promise. Document 01, "The profile": "Layouts, variants and options are split at commas."
use Rattle.std.specs.Prelude.{ℕ, ◌≤◌, ◌≡◌, List, [], ◌∷◌, length, drop}
use Rattle.text.specs.Bytes.{Text, part}
use Rattle.profile.specs.Profile.{fields}

-- the fields behind the end of a field, where a comma stands or the text ends
unfoldable pub behind : Text → List Text
behind [] = []
behind (b ∷ r) = fields r

-- the field that begins at `from` ends before `e`
pub record FieldEnd (s : Text) (from e : ℕ) : Type 0 where
  pub low : from ≤ e
  pub high : e ≤ length s
  pub split : fields (drop from s) ≡ part s from e ∷ behind (drop e s)
