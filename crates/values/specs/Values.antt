-- A right-hand value with the profile's values put in. Document 01, "Right-hand values", its second paragraph.
use Rattle.std.specs.Prelude.{ℕ, zero, ◌-◌, List, [], ◌∷◌, ◌++◌, ◌&&◌, cond, get_or, eqb, ltb, leb}
use Rattle.text.specs.Bytes.{Text, empty, concat_map}
use Rattle.profile.specs.Profile.{Profile, layout_count}
use Rattle.rules.specs.declared.Which.{Which}
use Rattle.rules.specs.declared.Which.TheVariants as which
use Rattle.rules.specs.declared.Variable.{Variable}
use Rattle.rules.specs.declared.Variable.TheVariants as variable
use Rattle.rules.specs.declared.Piece.{Piece}
use Rattle.rules.specs.declared.Piece.TheVariants.{Byte, Number, Bare, Parens, Prefixed, Unclosed}
use Rattle.rules.specs.Percent.{pieces}
use Rattle.rules.specs.Headings.{decimal}

-- "`%l`, `%v` are valid if n is 1; `%l[k]`, `%v[k]` if n > 1 and k ≤ n; `[%i]` and `%m` always." One of the layouts or variants `ts`, where k is
-- the matched layout. "Missing variants are empty."
unfoldable pub choose : ℕ → ℕ → List Text → Which → Text
choose n k ts which.Alone = cond (eqb n 1) (get_or ts 0 []) []
choose n k ts which.Matched = get_or ts (k - 1) []
choose n k ts (which.Numbered j) = cond (ltb 1 n && leb j n) (get_or ts (j - 1) []) []
choose n k ts which.Wrong = []

unfoldable pub value_of : Profile → ℕ → Variable → Text
value_of p k variable.Model = p.model
value_of p k (variable.Layout w) = choose (layout_count p) k p.layouts w
value_of p k (variable.Variant w) = choose (layout_count p) k p.variants w
value_of p k variable.Unknown = []

-- "An invalid item, or one whose value is empty, yields nothing, prefix and parentheses included." "`%i` is the matched layout's number."
unfoldable pub piece_text : Profile → ℕ → Piece → Text
piece_text p k (Byte b) = b ∷ []
piece_text p k Number = decimal k
piece_text p k (Bare v) = value_of p k v
piece_text p k (Parens v) = let t = value_of p k v in cond (empty t) [] ((40 ∷ t) ++ (41 ∷ []))
piece_text p k (Prefixed b v) = let t = value_of p k v in cond (empty t) [] (b ∷ t)
piece_text p k Unclosed = []

unfoldable pub filled : Profile → ℕ → Text → Text
filled p k t = concat_map (piece_text p k) (pieces zero t)
