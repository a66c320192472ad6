-- A right-hand value as pieces. Document 01, "Right-hand values", its first paragraph.
use Rattle.std.specs.Prelude.{ℕ, zero, suc, ◌+◌, ◌-◌, ◌≤◌, ◌≡◌, List, [], ◌∷◌, Bool, true, false, not, ◌||◌, ◌&&◌, cond, length, get_or, drop, eqb, leb}
use Rattle.text.specs.Limits.{most_layouts}
use Rattle.text.specs.Bytes.{Text, any_of}
use Rattle.rules.specs.declared.Which.{Which}
use Rattle.rules.specs.declared.Which.TheVariants as which
use Rattle.rules.specs.declared.Variable.{Variable}
use Rattle.rules.specs.declared.Variable.TheVariants as variable
use Rattle.rules.specs.declared.Piece.{Piece}
use Rattle.rules.specs.declared.Piece.TheVariants.{Byte, Number, Bare, Parens, Prefixed, Unclosed}

-- "alone or with `[1]` to `[4]` or `[%i]`": what follows the `l` or `v`. "A `[` directly after the `l` or `v` of an item must open one of these indexes"
unfoldable pub which_of : Text → Which
which_of r =
    cond (not (eqb (get_or r 0 0) 91)) which.Alone
    (cond (leb 49 (get_or r 1 0) && (leb (get_or r 1 0) (48 + most_layouts) && eqb (get_or r 2 0) 93)) (which.Numbered (get_or r 1 0 - 48))
    (cond (eqb (get_or r 1 0) 37 && (eqb (get_or r 2 0) 105 && eqb (get_or r 3 0) 93)) which.Matched
    which.Wrong))

-- "`m`; `l` or `v`": "after `%m` it is plain text"
unfoldable pub variable_of : Text → Variable
variable_of r =
    cond (eqb (get_or r 0 0) 109) variable.Model
    (cond (eqb (get_or r 0 0) 108) (variable.Layout (which_of (drop 1 r)))
    (cond (eqb (get_or r 0 0) 118) (variable.Variant (which_of (drop 1 r)))
    variable.Unknown))

-- the bytes that an index and a variable take
unfoldable pub which_length : Which → ℕ
which_length which.Alone = 0
which_length which.Matched = 4
which_length (which.Numbered k) = 3
which_length which.Wrong = 0

unfoldable pub variable_length : Variable → ℕ
variable_length variable.Model = 1
variable_length (variable.Layout w) = 1 + which_length w
variable_length (variable.Variant w) = 1 + which_length w
variable_length variable.Unknown = 0

-- "one prefix of `+ | - _`"
unfoldable pub is_prefix : ℕ → Bool
is_prefix b = eqb b 43 || (eqb b 124 || (eqb b 45 || eqb b 95))

-- "or stand in parentheses as `%(v[1])`, without a prefix": what follows the `(`
unfoldable pub in_parens : Text → Piece
in_parens r = let v = variable_of r in cond (eqb (get_or r (variable_length v) 0) 41) (Parens v) Unclosed

-- "A percent sign is followed by one of": what follows it
unfoldable pub piece_after : Text → Piece
piece_after r =
    let b = get_or r 0 0 in
    cond (eqb b 105) Number
    (cond (is_prefix b) (Prefixed b (variable_of (drop 1 r)))
    (cond (eqb b 40) (in_parens (drop 1 r))
    (Bare (variable_of r))))

-- the bytes after the percent sign that belong to a piece
unfoldable pub piece_length : Piece → ℕ
piece_length (Byte b) = 0
piece_length Number = 1
piece_length (Bare v) = variable_length v
piece_length (Parens v) = 2 + variable_length v
piece_length (Prefixed b v) = 1 + variable_length v
piece_length Unclosed = 0

-- the pieces of a value; the number: how many bytes belong to the piece before
unfoldable pub pieces : ℕ → Text → List Piece
pieces k [] = []
pieces (suc k) (b ∷ r) = pieces k r
pieces zero (b ∷ r) = elim (eqb b 37) [ true ↦ let p = piece_after r in p ∷ pieces (piece_length p) r | false ↦ Byte b ∷ pieces zero r ]

-- "`%i` and `[%i]` need a heading with one of the four index words": the flag says whether it has one.
unfoldable pub bad_which : Bool → Which → Bool
bad_which i which.Alone = false
bad_which i which.Matched = not i
bad_which i (which.Numbered k) = false
bad_which i which.Wrong = true

unfoldable pub bad_variable : Bool → Variable → Bool
bad_variable i variable.Model = false
bad_variable i (variable.Layout w) = bad_which i w
bad_variable i (variable.Variant w) = bad_which i w
bad_variable i variable.Unknown = true

-- "Anything else after a percent sign, or nothing, is malformed."
unfoldable pub bad_piece : Bool → Piece → Bool
bad_piece i (Byte b) = false
bad_piece i Number = not i
bad_piece i (Bare v) = bad_variable i v
bad_piece i (Parens v) = bad_variable i v
bad_piece i (Prefixed b v) = bad_variable i v
bad_piece i Unclosed = true

unfoldable pub malformed : Bool → Text → Bool
malformed i t = any_of (bad_piece i) (pieces zero t)

-- no percent sign stands before r: what follows decides
pub record PlainTo (t : Text) (r : ℕ) : Type 0 where
  pub high : r ≤ length t
  pub rest : (i : Bool) → malformed i t ≡ malformed i (drop r t)
