-- What a percent item yields where it is invalid or its value is empty, for any number of layouts.
use Prim.Native.Nat.{ℕ, ◌-◌, ◌≤◌, ◌<◌}
use native.Mathlib.Omega.{arith}
use mathlib.Core.Path.{◌≡◌, refl}
use mathlib.Core.List.{List, []}
use mathlib.Core.Bool.{Bool, true, false, ◌&&◌, cond}
use lib.ListN.{get_or}
use lib.Dec.{ltb, leb}
use borrow.Author.Tests.{lt-ltb, le-leb, lt-leb, ne_eqb}
use Rattle.text.specs.Bytes.{Text, empty}
use Rattle.profile.specs.Profile.{Profile}
use Rattle.rules.specs.declared.Which.TheVariants as which
use Rattle.rules.specs.declared.Variable.{Variable}
use Rattle.rules.specs.declared.Piece.TheVariants.{Bare, Parens, Prefixed}
use Rattle.values.specs.Values.{choose, value_of, piece_text}

-- prefix and parentheses go with an empty value
module _ (p : Profile) (k : ℕ) (v : Variable) (h : value_of p k v ≡ []) where
  pub bare_empty : piece_text p k (Bare v) ≡ []
  unfolding piece_text
  bare_empty = h

  pub parens_empty : piece_text p k (Parens v) ≡ []
  unfolding piece_text empty
  parens_empty = rw h

  pub prefix_empty : (b : ℕ) → piece_text p k (Prefixed b v) ≡ []
  unfolding piece_text empty
  prefix_empty b = rw h

-- `%l` and `%v` yield nothing beyond one layout, `%l[j]` and `%v[j]` nothing for a lone one, nor where j is none of the layouts
pub several_alone : (n k : ℕ) (ts : List Text) → 1 < n → choose n k ts which.Alone ≡ []
unfolding choose
several_alone n k ts h = rw (ne_eqb n 1 (omega arith))

pub lone_numbered : (k j : ℕ) (ts : List Text) → choose 1 k ts (which.Numbered j) ≡ []
unfolding choose
lone_numbered k j ts = refl

pub beyond_numbered : (n k j : ℕ) (ts : List Text) → n < j → choose n k ts (which.Numbered j) ≡ []
unfolding choose
beyond_numbered n k j ts h = go (ltb 1 n)
  where
    go : (t : Bool) → cond (t && leb j n) (get_or ts (j - 1) []) [] ≡ []
    go true = rw (lt-leb j n h)
    go false = refl

pub several_numbered : (n k j : ℕ) (ts : List Text) → 1 < n → j ≤ n → choose n k ts (which.Numbered j) ≡ get_or ts (j - 1) []
unfolding choose
several_numbered n k j ts h l = rw (lt-ltb 1 n h, le-leb j n l)
