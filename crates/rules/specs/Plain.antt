-- Lines that are read at one go: lines without words, and rules whose words are plain and of which nothing is refused.
use Rattle.std.specs.Prelude.{ℕ, zero, suc, ◌+◌, ◌≤◌, ◌<◌, ◌≡◌, List, [], ◌∷◌, Bool, true, false, not, ◌&&◌, length, eqb}
use Rattle.text.specs.Bytes.{Text, Words, part}
use Rattle.text.specs.Reading.{left, ahead, follow, fault_of, PlainFound}
use Rattle.rules.specs.declared.Present.{Present}
use Rattle.rules.specs.Words.{is_equals, ordinary, left_word}
use Rattle.rules.specs.Percent.{malformed}
use Rattle.rules.specs.Entries.{Entry}
use Rattle.rules.specs.Checking.{is_indexed, line_fault, present_after, names_after}

-- nothing is refused of a rule's words: r right words are left; l left words, `=` and r right words are left
unfoldable pub good_right : Bool → ℕ → Words → Bool
good_right i zero [] = true
good_right i zero (w ∷ ws) = false
good_right i (suc r) [] = false
good_right i (suc r) (w ∷ ws) = eqb (fault_of w) 0 && (ordinary w && (not (malformed i w) && good_right i r ws))

unfoldable pub good_left : Bool → ℕ → ℕ → Words → Bool
good_left i r zero [] = false
good_left i r zero (w ∷ ws) = eqb (fault_of w) 0 && (is_equals w && good_right i r ws)
good_left i r (suc l) [] = false
good_left i r (suc l) (w ∷ ws) = eqb (fault_of w) 0 && (left_word w && good_left i r l ws)

-- n left words are read, from `from` up to e, which lies before the fence f
pub record LeftRead (s : Text) (f from n e : ℕ) : Type 0 where
  pub low : from ≤ e
  pub inside : e < f
  pub words : (i : Bool) (r : ℕ) → good_left i r n (left s from) ≡ good_left i r 0 (left s e)
  pub onto : (m : ℕ) → m ≤ from + 1 → ahead s from m ≡ ahead s e m

-- a right word, up to e
pub record RightWord (s : Text) (f : ℕ) (i : Bool) (from e : ℕ) : Type 0 where
  pub start : ℕ
  pub word : PlainFound s f from start e
  pub plain : ordinary (part s start e) ≡ true
  pub sound : malformed i (part s start e) ≡ false

-- n right words likewise
pub record RightRead (s : Text) (f : ℕ) (i : Bool) (from n e : ℕ) : Type 0 where
  pub low : from ≤ e
  pub inside : e < f
  pub words : good_right i n (left s from) ≡ good_right i 0 (left s e)
  pub onto : (m : ℕ) → m ≤ from + 1 → ahead s from m ≡ ahead s e m

-- a rule from its first word on: the next line starts at e
pub record RuleRead (s : Text) (from : ℕ) (p : Present) (e : ℕ) : Type 0 where
  pub low : from < e
  pub high : e ≤ length s
  pub good : good_left (is_indexed p.form) p.right p.left (left s from) ≡ true
  pub onto : (m : ℕ) → m ≤ from + 1 → ahead s from m ≡ follow s e (m + 1)

-- under the heading p nothing is refused of a line, and nothing changes for those after it
pub record Passes (p : Present) (e : Entry) : Type 0 where
  pub fault : (ns : List Text) → line_fault ns p e ≡ 0
  pub names : (ns : List Text) → names_after ns e ≡ ns
  pub present : present_after p e ≡ p
