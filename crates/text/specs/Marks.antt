-- What each byte of a file is in its line. Document 01, "Lines and words"; document 02, #103.
use Rattle.std.specs.Prelude.{ℕ, List, [], ◌∷◌, Bool, ◌||◌, ◌&&◌, cond, eqb}
use Rattle.text.specs.declared.Class.{Class}
use Rattle.text.specs.declared.Class.TheVariants.{Blank, Join, Slashes, Bang, Other}
use Rattle.text.specs.declared.Place.{Place}
use Rattle.text.specs.declared.Place.TheVariants.{Start, Space, Word, Comment, JoinStart, JoinSpace}
use Rattle.text.specs.Bytes.{Text, first, rest}

-- "A CR directly before LF .. now belongs to the line end": b begins a line end, where c is the byte after it.
unfoldable pub ends_line : ℕ → ℕ → Bool
ends_line b c = eqb b 10 || (eqb b 13 && eqb c 10)

-- "Blanks are space and tab." "a backslash directly before LF is a blank and joins the lines" "a backslash before CR LF joins"
-- "`//` where a word would begin starts a comment". The CR of a line end is as a blank before its LF.
-- `b` is a byte other than LF, `c` and `d` the two bytes after it.
unfoldable pub class_of : ℕ → ℕ → ℕ → Class
class_of b c d =
    cond (eqb b 32) Blank
    (cond (eqb b 9) Blank
    (cond (eqb b 33) Bang
    (cond (eqb b 92) (cond (ends_line c d) Join Other)
    (cond (eqb b 47) (cond (eqb c 47) Slashes Other)
    (cond (ends_line b c) Blank
    Other)))))

-- A byte of a word; a blank or a byte of a comment; the LF after a joining backslash; the `!` of a heading; the end of the line.
pub data Mark : Type 0 where
  char : ℕ → Mark
  gap join bang end : Mark

-- "LF ends a line", but for one after a joining backslash: its mark, and the place after it
abbrev pub at_feed : Place → Mark × Place
at_feed Start = (end, Start)
at_feed Space = (end, Start)
at_feed Word = (end, Start)
at_feed Comment = (end, Start)
at_feed JoinStart = (join, Start)
at_feed JoinSpace = (join, Space)

-- any other byte; after a joining backslash only the CR of its line end
abbrev pub at_other : Place → Class → ℕ → Mark × Place
at_other Start Blank b = (gap, Start)
at_other Start Join b = (gap, JoinStart)
at_other Start Slashes b = (gap, Comment)
at_other Start Bang b = (bang, Space)
at_other Start Other b = (char b, Word)
at_other Space Blank b = (gap, Space)
at_other Space Join b = (gap, JoinSpace)
at_other Space Slashes b = (gap, Comment)
at_other Space Bang b = (char b, Word)
at_other Space Other b = (char b, Word)
at_other Word Blank b = (gap, Space)
at_other Word Join b = (gap, JoinSpace)
at_other Word Slashes b = (char b, Word)
at_other Word Bang b = (char b, Word)
at_other Word Other b = (char b, Word)
at_other Comment c b = (gap, Comment)
at_other JoinStart c b = (gap, JoinStart)
at_other JoinSpace c b = (gap, JoinSpace)

unfoldable pub step : Place → ℕ → ℕ → ℕ → Mark × Place
step m b c d = cond (eqb b 10) (at_feed m) (at_other m (class_of b c d) b)

-- the marks of the bytes, from a place on
unfoldable pub marks : Place → Text → List Mark
marks m [] = []
marks m (b ∷ r) = let t = step m b (first r) (first (rest r)) in t.0 ∷ marks t.1 r
