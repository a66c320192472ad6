-- The lines of a file and their words, from the marks of its bytes. Document 01, "Lines and words"; document 02, #103.
use Rattle.std.specs.Prelude.{ℕ, ◌+◌, List, [], ◌∷◌, Bool, true, false, not, cond, eqb}
use Rattle.text.specs.declared.Place.TheVariants.{Start}
use Rattle.text.specs.Bytes.{Text, Words, any_of}
use Rattle.text.specs.Marks.{Mark, char, gap, join, bang, end, marks}

-- the bytes that go on with a word
unfoldable pub run : List Mark → Text
run [] = []
run (char b ∷ r) = b ∷ run r
run (gap ∷ r) = []
run (join ∷ r) = []
run (bang ∷ r) = []
run (end ∷ r) = []

-- "A word is a longest run of other bytes": the words up to the end of the line; the flag: within a word that has been listed.
unfoldable pub words : Bool → List Mark → Words
words f [] = []
words f (gap ∷ r) = words false r
words f (join ∷ r) = words false r
words f (bang ∷ r) = words false r
words f (end ∷ r) = []
words false (char b ∷ r) = (b ∷ run r) ∷ words true r
words true (char b ∷ r) = words true r

-- "`!` as the first non-blank byte of a line makes a heading"
unfoldable pub heading : List Mark → Bool
heading [] = false
heading (char b ∷ r) = false
heading (gap ∷ r) = heading r
heading (join ∷ r) = heading r
heading (bang ∷ r) = true
heading (end ∷ r) = false

-- how many physical lines a byte ends, and whether the line goes on after it
unfoldable pub feeds : Mark → ℕ
feeds (char b) = 0
feeds gap = 0
feeds join = 1
feeds bang = 0
feeds end = 1

unfoldable pub inside : Mark → Bool
inside (char b) = true
inside gap = true
inside join = true
inside bang = true
inside end = false

-- A line, joined: the number of "its first physical line, counted from 1", whether it is a heading, and its words ("the rest of the line is split
-- afresh": a heading's words are those after its `!`).
pub record Line : Type 0 where
  pub number : ℕ
  pub is_heading : Bool
  pub text : Words

-- the lines, where the marks begin in the physical line n; the flag: within a line that has been listed
unfoldable pub lines_of : ℕ → Bool → List Mark → List Line
lines_of n f [] = []
lines_of n false (y ∷ r) =
    record { number = n; is_heading = heading (y ∷ r); text = words false (y ∷ r) } ∷ lines_of (n + feeds y) (inside y) r
lines_of n true (y ∷ r) = lines_of (n + feeds y) (inside y) r

unfoldable pub lines : Text → List Line
lines s = lines_of 1 false (marks Start s)

-- no marks, or marks of which the last ends a line; the flag: within a line
unfoldable pub closed_from : Bool → List Mark → Bool
closed_from f [] = not f
closed_from f (y ∷ r) = closed_from (inside y) r

-- The first file of demand 3 is empty or ends with a newline that ends a line. "Demand 3 counts CR LF as one newline."
unfoldable pub closed : Text → Bool
closed s = closed_from false (marks Start s)

-- "every LF then made CR LF"
unfoldable pub crlf : Text → Text
crlf [] = []
crlf (b ∷ r) = cond (eqb b 10) (13 ∷ 10 ∷ crlf r) (b ∷ crlf r)

-- there is no CR in a file
unfoldable pub no_return : Text → Bool
no_return s = not (any_of (λ b. eqb b 13) s)
