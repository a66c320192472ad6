-- What the readers of lines and words promise: each says what becomes of the words of this line, and of the lines after it.
use Rattle.std.specs.Prelude.{◌≡◌, ℕ, zero, suc, min, ◌+◌, ◌-◌, ◌≤◌, ◌<◌, List, [], ◌∷◌, ◌++◌, Bool, true, false, ◌&&◌, cond, eqb, ltb, length, drop, get_or}
use Rattle.text.specs.declared.Class.{Class}
use Rattle.text.specs.declared.Class.TheVariants.{Blank, Join, Slashes, Bang, Other}
use Rattle.text.specs.declared.Place.TheVariants.{Start, Space, Word, Comment}
use Rattle.text.specs.Bytes.{Words, any_of, part}
use Rattle.text.specs.Marks.{class_of, marks}
use Rattle.text.specs.Lines.{run, words, heading, Line, lines_of}
use Rattle.text.specs.Words.{bad_byte, too_long}

-- the words from a position on, where a word would begin
unfoldable pub left : List ℕ → ℕ → Words
left s at = words false (marks Space (drop at s))

-- a byte goes on with a word that has begun
unfoldable pub wordly : Class → Bool
wordly Blank = false
wordly Join = false
wordly Slashes = true
wordly Bang = true
wordly Other = true

unfoldable pub in_word : ℕ → ℕ → ℕ → Bool
in_word b c d = cond (eqb b 10) false (wordly (class_of b c d))

-- the lines after the one that is being read: from a position in its words on, and from the start of a line on
unfoldable pub ahead : List ℕ → ℕ → ℕ → List Line
ahead s at n = lines_of n true (marks Space (drop at s))

unfoldable pub follow : List ℕ → ℕ → ℕ → List Line
follow s at n = lines_of n false (marks Start (drop at s))

-- the refusal of a word by itself, and the lower of two refusals, where 0 is none
unfoldable pub fault_of : List ℕ → ℕ
fault_of w = cond (any_of bad_byte w) 4 (cond (too_long w) 5 0)

unfoldable pub lower : ℕ → ℕ → ℕ
lower zero g = g
lower (suc f) zero = suc f
lower (suc f) (suc g) = suc (min f g)

-- a backslash stands before the line end whose LF is at i, LF or CR LF
unfoldable pub slash_before : List ℕ → ℕ → Bool
slash_before s i =
    ltb 0 i && cond (eqb (get_or s (i - 1) 0) 13) (ltb 1 i && eqb (get_or s (i - 2) 0) 92) (eqb (get_or s (i - 1) 0) 92)

-- the byte before f is a LF that ends a line, whatever stands before it; or f is 0
pub record Fenced (s : List ℕ) (f : ℕ) : Type 0 where
  pub high : f ≤ length s
  pub last : 0 < f → get_or s (f - 1) 0 ≡ 10
  pub free : 0 < f → slash_before s (f - 1) ≡ false

-- What the readers promise. `grow`: a physical line takes at least one byte.

-- the word that has begun before `at` ends at r
pub record WordEnd (s : List ℕ) (at r : ℕ) : Type 0 where
  pub low : at ≤ r
  pub high : r ≤ length s
  pub text : run (marks Word (drop at s)) ≡ part s at r
  pub rest : words true (marks Word (drop at s)) ≡ left s r
  pub onto : (n : ℕ) → lines_of n true (marks Word (drop at s)) ≡ ahead s r n

-- the word that has begun before `at` goes on up to i
pub record InWord (s : List ℕ) (from i : ℕ) : Type 0 where
  pub low : from ≤ i
  pub high : i ≤ length s
  pub text : run (marks Word (drop from s)) ≡ part s from i ++ run (marks Word (drop i s))
  pub rest : words true (marks Word (drop from s)) ≡ words true (marks Word (drop i s))
  pub onto : (n : ℕ) → lines_of n true (marks Word (drop from s)) ≡ lines_of n true (marks Word (drop i s))

pub record OddWord (s : List ℕ) (at r f : ℕ) : Type 0 where
  pub ends : WordEnd s (at + 1) r
  pub fault : f ≡ fault_of (part s at r)

pub record CommentEnd (s : List ℕ) (at r : ℕ) : Type 0 where
  pub low : at ≤ r
  pub high : r ≤ length s
  pub onto : (n : ℕ) → lines_of n true (marks Comment (drop at s)) ≡ follow s r (n + 1)

-- only blanks from `at` up to r; at the start of a line, and between words
pub record Blanks (s : List ℕ) (at r : ℕ) : Type 0 where
  pub low : at ≤ r
  pub high : r ≤ length s
  pub text : left s at ≡ left s r
  pub onto : (n : ℕ) → ahead s at n ≡ ahead s r n
  pub mark₀ : heading (marks Start (drop at s)) ≡ heading (marks Start (drop r s))
  pub text₀ : words false (marks Start (drop at s)) ≡ words false (marks Start (drop r s))
  pub onto₀ : (n : ℕ) → lines_of n true (marks Start (drop at s)) ≡ lines_of n true (marks Start (drop r s))

-- The next word is from a up to e, in the physical line m, with the refusal f. What is ahead is what is ahead after it.
pub record FoundWord (s : List ℕ) (at n a e m f : ℕ) : Type 0 where
  pub low : at ≤ a
  pub some : a < e
  pub high : e ≤ length s
  pub few : m ≤ e + 1
  pub grow : m + at ≤ n + e
  pub text : left s at ≡ part s a e ∷ left s e
  pub onto : ahead s at n ≡ ahead s e m
  pub fault : f ≡ fault_of (part s a e)

-- No word is left, and the next line starts at p and has the number m.
pub record NoWord (s : List ℕ) (at n p m : ℕ) : Type 0 where
  pub low : at ≤ p
  pub onwards : min (at + 1) (length s) ≤ p
  pub high : p ≤ length s
  pub few : m ≤ p + 1
  pub grow : m + at ≤ n + p
  pub none : left s at ≡ []
  pub onto : ahead s at n ≡ follow s p m

-- The rest of a line is passed over, from a place where a word would begin: the next line starts at p and has the number m.
pub record Passed (s : List ℕ) (at n p m : ℕ) : Type 0 where
  pub onwards : min (at + 1) (length s) ≤ p
  pub high : p ≤ length s
  pub few : m ≤ p + 1
  pub onto : ahead s at n ≡ follow s p m

-- from `at` on, with the line n, nothing but blanks and joins up to i, which lies in the physical line m
pub record Between (s : List ℕ) (at n i m : ℕ) : Type 0 where
  pub low : at ≤ i
  pub high : i ≤ length s
  pub few : m ≤ i + 1
  pub grow : m + at ≤ n + i
  pub text : left s at ≡ left s i
  pub onto : ahead s at n ≡ ahead s i m

-- the next word is plain, ends before the fence f, and stands in the same physical line
pub record PlainFound (s : List ℕ) (f at a e : ℕ) : Type 0 where
  pub found : (n : ℕ) → n ≤ at + 1 → FoundWord s at n a e n 0
  pub inside : e < f

-- the word of the byte b alone, up to e
pub record ByteWord (s : List ℕ) (f at b e : ℕ) : Type 0 where
  pub start : ℕ
  pub word : PlainFound s f at start e
  pub text : part s start e ≡ b ∷ []

-- the heading mark and the words of the line at `from`, whose words are read from `at` on, in the physical line m
pub record Opens (s : List ℕ) (from n : ℕ) (bang : Bool) (at m : ℕ) : Type 0 where
  pub low : from ≤ at
  pub high : at ≤ length s
  pub few : m ≤ at + 1
  pub grow : m + from ≤ n + at
  pub mark : heading (marks Start (drop from s)) ≡ bang
  pub text : words false (marks Start (drop from s)) ≡ left s at
  pub onto : lines_of n true (marks Start (drop from s)) ≡ ahead s at m
