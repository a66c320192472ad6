-- What the readers of a source promise, over the types that they give.
use Rattle.std.specs.Prelude.{◌≡◌, ℕ, ◌+◌, ◌≤◌, ◌<◌, List, true, false, cond, eqb, leb, length, drop, get_or, Option, Some, None}
use Rattle.text.specs.declared.Place.TheVariants.{Start}
use Rattle.text.specs.declared.Span.{Span}
use Rattle.text.specs.declared.kinds.Kind.{Kind}
use Rattle.text.specs.declared.source.Next.{Next}
use Rattle.text.specs.declared.source.Next.TheVariants.{Found, Stop}
use Rattle.text.specs.Bytes.{first, all_of, any_of, part}
use Rattle.text.specs.Marks.{ends_line, marks}
use Rattle.text.specs.Lines.{words, heading, lines_of}
use Rattle.text.specs.Words.{bad_byte}
use Rattle.text.specs.Kinds.{kind_of, rank, blank}
use Rattle.text.specs.Told.{fault_number}
use Rattle.text.specs.Reading.{InWord, OddWord, Blanks, FoundWord, NoWord, Between, PlainFound, ByteWord as ByteFound}

-- what the readers ask of a place and the number of its line
pub record Within (s : List ℕ) (from line : ℕ) : Type 0 where
  pub high : from ≤ length s
  pub few : line ≤ from + 1

-- behind the line end at i, LF or CR LF
unfoldable pub feed_end : List ℕ → ℕ → Option ℕ
feed_end s i =
    cond (eqb (first (drop i s)) 10) (Some (i + 1))
    (cond (ends_line (first (drop i s)) (first (drop (i + 1) s))) (Some (i + 2)) None)

-- behind the line end that a backslash at i joins
unfoldable pub join_end : List ℕ → ℕ → Option ℕ
join_end s i = cond (eqb (first (drop i s)) 92) (feed_end s (i + 1)) None

-- only blanks from `at` up to r, and no blank there
pub record Skipped (s : List ℕ) (at r : ℕ) : Type 0 where
  pub blanks : Blanks s at r
  pub stop : r < length s → blank (get_or s r 0) ≡ false

-- from the start of a line at `from`, with the line n, nothing but blanks and joins up to i, which lies in the physical line m
pub record Opened (s : List ℕ) (from n i m : ℕ) : Type 0 where
  pub low : from ≤ i
  pub high : i ≤ length s
  pub few : m ≤ i + 1
  pub grow : m + from ≤ n + i
  pub mark : heading (marks Start (drop from s)) ≡ heading (marks Start (drop i s))
  pub text : words false (marks Start (drop from s)) ≡ words false (marks Start (drop i s))
  pub onto : lines_of n true (marks Start (drop from s)) ≡ lines_of m true (marks Start (drop i s))

-- nothing but blanks and joins, between words and at the start of a line, up to i, where neither stands
pub record SkippedJoins (s : List ℕ) (from n i m : ℕ) : Type 0 where
  pub between : Between s from n i m
  pub opened : Opened s from n i m
  pub stop : i < length s → blank (get_or s i 0) ≡ false
  pub joins : join_end s i ≡ None

-- the word that has begun before `at` goes on up to r with bytes of at most the kind m, and the byte at r is above it
pub record RunEnd (s : List ℕ) (m : Kind) (at r : ℕ) : Type 0 where
  pub read : InWord s at r
  pub clean : any_of bad_byte (part s at r) ≡ false
  pub below : all_of (λ b. leb (rank (kind_of b)) (rank m)) (part s at r) ≡ true
  pub stop : rank m < rank (kind_of (get_or s r 0))

-- the plain word that begins at a: it ends before the fence f, and its bytes from the second on are of at most the kind m; none says nothing
pub record PlainWhole (s : List ℕ) (f : ℕ) (m : Kind) (a e : ℕ) : Type 0 where
  pub word : OddWord s a e 0
  pub inside : e < f
  pub below : all_of (λ b. leb (rank (kind_of b)) (rank m)) (part s (a + 1) e) ≡ true

abbrev pub PlainEnd : List ℕ → ℕ → Kind → ℕ → Option ℕ → Type 0
PlainEnd s f m a (Some e) = PlainWhole s f m a e
PlainEnd s f m a None = Unit {0}

abbrev pub NextWord : List ℕ → ℕ → ℕ → Next → Type 0
NextWord s at n (Found a e m f) = FoundWord s at n a e m (fault_number f)
NextWord s at n (Stop p m) = NoWord s at n p m

-- a plain word that ends before the fence f; none says nothing
abbrev pub PlainWord : List ℕ → ℕ → ℕ → Option Span → Type 0
PlainWord s f at (Some w) = PlainFound s f at w.start w.end
PlainWord s f at None = Unit {0}

-- a plain word without percent signs
abbrev pub ValueWord : List ℕ → ℕ → ℕ → Option Span → Type 0
ValueWord s f at (Some w) = PlainFound s f at w.start w.end × (any_of (λ b. eqb b 37) (part s w.start w.end) ≡ false)
ValueWord s f at None = Unit {0}

-- the word of the byte b alone
abbrev pub ByteWord : List ℕ → ℕ → ℕ → ℕ → Option ℕ → Type 0
ByteWord s f at b (Some e) = ByteFound s f at b e
ByteWord s f at b None = Unit {0}
