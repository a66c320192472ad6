-- Reading composes: the lines of a joined file.
use Prim.Native.Nat.{ℕ, ◌+◌}
use native.Mathlib.Nat.{add-zero, add_assoc}
use native.Mathlib.Omega.{arith}
use mathlib.Core.Path.{◌≡◌, refl, sym, ap, ◌∙◌}
use mathlib.Core.List.{List, [], ◌∷◌, ◌++◌, map}
use mathlib.Core.Bool.{Bool, true, false, cond}
use lib.Dec.{eqb}
use borrow.Author.Tests.{not-true, eqb-true}
use Rattle.text.specs.declared.Class.{Class}
use Rattle.text.specs.declared.Class.TheVariants.{Blank, Join, Slashes, Bang, Other}
use Rattle.text.specs.declared.Place.{Place}
use Rattle.text.specs.declared.Place.TheVariants.{Start, Space, Word, Comment, JoinStart, JoinSpace}
use Rattle.text.specs.Bytes.{first, rest}
use Rattle.text.specs.Marks.{ends_line, class_of, Mark, char, gap, join, bang, end, at_feed, at_other, step, marks}
use Rattle.text.specs.Lines.{run, words, heading, Line, feeds, inside, lines_of, lines, closed_from, closed}
use Rattle.text.proofs.Lists.{no}

run_append : (a b : List Mark) → closed_from true a ≡ true → run (a ++ b) ≡ run a
unfolding run closed_from inside
run_append [] b h = absurd (no h)
run_append (char x ∷ r) b h = ap (λ (l : List ℕ). x ∷ l) (run_append r b h)
run_append (gap ∷ r) b h = refl
run_append (join ∷ r) b h = refl
run_append (bang ∷ r) b h = refl
run_append (end ∷ r) b h = refl

words_append : (f : Bool) (a b : List Mark) → closed_from true a ≡ true → words f (a ++ b) ≡ words f a
unfolding words closed_from inside
words_append f [] b h = absurd (no h)
words_append f (gap ∷ r) b h = words_append false r b h
words_append f (join ∷ r) b h = words_append false r b h
words_append f (bang ∷ r) b h = words_append false r b h
words_append f (end ∷ r) b h = refl
words_append false (char x ∷ r) b h = rw (run_append r b h, words_append true r b h)
words_append true (char x ∷ r) b h = words_append true r b h

heading_append : (a b : List Mark) → closed_from true a ≡ true → heading (a ++ b) ≡ heading a
unfolding heading closed_from inside
heading_append [] b h = absurd (no h)
heading_append (char x ∷ r) b h = refl
heading_append (gap ∷ r) b h = heading_append r b h
heading_append (join ∷ r) b h = heading_append r b h
heading_append (bang ∷ r) b h = refl
heading_append (end ∷ r) b h = refl

unfoldable pub all_feeds : List Mark → ℕ
all_feeds [] = 0
all_feeds (y ∷ r) = feeds y + all_feeds r

pub lines_of_append : (n : ℕ) (f : Bool) (a b : List Mark) → closed_from f a ≡ true → lines_of n f (a ++ b) ≡ lines_of n f a ++ lines_of (n + all_feeds a) false b
unfolding lines_of closed_from all_feeds
lines_of_append n false [] b h = rw add-zero
lines_of_append n true [] b h = absurd (no h)
lines_of_append n false (y ∷ r) b h =
    rw (words_append false (y ∷ r) b h, heading_append (y ∷ r) b h, lines_of_append (n + feeds y) (inside y) r b h, add_assoc)
lines_of_append n true (y ∷ r) b h = rw (lines_of_append (n + feeds y) (inside y) r b h, add_assoc)

unfoldable pub shifted : ℕ → Line → Line
shifted k l = record { number = l.number + k; is_heading = l.is_heading; text = l.text }

pub lines_of_shift : (k n : ℕ) (f : Bool) (a : List Mark) → lines_of (n + k) f a ≡ map (shifted k) (lines_of n f a)
unfolding lines_of shifted
lines_of_shift k n f [] = refl
lines_of_shift k n false (y ∷ r) = let e : n + k + feeds y ≡ n + feeds y + k = omega arith in rw (e, lines_of_shift k (n + feeds y) (inside y) r)
lines_of_shift k n true (y ∷ r) = let e : n + k + feeds y ≡ n + feeds y + k = omega arith in rw (e, lines_of_shift k (n + feeds y) (inside y) r)

-- a byte other than LF ends no line, and the place after it depends on its class alone
pub quiet : (m : Place) (k : Class) (b : ℕ) → (feeds (at_other m k b).0 ≡ 0) × (inside (at_other m k b).0 ≡ true) × ((at_other m k b).1 ≡ (at_other m k 0).1)
unfolding feeds inside
quiet Start Blank b = (refl, refl, refl)
quiet Start Join b = (refl, refl, refl)
quiet Start Slashes b = (refl, refl, refl)
quiet Start Bang b = (refl, refl, refl)
quiet Start Other b = (refl, refl, refl)
quiet Space Blank b = (refl, refl, refl)
quiet Space Join b = (refl, refl, refl)
quiet Space Slashes b = (refl, refl, refl)
quiet Space Bang b = (refl, refl, refl)
quiet Space Other b = (refl, refl, refl)
quiet Word Blank b = (refl, refl, refl)
quiet Word Join b = (refl, refl, refl)
quiet Word Slashes b = (refl, refl, refl)
quiet Word Bang b = (refl, refl, refl)
quiet Word Other b = (refl, refl, refl)
quiet Comment k b = (refl, refl, refl)
quiet JoinStart k b = (refl, refl, refl)
quiet JoinSpace k b = (refl, refl, refl)

feed_ends : (p : Place) → inside (at_feed p).0 ≡ false → at_feed p ≡ (end, Start)
unfolding inside
feed_ends Start e = refl
feed_ends Space e = refl
feed_ends Word e = refl
feed_ends Comment e = refl
feed_ends JoinStart e = absurd (no (sym e))
feed_ends JoinSpace e = absurd (no (sym e))

-- a byte that ends a line is LF, and does so whatever follows it
ends_alike : (m : Place) (x c d : ℕ) → inside (step m x c d).0 ≡ false → (x ≡ 10) × (at_feed m ≡ (end, Start))
unfolding step
ends_alike m x c d h = go (eqb x 10) refl h
  where
    go : (t : Bool) → eqb x 10 ≡ t → inside (cond t (at_feed m) (at_other m (class_of x c d) x)).0 ≡ false → (x ≡ 10) × (at_feed m ≡ (end, Start))
    go true p e = (eqb-true x 10 p, feed_ends m e)
    go false p e = absurd (no (sym e ∙ (quiet m (class_of x c d) x).1))

step_ten : (m : Place) (x c d : ℕ) → x ≡ 10 → step m x c d ≡ at_feed m
unfolding step
step_ten m x c d e = rw e

-- what a byte before LF is does not depend on what follows the LF
before_feed : (m : Place) (x c d : ℕ) → step m x 10 c ≡ step m x 10 d
unfolding step class_of ends_line
before_feed m x c d = refl

pub marks_append : (m : Place) (a b : List ℕ) → closed_from true (marks m a) ≡ true → marks m (a ++ b) ≡ marks m a ++ marks Start b
unfolding marks closed_from first rest
marks_append m [] b h = absurd (no h)
marks_append m (x ∷ []) b h =
    let e = ends_alike m x 0 0 (not-true (inside (step m x 0 0).0) h) in
    rw (step_ten m x (first b) (first (rest b)) e.0, step_ten m x 0 0 e.0, e.1)
marks_append m (x ∷ y ∷ []) b h =
    let n = (step m x y 0).1 in
    let e = ends_alike n y 0 0 (not-true (inside (step n y 0 0).0) h) in
    let q : step m x y (first b) ≡ step m x y 0 = rw e.0 (before_feed m x (first b) 0) in
    rw q (ap (λ (l : List Mark). (step m x y 0).0 ∷ l) (marks_append n (y ∷ []) b h))
marks_append m (x ∷ y ∷ z ∷ r) b h =
    ap (λ (l : List Mark). (step m x y z).0 ∷ l) (marks_append (step m x y z).1 (y ∷ z ∷ r) b h)

pub marks_join : (a b : List ℕ) → closed a ≡ true → marks Start (a ++ b) ≡ marks Start a ++ marks Start b
unfolding marks closed_from closed
marks_join [] b h = refl
marks_join (x ∷ r) b h = marks_append Start (x ∷ r) b h

-- Reading composes: the lines of the joined file are the first's, and the second's with their numbers shifted.
unfoldable pub physical : List ℕ → ℕ
physical s = all_feeds (marks Start s)

pub lines_join : (a b : List ℕ) → closed a ≡ true → lines (a ++ b) ≡ lines a ++ map (shifted (physical a)) (lines b)
unfolding lines closed physical
lines_join a b h =
    rw (marks_join a b h, lines_of_append 1 false (marks Start a) (marks Start b) h, lines_of_shift)
