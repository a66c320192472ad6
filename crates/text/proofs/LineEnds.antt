-- A file without any CR, with every LF then made CR LF, has the same lines.
use Prim.Native.Nat.{ℕ, ◌+◌}
use native.Mathlib.Nat.{add-zero}
use mathlib.Core.Path.{◌≡◌, refl}
use mathlib.Core.List.{List, [], ◌∷◌}
use mathlib.Core.Bool.{Bool, true, false, ◌||◌, ◌&&◌, cond}
use borrow.Author.Tests.{eqb-true, eqb-false, not-true}
use lib.Dec.{eqb}
use Rattle.text.specs.declared.Class.{Class}
use Rattle.text.specs.declared.Class.TheVariants.{Blank, Join, Slashes, Bang, Other}
use Rattle.text.specs.declared.Place.{Place}
use Rattle.text.specs.declared.Place.TheVariants.{Start, Space, Word, Comment, JoinStart, JoinSpace}
use Rattle.text.specs.Bytes.{first, rest, any_of}
use Rattle.text.specs.Marks.{ends_line, class_of, Mark, char, gap, join, bang, end, at_feed, at_other, step, marks}
use Rattle.text.specs.Lines.{run, words, heading, feeds, inside, lines_of, lines, closed_from, closed, crlf, no_return}
use Rattle.text.proofs.Lists.{neither}
use Rattle.text.proofs.ByteKinds.{ends_not}

-- the marks with a blank before each line end
unfoldable padded : List Mark → List Mark
padded [] = []
padded (char b ∷ r) = char b ∷ padded r
padded (gap ∷ r) = gap ∷ padded r
padded (join ∷ r) = gap ∷ join ∷ padded r
padded (bang ∷ r) = bang ∷ padded r
padded (end ∷ r) = gap ∷ end ∷ padded r

-- such blanks change nothing

run_padded : (l : List Mark) → run (padded l) ≡ run l
unfolding run padded
run_padded [] = refl
run_padded (char b ∷ r) = rw (run_padded r)
run_padded (gap ∷ r) = refl
run_padded (join ∷ r) = refl
run_padded (bang ∷ r) = refl
run_padded (end ∷ r) = refl

words_padded : (f : Bool) (l : List Mark) → words f (padded l) ≡ words f l
unfolding words padded
words_padded f [] = refl
words_padded false (char b ∷ r) = rw (run_padded r, words_padded true r)
words_padded true (char b ∷ r) = words_padded true r
words_padded f (gap ∷ r) = words_padded false r
words_padded f (join ∷ r) = words_padded false r
words_padded f (bang ∷ r) = words_padded false r
words_padded f (end ∷ r) = refl

heading_padded : (l : List Mark) → heading (padded l) ≡ heading l
unfolding heading padded
heading_padded [] = refl
heading_padded (char b ∷ r) = refl
heading_padded (gap ∷ r) = heading_padded r
heading_padded (join ∷ r) = heading_padded r
heading_padded (bang ∷ r) = refl
heading_padded (end ∷ r) = refl

lines_padded : (n : ℕ) (f : Bool) (l : List Mark) → lines_of n f (padded l) ≡ lines_of n f l
unfolding lines_of padded feeds inside words heading
lines_padded n f [] = refl
lines_padded n false (char b ∷ r) = rw (run_padded r, words_padded true r, lines_padded (n + 0) true r)
lines_padded n false (gap ∷ r) = rw (words_padded false r, heading_padded r, lines_padded (n + 0) true r)
lines_padded n false (join ∷ r) = rw (words_padded false r, heading_padded r, add-zero n, lines_padded (n + 1) true r)
lines_padded n false (bang ∷ r) = rw (words_padded false r, lines_padded (n + 0) true r)
lines_padded n false (end ∷ r) = rw (add-zero n, lines_padded (n + 1) false r)
lines_padded n true (char b ∷ r) = lines_padded (n + 0) true r
lines_padded n true (gap ∷ r) = lines_padded (n + 0) true r
lines_padded n true (join ∷ r) = rw (add-zero n, lines_padded (n + 1) true r)
lines_padded n true (bang ∷ r) = lines_padded (n + 0) true r
lines_padded n true (end ∷ r) = rw (add-zero n, lines_padded (n + 1) false r)

closed_padded : (f : Bool) (l : List Mark) → closed_from f (padded l) ≡ closed_from f l
unfolding closed_from padded inside
closed_padded f [] = refl
closed_padded f (char b ∷ r) = closed_padded true r
closed_padded f (gap ∷ r) = closed_padded true r
closed_padded f (join ∷ r) = closed_padded true r
closed_padded f (bang ∷ r) = closed_padded true r
closed_padded f (end ∷ r) = closed_padded false r

-- the marks of CR LF are those of LF, with a blank before them

other_padded : (m : Place) (k : Class) (b : ℕ) (r : List Mark) → padded ((at_other m k b).0 ∷ r) ≡ (at_other m k b).0 ∷ padded r
unfolding padded
other_padded Start Blank b r = refl
other_padded Start Join b r = refl
other_padded Start Slashes b r = refl
other_padded Start Bang b r = refl
other_padded Start Other b r = refl
other_padded Space Blank b r = refl
other_padded Space Join b r = refl
other_padded Space Slashes b r = refl
other_padded Space Bang b r = refl
other_padded Space Other b r = refl
other_padded Word Blank b r = refl
other_padded Word Join b r = refl
other_padded Word Slashes b r = refl
other_padded Word Bang b r = refl
other_padded Word Other b r = refl
other_padded Comment k b r = refl
other_padded JoinStart k b r = refl
other_padded JoinSpace k b r = refl

feed_padded : (m : Place) (r : List Mark) → padded ((at_feed m).0 ∷ r) ≡ gap ∷ (at_feed m).0 ∷ padded r
unfolding padded
feed_padded Start r = refl
feed_padded Space r = refl
feed_padded Word r = refl
feed_padded Comment r = refl
feed_padded JoinStart r = refl
feed_padded JoinSpace r = refl

-- a CR before LF is a blank wherever it stands
return_step : (m : Place) (d : ℕ) → ((step m 13 10 d).0 ≡ gap) × (at_feed (step m 13 10 d).1 ≡ at_feed m)
unfolding step class_of ends_line
return_step Start d = (refl, refl)
return_step Space d = (refl, refl)
return_step Word d = (refl, refl)
return_step Comment d = (refl, refl)
return_step JoinStart d = (refl, refl)
return_step JoinSpace d = (refl, refl)

-- the bytes behind one, as CR LF

ahead_ends : (r : List ℕ) → any_of (λ b. eqb b 13) r ≡ false → ends_line (first (crlf r)) (first (rest (crlf r))) ≡ ends_line (first r) (first (rest r))
unfolding crlf ends_line first rest any_of
ahead_ends [] h = refl
ahead_ends (c ∷ r) h = go (eqb c 10) refl (neither (eqb c 13) _ h).0
  where
    go : (t : Bool) → eqb c 10 ≡ t → eqb c 13 ≡ false →
        (eqb (first (cond t (13 ∷ 10 ∷ crlf r) (c ∷ crlf r))) 10 || (eqb (first (cond t (13 ∷ 10 ∷ crlf r) (c ∷ crlf r))) 13 && eqb (first (rest (cond t (13 ∷ 10 ∷ crlf r) (c ∷ crlf r)))) 10)) ≡
        (t || (eqb c 13 && eqb (first r) 10))
    go true p n = refl
    go false p n = rw (p, n) refl

ahead_slash : (r : List ℕ) → eqb (first (crlf r)) 47 ≡ eqb (first r) 47
unfolding crlf first
ahead_slash [] = refl
ahead_slash (c ∷ r) = go (eqb c 10) refl
  where
    go : (t : Bool) → eqb c 10 ≡ t → eqb (first (cond t (13 ∷ 10 ∷ crlf r) (c ∷ crlf r))) 47 ≡ eqb c 47
    go true p = rw (eqb-true c 10 p) refl
    go false p = refl

-- so a byte that is no LF means the same
same_class : (b : ℕ) (r : List ℕ) → (b ≡ 10 → ⊥) → (b ≡ 13 → ⊥) → any_of (λ x. eqb x 13) r ≡ false →
    class_of b (first (crlf r)) (first (rest (crlf r))) ≡ class_of b (first r) (first (rest r))
unfolding class_of
same_class b r n k h = rw (ahead_ends r h, ahead_slash r, ends_not b (first (crlf r)) n k, ends_not b (first r) n k) refl

crlf_marks : (m : Place) (f : List ℕ) → any_of (λ b. eqb b 13) f ≡ false → marks m (crlf f) ≡ padded (marks m f)
unfolding marks crlf padded step any_of first rest
crlf_marks m [] h = refl
crlf_marks m (b ∷ r) h =
    let w = neither (eqb b 13) _ h in
    go (eqb b 10) refl (eqb-false _ _ w.0) w.1 (λ q. crlf_marks q r w.1)
  where
    go : (t : Bool) → eqb b 10 ≡ t → (b ≡ 13 → ⊥) → any_of (λ x. eqb x 13) r ≡ false → ((q : Place) → marks q (crlf r) ≡ padded (marks q r)) →
        marks m (cond t (13 ∷ 10 ∷ crlf r) (b ∷ crlf r)) ≡
        padded ((cond t (at_feed m) (at_other m (class_of b (first r) (first (rest r))) b)).0 ∷ marks (cond t (at_feed m) (at_other m (class_of b (first r) (first (rest r))) b)).1 r)
    go true p n e on =
        let s = return_step m (first (crlf r)) in
        rw (s.0, s.1, feed_padded m (marks (at_feed m).1 r), on (at_feed m).1)
    go false p n e on =
        let c = class_of b (first r) (first (rest r)) in
        rw (p, same_class b r (eqb-false _ _ p) n e, on (at_other m c b).1, other_padded m c b (marks (at_other m c b).1 r))

module _ (f : List ℕ) (h : no_return f ≡ true) where
  all_marks : marks Start (crlf f) ≡ padded (marks Start f)
  unfolding no_return
  all_marks = crlf_marks Start f (not-true _ h)

  pub crlf_lines : lines (crlf f) ≡ lines f
  unfolding lines
  crlf_lines = rw all_marks (lines_padded 1 false (marks Start f))

  pub crlf_closed : closed (crlf f) ≡ closed f
  unfolding closed
  crlf_closed = rw all_marks (closed_padded false (marks Start f))
