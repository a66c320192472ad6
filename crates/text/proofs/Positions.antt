-- The definitions of lines and words at a position of the file.
use Prim.Native.Nat.{ℕ, zero, suc, suc-le-suc, ◌+◌, ◌-◌, ◌≤◌, ◌<◌}
use native.Mathlib.Nat.{sub_self, add-zero}
use native.Mathlib.Omega.{arith}
use mathlib.Core.Path.{◌≡◌, refl, sym, ◌∙◌}
use mathlib.Core.List.{List, [], ◌∷◌, ◌++◌, append-nil, append_assoc}
use mathlib.Core.Bool.{Bool, true, false, cond}
use mathlib.Core.Logic.{◌⊎◌, inl, inr, ⊎_elim}
use borrow.Author.Tests.{ne_eqb}
use lib.Dec.{eqb}
use lib.ListN.{length, get_or, drop, length-take, length-drop, drop_of_length-le}
use lib.Seq.{drop-drop, take-suc, get_or-drop}
use Rattle.text.specs.declared.Class.{Class}
use Rattle.text.specs.declared.Class.TheVariants.{Blank, Join, Slashes, Bang, Other}
use Rattle.text.specs.declared.Place.{Place}
use Rattle.text.specs.declared.Place.TheVariants.{Space, Word, Comment}
use Rattle.text.specs.Bytes.{first, rest, part}
use Rattle.text.specs.Marks.{class_of, Mark, char, gap, join, bang, end, at_feed, at_other, step, marks}
use Rattle.text.specs.Lines.{run, words, feeds, inside, lines_of}
use Rattle.text.specs.Reading.{left, wordly, in_word, ahead, WordEnd, InWord}
use Rattle.text.proofs.Lists.{no}
use Rattle.text.proofs.Comparing.{drop_at}

pub first_drop : (s : List ℕ) (i : ℕ) → first (drop i s) ≡ get_or s i 0
unfolding first
first_drop [] zero = refl
first_drop [] (suc i) = refl
first_drop (x ∷ s) zero = refl
first_drop (x ∷ s) (suc i) = first_drop s i

pub first_over : (s : List ℕ) (i : ℕ) → length s ≤ i → first (drop i s) ≡ 0
unfolding first
first_over s i h = rw (drop_of_length-le s h)

-- a part of the file: none, one byte more behind it, one more before it
pub part_empty : (s : List ℕ) (a : ℕ) → part s a a ≡ []
unfolding part
part_empty s a = rw (sub_self a)

pub part_snoc : (s : List ℕ) (a e : ℕ) → a ≤ e → e < length s → part s a (e + 1) ≡ part s a e ++ (get_or s e 0 ∷ [])
unfolding part
part_snoc s a e le h =
    let k : e + 1 - a ≡ suc (e - a) = omega arith in
    let p : a + (e - a) ≡ e = omega arith in
    let b : e - a < length (drop a s) = simp length-drop (omega arith) in
    rw k (rw (take-suc (drop a s) (e - a) 0 b, get_or-drop a s (e - a) 0, p))

pub part_cons : (s : List ℕ) (a e : ℕ) → a < e → e ≤ length s → part s a e ≡ get_or s a 0 ∷ part s (a + 1) e
unfolding part
part_cons s a e lt h =
    let k : e - a ≡ suc (e - (a + 1)) = omega arith in
    rw (k, drop_at s a (omega arith))

wordly_char : (b : ℕ) (k : Class) → wordly k ≡ true → at_other Word k b ≡ (char b, Word)
unfolding wordly
wordly_char b Blank h = absurd (no h)
wordly_char b Join h = absurd (no h)
wordly_char b Slashes h = refl
wordly_char b Bang h = refl
wordly_char b Other h = refl

pub in_word_lem : (b c d : ℕ) → in_word b c d ≡ true → step Word b c d ≡ (char b, Word)
unfolding in_word step
in_word_lem b c d = go (eqb b 10)
  where
    go : (t : Bool) → cond t false (wordly (class_of b c d)) ≡ true → cond t (at_feed Word) (at_other Word (class_of b c d) b) ≡ (char b, Word)
    go true h = absurd (no h)
    go false h = wordly_char b (class_of b c d) h

-- a byte at which a word ends is marked as it would be between words
wordly_gap : (b : ℕ) (k : Class) → wordly k ≡ false → (at_other Word k b ≡ at_other Space k b) × ((at_other Word k b).0 ≡ gap)
unfolding wordly
wordly_gap b Blank h = (refl, refl)
wordly_gap b Join h = (refl, refl)
wordly_gap b Slashes h = absurd (no (sym h))
wordly_gap b Bang h = absurd (no (sym h))
wordly_gap b Other h = absurd (no (sym h))

feed_same : at_feed Word ≡ at_feed Space
feed_same = refl

feed_end_lem : (at_feed Word).0 ≡ end
feed_end_lem = refl

pub word_stops : (b c d : ℕ) → in_word b c d ≡ false → (step Word b c d ≡ step Space b c d) × (((step Word b c d).0 ≡ gap) ⊎ ((step Word b c d).0 ≡ end))
unfolding in_word step
word_stops b c d = go (eqb b 10)
  where
    go : (t : Bool) → cond t false (wordly (class_of b c d)) ≡ false →
        (cond t (at_feed Word) (at_other Word (class_of b c d) b) ≡ cond t (at_feed Space) (at_other Space (class_of b c d) b)) ×
        (((cond t (at_feed Word) (at_other Word (class_of b c d) b)).0 ≡ gap) ⊎ ((cond t (at_feed Word) (at_other Word (class_of b c d) b)).0 ≡ end))
    go true h = (feed_same, inr feed_end_lem)
    go false h = let w = wordly_gap b (class_of b c d) h in (w.0, inl w.1)

run_stop : (y : Mark) (r : List Mark) → (y ≡ gap) ⊎ (y ≡ end) → (run (y ∷ r) ≡ []) × (words true (y ∷ r) ≡ words false (y ∷ r))
unfolding run words
run_stop y r w = ⊎_elim (λ (e : y ≡ gap). rw e (refl, refl)) (λ (e : y ≡ end). rw e (refl, refl)) w

-- the clauses, as equations
pub lines_char : (n b : ℕ) (r : List Mark) → lines_of n true (char b ∷ r) ≡ lines_of n true r
unfolding lines_of feeds inside
lines_char n b r = rw add-zero

pub lines_gap : (n : ℕ) (r : List Mark) → lines_of n true (gap ∷ r) ≡ lines_of n true r
unfolding lines_of feeds inside
lines_gap n r = rw add-zero

pub lines_bang : (n : ℕ) (r : List Mark) → lines_of n true (bang ∷ r) ≡ lines_of n true r
unfolding lines_of feeds inside
lines_bang n r = rw add-zero

pub lines_join : (n : ℕ) (r : List Mark) → lines_of n true (join ∷ r) ≡ lines_of (n + 1) true r
unfolding lines_of feeds inside
lines_join n r = refl

pub lines_end : (n : ℕ) (r : List Mark) → lines_of n true (end ∷ r) ≡ lines_of (n + 1) false r
unfolding lines_of feeds inside
lines_end n r = refl

pub lines_nil : (n : ℕ) (f : Bool) → lines_of n f [] ≡ []
unfolding lines_of
lines_nil n f = refl

-- at a position

rest_drop : (s : List ℕ) (k : ℕ) → rest (drop k s) ≡ drop (suc k) s
unfolding rest
rest_drop [] zero = refl
rest_drop [] (suc k) = refl
rest_drop (x ∷ s) zero = refl
rest_drop (x ∷ s) (suc k) = rest_drop s k

pub marks_at : (m : Place) (s : List ℕ) (i : ℕ) → i < length s →
    marks m (drop i s) ≡
    (step m (get_or s i 0) (first (drop (i + 1) s)) (first (drop (i + 2) s))).0 ∷
    marks (step m (get_or s i 0) (first (drop (i + 1) s)) (first (drop (i + 2) s))).1 (drop (i + 1) s)
unfolding marks
marks_at m s i h = let q : i + 2 ≡ suc (i + 1) = omega arith in rw (drop_at s i h, rest_drop s (i + 1), ← q)

-- the byte at i goes on with a word
abbrev pub in_word_at : List ℕ → ℕ → Bool
in_word_at s i = in_word (get_or s i 0) (first (drop (i + 1) s)) (first (drop (i + 2) s))

pub word_more : (s : List ℕ) (i : ℕ) → i < length s → in_word_at s i ≡ true →
    (run (marks Word (drop i s)) ≡ get_or s i 0 ∷ run (marks Word (drop (i + 1) s))) × (words true (marks Word (drop i s)) ≡ words true (marks Word (drop (i + 1) s)))
unfolding run words
word_more s i h e = rw (marks_at Word s i h, in_word_lem _ _ _ e) (refl, refl)

word_more_lines : (s : List ℕ) (i n : ℕ) → i < length s → in_word_at s i ≡ true →
    lines_of n true (marks Word (drop i s)) ≡ lines_of n true (marks Word (drop (i + 1) s))
word_more_lines s i n h e = rw (marks_at Word s i h, in_word_lem _ _ _ e) (lines_char n _ _)

pub word_over : (s : List ℕ) (i : ℕ) → i < length s → in_word_at s i ≡ false →
    (run (marks Word (drop i s)) ≡ []) × (words true (marks Word (drop i s)) ≡ left s i)
unfolding left
word_over s i h e =
    let w = word_stops _ _ _ e in
    rw (marks_at Word s i h, marks_at Space s i h, ← w.0) (run_stop _ _ w.1)

word_over_lines : (s : List ℕ) (i n : ℕ) → i < length s → in_word_at s i ≡ false →
    lines_of n true (marks Word (drop i s)) ≡ ahead s i n
unfolding ahead
word_over_lines s i n h e =
    let w = word_stops _ _ _ e in
    rw (marks_at Word s i h, marks_at Space s i h, w.0)

module _ (s : List ℕ) (from : ℕ) where
  pub in_word_start : from ≤ length s → InWord s from from
  in_word_start h = record { low = omega arith; high = h; text = rw (part_empty s from); rest = refl; onto = λ n. refl }

  pub in_word_more : (i : ℕ) → InWord s from i → i < length s → in_word_at s i ≡ true → InWord s from (i + 1)
  in_word_more i v h e =
      let w = word_more s i h e in
      record {
        low = omega arith;
        high = omega arith;
        text = v.text ∙ rw (w.0, part_snoc s from i v.low h, append_assoc) refl;
        rest = v.rest ∙ w.1;
        onto = λ n. v.onto n ∙ word_more_lines s i n h e;
      }

  pub in_word_over : (i : ℕ) → InWord s from i → i < length s → in_word_at s i ≡ false → WordEnd s from i
  in_word_over i v h e =
      let w = word_over s i h e in
      record { low = v.low; high = v.high; text = v.text ∙ rw (w.0, append-nil); rest = v.rest ∙ w.1; onto = λ n. v.onto n ∙ word_over_lines s i n h e }

  pub in_word_end : (i : ℕ) → InWord s from i → length s ≤ i → WordEnd s from i
  unfolding marks run words left ahead
  in_word_end i v h =
      let e = drop_of_length-le s h in
      record { low = v.low; high = v.high; text = v.text ∙ rw (e, append-nil); rest = v.rest ∙ rw e; onto = λ n. v.onto n ∙ rw e }

-- between words

pub step_other : (m : Place) (b c d : ℕ) (k : Class) → (b ≡ 10 → ⊥) → k ≡ class_of b c d → step m b c d ≡ at_other m k b
unfolding step
step_other m b c d k n e = rw (ne_eqb b 10 n, ← e)

pub comment_words : (l : List ℕ) → words false (marks Comment l) ≡ []
unfolding marks words step
comment_words [] = refl
comment_words (b ∷ r) = go (eqb b 10) (comment_words r)
  where
    go : (t : Bool) → words false (marks Comment r) ≡ [] →
        words false ((cond t (at_feed Comment) (gap, Comment)).0 ∷ marks (cond t (at_feed Comment) (gap, Comment)).1 r) ≡ []
    go true h = refl
    go false h = h

pub first_in : (s : List ℕ) (k : ℕ) → first (drop k s) ≡ 10 → k < length s
unfolding first
first_in [] zero h = omega arith
first_in [] (suc k) h = omega arith
first_in (x ∷ s) zero h = omega arith
first_in (x ∷ s) (suc k) h = suc-le-suc (first_in s k h)

pub step_feed : (m : Place) (b c d : ℕ) → b ≡ 10 → step m b c d ≡ at_feed m
unfolding step
step_feed m b c d e = rw e

pub length_part : (s : List ℕ) (a e : ℕ) → e ≤ length s → length (part s a e) ≡ e - a
unfolding part
length_part s a e h = simp (length-take, length-drop) (omega arith)

pub part_of_part : (s : List ℕ) (at a e : ℕ) → part (drop at s) a e ≡ part s (at + a) (at + e)
unfolding part
part_of_part s at a e =
    let k : at + e - (at + a) ≡ e - a = omega arith in
    rw (drop-drop a at s, k)
