-- The readers of lines and words: one law for each way through each loop.
use Prim.Native.Nat.{ℕ, zero, suc, min, ◌+◌, ◌-◌, ◌≤◌, ◌<◌}
use native.Mathlib.Omega.{arith}
use mathlib.Core.Path.{◌≡◌, refl, sym, ◌∙◌}
use mathlib.Core.List.{List, [], ◌∷◌, ◌++◌}
use mathlib.Core.Logic.{⊎_elim}
use mathlib.Core.Bool.{Bool, true, false, ◌||◌, ◌&&◌, cond}
use borrow.Author.Tests.{eq-eqb, ne_eqb, leb-true, eqb-true, eqb-false, ltb-true, ltb-false, le-ltb, le-leb}
use lib.Dec.{eqb, ltb, leb}
use lib.ListN.{length, get_or, take, drop, length-drop, drop_of_length-le}
use lib.Seq.{get_or-drop, take-length}
use Rattle.std.specs.Prelude.{Option, Some, None}
use Rattle.std.specs.Option.{MatchOption, unwrap_or}
use Rattle.std.specs.Cmp.Lexicographic.{pointwise}
use Rattle.text.specs.declared.Class.TheVariants.{Blank, Join, Slashes, Bang, Other}
use Rattle.text.specs.declared.Place.{Place}
use Rattle.text.specs.declared.Place.TheVariants.{Start, Space, Comment}
use Rattle.text.specs.declared.kinds.Kind.{Kind}
use Rattle.text.specs.declared.kinds.Kind.TheVariants as kind
use Rattle.text.specs.Bytes.{Words, first, part, all_of, any_of}
use Rattle.text.specs.Marks.{ends_line, class_of, Mark, char, gap, join, bang, end, at_feed, at_other, step, marks}
use Rattle.text.specs.Lines.{run, words, heading, Line, lines_of}
use Rattle.text.specs.Words.{bad_byte, too_long, words_fault}
use Rattle.text.specs.Kinds.{kind_of, rank, blank, begins_plain, ends_plain}
use Rattle.text.specs.Reading.{left, ahead, follow, fault_of, lower, Fenced, WordEnd, InWord, OddWord, CommentEnd, Blanks, FoundWord, NoWord, Between, PlainFound, ByteWord, Opens}
use Rattle.text.specs.Sources.{feed_end, join_end, Skipped, SkippedJoins, Opened, RunEnd, PlainWhole}
use Rattle.text.proofs.Firsts.{tail, tail_length, tail_at, First, first_some, first_none}
use Rattle.text.proofs.Lists.{no, and_both, any_nil, any_cons}
use Rattle.text.proofs.Positions.{first_drop, part_empty, part_cons, part_snoc, in_word_start, in_word_more, in_word_over, in_word_end, in_word_at, marks_at, step_other, step_feed, comment_words, first_in, length_part, lines_char, lines_gap, lines_bang, lines_end, lines_nil}
use Rattle.text.proofs.ByteKinds.{not_bad, plain_in_word, meant, blank_class, rank_clean, rank_percent, plain_stop, ends_no, ends_feed, Begins, begins_char, plain_begins, plain_kind, join_class, note_class, bang_class, return_class, differ}
use Rattle.text.proofs.Feeds.{FeedAt, JoinAt, byte_in, feed_no, join_some, join_no, join_ends, joined_start, joined_space, slash_join, slash_drop}

-- two bytes, side by side
pair_yes : (b c k m : ℕ) → (eqb b k && eqb c m) ≡ true → (b ≡ k) × (c ≡ m)
pair_yes b c k m h = let w = and_both (eqb b k) (eqb c m) h in (eqb-true b k w.0, eqb-true c m w.1)

pair_no : (b c k m : ℕ) → (eqb b k && eqb c m) ≡ false → b ≡ k → c ≡ m → ⊥
pair_no b c k m h p q = no (sym h ∙ rw (eq-eqb b k p, eq-eqb c m q) refl)

-- bytes of at most a kind

none_percent : (w : List ℕ) → all_of (λ b. leb (rank (kind_of b)) 1) w ≡ true → any_of (λ b. eqb b 37) w ≡ false
unfolding all_of any_of
none_percent [] h = refl
none_percent (b ∷ w) h = let a = and_both (leb (rank (kind_of b)) 1) _ h in rw (rank_percent b (leb-true _ _ a.0)) (none_percent w a.1)

all_snoc : (q : ℕ → Bool) (w : List ℕ) (b : ℕ) → all_of q w ≡ true → q b ≡ true → all_of q (w ++ (b ∷ [])) ≡ true
unfolding all_of
all_snoc q [] b h k = rw k refl
all_snoc q (x ∷ w) b h k = let a = and_both (q x) _ h in rw a.0 (all_snoc q w b a.1 k)

all_nil : (q : ℕ → Bool) → all_of q [] ≡ true
unfolding all_of
all_nil q = refl

any_snoc : (w : List ℕ) (b : ℕ) → any_of bad_byte w ≡ false → bad_byte b ≡ false → any_of bad_byte (w ++ (b ∷ [])) ≡ false
unfolding any_of
any_snoc [] b h k = rw k refl
any_snoc (x ∷ w) b h k = go (bad_byte x) h (any_snoc w b)
  where
    go : (t : Bool) → t || any_of bad_byte w ≡ false → (any_of bad_byte w ≡ false → bad_byte b ≡ false → any_of bad_byte (w ++ (b ∷ [])) ≡ false) → t || any_of bad_byte (w ++ (b ∷ [])) ≡ false
    go true e f = absurd (no (sym e))
    go false e f = f e k

pub record Run (s : List ℕ) (from i : ℕ) : Type 0 where
  pub read : InWord s from i
  pub clean : any_of bad_byte (part s from i) ≡ false

module _ (s : List ℕ) (from i : ℕ) (v : Run s from i) where
  pub run_more : i < length s → bad_byte (get_or s i 0) ≡ false → Run s from (i + 1)
  run_more h b =
      record {
        read = in_word_more s from i v.read h (plain_in_word _ _ _ b);
        clean = rw (part_snoc s from i v.read.low h) (any_snoc _ _ v.clean b);
      }

pub run_start : (s : List ℕ) (from : ℕ) → from ≤ length s → Run s from from
run_start s from h = record { read = in_word_start s from h; clean = rw (part_empty s from, any_nil) }

-- blanks

words_gap : (f : Bool) (r : List Mark) → words f (gap ∷ r) ≡ words false r
unfolding words
words_gap f r = refl

words_join : (f : Bool) (r : List Mark) → words f (join ∷ r) ≡ words false r
unfolding words
words_join f r = refl

words_bang : (f : Bool) (r : List Mark) → words f (bang ∷ r) ≡ words false r
unfolding words
words_bang f r = refl

words_end : (f : Bool) (r : List Mark) → words f (end ∷ r) ≡ []
unfolding words
words_end f r = refl

words_nil : (f : Bool) → words f [] ≡ []
unfolding words
words_nil f = refl

words_char : (b : ℕ) (r : List Mark) → words false (char b ∷ r) ≡ (b ∷ run r) ∷ words true r
unfolding words
words_char b r = refl

heading_gap : (r : List Mark) → heading (gap ∷ r) ≡ heading r
unfolding heading
heading_gap r = refl

heading_join : (r : List Mark) → heading (join ∷ r) ≡ heading r
unfolding heading
heading_join r = refl

heading_bang : (r : List Mark) → heading (bang ∷ r) ≡ true
unfolding heading
heading_bang r = refl

heading_nil : heading [] ≡ false
unfolding heading
heading_nil = refl

marks_nil : (m : Place) → marks m [] ≡ []
unfolding marks
marks_nil m = refl

-- no lines follow at the end
pub no_lines : (s : List ℕ) (at n : ℕ) → length s ≤ at → follow s at n ≡ []
unfolding follow
no_lines s at n h = rw (drop_of_length-le s h, marks_nil, lines_nil)

pub blanks_start : (s : List ℕ) (from : ℕ) → from ≤ length s → Blanks s from from
blanks_start s from h = record { low = omega arith; high = h; text = refl; onto = λ n. refl; mark₀ = refl; text₀ = refl; onto₀ = λ n. refl }

module _ (s : List ℕ) (from i : ℕ) (v : Blanks s from i) where
  pub blanks_more : i < length s → blank (get_or s i 0) ≡ true → Blanks s from (i + 1)
  unfolding left ahead
  blanks_more h k =
      let z = blank_class (get_or s i 0) (first (drop (i + 1) s)) (first (drop (i + 2) s)) k in
      let n = z.1 in
      record {
        low = omega (arith, v.low);
        high = omega arith;
        text = v.text ∙ rw (marks_at Space s i h, step_other Space _ _ _ Blank n z.0, words_gap);
        onto = λ m. v.onto m ∙ rw (marks_at Space s i h, step_other Space _ _ _ Blank n z.0, lines_gap);
        mark₀ = v.mark₀ ∙ rw (marks_at Start s i h, step_other Start _ _ _ Blank n z.0, heading_gap);
        text₀ = v.text₀ ∙ rw (marks_at Start s i h, step_other Start _ _ _ Blank n z.0, words_gap);
        onto₀ = λ m. v.onto₀ m ∙ rw (marks_at Start s i h, step_other Start _ _ _ Blank n z.0, lines_gap);
      }

  pub blanks_stop : (blank (get_or s i 0) ≡ false) → Skipped s from i
  blanks_stop k = record { blanks = v; stop = λ h. k }

  pub blanks_end : length s ≤ i → Skipped s from i
  blanks_end h = record { blanks = v; stop = λ l. absurd (let z : ◌≡◌ {A = ℕ} 0 1 = omega (arith, h, l) in eqb-false 0 1 refl z) }

-- the first byte that is no blank, as it is found
abbrev pub NoBlank : ℕ → Type 0
NoBlank b = blank b ≡ false

abbrev pub IsBlank : ℕ → Type 0
IsBlank b = blank b ≡ true

pub skipped_first : (s : List ℕ) (from : ℕ) → from ≤ length s → (r : Option ℕ) → First NoBlank IsBlank (tail s from) r → Skipped s from (from + unwrap_or r (length (tail s from)))
skipped_first s from h (Some n) w =
    let v = first_some s from IsBlank (Blanks s from) (blanks_more s from) (blanks_start s from h) h NoBlank n w in
    blanks_stop s from (from + n) v.0 v.2
skipped_first s from h None w =
    let v = first_none s from IsBlank (Blanks s from) (blanks_more s from) (blanks_start s from h) h NoBlank w in
    let q : from + length (tail s from) ≡ length s = omega (arith, tail_length s from) in
    rw q (blanks_end s from (length s) v (omega arith))

-- comments

pub record InComment (s : List ℕ) (from i : ℕ) : Type 0 where
  pub low : from ≤ i
  pub high : i ≤ length s
  pub onto : (n : ℕ) → lines_of n true (marks Comment (drop from s)) ≡ lines_of n true (marks Comment (drop i s))

module _ (s : List ℕ) (from i : ℕ) (v : InComment s from i) where
  pub comment_more : i < length s → (get_or s i 0 ≡ 10 → ⊥) → InComment s from (i + 1)
  comment_more h k =
      record {
        low = omega (arith, v.low);
        high = omega arith;
        onto = λ n. v.onto n ∙ rw (marks_at Comment s i h, step_other Comment _ _ _ _ k refl, lines_gap);
      }

  pub comment_feed : i < length s → get_or s i 0 ≡ 10 → CommentEnd s from (i + 1)
  unfolding follow
  comment_feed h k =
      record {
        low = omega (arith, v.low);
        high = omega arith;
        onto = λ n. v.onto n ∙ rw (marks_at Comment s i h, step_feed Comment _ _ _ k, lines_end);
      }

  pub comment_over : length s ≤ i → CommentEnd s from i
  unfolding follow
  comment_over h =
      record { low = v.low; high = v.high; onto = λ n. v.onto n ∙ rw (drop_of_length-le s h, marks_nil, marks_nil, lines_nil, lines_nil) }

abbrev pub NoFeed : ℕ → Type 0
NoFeed b = b ≡ 10 → ⊥

abbrev pub IsFeed : ℕ → Type 0
IsFeed b = b ≡ 10

module _ (s : List ℕ) (from : ℕ) (h : from ≤ length s) where
  comment_start : InComment s from from
  comment_start = record { low = omega arith; high = h; onto = λ n. refl }

  pub comment_some : (r : Option ℕ) (n : ℕ) → r ≡ Some n → First IsFeed NoFeed (tail s from) r → CommentEnd s from (from + n + 1)
  comment_some r n e w =
      let v = first_some s from NoFeed (InComment s from) (comment_more s from) comment_start h IsFeed n (rw e at w) in
      comment_feed s from (from + n) v.0 v.1 v.2

  pub comment_none : (r : Option ℕ) → r ≡ None → First IsFeed NoFeed (tail s from) r → CommentEnd s from (length s)
  comment_none r e w = comment_over s from (length s) (first_none s from NoFeed (InComment s from) (comment_more s from) comment_start h IsFeed (rw e at w)) (omega arith)

-- a word of any kind

along_at : (s : List ℕ) (from : ℕ) (V : ℕ → Type 0) → ((i : ℕ) → V i → i < length s → in_word_at s i ≡ true → V (i + 1)) → V from →
    (n : ℕ) → from + n ≤ length s → ((k : ℕ) → from ≤ k → k < from + n → in_word_at s k ≡ true) → V (from + n)
along_at s from V more start zero h f = let q : from + 0 ≡ from = omega arith in rw q start
along_at s from V more start (suc n) h f =
    let q : from + suc n ≡ from + n + 1 = omega arith in
    rw q (more (from + n) (along_at s from V more start n (omega arith) (λ k a b. f k a (omega arith))) (omega arith) (f (from + n) (omega arith) (omega arith)))

-- its end, as it is found
pub word_first : (s : List ℕ) (from : ℕ) → from ≤ length s → (r : Option ℕ) →
    MatchOption r ((k : ℕ) → from ≤ k → k < length s → in_word_at s k ≡ true) (λ i. (from ≤ i) × (i < length s) × (in_word_at s i ≡ false) × ((k : ℕ) → from ≤ k → k < i → in_word_at s k ≡ true)) →
    WordEnd s from (unwrap_or r (length s))
word_first s from h (Some i) w =
    let q : from + (i - from) ≡ i = omega (arith, w.0) in
    let v = along_at s from (InWord s from) (in_word_more s from) (in_word_start s from h) (i - from) (omega (arith, w.0, w.1)) (λ k a b. w.3 k a (omega (arith, w.0))) in
    in_word_over s from i (rw q at v) w.1 w.2
word_first s from h None w =
    let q : from + (length s - from) ≡ length s = omega arith in
    let v = along_at s from (InWord s from) (in_word_more s from) (in_word_start s from h) (length s - from) (omega arith) (λ k a b. w k a (omega arith)) in
    in_word_end s from (length s) (rw q at v) (omega arith)

module _ (s : List ℕ) (a e : ℕ) (lt : a < length s) (w : WordEnd s (a + 1) e) where
  pub odd_fine : any_of bad_byte (part s a e) ≡ false → e - a ≤ 256 → OddWord s a e 0
  unfolding fault_of too_long
  odd_fine h k = record { ends = w; fault = rw (h, length_part s a e w.high, le-ltb _ _ k) refl }

-- a plain word that a blank or a line end ends
pub plain_word : (s : List ℕ) (a p : ℕ) → a < length s → bad_byte (get_or s a 0) ≡ false → Run s (a + 1) p → p < length s →
    ends_plain (get_or s p 0) (first (drop (p + 1) s)) ≡ true → p ≤ a + 256 → OddWord s a p 0
plain_word s a p lt b w h k l =
    let lo : a < p = omega (arith, w.read.low) in
    let e : any_of bad_byte (part s a p) ≡ false = rw (part_cons s a p lo w.read.high, any_cons, b) w.clean in
    odd_fine s a p lt (in_word_over s (a + 1) p w.read h (plain_stop _ _ _ k)) e (omega arith)

-- between words

pub between_skip : (s : List ℕ) (from n i : ℕ) → n ≤ from + 1 → Blanks s from i → Between s from n i n
between_skip s from n i h v = record { low = v.low; high = v.high; few = omega (arith, v.low); grow = omega (arith, v.low); text = v.text; onto = v.onto n }

module _ (s : List ℕ) (from n i m : ℕ) (v : Between s from n i m) where
  pub between_end : length s ≤ i → NoWord s from n i m
  unfolding left ahead follow
  between_end h =
      let e = drop_of_length-le s h in
      record {
        low = v.low;
        onwards = omega (arith, h);
        high = v.high;
        few = v.few;
        grow = v.grow;
        none = v.text ∙ rw (e, marks_nil, words_nil);
        onto = v.onto ∙ rw (e, marks_nil, marks_nil, lines_nil, lines_nil);
      }

  module _ (h : i < length s) where
    pub between_feed : get_or s i 0 ≡ 10 → NoWord s from n (i + 1) (m + 1)
    unfolding left ahead follow
    between_feed e =
        record {
          low = omega (arith, v.low);
          onwards = omega (arith, v.low);
          high = omega arith;
          few = omega (arith, v.few);
          grow = omega (arith, v.grow);
          none = v.text ∙ rw (marks_at Space s i h, step_feed Space _ _ _ e, words_end);
          onto = v.onto ∙ rw (marks_at Space s i h, step_feed Space _ _ _ e, lines_end);
        }

    -- CR before LF is as a blank
    between_return : get_or s i 0 ≡ 13 → get_or s (i + 1) 0 ≡ 10 → Between s from n (i + 1) m
    unfolding left ahead
    between_return e f =
        let x = step_other Space _ _ (first (drop (i + 2) s)) Blank (differ _ 13 10 refl e) (return_class _ _ _ e (first_drop s (i + 1) ∙ f)) in
        record {
          low = omega (arith, v.low);
          high = omega arith;
          few = omega (arith, v.few);
          grow = omega (arith, v.grow);
          text = v.text ∙ rw (marks_at Space s i h, x, words_gap);
          onto = v.onto ∙ rw (marks_at Space s i h, x, lines_gap);
        }

    pub between_joined : (z j : ℕ) → JoinAt s i z → Blanks s z j → Between s from n j (m + 1)
    unfolding left ahead
    between_joined z j u w =
        let g = joined_space s (i + 1) z u.feed in
        let x = step_other Space _ _ _ Join (differ _ 92 10 refl u.slash) (join_class _ _ _ u.slash (join_ends s i z u)) in
        record {
          low = omega (arith, v.low, u.feed.low, w.low);
          high = w.high;
          few = omega (arith, v.few, u.feed.low, w.low);
          grow = omega (arith, v.grow, u.feed.low, w.low);
          text = v.text ∙ rw (marks_at Space s i h, x, words_gap) (g.text ∙ w.text);
          onto = v.onto ∙ rw (marks_at Space s i h, x, lines_gap) (g.onto m ∙ w.onto (m + 1));
        }

    pub between_note : (p : ℕ) → get_or s i 0 ≡ 47 → first (drop (i + 1) s) ≡ 47 → CommentEnd s (i + 1) p → NoWord s from n p (m + 1)
    unfolding left ahead
    between_note p e f w =
        let x = step_other Space _ _ _ Slashes (differ _ 47 10 refl e) (note_class _ _ (first (drop (i + 2) s)) e f) in
        record {
          low = omega (arith, v.low, w.low);
          onwards = omega (arith, v.low, w.low);
          high = w.high;
          few = omega (arith, v.few, w.low);
          grow = omega (arith, v.grow, w.low);
          none = v.text ∙ rw (marks_at Space s i h, x, words_gap) (comment_words (drop (i + 1) s));
          onto = v.onto ∙ rw (marks_at Space s i h, x, lines_gap) (w.onto m);
        }

    pub between_word : (z f : ℕ) → Begins (get_or s i 0) (first (drop (i + 1) s)) (first (drop (i + 2) s)) → OddWord s i z f → FoundWord s from n i z m f
    unfolding left ahead
    between_word z f b w =
        let x = step_other Space _ _ _ _ (ends_no _ _ b.feed) refl ∙ begins_char _ _ _ b in
        let lo : i < z = omega (arith, w.ends.low) in
        record {
          low = v.low;
          some = lo;
          high = w.ends.high;
          few = omega (arith, v.few);
          grow = omega (arith, v.grow);
          text = v.text ∙ rw (marks_at Space s i h, x, words_char, w.ends.text, w.ends.rest, part_cons s i z lo w.ends.high);
          onto = v.onto ∙ rw (marks_at Space s i h, x, lines_char) (w.ends.onto m);
          fault = w.fault;
        }

-- a line end, LF or CR LF
pub between_over : (s : List ℕ) (from n i m z : ℕ) → Between s from n i m → FeedAt s i z → NoWord s from n z (m + 1)
between_over s from n i m z v u =
    let h : i < length s = omega (arith, u.low, u.high) in
    ⊎_elim
    (λ (w : (z ≡ i + 1) × (get_or s i 0 ≡ 10)). rw w.0 (between_feed s from n i m v h w.1))
    (λ (w : (z ≡ i + 2) × ((get_or s i 0 ≡ 13) × (get_or s (i + 1) 0 ≡ 10))).
    let q : z ≡ i + 1 + 1 = omega (arith, w.0) in
    let k : i + 1 < length s = omega (arith, w.0, u.high) in
    rw q (between_feed s from n (i + 1) m (between_return s from n i m v h w.1.0 w.1.1) k w.1.1))
    u.cases

-- the start of a line

pub opened_skip : (s : List ℕ) (from n i : ℕ) → n ≤ from + 1 → Blanks s from i → Opened s from n i n
opened_skip s from n i h v = record { low = v.low; high = v.high; few = omega (arith, v.low); grow = omega (arith, v.low); mark = v.mark₀; text = v.text₀; onto = v.onto₀ n }

heading_comment : (l : List ℕ) → heading (marks Comment l) ≡ false
unfolding marks heading step
heading_comment [] = refl
heading_comment (b ∷ r) = go (eqb b 10) (heading_comment r)
  where
    go : (t : Bool) → heading (marks Comment r) ≡ false →
        heading ((cond t (at_feed Comment) (gap, Comment)).0 ∷ marks (cond t (at_feed Comment) (gap, Comment)).1 r) ≡ false
    go true h = refl
    go false h = h

-- what may stand at the first byte that is not blank: no heading mark, and the same marks as between words
pub record Onset (b c d : ℕ) : Type 0 where
  pub blank : blank b ≡ false
  pub bang : b ≡ 33 → ⊥
  pub joins : b ≡ 92 → ends_line c d ≡ false

module _ (b c d : ℕ) (h : Onset b c d) (n : b ≡ 13 → c ≡ 10 → ⊥) where
  same_step : step Start b c d ≡ step Space b c d
  unfolding step blank class_of
  same_step = rw (ends_feed b c n) (go (eqb b 10) (eqb b 32) (eqb b 9) (eqb b 33) (eqb b 92) (ends_line c d) (eqb b 47) (eqb c 47) refl refl refl refl refl)
    where
      go : (l t u v w x y z : Bool) → eqb b 32 ≡ t → eqb b 9 ≡ u → eqb b 33 ≡ v → eqb b 92 ≡ w → ends_line c d ≡ x →
          cond l (at_feed Start) (at_other Start (cond t Blank (cond u Blank (cond v Bang (cond w (cond x Join Other) (cond y (cond z Slashes Other) (cond l Blank Other)))))) b) ≡
          cond l (at_feed Space) (at_other Space (cond t Blank (cond u Blank (cond v Bang (cond w (cond x Join Other) (cond y (cond z Slashes Other) (cond l Blank Other)))))) b)
      go true t u v w x y z p q r i j = refl
      go false true u v w x y z p q r i j = absurd (no (sym h.blank ∙ rw p))
      go false false true v w x y z p q r i j = absurd (no (sym h.blank ∙ rw (p, q)))
      go false false false true w x y z p q r i j = absurd (h.bang (eqb-true _ _ r))
      go false false false false true true y z p q r i j = absurd (no (sym (h.joins (eqb-true _ _ i)) ∙ j))
      go false false false false true false y z p q r i j = refl
      go false false false false false x true true p q r i j = refl
      go false false false false false x true false p q r i j = refl
      go false false false false false x false z p q r i j = refl

  -- the rest of a line after its first byte that is no blank: no heading
  same_mark : (r : List ℕ) → heading ((step Start b c d).0 ∷ marks (step Start b c d).1 r) ≡ false
  unfolding step blank class_of heading
  same_mark r = rw (ends_feed b c n) (go (eqb b 10) (eqb b 32) (eqb b 9) (eqb b 33) (eqb b 92) (ends_line c d) (eqb b 47) (eqb c 47) refl refl refl refl refl)
    where
      go : (l t u v w x y z : Bool) → eqb b 32 ≡ t → eqb b 9 ≡ u → eqb b 33 ≡ v → eqb b 92 ≡ w → ends_line c d ≡ x →
          heading ((cond l (at_feed Start) (at_other Start (cond t Blank (cond u Blank (cond v Bang (cond w (cond x Join Other) (cond y (cond z Slashes Other) (cond l Blank Other)))))) b)).0 ∷
          marks (cond l (at_feed Start) (at_other Start (cond t Blank (cond u Blank (cond v Bang (cond w (cond x Join Other) (cond y (cond z Slashes Other) (cond l Blank Other)))))) b)).1 r) ≡ false
      go true t u v w x y z p q i j k = refl
      go false true u v w x y z p q i j k = absurd (no (sym h.blank ∙ rw p))
      go false false true v w x y z p q i j k = absurd (no (sym h.blank ∙ rw (p, q)))
      go false false false true w x y z p q i j k = absurd (h.bang (eqb-true _ _ i))
      go false false false false true true y z p q i j k = absurd (no (sym (h.joins (eqb-true _ _ j)) ∙ k))
      go false false false false true false y z p q i j k = refl
      go false false false false false x true true p q i j k = heading_comment r
      go false false false false false x true false p q i j k = refl
      go false false false false false x false z p q i j k = refl

-- CR LF, at the start of a line or between words
return_marks : (m : Place) (s : List ℕ) (i : ℕ) → ((b : ℕ) → at_other m Blank b ≡ (gap, m)) → at_feed m ≡ (end, Start) → i < length s →
    get_or s i 0 ≡ 13 → first (drop (i + 1) s) ≡ 10 → marks m (drop i s) ≡ gap ∷ end ∷ marks Start (drop (i + 1 + 1) s)
return_marks m s i o a h e f =
    let k : i + 1 < length s = first_in s (i + 1) f in
    let x = step_other m _ _ (first (drop (i + 2) s)) Blank (differ _ 13 10 refl e) (return_class _ _ _ e f) ∙ o (get_or s i 0) in
    rw (marks_at m s i h, x, marks_at m s (i + 1) k, step_feed m _ _ _ (sym (first_drop s (i + 1)) ∙ f), a)

heading_ends : (r : List Mark) → heading (gap ∷ end ∷ r) ≡ false
unfolding heading
heading_ends r = refl

-- the marks of a line from its first byte that is no blank on: no heading, and the same as between words
same_marks : (s : List ℕ) (i : ℕ) → i < length s → Onset (get_or s i 0) (first (drop (i + 1) s)) (first (drop (i + 2) s)) →
    (marks Start (drop i s) ≡ marks Space (drop i s)) × (heading (marks Start (drop i s)) ≡ false)
same_marks s i h e = go (eqb (get_or s i 0) 13 && eqb (first (drop (i + 1) s)) 10) refl
  where
    go : (t : Bool) → (eqb (get_or s i 0) 13 && eqb (first (drop (i + 1) s)) 10) ≡ t →
        (marks Start (drop i s) ≡ marks Space (drop i s)) × (heading (marks Start (drop i s)) ≡ false)
    go true p =
        let w = pair_yes (get_or s i 0) (first (drop (i + 1) s)) 13 10 p in
        let x = return_marks Start s i (λ b. refl) refl h w.0 w.1 in
        (x ∙ sym (return_marks Space s i (λ b. refl) refl h w.0 w.1), rw x (heading_ends _))
    go false p =
        let n = pair_no (get_or s i 0) (first (drop (i + 1) s)) 13 10 p in
        (rw (marks_at Start s i h, marks_at Space s i h, same_step _ _ _ e n), rw (marks_at Start s i h) (same_mark _ _ _ e n _))

module _ (s : List ℕ) (from n i m : ℕ) (v : Opened s from n i m) where
  pub opened_end : length s ≤ i → Opens s from n false i m
  unfolding left ahead
  opened_end h =
      let e = drop_of_length-le s h in
      record {
        low = v.low;
        high = v.high;
        few = v.few;
        grow = v.grow;
        mark = v.mark ∙ rw (e, marks_nil, heading_nil);
        text = v.text ∙ rw (e, marks_nil, marks_nil);
        onto = v.onto ∙ rw (e, marks_nil, marks_nil);
      }

  module _ (h : i < length s) where
    pub opened_bang : get_or s i 0 ≡ 33 → Opens s from n true (i + 1) m
    unfolding left ahead
    opened_bang e =
        let x = step_other Start _ _ _ Bang (differ _ 33 10 refl e) (bang_class _ (first (drop (i + 1) s)) (first (drop (i + 2) s)) e) in
        record {
          low = omega (arith, v.low);
          high = omega arith;
          few = omega (arith, v.few);
          grow = omega (arith, v.grow);
          mark = v.mark ∙ rw (marks_at Start s i h, x, heading_bang);
          text = v.text ∙ rw (marks_at Start s i h, x, words_bang);
          onto = v.onto ∙ rw (marks_at Start s i h, x, lines_bang);
        }

    pub opened_onset : Onset (get_or s i 0) (first (drop (i + 1) s)) (first (drop (i + 2) s)) → Opens s from n false i m
    unfolding left ahead
    opened_onset e =
        let w = same_marks s i h e in
        record { low = v.low; high = v.high; few = v.few; grow = v.grow; mark = v.mark ∙ w.1; text = v.text ∙ rw w.0; onto = v.onto ∙ rw w.0 }

    pub opened_joined : (z j : ℕ) → JoinAt s i z → Blanks s z j → Opened s from n j (m + 1)
    opened_joined z j u w =
        let g = joined_start s (i + 1) z u.feed in
        let x = step_other Start _ _ _ Join (differ _ 92 10 refl u.slash) (join_class _ _ _ u.slash (join_ends s i z u)) in
        record {
          low = omega (arith, v.low, u.feed.low, w.low);
          high = w.high;
          few = omega (arith, v.few, u.feed.low, w.low);
          grow = omega (arith, v.grow, u.feed.low, w.low);
          mark = v.mark ∙ rw (marks_at Start s i h, x, heading_gap) (g.mark ∙ w.mark₀);
          text = v.text ∙ rw (marks_at Start s i h, x, words_gap) (g.text ∙ w.text₀);
          onto = v.onto ∙ rw (marks_at Start s i h, x, lines_gap) (g.onto m ∙ w.onto₀ (m + 1));
        }

-- the loop of `skip_joins`
pub record Joining (s : List ℕ) (from n i m : ℕ) : Type 0 where
  pub between : Between s from n i m
  pub opened : Opened s from n i m
  pub stop : i < length s → blank (get_or s i 0) ≡ false

pub joining_start : (s : List ℕ) (from n i : ℕ) → n ≤ from + 1 → Skipped s from i → Joining s from n i n
joining_start s from n i h k = record { between = between_skip s from n i h k.blanks; opened = opened_skip s from n i h k.blanks; stop = k.stop }

module _ (s : List ℕ) (from n i m : ℕ) (v : Joining s from n i m) (r : Option ℕ) (e : r ≡ join_end s i) where
  joins_at : (z : ℕ) → r ≡ Some z → JoinAt s i z
  joins_at z h = join_some s i z (sym e ∙ h)

  pub joining_high : (z : ℕ) → r ≡ Some z → (i < length s) × (z ≤ length s)
  joining_high z h = let u = joins_at z h in (omega (arith, u.feed.low, u.feed.high), u.feed.high)

  pub joining_more : (z j : ℕ) → r ≡ Some z → Skipped s z j → Joining s from n j (m + 1)
  joining_more z j h k =
      let u = joins_at z h in
      let l = (joining_high z h).0 in
      record {
        between = between_joined s from n i m v.between l z j u k.blanks;
        opened = opened_joined s from n i m v.opened l z j u k.blanks;
        stop = k.stop;
      }

  -- a line end that is joined takes a byte
  pub joining_less : (z j : ℕ) → r ≡ Some z → Skipped s z j → length s - j < length s - i
  joining_less z j h k = let u = joins_at z h in omega (arith, u.feed.low, u.feed.high, k.blanks.low, k.blanks.high)

  pub joining_end : r ≡ None → SkippedJoins s from n i m
  joining_end h = record { between = v.between; opened = v.opened; stop = v.stop; joins = sym e ∙ h }

-- two slashes at the front of a text
slashes : (xs : List ℕ) → pointwise eqb (47 ∷ 47 ∷ []) (take 2 xs) ≡ true → (get_or xs 0 0 ≡ 47) × (get_or xs 1 0 ≡ 47)
slashes [] h = absurd (no h)
slashes (x ∷ []) h = absurd (no (and_both (eqb 47 x) false h).1)
slashes (x ∷ y ∷ xs) h =
    let w = and_both (eqb 47 x) (eqb 47 y && true) h in
    (sym (eqb-true _ _ w.0), sym (eqb-true _ _ (and_both (eqb 47 y) true w.1).0))

no_slashes : (xs : List ℕ) → pointwise eqb (47 ∷ 47 ∷ []) (take 2 xs) ≡ false → get_or xs 0 0 ≡ 47 → get_or xs 1 0 ≡ 47 → ⊥
no_slashes [] h a b = omega arith
no_slashes (x ∷ []) h a b = omega arith
no_slashes (x ∷ y ∷ xs) h a b = no (sym h ∙ rw (a, b) refl)

-- what stands behind blanks and joins
module _ (s : List ℕ) (from n i m : ℕ) (v : SkippedJoins s from n i m) where
  pub opens_bang : first (drop i s) ≡ 33 → Opens s from n true (i + 1) m
  opens_bang e = let b = sym (first_drop s i) ∙ e in opened_bang s from n i m v.opened (byte_in s i 33 b (omega arith)) b

  pub opens_words : (first (drop i s) ≡ 33 → ⊥) → Opens s from n false i m
  opens_words b = go (ltb i (length s)) refl
    where
      go : (t : Bool) → ltb i (length s) ≡ t → Opens s from n false i m
      go true p =
          let h = ltb-true _ _ p in
          opened_onset s from n i m v.opened h (record { blank = v.stop h; bang = λ e. b (first_drop s i ∙ e); joins = join_no s i v.joins })
      go false p = opened_end s from n i m v.opened (ltb-false _ _ p)

  module _ (r : Bool) (e : r ≡ pointwise eqb (47 ∷ 47 ∷ []) (take 2 (tail s i))) where
    note : r ≡ true → (get_or s i 0 ≡ 47) × (first (drop (i + 1) s) ≡ 47)
    note t =
        let w = slashes (tail s i) (sym e ∙ t) in
        let z : i + 0 ≡ i = omega arith in
        (rw z at (sym (tail_at s i 0) ∙ w.0), first_drop s (i + 1) ∙ (sym (tail_at s i 1) ∙ w.1))

    no_note : r ≡ false → get_or s i 0 ≡ 47 → first (drop (i + 1) s) ≡ 47 → ⊥
    no_note t a b =
        let z : i + 0 ≡ i = omega arith in
        no_slashes (tail s i) (sym e ∙ t) (rw (tail_at s i 0, z) a) (tail_at s i 1 ∙ (sym (first_drop s (i + 1)) ∙ b))

    pub over_note : (z : ℕ) → i < length s → r ≡ true → CommentEnd s (i + 1) z → NoWord s from n z (m + 1)
    over_note z h t w = let x = note t in between_note s from n i m v.between h z x.0 x.1 w

    pub over_word : (z f : ℕ) → i < length s → r ≡ false → feed_end s i ≡ None → WordEnd s (i + 1) z → f ≡ fault_of (part s i z) → FoundWord s from n i z m f
    over_word z f h t k w g =
        between_word s from n i m v.between h z f
        (record { blank = v.stop h; feed = feed_no s i k; joins = join_no s i v.joins; note = no_note t })
        (record { ends = w; fault = g })

-- the refusals of a line's words

pub lower_zero : (g : ℕ) → lower 0 g ≡ g
unfolding lower
lower_zero g = refl

pub lower_none : (f : ℕ) → lower f 0 ≡ f
unfolding lower
lower_none zero = refl
lower_none (suc f) = refl

pub lower_min : (f g : ℕ) → (f ≡ 0 → ⊥) → (g ≡ 0 → ⊥) → lower f g ≡ min f g
unfolding lower
lower_min zero g h k = absurd (h refl)
lower_min (suc f) zero h k = absurd (k refl)
lower_min (suc f) (suc g) h k = omega arith

pub lower_assoc : (f g h : ℕ) → lower f (lower g h) ≡ lower (lower f g) h
unfolding lower
lower_assoc zero g h = refl
lower_assoc (suc f) zero h = refl
lower_assoc (suc f) (suc g) zero = refl
lower_assoc (suc f) (suc g) (suc h) = omega arith

pub fault_cons : (w : List ℕ) (ws : Words) → words_fault (w ∷ ws) ≡ lower (fault_of w) (words_fault ws)
unfolding words_fault any_of fault_of lower
fault_cons w ws = go (any_of bad_byte w) (any_of (any_of bad_byte) ws) (too_long w) (any_of too_long ws)
  where
    go : (x y z u : Bool) → cond (x || y) 4 (cond (z || u) 5 0) ≡ lower (cond x 4 (cond z 5 0)) (cond y 4 (cond u 5 0))
    go true true z true = refl
    go true true z false = refl
    go true false z true = refl
    go true false z false = refl
    go false true true u = refl
    go false true false u = refl
    go false false true true = refl
    go false false true false = refl
    go false false false true = refl
    go false false false false = refl

pub fault_nil : words_fault [] ≡ 0
unfolding words_fault any_of
fault_nil = refl

-- the line that starts at a position, and the lines after it
unfoldable pub line_at : ℕ → List Mark → Line
line_at n l = record { number = n; is_heading = heading l; text = words false l }

pub line_first : (s : List ℕ) (n at : ℕ) → at < length s →
    lines_of n false (marks Start (drop at s)) ≡ line_at n (marks Start (drop at s)) ∷ lines_of n true (marks Start (drop at s))
unfolding lines_of line_at
line_first s n at h = rw (marks_at Start s at h)

-- the fence

module _ (s : List ℕ) (f i : ℕ) (v : Fenced s f) (h : i < f) where
  pub fence_more : (get_or s i 0 ≡ 10 → ⊥) → i + 1 < f
  fence_more n = go (ltb (i + 1) f) refl
    where
      go : (t : Bool) → ltb (i + 1) f ≡ t → i + 1 < f
      go true e = ltb-true _ _ e
      go false e =
          let k : f ≤ i + 1 = ltb-false _ _ e in
          let q : f - 1 ≡ i = omega arith in
          absurd (n (rw q at (v.last (omega arith))))

  pub fence_in : i < length s
  fence_in = omega (arith, h, v.high)

  pub fence_plain : bad_byte (get_or s i 0) ≡ false → i + 1 < f
  fence_plain b = fence_more (λ e. omega (arith, (not_bad _ b).least, e))

  pub fence_blank : blank (get_or s i 0) ≡ true → i + 1 < f
  fence_blank k = fence_more (blank_class (get_or s i 0) 0 0 k).1

-- a line end that is joined stands before the fence
joined_high : (s : List ℕ) (f i z : ℕ) → Fenced s f → i < f → JoinAt s i z → z ≤ f
joined_high s f i z v h u =
    let k : i + 1 < f = fence_more s f i v h (differ _ 92 10 refl u.slash) in
    ⊎_elim
    (λ (w : (z ≡ i + 1 + 1) × (get_or s (i + 1) 0 ≡ 10)). omega (arith, w.0))
    (λ (w : (z ≡ i + 1 + 2) × ((get_or s (i + 1) 0 ≡ 13) × (get_or s (i + 1 + 1) 0 ≡ 10))).
    omega (arith, w.0, fence_more s f (i + 1) v k (differ _ 13 10 refl w.1.0)))
    u.feed.cases

pub fence_joined : (s : List ℕ) (f i z : ℕ) → Fenced s f → i < f → JoinAt s i z → z < f
fence_joined s f i z v h u = go (eqb z f) refl
  where
    go : (t : Bool) → eqb z f ≡ t → z < f
    go true q =
        let x = eqb-true z f q in
        let k : 0 < f = omega (arith, h) in
        absurd (no (sym (v.free k) ∙ rw x at (slash_join s i z u).0))
    go false q = let x = eqb-false z f q in omega (arith, joined_high s f i z v h u)

-- the loop of `next_word`
pub record FastJoins (s : List ℕ) (f from n i m : ℕ) : Type 0 where
  pub between : Between s from n i m
  pub inside : i < f

module _ (s : List ℕ) (f from n i m : ℕ) (v : Fenced s f) (w : FastJoins s f from n i m) (r : Option ℕ) (e : r ≡ join_end s i) (z : ℕ) (h : r ≡ Some z) where
  joins : JoinAt s i z
  joins = join_some s i z (sym e ∙ h)

  pub joins_inside : z < f
  joins_inside = fence_joined s f i z v w.inside joins

  pub joins_more : (j : ℕ) → Skipped s z j × (j < f) → FastJoins s f from n j (m + 1)
  joins_more j k = record { between = between_joined s from n i m w.between (fence_in s f i v w.inside) z j joins k.0.blanks; inside = k.1 }

  -- a line end that is joined takes a byte
  pub joins_less : (j : ℕ) → Skipped s z j × (j < f) → length s - j < length s - i
  joins_less j k = omega (arith, joins.feed.low, joins.feed.high, k.0.blanks.low, k.0.blanks.high)

-- a byte other than LF has another behind it
pub fence_at : (s : List ℕ) (f i b : ℕ) → Fenced s f → i < f → get_or s i 0 ≡ b → eqb b 10 ≡ false → i + 1 < length s
fence_at s f i b v h e n = fence_in s f (i + 1) v (fence_more s f i v h (differ _ b 10 n e))

-- the fence of a part of the file
pub fence_part : (s : List ℕ) (f from : ℕ) → Fenced s f → Fenced (drop from s) (f - from)
fence_part s f from v =
    record {
      high = simp length-drop (omega (arith, v.high));
      last = λ h.
          let q : from + (f - from - 1) ≡ f - 1 = omega (arith, h) in
          get_or-drop from s (f - from - 1) 0 ∙ rw q (v.last (omega (arith, h)));
      free = λ h.
          let q : f - 1 ≡ from + (f - from - 1) = omega (arith, h) in
          slash_drop s from (f - from - 1) (rw q at (v.free (omega (arith, h))));
    }

-- the fence of the bytes from a place on
pub fence_rest : (s : List ℕ) (f from n : ℕ) → Fenced s f → n ≡ f - from → Fenced (take (length s - from) (drop from s)) n
fence_rest s f from n v e = rw (e, sym (length-drop from s), take-length) (fence_part s f from v)

-- the loop of `run_end`
pub record FastRun (s : List ℕ) (f : ℕ) (m : Kind) (from i : ℕ) : Type 0 where
  pub run : Run s from i
  pub below : all_of (λ b. leb (rank (kind_of b)) (rank m)) (part s from i) ≡ true
  pub inside : i < f

pub fast_start : (s : List ℕ) (f : ℕ) (m : Kind) (from : ℕ) → Fenced s f → from < f → FastRun s f m from from
fast_start s f m from v h = record { run = run_start s from (omega (arith, h, v.high)); below = rw (part_empty s from, all_nil); inside = h }

pub fast_more : (s : List ℕ) (f : ℕ) (m : Kind) (from i : ℕ) → Fenced s f → rank m ≤ 2 → FastRun s f m from i → rank (kind_of (get_or s i 0)) ≤ rank m → FastRun s f m from (i + 1)
fast_more s f m from i v k w b =
    let c = rank_clean (get_or s i 0) (rank m) k b in
    let h : i < length s = omega (arith, w.inside, v.high) in
    record {
      run = run_more s from i w.run h c;
      below = rw (part_snoc s from i w.run.read.low h) (all_snoc (λ x. leb (rank (kind_of x)) (rank m)) _ _ w.below (le-leb _ _ b));
      inside = fence_plain s f i v w.inside c;
    }

fast_at : (s : List ℕ) (f : ℕ) (m : Kind) (from j k : ℕ) → j ≡ k → FastRun s f m from j → FastRun s f m from k
fast_at s f m from j k e v = rw e at v

module _ (s : List ℕ) (f : ℕ) (m : Kind) (from i : ℕ) (v : Fenced s f) (k : rank m ≤ 2) (w : FastRun s f m from i) (b : rank (kind_of (get_or s i 0)) ≤ rank m) where
  pub fast_two : rank (kind_of (get_or s (i + 1) 0)) ≤ rank m → FastRun s f m from (i + 2)
  fast_two b₁ = fast_at s f m from (i + 1 + 1) (i + 2) (omega arith) (fast_more s f m from (i + 1) v k (fast_more s f m from i v k w b) b₁)

  pub fast_three : rank (kind_of (get_or s (i + 1) 0)) ≤ rank m → rank (kind_of (get_or s (i + 2) 0)) ≤ rank m → FastRun s f m from (i + 3)
  fast_three b₁ b₂ = fast_at s f m from (i + 2 + 1) (i + 3) (omega arith) (fast_more s f m from (i + 2) v k (fast_two b₁) b₂)

  pub fast_four : rank (kind_of (get_or s (i + 1) 0)) ≤ rank m → rank (kind_of (get_or s (i + 2) 0)) ≤ rank m → rank (kind_of (get_or s (i + 3) 0)) ≤ rank m → FastRun s f m from (i + 4)
  fast_four b₁ b₂ b₃ = fast_at s f m from (i + 3 + 1) (i + 4) (omega arith) (fast_more s f m from (i + 3) v k (fast_three b₁ b₂) b₃)

pub fast_stop : (s : List ℕ) (f : ℕ) (m : Kind) (from i : ℕ) → FastRun s f m from i → rank m < rank (kind_of (get_or s i 0)) → RunEnd s m from i × (i < f)
fast_stop s f m from i w b = (record { read = w.run.read; clean = w.run.clean; below = w.below; stop = b }, w.inside)

-- a plain word, from its first byte on
module _ (s : List ℕ) (f : ℕ) (m : Kind) (i : ℕ) (v : Fenced s f) (h : i < f) (b : begins_plain (get_or s i 0) (first (drop (i + 1) s)) ≡ true) where
  pub plain_inside : i + 1 < f
  plain_inside = fence_plain s f i v h (plain_begins _ _ 0 b).1

  pub plain_whole : (e : ℕ) → RunEnd s m (i + 1) e → e < f → ends_plain (get_or s e 0) (first (drop (e + 1) s)) ≡ true → e ≤ i + 256 → PlainWhole s f m i e
  plain_whole e r l n o =
      record {
        word = plain_word s i e (fence_in s f i v h) (plain_begins _ _ 0 b).1 (record { read = r.read; clean = r.clean }) (fence_in s f e v l) n o;
        inside = l;
        below = r.below;
      }

  -- with blanks and joins before it
  pub plain_behind : (from n l e : ℕ) → Between s from n i l → PlainWhole s f m i e → FoundWord s from n i e l 0
  plain_behind from n l e k w = between_word s from n i l k (fence_in s f i v h) e 0 (plain_begins _ _ _ b).0 w.word

  -- with blanks alone
  pub plain_found : (from e : ℕ) → Blanks s from i → PlainWhole s f m i e → PlainFound s f from i e
  plain_found from e k w =
      record {
        found = λ n j. plain_behind from n n e (between_skip s from n i j k) w;
        inside = w.inside;
      }

pub value_plain : (s : List ℕ) (f i e : ℕ) → i < length s → kind_of (get_or s i 0) ≡ kind.Plain → PlainWhole s f kind.Slash i e → any_of (λ b. eqb b 37) (part s i e) ≡ false
value_plain s f i e h k w =
    rw (part_cons s i e (omega (arith, w.word.ends.low)) w.word.ends.high, any_cons, ne_eqb _ 37 (meant _ kind.Plain k).2) (none_percent _ w.below)

pub byte_next : (s : List ℕ) (f i b : ℕ) → Fenced s f → i < f → get_or s i 0 ≡ b → kind_of b ≡ kind.Plain → i + 1 < f
byte_next s f i b v h e z = fence_plain s f i v h (rw e (meant b kind.Plain z).0)

-- a word of one byte
pub byte_alone : (s : List ℕ) (f from i b : ℕ) → Fenced s f → Blanks s from i → i < f → get_or s i 0 ≡ b → kind_of b ≡ kind.Plain →
    ends_plain (get_or s (i + 1) 0) (first (drop (i + 1 + 1) s)) ≡ true → ByteWord s f from b (i + 1)
byte_alone s f from i b v k h e z n =
    let p : begins_plain (get_or s i 0) (first (drop (i + 1) s)) ≡ true = rw e (plain_kind b _ z) in
    let l = byte_next s f i b v h e z in
    let w : PlainWhole s f kind.Percent i (i + 1) =
    record {
      word = plain_word s i (i + 1) (fence_in s f i v h) (plain_begins _ _ 0 p).1 (run_start s (i + 1) (omega (arith, v.high))) (fence_in s f (i + 1) v l) n (omega arith);
      inside = l;
      below = rw (part_empty s (i + 1), all_nil);
    } in
    record {
      start = i;
      word = plain_found s f kind.Percent i v h p from (i + 1) k w;
      text = part_cons s i (i + 1) (omega arith) (omega (arith, fence_in s f (i + 1) v l)) ∙ rw (e, part_empty s (i + 1)) refl;
    }

-- the loop of `skip_blanks`
pub record FastBlanks (s : List ℕ) (f from i : ℕ) : Type 0 where
  pub run : Blanks s from i
  pub inside : i < f

pub gaps_more : (s : List ℕ) (f from i : ℕ) → Fenced s f → FastBlanks s f from i → blank (get_or s i 0) ≡ true → FastBlanks s f from (i + 1)
gaps_more s f from i v w k = record { run = blanks_more s from i w.run (omega (arith, w.inside, v.high)) k; inside = fence_blank s f i v w.inside k }

pub gaps_stop : (s : List ℕ) (f from i : ℕ) → FastBlanks s f from i → (blank (get_or s i 0) ≡ false) → Skipped s from i × (i < f)
gaps_stop s f from i w k = (blanks_stop s from i w.run k, w.inside)

pub gaps_two : (s : List ℕ) (f from i : ℕ) → Fenced s f → FastBlanks s f from i → blank (get_or s i 0) ≡ true → blank (get_or s (i + 1) 0) ≡ true → FastBlanks s f from (i + 2)
gaps_two s f from i v w k k₁ =
    let q : i + 1 + 1 ≡ i + 2 = omega arith in
    rw q at (gaps_more s f from (i + 1) v (gaps_more s f from i v w k) k₁)
