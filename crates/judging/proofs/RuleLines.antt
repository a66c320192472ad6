-- A line that is no heading: one law for each way it is read.
use Prim.Native.Nat.{ℕ, ◌+◌, ◌-◌, ◌≤◌, ◌<◌}
use native.Mathlib.Omega.{arith}
use native.Mathlib.Nat.{zero-add, add_comm}
use mathlib.Core.Path.{◌≡◌, refl, sym, ap, ◌∙◌}
use mathlib.Core.List.{List, ◌∷◌, map}
use mathlib.Core.Bool.{Bool, true, false, not, ◌&&◌}
use lib.ListN.{length, get_or, drop, length-drop}
use lib.Seq.{drop-drop}
use lib.Dec.{eqb}
use borrow.Author.Tests.{not-true, ne_eqb}
use Rattle.std.specs.Prelude.{Option, Some, None, Err, IfSome}
use Rattle.text.specs.declared.Place.TheVariants.{Start, Space}
use Rattle.text.specs.declared.Span.{Span}
use Rattle.text.specs.declared.Spot.{Spot}
use Rattle.text.specs.declared.faults.Fault.{Fault}
use Rattle.text.specs.declared.kinds.Kind.{Kind}
use Rattle.text.specs.declared.kinds.Kind.TheVariants.{Plain, Slash, Percent, Other}
use Rattle.text.specs.Bytes.{Text, Words}
use Rattle.text.specs.Marks.{marks}
use Rattle.text.specs.Lines.{lines_of}
use Rattle.text.specs.Words.{bad_byte, words_fault}
use Rattle.text.specs.Kinds.{kind_of}
use Rattle.text.specs.Told.{number_of}
use Rattle.text.specs.Reading.{left, ahead, follow, Fenced, NoWord, Passed, Opens}
use Rattle.text.specs.Sources.{Skipped, feed_end}
use Rattle.text.proofs.Joined.{shifted, lines_of_shift}
use Rattle.text.proofs.ByteKinds.{Means, means}
use Rattle.text.proofs.Lists.{and_both}
use Rattle.text.proofs.Feeds.{FeedAt}
use Rattle.text.proofs.Readers.{line_at, line_first, blanks_start, between_skip, between_over, fence_in}
use Rattle.text.proofs.Sources.{feed_some, opened_plain}
use Rattle.text.proofs.Told.{number_some}
use Rattle.rules.specs.declared.Present.{Present}
use Rattle.rules.specs.declared.Split.{Split}
use Rattle.rules.specs.Entries.{entry_of}
use Rattle.rules.specs.Splitting.{words_of, IsSplit}
use Rattle.rules.specs.Plain.{RuleRead}
use Rattle.rules.specs.Checking.{line_of, is_absent, present_fault, line_fault}
use Rattle.rules.proofs.PlainLines.{passes_rule, passes_none}
use Rattle.rules.proofs.LineKinds.{line_wrong, line_ignored, line_rule}
use Rattle.rules.proofs.CheckSteps.{refused_first, check_cons, entry_any}
use Rattle.judging.specs.Lines.{RestRead, PlainStart, WordsPass, WordsJudged, RuleLineRead, LineRefused}

-- a byte of words that is no slash, by its kind
abbrev pub plain_kind : Kind → Bool
plain_kind Plain = true
plain_kind Slash = false
plain_kind Percent = true
plain_kind Other = false

pub plain_reads : (b : ℕ) → (not (bad_byte b) && not (eqb b 47)) ≡ plain_kind (kind_of b)
unfolding bad_byte
plain_reads b = go (kind_of b) (means b)
  where
    go : (k : Kind) → Means b k → (not (bad_byte b) && not (eqb b 47)) ≡ plain_kind k
    go Plain m = rw (m.0, ne_eqb b 47 m.1) refl
    go Slash m = rw m refl
    go Percent m = rw m refl
    go Other m = rw m refl

plain_byte : (b : ℕ) → (not (bad_byte b) && not (eqb b 47)) ≡ true → bad_byte b ≡ false
plain_byte b h = not-true _ (and_both (not (bad_byte b)) (not (eqb b 47)) h).0

-- a line that begins with a plain byte
pub opens_plain : (s : Text) (f at i : ℕ) → Fenced s f → Skipped s at i → i < f → (get_or s i 0 ≡ 33 → ⊥) →
    (not (bad_byte (get_or s i 0)) && not (eqb (get_or s i 0) 47)) ≡ true → PlainStart s at i
opens_plain s f at i g k l x z = record { opens = λ n y. opened_plain s at n i y k (fence_in s f i g l) x (plain_byte (get_or s i 0) z) }

-- the rest of a line at one go

rest_none : (s : Text) (from : ℕ) (p : Present) (z : ℕ) → FeedAt s from z → RestRead s from p z
rest_none s from p z e =
    let x : (m : ℕ) → m ≤ from + 1 → NoWord s from m z (m + 1) =
    λ m y. between_over s from m from m z (between_skip s from m from y (blanks_start s from (omega (arith, e.low, e.high)))) e in
    record {
      low = e.low;
      high = e.high;
      onto = λ m y. (x m y).onto;
      passes = λ n. rw (x 0 (omega arith)).none (passes_none p n);
    }

pub rest_feed : (s : Text) (from : ℕ) (p : Present) (r : Option ℕ) → r ≡ feed_end s from → IfSome r (RestRead s from p)
rest_feed s from p None e = Prim.tt {0}
rest_feed s from p (Some z) e = rest_none s from p z (feed_some s from (Some z) z e refl)

pub rest_rule : (s : Text) (from : ℕ) (p : Present) (r : Option ℕ) → is_absent p.form ≡ false → IfSome r (RuleRead s from p) → IfSome r (RestRead s from p)
rest_rule s from p None z r = Prim.tt {0}
rest_rule s from p (Some e) z r = record { low = r.low; high = r.high; onto = r.onto; passes = λ n. passes_rule p (left s from) n z r.good }

-- the fault of a split line

module _ (ws : Words) (p : Present) (f : ℕ) (e : f ≡ words_fault ws) where
  pub fault_words : (f ≡ 0 → ⊥) → (ns : List Text) → line_fault ns p (entry_of (line_of 0 false ws)) ≡ f
  unfolding line_fault
  fault_words z ns = rw (line_wrong 0 false ws f e z) refl

  module _ (z : f ≡ 0) where
    pub fault_none : length ws ≡ 0 → (ns : List Text) → line_fault ns p (entry_of (line_of 0 false ws)) ≡ 0
    unfolding line_fault
    fault_none h ns = rw (line_ignored 0 false ws f e z refl h) refl

    pub fault_rule : (length ws ≡ 0 → ⊥) → (ns : List Text) → line_fault ns p (entry_of (line_of 0 false ws)) ≡ present_fault p ws
    unfolding line_fault
    fault_rule h ns = rw (line_rule 0 false ws f e z refl h) refl

-- a line that is split from `from` on, within the file

module _ (s : Text) (t : List Span) (h : Bool) (from m : ℕ) (x : Text) (r : Split) (xe : x ≡ drop from s) (le : from ≤ length s) (few : m ≤ from + 1) (v : IsSplit h x t r) where
  pub split_words : words_of x ≡ left s from
  unfolding words_of left
  split_words = rw xe refl

  split_onto : ahead s from m ≡ follow s (from + r.next.at) (m + r.next.line)
  unfolding ahead follow
  split_onto =
      let o = rw xe at v.onto in
      ap (λ (k : ℕ). lines_of k true (marks Space (drop from s))) (sym (zero-add m)) ∙
      (lines_of_shift m 0 true (marks Space (drop from s)) ∙
      (ap (map (shifted m)) o ∙
      (sym (lines_of_shift m r.next.line false (marks Start (drop r.next.at (drop from s)))) ∙
      rw (add_comm r.next.line m, drop-drop r.next.at from s) refl)))

  long : length x ≡ length s - from
  long = ap length xe ∙ length-drop from s

  pub split_passed : Passed s from m (from + r.next.at) (m + r.next.line)
  split_passed = record { onwards = omega (arith, long, v.onwards); high = omega (arith, long, v.high); few = omega (arith, v.few); onto = split_onto }

  pub words_pass : (p : Present) → ((ns : List Text) → line_fault ns p (entry_of (line_of 0 false (words_of x))) ≡ 0) →
      WordsPass s from m p (record { at = from + r.next.at; line = m + r.next.line })
  words_pass p f = record { fault = rw split_words at f; passed = split_passed }

  pub words_fail : (p : Present) (f : Fault) → ((ns : List Text) → line_fault ns p (entry_of (line_of 0 false (words_of x))) ≡ number_of f) → WordsJudged s from m p (Err f)
  words_fail p f g = rw split_words at g

-- a line that is opened, with what is ahead of it

module _ (s : Text) (at n : ℕ) (p : Present) (b : Bool) (from m : ℕ) (lt : at < length s) (o : Opens s at n b from m) where
  pub line_opened : b ≡ false → follow s at n ≡ line_of n false (left s from) ∷ ahead s from m
  unfolding follow line_at
  line_opened e = rw (line_first s n at lt, o.mark, o.text, o.onto, e) refl

  pub read_rest : b ≡ false → (e : ℕ) → RestRead s from p e → RuleLineRead s at n p from m e (m + 1)
  read_rest z e r =
      record {
        low = o.low;
        inside = o.high;
        few = o.few;
        on = omega (arith, o.low, r.low);
        high = r.high;
        fewer = omega (arith, o.few, r.low);
        read = line_opened z ∙ rw (r.onto m o.few) refl;
        onto = r.onto m o.few;
        fault = (r.passes n).fault;
      }

  module _ (z : b ≡ false) where
    pub read_words : (next : Spot) → WordsPass s from m p next → RuleLineRead s at n p from m next.at next.line
    read_words next w =
        record {
          low = o.low;
          inside = o.high;
          few = o.few;
          on = omega (arith, o.low, o.high, w.passed.onwards);
          high = w.passed.high;
          fewer = w.passed.few;
          read = line_opened z ∙ rw w.passed.onto refl;
          onto = w.passed.onto;
          fault = λ ns. rw (entry_any n false (left s from)) (w.fault ns);
        }

    pub words_refused : (f : Fault) → ((ns : List Text) → line_fault ns p (entry_of (line_of 0 false (left s from))) ≡ number_of f) → LineRefused s at n p (number_of f)
    words_refused f g =
        record {
          some = number_some f;
          first = λ ns.
              rw (line_opened z, check_cons, entry_any n false (left s from), g ns) (refused_first (number_of f) n _ (number_some f));
        }
