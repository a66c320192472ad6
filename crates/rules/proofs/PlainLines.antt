-- Lines read at one go: one law for each way through each loop, and what is known of a line that was read so.
use Prim.Native.Nat.{ℕ, zero, suc, ◌+◌, ◌-◌, ◌≤◌, ◌<◌}
use native.Mathlib.Omega.{arith}
use mathlib.Core.Path.{◌≡◌, refl, sym, ap, ◌∙◌}
use mathlib.Core.List.{[], ◌∷◌}
use mathlib.Core.Bool.{Bool, true, false, not, ◌||◌}
use lib.ListN.{length, get_or, take, drop}
use lib.Dec.{eqb}
use borrow.Author.Tests.{eq-eqb, eqb-true, eqb-false, not-true}
use Rattle.text.specs.Bytes.{Text, Words, same, all_of, any_of, part}
use Rattle.text.specs.Words.{words_fault}
use Rattle.text.specs.Reading.{left, ahead, fault_of, Blanks, PlainFound, ByteWord, NoWord}
use Rattle.text.proofs.Lists.{no, and_both}
use Rattle.text.specs.Sources.{feed_end}
use Rattle.text.proofs.Feeds.{FeedAt}
use Rattle.text.proofs.Sources.{feed_some}
use Rattle.std.specs.Prelude.{Option, Some, None, IfSome}
use Rattle.text.proofs.Readers.{fault_cons, fault_nil, lower_zero, between_skip, between_over}
use Rattle.rules.specs.declared.Form.TheVariants as form
use Rattle.rules.specs.declared.Present.{Present}
use Rattle.rules.specs.contracts.FormPartialEq.TheImpl as forms
use Rattle.rules.proofs.RuleFaults.{indexed_is}
use Rattle.rules.specs.Words.{is_equals, ordinary, left_word}
use Rattle.rules.specs.Percent.{pieces, bad_piece, malformed}
use Rattle.rules.specs.Entries.{ignored, rule, rule_entry, entry_of}
use Rattle.rules.specs.Faults.{rule_shape, shape_fault}
use Rattle.rules.specs.Checking.{is_absent, is_indexed, line_of, present_fault, line_fault, present_after, names_after}
use Rattle.rules.proofs.Pieces.{pieces_byte}
use Rattle.rules.specs.Plain.{good_right, good_left, LeftRead, RightWord, RightRead, RuleRead, Passes}

right_cons : (i : Bool) (j r : ℕ) (w : Text) (ws : Words) → j ≡ suc r → fault_of w ≡ 0 → ordinary w ≡ true → malformed i w ≡ false → good_right i j (w ∷ ws) ≡ good_right i r ws
unfolding good_right
right_cons i j r w ws e f o m = rw (e, f, o, m) refl

left_cons : (i : Bool) (r j l : ℕ) (w : Text) (ws : Words) → j ≡ suc l → fault_of w ≡ 0 → left_word w ≡ true → good_left i r j (w ∷ ws) ≡ good_left i r l ws
unfolding good_left
left_cons i r j l w ws e f o = rw (e, f, o) refl

equals_cons : (i : Bool) (r : ℕ) (w : Text) (ws : Words) → fault_of w ≡ 0 → is_equals w ≡ true → good_left i r 0 (w ∷ ws) ≡ good_right i r ws
unfolding good_left
equals_cons i r w ws f o = rw (f, o) refl

-- k of n left words are read
pub record Lefts (s : Text) (f from n at k : ℕ) : Type 0 where
  pub low : from ≤ at
  pub inside : at < f
  pub words : (i : Bool) (r : ℕ) → good_left i r n (left s from) ≡ good_left i r (n - k) (left s at)
  pub onto : (m : ℕ) → m ≤ from + 1 → ahead s from m ≡ ahead s at m

module _ (s : Text) (f from n at k : ℕ) (v : Lefts s f from n at k) where
  pub lefts_more : (a e : ℕ) → k < n → PlainFound s f at a e → left_word (part s a e) ≡ true → Lefts s f from n e (k + 1)
  lefts_more a e h w o =
      let u = w.found 0 (omega arith) in
      let q : n - k ≡ suc (n - (k + 1)) = omega arith in
      record {
        low = omega (arith, v.low, u.low, u.some);
        inside = w.inside;
        words = λ i r. v.words i r ∙ (rw u.text (left_cons i r (n - k) (n - (k + 1)) (part s a e) (left s e) q (sym u.fault) o));
        onto = λ m l. v.onto m l ∙ (w.found m (omega (arith, l, v.low))).onto;
      }

-- a word without percent signs is not malformed
no_percent : (i : Bool) (w : Text) → any_of (λ b. eqb b 37) w ≡ false → malformed i w ≡ false
unfolding malformed pieces bad_piece any_of
no_percent i [] h = refl
no_percent i (b ∷ w) h = go (eqb b 37) refl h (no_percent i w)
  where
    go : (t : Bool) → eqb b 37 ≡ t → (t || any_of (λ x. eqb x 37) w) ≡ false → (any_of (λ x. eqb x 37) w ≡ false → malformed i w ≡ false) → malformed i (b ∷ w) ≡ false
    go true e k f = absurd (no (sym k))
    go false e k f = rw (pieces_byte b w (eqb-false b 37 e)) (f k)

pub word_plain : (s : Text) (f : ℕ) (i : Bool) (from a e : ℕ) → PlainFound s f from a e × (any_of (λ b. eqb b 37) (part s a e) ≡ false) → ordinary (part s a e) ≡ true →
    RightWord s f i from e
word_plain s f i from a e w o = record { start = a; word = w.0; plain = o; sound = no_percent i (part s a e) w.1 }

-- k of n right words are read
pub record Rights (s : Text) (f : ℕ) (i : Bool) (from n at k : ℕ) : Type 0 where
  pub low : from ≤ at
  pub inside : at < f
  pub words : good_right i n (left s from) ≡ good_right i (n - k) (left s at)
  pub onto : (m : ℕ) → m ≤ from + 1 → ahead s from m ≡ ahead s at m

module _ (s : Text) (f : ℕ) (i : Bool) (from n at k : ℕ) (v : Rights s f i from n at k) where
  pub rights_more : (e : ℕ) → k < n → RightWord s f i at e → Rights s f i from n e (k + 1)
  rights_more e h r =
      let a = r.start in
      let w = r.word in
      let u = w.found 0 (omega arith) in
      let q : n - k ≡ suc (n - (k + 1)) = omega arith in
      record {
        low = omega (arith, v.low, u.low, u.some);
        inside = w.inside;
        words = v.words ∙ (rw u.text (right_cons i (n - k) (n - (k + 1)) (part s a e) (left s e) q (sym u.fault) r.plain r.sound));
        onto = λ m l. v.onto m l ∙ (w.found m (omega (arith, l, v.low))).onto;
      }

-- a rule: its left words up to a, `=` up to c, its right words up to d, and then nothing but blanks up to the line end at e, which goes up to z
rule_read : (s : Text) (f from : ℕ) (p : Present) (a c d e z : ℕ) → LeftRead s f from p.left a → ByteWord s f a 61 c →
    RightRead s f (is_indexed p.form) c p.right d → Blanks s d e → FeedAt s e z → RuleRead s from p z
unfolding good_right is_equals same
rule_read s f from p a c d e z l v r k g =
    let w = v.word in
    let u = w.found 0 (omega arith) in
    let o : is_equals (part s v.start c) ≡ true = rw v.text refl in
    let x : (m : ℕ) → m ≤ d + 1 → NoWord s d m z (m + 1) = λ m y. between_over s d m e m z (between_skip s d m e y k) g in
    record {
      low = omega (arith, l.low, u.low, u.some, r.low, k.low, g.low);
      high = g.high;
      good = l.words (is_indexed p.form) p.right
          ∙ (rw u.text (equals_cons (is_indexed p.form) p.right (part s v.start c) (left s c) (sym u.fault) o)
          ∙ (r.words ∙ rw (x 0 (omega arith)).none refl));
      onto = λ m y.
          l.onto m y
          ∙ ((w.found m (omega (arith, y, l.low))).onto
          ∙ (r.onto m (omega (arith, y, l.low, u.low, u.some)) ∙ (x m (omega (arith, y, l.low, u.low, u.some, r.low))).onto));
    }

pub rule_reads : (s : Text) (f from : ℕ) (p : Present) (a c d e : ℕ) (i : Bool) → i ≡ forms.ghosts.eq p.form form.Indexed → LeftRead s f from p.left a → ByteWord s f a 61 c →
    RightRead s f i c p.right d → Blanks s d e → (r : Option ℕ) → r ≡ feed_end s e → IfSome r (RuleRead s from p)
rule_reads s f from p a c d e i q l v w k None g = tt
rule_reads s f from p a c d e i q l v w k (Some z) g = rule_read s f from p a c d e z l v (rw (q, indexed_is p.form) at w) k (feed_some s e (Some z) z g refl)

-- what is known of words of which nothing is refused

fine_cons : (w : Text) (ws : Words) → fault_of w ≡ 0 → words_fault ws ≡ 0 → words_fault (w ∷ ws) ≡ 0
fine_cons w ws f h = fault_cons w ws ∙ rw (f, h, lower_zero)

record Right (i : Bool) (r : ℕ) (ws : Words) : Type 0 where
  pub long : length ws ≡ r
  pub plain : all_of ordinary ws ≡ true
  pub percent : any_of (malformed i) ws ≡ false
  pub fine : words_fault ws ≡ 0

right_good : (i : Bool) (r : ℕ) (ws : Words) → good_right i r ws ≡ true → Right i r ws
unfolding good_right all_of any_of
right_good i zero [] h = record { long = refl; plain = refl; percent = refl; fine = fault_nil }
right_good i zero (w ∷ ws) h = absurd (no h)
right_good i (suc r) [] h = absurd (no h)
right_good i (suc r) (w ∷ ws) h =
    let a = and_both (eqb (fault_of w) 0) _ h in
    let b = and_both (ordinary w) _ a.1 in
    let c = and_both (not (malformed i w)) _ b.1 in
    let v = right_good i r ws c.1 in
    record {
      long = ap suc v.long;
      plain = rw b.0 v.plain;
      percent = rw (not-true (malformed i w) c.0) v.percent;
      fine = fine_cons w ws (eqb-true _ _ a.0) v.fine;
    }

record Whole (i : Bool) (r l : ℕ) (ws : Words) : Type 0 where
  pub long : length ws ≡ l + 1 + r
  pub lefts : all_of left_word (take l ws) ≡ true
  pub equals : is_equals (get_or ws l []) ≡ true
  pub plain : all_of ordinary (drop (l + 1) ws) ≡ true
  pub percent : any_of (malformed i) (drop (l + 1) ws) ≡ false
  pub fine : words_fault ws ≡ 0

left_good : (i : Bool) (r l : ℕ) (ws : Words) → good_left i r l ws ≡ true → Whole i r l ws
unfolding good_left all_of
left_good i r zero [] h = absurd (no h)
left_good i r zero (w ∷ ws) h =
    let a = and_both (eqb (fault_of w) 0) _ h in
    let b = and_both (is_equals w) _ a.1 in
    let v = right_good i r ws b.1 in
    record {
      long = let e = v.long in omega arith;
      lefts = refl;
      equals = b.0;
      plain = v.plain;
      percent = v.percent;
      fine = fine_cons w ws (eqb-true _ _ a.0) v.fine;
    }
left_good i r (suc l) [] h = absurd (no h)
left_good i r (suc l) (w ∷ ws) h =
    let a = and_both (eqb (fault_of w) 0) _ h in
    let b = and_both (left_word w) _ a.1 in
    let v = left_good i r l ws b.1 in
    let q : suc l + 1 ≡ suc (l + 1) = omega arith in
    record {
      long = let e = v.long in omega arith;
      lefts = rw b.0 v.lefts;
      equals = v.equals;
      plain = rw q v.plain;
      percent = rw q v.percent;
      fine = fine_cons w ws (eqb-true _ _ a.0) v.fine;
    }

-- a rule of which nothing is refused

present_good : (p : Present) (ws : Words) → (is_absent p.form ≡ false) → good_left (is_indexed p.form) p.right p.left ws ≡ true → present_fault p ws ≡ 0
unfolding present_fault shape_fault rule_shape
present_good p ws n h =
    let v = left_good (is_indexed p.form) p.right p.left ws h in
    rw (n, eq-eqb _ _ v.long, v.lefts, v.equals, v.plain, v.percent) refl

rule_entry_lem : (n : ℕ) (i : Bool) (r l : ℕ) (ws : Words) → Whole i r l ws → entry_of (line_of n false ws) ≡ rule ws
unfolding entry_of rule_entry
rule_entry_lem n i r l [] v = absurd (let e : 0 ≡ l + 1 + r = v.long in omega arith)
rule_entry_lem n i r l (w ∷ ws) v = rw v.fine refl

no_entry : (n : ℕ) → entry_of (line_of n false []) ≡ ignored
unfolding entry_of rule_entry
no_entry n = rw fault_nil refl

pub passes_rule : (p : Present) (ws : Words) (n : ℕ) → (is_absent p.form ≡ false) → good_left (is_indexed p.form) p.right p.left ws ≡ true → Passes p (entry_of (line_of n false ws))
unfolding line_fault names_after present_after
passes_rule p ws n z h =
    rw (rule_entry_lem n (is_indexed p.form) p.right p.left ws (left_good (is_indexed p.form) p.right p.left ws h))
    (record { fault = λ ns. present_good p ws z h; names = λ ns. refl; present = refl })

pub passes_none : (p : Present) (n : ℕ) → Passes p (entry_of (line_of n false []))
unfolding line_fault names_after present_after
passes_none p n = rw (no_entry n) (record { fault = λ ns. refl; names = λ ns. refl; present = refl })
