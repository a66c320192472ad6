-- What the kinds of bytes mean for the marks.
use Prim.Native.Nat.{ℕ, ◌≤◌}
use native.Mathlib.Omega.{arith}
use mathlib.Core.Path.{◌≡◌, refl, sym, ◌∙◌, subst}
use mathlib.Core.Logic.{◌⊎◌, inl, inr, ⊎_elim}
use mathlib.Core.Bool.{Bool, true, false, not, ◌||◌, ◌&&◌, cond}
use borrow.Author.Tests.{ne_eqb, eqb-true, eqb-false, ltb-false}
use lib.Dec.{eqb, ltb}
use Rattle.text.specs.declared.Class.TheVariants.{Blank, Join, Slashes, Bang, Other}
use Rattle.text.specs.declared.Place.TheVariants.{Space, Word}
use Rattle.text.specs.Marks.{ends_line, class_of, char, at_other}
use Rattle.text.specs.Words.{bad_byte}
use Rattle.text.specs.declared.kinds.Kind.{Kind}
use Rattle.text.specs.declared.kinds.Kind.TheVariants as kind
use Rattle.text.specs.Kinds.{kind_of, rank, blank, begins_kind, begins_plain, ends_plain}
use Rattle.text.specs.Reading.{wordly, in_word}
use Rattle.text.proofs.Lists.{no, or_cases}

pub differ : (b k m : ℕ) → eqb k m ≡ false → b ≡ k → b ≡ m → ⊥
differ b k m h e f = eqb-false k m h (sym e ∙ f)

pub record Plain (b : ℕ) : Type 0 where
  pub least : 33 ≤ b
  pub most : b ≤ 126
  pub slash : b ≡ 92 → ⊥

pub not_bad : (b : ℕ) → bad_byte b ≡ false → Plain b
unfolding bad_byte
not_bad b h = go (ltb b 33) (ltb 126 b) (eqb b 92) refl refl refl h
  where
    go : (t u v : Bool) → ltb b 33 ≡ t → ltb 126 b ≡ u → eqb b 92 ≡ v → t || (u || v) ≡ false → Plain b
    go true u v p q r e = absurd (no (sym e))
    go false true v p q r e = absurd (no (sym e))
    go false false true p q r e = absurd (no (sym e))
    go false false false p q r e = record { least = ltb-false _ _ p; most = ltb-false _ _ q; slash = eqb-false _ _ r }

-- line ends: LF, or CR with LF behind it

pub ends_cases : (b c : ℕ) → ends_line b c ≡ true → (b ≡ 10) ⊎ ((b ≡ 13) × (c ≡ 10))
unfolding ends_line
ends_cases b c h = go (eqb b 10) (eqb b 13) (eqb c 10) refl refl refl h
  where
    go : (t u v : Bool) → eqb b 10 ≡ t → eqb b 13 ≡ u → eqb c 10 ≡ v → t || (u && v) ≡ true → (b ≡ 10) ⊎ ((b ≡ 13) × (c ≡ 10))
    go true u v p q r e = inl (eqb-true _ _ p)
    go false true true p q r e = inr (eqb-true _ _ q, eqb-true _ _ r)
    go false true false p q r e = absurd (no e)
    go false false v p q r e = absurd (no e)

pub ends_not : (b c : ℕ) → (b ≡ 10 → ⊥) → (b ≡ 13 → ⊥) → ends_line b c ≡ false
unfolding ends_line
ends_not b c h k = rw (ne_eqb b 10 h, ne_eqb b 13 k)

pub ends_no : (b c : ℕ) → ends_line b c ≡ false → b ≡ 10 → ⊥
unfolding ends_line
ends_no b c h e = no (sym (rw e at h))

pub ends_feed : (b c : ℕ) → (b ≡ 13 → c ≡ 10 → ⊥) → ends_line b c ≡ eqb b 10
unfolding ends_line
ends_feed b c h = go (eqb b 10) (eqb b 13) (eqb c 10) refl refl
  where
    go : (t u v : Bool) → eqb b 13 ≡ u → eqb c 10 ≡ v → t || (u && v) ≡ t
    go true u v p q = refl
    go false true true p q = absurd (h (eqb-true _ _ p) (eqb-true _ _ q))
    go false true false p q = refl
    go false false v p q = refl

plain_goes_on : (b c : ℕ) → bad_byte b ≡ false → ends_line b c ≡ false
plain_goes_on b c h =
    let p = not_bad b h in
    ends_not b c (λ e. omega (arith, p.least, e)) (λ e. omega (arith, p.least, e))

pub plain_in_word : (b c d : ℕ) → bad_byte b ≡ false → in_word b c d ≡ true
unfolding in_word wordly class_of
plain_in_word b c d h =
    let p = not_bad b h in
    let ten : b ≡ 10 → ⊥ = λ e. omega (arith, p.least, e) in
    let blank : b ≡ 32 → ⊥ = λ e. omega (arith, p.least, e) in
    let tab : b ≡ 9 → ⊥ = λ e. omega (arith, p.least, e) in
    rw (ne_eqb b 10 ten, ne_eqb b 32 blank, ne_eqb b 9 tab, ne_eqb b 92 p.slash, plain_goes_on b c h) (go (eqb b 33) (eqb b 47) (eqb c 47))
  where
    go : (t u v : Bool) → wordly (cond t Bang (cond u (cond v Slashes Other) Other)) ≡ true
    go true u v = refl
    go false true true = refl
    go false true false = refl
    go false false v = refl

-- what the kind of a byte says of it
abbrev pub Means : ℕ → Kind → Type 0
Means b kind.Plain = (bad_byte b ≡ false) × (b ≡ 47 → ⊥) × (b ≡ 37 → ⊥)
Means b kind.Slash = b ≡ 47
Means b kind.Percent = b ≡ 37
Means b kind.Other = bad_byte b ≡ true

pub means : (b : ℕ) → Means b (kind_of b)
unfolding kind_of
means b = go (bad_byte b) (eqb b 47) (eqb b 37) refl refl refl
  where
    go : (t u v : Bool) → bad_byte b ≡ t → eqb b 47 ≡ u → eqb b 37 ≡ v → Means b (cond t kind.Other (cond u kind.Slash (cond v kind.Percent kind.Plain)))
    go true u v p q r = p
    go false true v p q r = eqb-true _ _ q
    go false false true p q r = eqb-true _ _ r
    go false false false p q r = (p, eqb-false _ _ q, eqb-false _ _ r)

pub meant : (b : ℕ) (k : Kind) → kind_of b ≡ k → Means b k
meant b k e = subst (Means b) e (means b)

blank_cases : (b : ℕ) → blank b ≡ true → (b ≡ 32) ⊎ (b ≡ 9)
unfolding blank
blank_cases b h = or_cases (eqb b 32) (eqb b 9) h (λ e. inl (eqb-true _ _ e)) (λ e. inr (eqb-true _ _ e))

pub blank_class : (b c d : ℕ) → blank b ≡ true → (Blank ≡ class_of b c d) × (b ≡ 10 → ⊥)
unfolding class_of
blank_class b c d h = ⊎_elim (λ (e : b ≡ 32). (rw e refl, differ b 32 10 refl e)) (λ (e : b ≡ 9). (rw e refl, differ b 9 10 refl e)) (blank_cases b h)

-- the bytes of a plain word
pub rank_clean : (b m : ℕ) → m ≤ 2 → rank (kind_of b) ≤ m → bad_byte b ≡ false
unfolding bad_byte
rank_clean b m k = go (kind_of b) (means b)
  where
    go : (x : Kind) → Means b x → rank x ≤ m → bad_byte b ≡ false
    go kind.Plain e h = e.0
    go kind.Slash e h = rw e refl
    go kind.Percent e h = rw e refl
    go kind.Other e h = absurd (omega arith)

pub rank_percent : (b : ℕ) → rank (kind_of b) ≤ 1 → eqb b 37 ≡ false
rank_percent b = go (kind_of b) (means b)
  where
    go : (x : Kind) → Means b x → rank x ≤ 1 → eqb b 37 ≡ false
    go kind.Plain e h = ne_eqb _ _ e.2
    go kind.Slash e h = rw e refl
    go kind.Percent e h = absurd (omega arith)
    go kind.Other e h = absurd (omega arith)

-- a plain word ends before a blank, and before a line end
pub plain_stop : (b c d : ℕ) → ends_plain b c ≡ true → in_word b c d ≡ false
unfolding ends_plain in_word wordly class_of ends_line
plain_stop b c d h =
    or_cases (blank b) (ends_line b c) h
    (λ e. ⊎_elim (λ (q : b ≡ 32). rw q refl) (λ (q : b ≡ 9). rw q refl) (blank_cases b e))
    (λ e. ⊎_elim (λ (q : b ≡ 10). rw q refl) (λ (q : (b ≡ 13) × (c ≡ 10)). rw (q.0, q.1) refl) (ends_cases b c e))

-- a word begins: no blank, no line end, no join, no comment
pub record Begins (b c d : ℕ) : Type 0 where
  pub blank : blank b ≡ false
  pub feed : ends_line b c ≡ false
  pub joins : b ≡ 92 → ends_line c d ≡ false
  pub note : b ≡ 47 → c ≡ 47 → ⊥

pub begins_char : (b c d : ℕ) → Begins b c d → at_other Space (class_of b c d) b ≡ (char b, Word)
unfolding blank class_of
begins_char b c d h = go (eqb b 32) (eqb b 9) (eqb b 33) (eqb b 92) (ends_line c d) (eqb b 47) (eqb c 47) (ends_line b c) refl refl refl refl refl refl h.feed
  where
    go : (t u v w x y z l : Bool) → eqb b 32 ≡ t → eqb b 9 ≡ u → eqb b 92 ≡ w → ends_line c d ≡ x → eqb b 47 ≡ y → eqb c 47 ≡ z → l ≡ false →
        at_other Space (cond t Blank (cond u Blank (cond v Bang (cond w (cond x Join Other) (cond y (cond z Slashes Other) (cond l Blank Other)))))) b ≡ (char b, Word)
    go true u v w x y z l p q r i j k o = absurd (no (sym h.blank ∙ rw p))
    go false true v w x y z l p q r i j k o = absurd (no (sym h.blank ∙ rw (p, q)))
    go false false true w x y z l p q r i j k o = refl
    go false false false true true y z l p q r i j k o = absurd (no (sym (h.joins (eqb-true _ _ r)) ∙ i))
    go false false false true false y z l p q r i j k o = refl
    go false false false false x true true l p q r i j k o = absurd (h.note (eqb-true _ _ j) (eqb-true _ _ k))
    go false false false false x true false l p q r i j k o = refl
    go false false false false x false z true p q r i j k o = absurd (no (sym o))
    go false false false false x false z false p q r i j k o = refl

-- a byte of a plain word, where no comment begins
pub plain_begins : (b c d : ℕ) → begins_plain b c ≡ true → Begins b c d × (bad_byte b ≡ false)
unfolding begins_plain blank bad_byte
plain_begins b c d = go (kind_of b) (means b) (eqb c 47) refl
  where
    begins : bad_byte b ≡ false → (b ≡ 47 → c ≡ 47 → ⊥) → Begins b c d × (bad_byte b ≡ false)
    begins q k =
        let p = not_bad b q in
        let x : b ≡ 32 → ⊥ = λ e. omega (arith, p.least, e) in
        let y : b ≡ 9 → ⊥ = λ e. omega (arith, p.least, e) in
        (record { blank = rw (ne_eqb b 32 x, ne_eqb b 9 y) refl; feed = plain_goes_on b c q; joins = λ i. absurd (p.slash i); note = k }, q)

    go : (x : Kind) → Means b x → (f : Bool) → eqb c 47 ≡ f → begins_kind x f ≡ true → Begins b c d × (bad_byte b ≡ false)
    go kind.Plain e f p h = begins e.0 (λ k. absurd (e.1 k))
    go kind.Slash e true p h = absurd (no h)
    go kind.Slash e false p h = begins (rw e refl) (λ k. eqb-false _ _ p)
    go kind.Percent e f p h = begins (rw e refl) (λ k. absurd (differ b 37 47 refl e k))
    go kind.Other e f p h = absurd (no h)

percent_fine : (b : ℕ) → b ≡ 37 → bad_byte b ≡ false
unfolding bad_byte
percent_fine b e = rw e refl

-- the kind that most words begin with
pub plain_kind : (b c : ℕ) → kind_of b ≡ kind.Plain → begins_plain b c ≡ true
unfolding begins_plain
plain_kind b c h = rw h refl

percent_kind : (b c : ℕ) → kind_of b ≡ kind.Percent → begins_plain b c ≡ true
unfolding begins_plain
percent_kind b c h = rw h refl

pub join_class : (b c d : ℕ) → b ≡ 92 → ends_line c d ≡ true → Join ≡ class_of b c d
unfolding class_of
join_class b c d p q = rw (p, q) refl

pub note_class : (b c d : ℕ) → b ≡ 47 → c ≡ 47 → Slashes ≡ class_of b c d
unfolding class_of
note_class b c d p q = rw (p, q) refl

pub bang_class : (b c d : ℕ) → b ≡ 33 → Bang ≡ class_of b c d
unfolding class_of
bang_class b c d p = rw p refl

-- CR before LF
pub return_class : (b c d : ℕ) → b ≡ 13 → c ≡ 10 → Blank ≡ class_of b c d
unfolding class_of ends_line
return_class b c d p q = rw (p, q) refl

-- the ways through the tests of the byte b at which a plain word may begin, where c stands behind it
module _ (b c : ℕ) where
  pub begins_yes : kind_of b ≡ kind.Plain → true ≡ begins_plain b c
  begins_yes h = sym (plain_kind b c h)

  pub begins_slash : b ≡ 47 → not (eqb c 47) ≡ begins_plain b c
  unfolding begins_plain kind_of bad_byte
  begins_slash e = rw e refl

  pub begins_at_slash : (d : ℕ) → b ≡ 47 → c ≡ d → not (eqb d 47) ≡ begins_plain b c
  begins_at_slash d e h = rw (sym h) (begins_slash e)

  pub begins_percent : (kind_of b ≡ kind.Plain → ⊥) → (b ≡ 47 → ⊥) → eqb b 37 ≡ begins_plain b c
  unfolding begins_plain
  begins_percent = go (kind_of b) (means b)
    where
      go : (k : Kind) → Means b k → (k ≡ kind.Plain → ⊥) → (b ≡ 47 → ⊥) → eqb b 37 ≡ begins_kind k (eqb c 47)
      go kind.Plain e m n = absurd (m refl)
      go kind.Slash e m n = absurd (n e)
      go kind.Percent e m n = rw e refl
      go kind.Other e m n = ne_eqb b 37 (λ q. no (sym (percent_fine b q) ∙ e))

-- and through those of the byte at which a plain word may end
module _ (b c : ℕ) where
  pub ends_blank : blank b ≡ true → true ≡ ends_plain b c
  unfolding ends_plain
  ends_blank h = rw h refl

  module _ (h : blank b ≡ false) where
    pub ends_return : b ≡ 13 → eqb c 10 ≡ ends_plain b c
    unfolding ends_plain ends_line
    ends_return e = rw h (rw e refl)

    pub ends_at_return : (d : ℕ) → b ≡ 13 → c ≡ d → eqb d 10 ≡ ends_plain b c
    ends_at_return d e k = rw (sym k) (ends_return e)

    pub ends_feed_only : (b ≡ 13 → ⊥) → eqb b 10 ≡ ends_plain b c
    unfolding ends_plain
    ends_feed_only n = rw h (sym (ends_feed b c (λ e. absurd (n e))))
