-- The limits of a card: its profile's first refusal, and the lengths of its texts.
use Prim.Native.Nat.{ℕ, suc, ◌+◌, ◌*◌, ◌≤◌}
use native.Mathlib.Omega.{arith}
use mathlib.Core.Path.{◌≡◌, refl, sym, ap, ap₂, ◌∙◌}
use mathlib.Core.List.{List, [], ◌∷◌, map}
use mathlib.Core.Bool.{Bool, true, false, ◌||◌, ◌&&◌}
use lib.ListN.{length, take, drop, length-take, length-drop}
use lib.Dec.{ltb, leb}
use borrow.Author.Tests.{ltb-false, leb-true}
use Rattle.std.proofs.Common.{Option, Some, None, Err}
use Rattle.std.specs.Option.{ok_or}
use Rattle.text.specs.declared.Refusal.{Refusal}
use Rattle.text.specs.Limits.{longest_text}
use Rattle.text.specs.Bytes.{Text, empty, all_of, any_of}
use Rattle.text.specs.Refusals.{refused_if, first_refusal, is_number, has_number}
use Rattle.text.proofs.Lists.{and_both, neither, all_append, nil_left, nil_right}
use Rattle.text.proofs.Numbers.{clear_if}
use Rattle.profile.specs.Profile.{Texts, fields}
use Rattle.profile.specs.Refusals.{outside, long_field, bad_text, text_refusals, count_refusals, profile_refusals}
use Rattle.profile.proofs.Numbers.{profile_numbers}
use Rattle.answers.specs.Answer.{sum, total, texts_in, refused, first_of}
use Rattle.card.specs.Card.{longest_section}
use Rattle.card.specs.Writing.{long_section}

-- the fault that stands for a value that there is not
pub ok_or_fault : {A E : Type 0} (o : Option A) (e f : E) → Err f ≡ ok_or o e → f ≡ e
ok_or_fault None e f h = cc
ok_or_fault (Some a) e f h = cc

-- the first refusal has number 0 exactly where there is none
none_first : (rs : List Refusal) → all_of has_number rs ≡ true → (first_refusal rs).number ≡ 0 → rs ≡ []
unfolding all_of has_number is_number first_refusal
none_first [] h e = refl
none_first (r ∷ rs) h e =
    let w = and_both (leb 1 r.number && leb r.number 11) (all_of has_number rs) h in
    let k = and_both (leb 1 r.number) (leb r.number 11) w.0 in
    absurd (omega (arith, leb-true 1 r.number k.0))

pub some_first : (rs : List Refusal) → ((first_refusal rs).number ≡ 0 → ⊥) → empty rs ≡ false
unfolding first_refusal empty
some_first [] h = absurd (h refl)
some_first (r ∷ rs) h = refl

pub unrefused : (t : Texts) (p : Refusal) → p ≡ first_refusal (profile_refusals t) → p.number ≡ 0 → profile_refusals t ≡ []
unrefused t p e h = none_first (profile_refusals t) (profile_numbers t) (sym (ap (λ (q : Refusal). q.number) e) ∙ h)

pub unempty : (t : Texts) (p : Refusal) → p ≡ first_refusal (profile_refusals t) → (p.number ≡ 0 → ⊥) → empty (profile_refusals t) ≡ false
unempty t p e h = some_first (profile_refusals t) (λ z. h (ap (λ (q : Refusal). q.number) e ∙ z))

-- no text of a profile that is not refused is over 1,024 bytes
short_text : (t : Text) (fs : List Text) → bad_text t fs ≡ false → length t ≤ longest_text
unfolding bad_text
short_text t fs h = ltb-false longest_text (length t) (neither (ltb longest_text (length t)) (any_of outside t || any_of long_field fs) h).0

pub record Limited (t : Texts) : Type 0 where
  pub model : length t.model ≤ longest_text
  pub layouts : length t.layouts ≤ longest_text
  pub variants : length t.variants ≤ longest_text
  pub options : length t.options ≤ longest_text

pub limited : (t : Texts) → profile_refusals t ≡ [] → Limited t
unfolding profile_refusals text_refusals
limited t h =
    let m = bad_text t.model (t.model ∷ []) in
    let l = bad_text t.layouts (fields t.layouts) in
    let v = bad_text t.variants (fields t.variants) in
    let o = bad_text t.options (fields t.options) in
    let a = nil_left (text_refusals t) (count_refusals t) h in
    let b = nil_right (refused_if m 1 1) _ a in
    let c = nil_right (refused_if l 1 2) _ b in
    record {
      model = short_text t.model _ (clear_if m 1 1 (nil_left (refused_if m 1 1) _ a));
      layouts = short_text t.layouts _ (clear_if l 1 2 (nil_left (refused_if l 1 2) _ b));
      variants = short_text t.variants _ (clear_if v 1 3 (nil_left (refused_if v 1 3) _ c));
      options = short_text t.options _ (clear_if o 1 4 (nil_right (refused_if v 1 3) _ c));
    }

-- the four texts by another name, of a profile that is not refused
pub small_texts : (u t : Texts) → u ≡ t → profile_refusals t ≡ [] →
    length u.model + length u.layouts + length u.variants + length u.options ≤ 4096
small_texts u t e h = let l = limited t h in rw e (omega (arith, l.model, l.layouts, l.variants, l.options))

-- a card's refusals have numbers from 1 to 16 and places to 4
pub numbered : Refusal → Bool
numbered r = leb 1 r.number && (leb r.number 16 && leb r.place 4)

pub if_numbered : (t : Bool) (n p : ℕ) → leb 1 n && (leb n 16 && leb p 4) ≡ true → all_of numbered (refused_if t n p) ≡ true
unfolding refused_if all_of numbered
if_numbered true n p h = rw h
if_numbered false n p h = refl

pub profile_numbered : (t : Texts) → all_of numbered (profile_refusals t) ≡ true
unfolding profile_refusals text_refusals count_refusals
profile_numbered t =
    all_append numbered (text_refusals t) (count_refusals t)
    (all_append numbered (refused_if _ 1 1) _ (if_numbered _ 1 1 refl)
    (all_append numbered (refused_if _ 1 2) _ (if_numbered _ 1 2 refl)
    (all_append numbered (refused_if _ 1 3) _ (if_numbered _ 1 3 refl) (if_numbered _ 1 4 refl))))
    (all_append numbered (refused_if _ 2 2) _ (if_numbered _ 2 2 refl) (all_append numbered (refused_if _ 2 3) _ (if_numbered _ 2 3 refl) (if_numbered _ 2 4 refl)))

pub record Numbered (r : Refusal) : Type 0 where
  pub least : 1 ≤ r.number
  pub most : r.number ≤ 16
  pub place : r.place ≤ 4

is_numbered : (r : Refusal) → numbered r ≡ true → Numbered r
unfolding numbered
is_numbered r h =
    let w = and_both (leb 1 r.number) _ h in
    let v = and_both (leb r.number 16) (leb r.place 4) w.1 in
    record { least = leb-true 1 r.number w.0; most = leb-true r.number 16 v.0; place = leb-true r.place 4 v.1 }

pub first_numbered : (rs : List Refusal) (ts : List Text) (p : Refusal) → all_of numbered rs ≡ true → first_of rs ts ≡ refused p → Numbered p
unfolding all_of first_of
first_numbered [] ts p h e = absurd (let z : ◌≡◌ {A = ℕ} 0 1 = cc in omega arith)
first_numbered (r ∷ rs) ts p h e =
    let q : r ≡ p = cc in
    is_numbered p (rw (← q) (and_both (numbered r) (all_of numbered rs) h).0)

-- the texts of given lengths at the start of a text

pub lengths_in_lem : (x : Text) (ns : List ℕ) → sum ns ≤ length x → map length (texts_in x ns) ≡ ns
unfolding texts_in sum
lengths_in_lem x [] h = refl
lengths_in_lem x (n ∷ ns) h =
    let a : length (take n x) ≡ n = length-take n x ∙ omega arith in
    ap₂ ◌∷◌ a (lengths_in_lem (drop n x) ns (omega (arith, length-drop n x)))

pub texts_count : (x : Text) (ns : List ℕ) → length (texts_in x ns) ≡ length ns
unfolding texts_in
texts_count x [] = refl
texts_count x (n ∷ ns) = ap suc (texts_count (drop n x) ns)

pub texts_total : (x : Text) (ns : List ℕ) → sum ns ≤ length x → total (texts_in x ns) ≡ sum ns
unfolding total
texts_total x ns h = ap sum (lengths_in_lem x ns h)

pub sum_short : (ns : List ℕ) → any_of long_section ns ≡ false → sum ns ≤ longest_section * length ns
unfolding any_of long_section sum
sum_short [] h = omega arith
sum_short (n ∷ ns) h =
    let w = neither (ltb longest_section n) (any_of long_section ns) h in
    omega (arith, ltb-false longest_section n w.0, sum_short ns w.1)
