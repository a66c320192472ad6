-- The layouts that a heading applies at, as a range.
use Prim.Native.Nat.{ℕ, zero, suc, ◌+◌, ◌-◌, ◌≤◌, ◌<◌}
use native.Mathlib.Omega.{arith}
use mathlib.Core.Path.{◌≡◌, refl, sym, ap, ◌∙◌}
use mathlib.Core.List.{List, [], ◌∷◌}
use mathlib.Core.Bool.{Bool, true, false, ◌||◌, ◌&&◌, cond}
use lib.ListN.{length, get_or}
use lib.Dec.{eqb, ltb, leb}
use mathlib.Core.Logic.{◌⊎◌, inl, inr}
use mir.Val.{bool_byte}
use borrow.Author.Tests.{leb-true, lt-ltb, le-ltb, le-leb, lt-leb}
use Rattle.std.specs.List.{list_any}
use Rattle.text.specs.Bytes.{any_of}
use Rattle.rules.specs.declared.SetHeading.{SetHeading}
use Rattle.rules.specs.declared.Index.{Index}
use Rattle.rules.specs.declared.Index.TheVariants as index
use Rattle.rules.specs.Headings.{up_from}
use Rattle.judging.specs.declared.Range.{Range}
use Rattle.answers.specs.Layouts.{layouts_at, per_layout, layouts_of}
use Rattle.answers.proofs.Layouts.{up_length}
use Rattle.rules.specs.Held.{heading_by, FromOne}

-- a test of the columns is one of the list
pub any_of_is : {A : Type 0} (q : A → Bool) (xs : List A) → any_of q xs ≡ list_any q xs
unfolding any_of
any_of_is q [] = refl
any_of_is q (x ∷ xs) = ap (λ (r : Bool). q x || r) (any_of_is q xs)

-- the layouts of an index, as a range

up_none : (k : ℕ) → up_from 0 k ≡ []
unfolding up_from
up_none k = refl

up_one : (k : ℕ) → up_from 1 k ≡ k ∷ []
unfolding up_from
up_one k = refl

pub alone_is : (n c : ℕ) → c ≡ bool_byte (eqb n 1) → up_from c 1 ≡ layouts_at n index.Absent
unfolding layouts_at
alone_is n c e = ap (λ (i : ℕ). up_from i 1) e ∙ go (eqb n 1)
  where
    go : (t : Bool) → up_from (bool_byte t) 1 ≡ cond t (1 ∷ []) []
    go true = up_one 1
    go false = up_none 1

module _ (n : ℕ) (i : Index) where
  pub at_lone_word : (r : Range) → (i ≡ index.Absent) ⊎ (i ≡ index.Single) → up_from r.count r.first ≡ layouts_at n index.Absent → up_from r.count r.first ≡ layouts_at n i
  unfolding layouts_at
  at_lone_word r (inl e) h = rw e h
  at_lone_word r (inr e) h = rw e h

  pub at_first : i ≡ index.First → up_from 1 1 ≡ layouts_at n i
  unfolding layouts_at
  at_first e = rw e (up_one 1)

  pub at_later : i ≡ index.Later → up_from (n - 1) 2 ≡ layouts_at n i
  unfolding layouts_at
  at_later e = rw e refl

  pub at_any : i ≡ index.Any → up_from n 1 ≡ layouts_at n i
  unfolding layouts_at
  at_any e = rw e refl

  module _ (k : ℕ) (e : i ≡ index.Numbered k) where
    pub at_number : 1 < n → k ≤ n → up_from 1 k ≡ layouts_at n i
    unfolding layouts_at
    at_number h l = rw (e, lt-ltb 1 n h, le-leb k n l) (up_one k)

    pub at_lone : n ≤ 1 → up_from 0 k ≡ layouts_at n i
    unfolding layouts_at
    at_lone h = rw (e, le-ltb 1 n h) (up_none k)

    pub at_beyond : 1 < n → n < k → up_from 0 k ≡ layouts_at n i
    unfolding layouts_at
    at_beyond h l = rw (e, lt-ltb 1 n h, lt-leb k n l) (up_none k)

-- the layouts of a heading

module _ (h : SetHeading) (n : ℕ) where
  pub range_layouts : (r : Range) → any_of per_layout (heading_by h).columns ≡ true →
      up_from r.count r.first ≡ layouts_at n h.index → up_from r.count r.first ≡ layouts_of n (heading_by h)
  unfolding layouts_of heading_by
  range_layouts r e q = rw e q

  pub range_once : any_of per_layout (heading_by h).columns ≡ false → up_from 1 0 ≡ layouts_of n (heading_by h)
  unfolding layouts_of heading_by
  range_once e = rw e (up_one 0)

-- ranges of the same layouts are the same

up_head : (c f : ℕ) → 0 < c → get_or (up_from c f) 0 0 ≡ f
unfolding up_from
up_head zero f l = absurd (omega arith)
up_head (suc c) f l = refl

up_count : (c f c' f' : ℕ) → up_from c f ≡ up_from c' f' → c ≡ c'
up_count c f c' f' e = sym (up_length c f) ∙ (ap length e ∙ up_length c' f')

pub up_same : (c f c' f' : ℕ) → 0 < c → up_from c f ≡ up_from c' f' → (c ≡ c') × (f ≡ f')
up_same c f c' f' l e =
    let a = up_count c f c' f' e in
    let m : 0 < c' = omega (arith, a) in
    (a, sym (up_head c f l) ∙ (ap (λ (r : List ℕ). get_or r 0 0) e ∙ up_head c' f' m))

-- each layout of an index is one of the n

module _ (n c f : ℕ) (one : 1 ≤ n) (some : 0 < c) where
  fits : (c' f' : ℕ) → 1 ≤ f' → f' + c' ≤ n + 1 → up_from c f ≡ up_from c' f' → (1 ≤ f) × (f + c ≤ n + 1)
  fits c' f' a b e = let s = up_same c f c' f' some e in rw (s.0, s.1) (a, b)

  none : up_from c f ≡ [] → (1 ≤ f) × (f + c ≤ n + 1)
  none e = let s = up_same c f 0 1 some (e ∙ sym (up_none 1)) in absurd (omega (arith, s.0))

  lone : (t : Bool) → up_from c f ≡ cond t (1 ∷ []) [] → (1 ≤ f) × (f + c ≤ n + 1)
  lone true e = fits 1 1 (omega arith) (omega arith) (e ∙ sym (up_one 1))
  lone false e = none e

  among : (k : ℕ) → 1 ≤ k → (t : Bool) → leb k n ≡ t → (u : Bool) → up_from c f ≡ cond (u && t) (k ∷ []) [] → (1 ≤ f) × (f + c ≤ n + 1)
  among k h true l true e = let m = leb-true k n l in fits 1 k h (omega (arith, m)) (e ∙ sym (up_one k))
  among k h true l false e = none e
  among k h false l true e = none e
  among k h false l false e = none e

  index_within : (i : Index) → FromOne i → up_from c f ≡ layouts_at n i → (1 ≤ f) × (f + c ≤ n + 1)
  unfolding layouts_at
  index_within index.Absent h e = lone (eqb n 1) e
  index_within index.Single h e = lone (eqb n 1) e
  index_within (index.Numbered k) h e = among k (h k refl) (leb k n) refl (ltb 1 n) e
  index_within index.First h e = fits 1 1 (omega arith) (omega arith) (e ∙ sym (up_one 1))
  index_within index.Later h e = fits (n - 1) 2 (omega arith) (omega arith) e
  index_within index.Any h e = fits n 1 (omega arith) (omega arith) e

-- the range of a heading, for its caller

module _ (h : SetHeading) (n : ℕ) (r : Range) (e : up_from r.count r.first ≡ layouts_of n (heading_by h)) where
  pub range_within : any_of per_layout (heading_by h).columns ≡ true → FromOne h.index → 1 ≤ n → 0 < r.count → (1 ≤ r.first) × (r.first + r.count ≤ n + 1)
  unfolding layouts_of heading_by
  range_within t i one some = index_within n r.count r.first one some h.index i (e ∙ rw t refl)

  pub range_single : any_of per_layout (heading_by h).columns ≡ false → (r.first ≡ 0) × (r.count ≡ 1)
  unfolding layouts_of heading_by
  range_single t =
      let q : up_from r.count r.first ≡ up_from 1 0 = e ∙ (rw t refl ∙ sym (up_one 0)) in
      let l = up_count r.count r.first 1 0 q in
      ((up_same r.count r.first 1 0 (omega (arith, l)) q).1, l)
