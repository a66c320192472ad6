-- Each of the thirteen words of a set heading is recognised exactly where its own bytes stand.
use Prim.Native.Nat.{ℕ, ◌<◌}
use native.Mathlib.Omega.{arith}
use mathlib.Core.Path.{◌≡◌, refl, sym, ap, ◌∙◌}
use mathlib.Core.List.{List, [], ◌∷◌, ◌++◌}
use mathlib.Core.Bool.{Bool, true, false, cond}
use lib.ListN.{length, take, drop, get_or, take-append-drop}
use Rattle.std.specs.Prelude.{Option, Some, None, option_map}
use Rattle.text.specs.Bytes.{Text, bytes, same}
use Rattle.text.specs.Limits.{most_layouts}
use Rattle.text.proofs.Lists.{same_eq}
use Rattle.rules.specs.declared.Index.{Index}
use Rattle.rules.specs.declared.Index.TheVariants as index
use Rattle.rules.specs.declared.Item.{Item}
use Rattle.rules.specs.declared.Item.TheVariants as item
use Rattle.rules.specs.Headings.{decimal, up_from, numbered_in, index_of, left_item, component_of}
use Rattle.rules.specs.Keywords.{keywords, Just, Before, Exactly, AllExact}

-- the choice k was made by its own test

component_test : (a b c d e : Bool) (k : ℕ) → k < 5 → cond a 0 (cond b 1 (cond c 2 (cond d 3 (cond e 4 5)))) ≡ k → get_or (a ∷ b ∷ c ∷ d ∷ e ∷ []) k false ≡ true
component_test true b c d e k l h = rw (← h)
component_test false true c d e k l h = rw (← h)
component_test false false true d e k l h = rw (← h)
component_test false false false true e k l h = rw (← h)
component_test false false false false true k l h = rw (← h)
component_test false false false false false k l h = let z : 5 ≡ k = h in absurd (omega arith)

-- numbers of the items, whatever their index is
unfoldable item_rank : Option Item → ℕ
item_rank (Some item.Model) = 0
item_rank (Some item.Options) = 1
item_rank (Some (item.Layout i)) = 2
item_rank (Some (item.Variant i)) = 3
item_rank None = 4

item_test : (a b c d : Bool) (i j : Option Index) (k : ℕ) → k < 4 →
    item_rank (cond a (Some item.Model) (cond b (Some item.Options) (cond c (option_map item.Layout i) (cond d (option_map item.Variant j) None)))) ≡ k →
    get_or (a ∷ b ∷ c ∷ d ∷ []) k false ≡ true
unfolding item_rank
item_test true b c d i j k l h = rw (← h)
item_test false true c d i j k l h = rw (← h)
item_test false false true d (Some i) j k l h = rw (← h)
item_test false false true d None j k l h = let z : 4 ≡ k = h in absurd (omega arith)
item_test false false false true i (Some j) k l h = rw (← h)
item_test false false false true i None k l h = let z : 4 ≡ k = h in absurd (omega arith)
item_test false false false false i j k l h = let z : 4 ≡ k = h in absurd (omega arith)

-- numbers of the index words
unfoldable index_rank : Option Index → ℕ
index_rank None = 4
index_rank (Some index.Absent) = 4
index_rank (Some (index.Numbered k)) = 4
index_rank (Some index.Single) = 0
index_rank (Some index.First) = 1
index_rank (Some index.Later) = 2
index_rank (Some index.Any) = 3

numbered_rank : (w : Text) (ks : List ℕ) → index_rank (numbered_in w ks) ≡ 4
unfolding numbered_in index_rank
numbered_rank w [] = refl
numbered_rank w (k ∷ ks) = go (same w ((91 ∷ decimal k) ++ (93 ∷ []))) (numbered_rank w ks)
  where
    go : (t : Bool) → index_rank (numbered_in w ks) ≡ 4 → index_rank (cond t (Some (index.Numbered k)) (numbered_in w ks)) ≡ 4
    go true h = refl
    go false h = h

index_test : (a b c d e : Bool) (r : Option Index) (k : ℕ) → k < 4 → index_rank r ≡ 4 →
    index_rank (cond a (Some index.Absent) (cond b (Some index.Single) (cond c (Some index.First) (cond d (Some index.Later) (cond e (Some index.Any) r))))) ≡ k →
    get_or (b ∷ c ∷ d ∷ e ∷ []) k false ≡ true
unfolding index_rank
index_test true b c d e r k l n h = let z : 4 ≡ k = h in absurd (omega arith)
index_test false true c d e r k l n h = rw (← h)
index_test false false true d e r k l n h = rw (← h)
index_test false false false true e r k l n h = rw (← h)
index_test false false false false true r k l n h = rw (← h)
index_test false false false false false r k l n h = let z : 4 ≡ k = sym n ∙ h in absurd (omega arith)

layout_here : (u : Text) → left_item (bytes "layout" ++ u) ≡ option_map item.Layout (index_of u)
unfolding left_item bytes same
layout_here u = refl

variant_here : (u : Text) → left_item (bytes "variant" ++ u) ≡ option_map item.Variant (index_of u)
unfolding left_item bytes same
variant_here u = refl

-- the index of an item that takes one
mapped : (m : Index → Item) → ((i j : Index) → m i ≡ m j → i ≡ j) → (o : Option Index) (i : Index) → option_map m o ≡ Some (m i) → o ≡ Some i
mapped m f None i h = cc
mapped m f (Some j) i h = let e : m j ≡ m i = cc in ap Some (f j i e)

unmapped : (m : Index → Item) → (o : Option Index) → option_map m o ≡ None → o ≡ None
unmapped m None h = refl
unmapped m (Some j) h = cc

layout_front : (u : Text) → take (length (bytes "layout")) (bytes "layout" ++ u) ≡ bytes "layout"
unfolding bytes
layout_front u = refl

variant_front : (u : Text) → take (length (bytes "variant")) (bytes "variant" ++ u) ≡ bytes "variant"
unfolding bytes
variant_front u = refl

-- a text that begins with a word, whole
fronted : (t w : Text) → take (length w) t ≡ w → t ≡ w ++ drop (length w) t
fronted t w e = sym (take-append-drop (length w) t) ∙ ap (λ (u : Text). u ++ drop (length w) t) e

module _ (t : Text) where
  component_at : (k : ℕ) → k < 5 → component_of t ≡ k →
      get_or (same t (bytes "keycodes") ∷ same t (bytes "types") ∷ same t (bytes "compat") ∷ same t (bytes "symbols") ∷ same t (bytes "geometry") ∷ []) k false ≡ true
  unfolding component_of
  component_at k l h =
      component_test (same t (bytes "keycodes")) (same t (bytes "types")) (same t (bytes "compat")) (same t (bytes "symbols")) (same t (bytes "geometry")) k l h

  item_at : (k : ℕ) → k < 4 → item_rank (left_item t) ≡ k →
      get_or (same t (bytes "model") ∷ same t (bytes "option") ∷ same (take 6 t) (bytes "layout") ∷ same (take 7 t) (bytes "variant") ∷ []) k false ≡ true
  unfolding left_item
  item_at k l h =
      item_test (same t (bytes "model")) (same t (bytes "option")) (same (take 6 t) (bytes "layout")) (same (take 7 t) (bytes "variant"))
      (index_of (drop 6 t)) (index_of (drop 7 t)) k l h

  index_at : (k : ℕ) → k < 4 → index_rank (index_of t) ≡ k →
      get_or (same t (bytes "[single]") ∷ same t (bytes "[first]") ∷ same t (bytes "[later]") ∷ same t (bytes "[any]") ∷ []) k false ≡ true
  unfolding index_of
  index_at k l h =
      index_test (same t []) (same t (bytes "[single]")) (same t (bytes "[first]")) (same t (bytes "[later]")) (same t (bytes "[any]"))
      (numbered_in t (up_from most_layouts 1)) k l (numbered_rank t (up_from most_layouts 1)) h

  component_word : (w : Text) (k : ℕ) → (component_of t ≡ k → same t w ≡ true) → component_of w ≡ k → Just (component_of t ≡ k) (t ≡ w)
  component_word w k f e = record { only = λ h. same_eq t w (f h); there = λ q. ap component_of q ∙ e }

  item_word : (w : Text) (m : Option Item) → (item_rank (left_item t) ≡ item_rank m → same t w ≡ true) → left_item w ≡ m → Just (left_item t ≡ m) (t ≡ w)
  item_word w m f e = record { only = λ h. same_eq t w (f (ap item_rank h)); there = λ q. ap left_item q ∙ e }

  index_word : (w : Text) (i : Option Index) → (index_rank (index_of t) ≡ index_rank i → same t w ≡ true) → index_of w ≡ i → Just (index_of t ≡ i) (t ≡ w)
  index_word w i f e = record { only = λ h. same_eq t w (f (ap index_rank h)); there = λ q. ap index_of q ∙ e }

  layout_word : ((i : Index) → Just (left_item t ≡ Some (item.Layout i)) (Before (bytes "layout") (Some i) t)) ×
      Just ((left_item t ≡ None) × (take (length (bytes "layout")) t ≡ bytes "layout")) (Before (bytes "layout") None t)
  unfolding item_rank
  layout_word = (
    λ i. record { only = only i; there = λ b. ap left_item b.whole ∙ (layout_here b.rest ∙ ap (option_map item.Layout) b.after) },
    record {
      only = λ h. unknown h.0 h.1;
      there = λ b. (
        ap left_item b.whole ∙ (layout_here b.rest ∙ ap (option_map item.Layout) b.after),
        ap (take (length (bytes "layout"))) b.whole ∙ layout_front b.rest,
      );
    },
  )
    where
      unknown : left_item t ≡ None → take (length (bytes "layout")) t ≡ bytes "layout" → Before (bytes "layout") None t
      unknown h e =
          let u = drop (length (bytes "layout")) t in
          let q : t ≡ bytes "layout" ++ u = fronted t (bytes "layout") e in
          record { rest = u; whole = q; after = unmapped item.Layout (index_of u) (sym (layout_here u) ∙ (ap left_item (sym q) ∙ h)) }

      only : (i : Index) → left_item t ≡ Some (item.Layout i) → Before (bytes "layout") (Some i) t
      only i h =
          let e = same_eq (take 6 t) (bytes "layout") (item_at 2 (omega arith) (ap item_rank h)) in
          let q : t ≡ bytes "layout" ++ drop 6 t = sym (take-append-drop 6 t) ∙ ap (λ (u : Text). u ++ drop 6 t) e in
          record { rest = drop 6 t; whole = q; after = mapped item.Layout (λ i j e. cc) (index_of (drop 6 t)) i (sym (layout_here (drop 6 t)) ∙ (ap left_item (sym q) ∙ h)) }

  variant_word : ((i : Index) → Just (left_item t ≡ Some (item.Variant i)) (Before (bytes "variant") (Some i) t)) ×
      Just ((left_item t ≡ None) × (take (length (bytes "variant")) t ≡ bytes "variant")) (Before (bytes "variant") None t)
  unfolding item_rank
  variant_word = (
    λ i. record { only = only i; there = λ b. ap left_item b.whole ∙ (variant_here b.rest ∙ ap (option_map item.Variant) b.after) },
    record {
      only = λ h. unknown h.0 h.1;
      there = λ b. (
        ap left_item b.whole ∙ (variant_here b.rest ∙ ap (option_map item.Variant) b.after),
        ap (take (length (bytes "variant"))) b.whole ∙ variant_front b.rest,
      );
    },
  )
    where
      unknown : left_item t ≡ None → take (length (bytes "variant")) t ≡ bytes "variant" → Before (bytes "variant") None t
      unknown h e =
          let u = drop (length (bytes "variant")) t in
          let q : t ≡ bytes "variant" ++ u = fronted t (bytes "variant") e in
          record { rest = u; whole = q; after = unmapped item.Variant (index_of u) (sym (variant_here u) ∙ (ap left_item (sym q) ∙ h)) }

      only : (i : Index) → left_item t ≡ Some (item.Variant i) → Before (bytes "variant") (Some i) t
      only i h =
          let e = same_eq (take 7 t) (bytes "variant") (item_at 3 (omega arith) (ap item_rank h)) in
          let q : t ≡ bytes "variant" ++ drop 7 t = sym (take-append-drop 7 t) ∙ ap (λ (u : Text). u ++ drop 7 t) e in
          record { rest = drop 7 t; whole = q; after = mapped item.Variant (λ i j e. cc) (index_of (drop 7 t)) i (sym (variant_here (drop 7 t)) ∙ (ap left_item (sym q) ∙ h)) }

pub keywords_exact : AllExact keywords
unfolding AllExact keywords Exactly left_item component_of index_of item_rank index_rank same bytes
keywords_exact = (
  λ t. item_word t (bytes "model") (Some item.Model) (item_at t 0 (omega arith)) refl,
  (
    layout_word,
    (
      variant_word,
      (
        λ t. item_word t (bytes "option") (Some item.Options) (item_at t 1 (omega arith)) refl,
        (
          λ t. component_word t (bytes "keycodes") 0 (component_at t 0 (omega arith)) refl,
          (
            λ t. component_word t (bytes "types") 1 (component_at t 1 (omega arith)) refl,
            (
              λ t. component_word t (bytes "compat") 2 (component_at t 2 (omega arith)) refl,
              (
                λ t. component_word t (bytes "symbols") 3 (component_at t 3 (omega arith)) refl,
                (
                  λ t. component_word t (bytes "geometry") 4 (component_at t 4 (omega arith)) refl,
                  (
                    λ t. index_word t (bytes "[single]") (Some index.Single) (index_at t 0 (omega arith)) refl,
                    (
                      λ t. index_word t (bytes "[first]") (Some index.First) (index_at t 1 (omega arith)) refl,
                      (
                        λ t. index_word t (bytes "[later]") (Some index.Later) (index_at t 2 (omega arith)) refl,
                        (
                          λ t. index_word t (bytes "[any]") (Some index.Any) (index_at t 3 (omega arith)) refl,
                          tt,
                        ),
                      ),
                    ),
                  ),
                ),
              ),
            ),
          ),
        ),
      ),
    ),
  ),
)
