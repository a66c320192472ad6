-- Rules `o = +x:all` under `option`, and `* o = +x:%i` under `layout[any] option`: the same texts.
use Prim.Native.Nat.{ℕ, zero, suc, ◌+◌, ◌-◌, ◌/◌, ◌%◌, ◌≤◌, ◌<◌}
use native.Mathlib.Omega.{arith}
use mathlib.Core.Path.{◌≡◌, refl, sym, ap, ◌∙◌}
use mathlib.Core.List.{List, [], ◌∷◌, ◌++◌, append-nil}
use mathlib.Core.Bool.{Bool, true, false, not, ◌||◌, ◌&&◌, cond}
use lib.ListN.{length, take, drop, get_or, length-append, take-append-drop}
use lib.Seq as seq
use lib.Dec.{eqb, ltb}
use borrow.Author.Tests.{ltb-true, lt-ltb, eqb-false, ne_eqb}
use Rattle.text.specs.Bytes.{Text, Words, bytes, same, empty, first, all_of, any_of, concat_map}
use Rattle.text.proofs.Lists.{and_both, neither, same_eq, same_self, all_append}
use Rattle.profile.specs.Profile.{Profile, layout_count, push}
use Rattle.rules.specs.declared.Column.TheVariants as column
use Rattle.rules.specs.Words.{is_star, is_equals, has_dollar}
use Rattle.rules.specs.Headings.{Heading, decimal, up_from, index_of, left_item, component_of, columns_in, indexes_in, column_number, index_number, known_item, distinct, alike, first_index, heading_of, good_items}
use Rattle.rules.specs.Entries.{before, after, set_shape, set_entry, heading_entry, set}
use Rattle.rules.specs.Percent.{pieces, piece_after, piece_length}
use Rattle.rules.specs.Sections.{Rule, applies}
use Rattle.rules.specs.Faults.{Groups, right_words}
use Rattle.values.specs.Spread.{is_sign, signed, cuts, ends_all, stem, copy, copies, spread, expanded}
use Rattle.values.specs.Values.{piece_text, filled}
use Rattle.values.proofs.Filling.{filled_byte, filled_plain}
use Rattle.values.proofs.Copying.{spread_nil}
use Rattle.answers.specs.Matching.{members, value_matches, column_matches, rule_matches, is_options}
use Rattle.answers.specs.Layouts.{layouts_at, per_layout, layouts_of}
use Rattle.answers.specs.Firings.{Firing, fired, rule_fires, fires_at, rule_by_rule, head_fires}
use Rattle.answers.specs.Components.{values_of, base, additions}
use Rattle.answers.specs.Spellings.{Entry, all_heading, all_rule, any_heading, any_rule, Plain, Spelled, NoneEmpty}
use Rattle.answers.proofs.Updates.{values_append, additions_append}

-- choices

same_arms {ℓ} : {A : Type ℓ} (t : Bool) (a : A) → cond t a a ≡ a
same_arms true a = refl
same_arms false a = refl

and-true : (t : Bool) → t && true ≡ t
and-true true = refl
and-true false = refl

append_arms : (t : Bool) (a b : Text) → cond t a [] ++ cond t b [] ≡ cond t (a ++ b) []
append_arms true a b = refl
append_arms false a b = refl

none_append : (q : ℕ → Bool) (a b : Text) → any_of q a ≡ false → any_of q b ≡ false → any_of q (a ++ b) ≡ false
unfolding any_of
none_append q [] b h k = k
none_append q (x ∷ a) b h k = let n = neither (q x) (any_of q a) h in rw n.0 (none_append q a b n.1 k)

-- a text's last byte: a text that ends with `:all` ends with `l`, and a number doesn't

unfoldable last : Text → ℕ
last [] = 0
last (b ∷ []) = b
last (b ∷ c ∷ r) = last (c ∷ r)

last_append : (a : Text) (b : ℕ) (r : Text) → last (a ++ (b ∷ r)) ≡ last (b ∷ r)
unfolding last
last_append [] b r = refl
last_append (c ∷ []) b r = refl
last_append (c ∷ d ∷ a) b r = last_append (d ∷ a) b r

ends_last : (t : Text) → ends_all t ≡ true → last t ≡ 108
unfolding ends_all bytes last
ends_last t h =
    let n = length t - 4 in
    ap last (sym (take-append-drop n t)) ∙ (ap (λ (u : Text). last (take n t ++ u)) (same_eq (drop n t) (bytes ":all") h) ∙ last_append (take n t) 58 (97 ∷ 108 ∷ 108 ∷ []))

ends_other : (t : Text) → (last t ≡ 108 → ⊥) → ends_all t ≡ false
ends_other t n = go (ends_all t) refl
  where
    go : (b : Bool) → ends_all t ≡ b → b ≡ false
    go true e = absurd (n (ends_last t e))
    go false e = refl

-- the digits of a number below 100

digit_plain : (b : ℕ) → b < 58 → 48 ≤ b → is_sign b ≡ false
unfolding is_sign
digit_plain b h l = rw (ne_eqb b 43 (λ e. omega arith), ne_eqb b 124 (λ e. omega arith))

decimal_plain : (k : ℕ) → k < 100 → any_of is_sign (decimal k) ≡ false
unfolding decimal any_of
decimal_plain k h = go (ltb k 10) refl
  where
    go : (t : Bool) → ltb k 10 ≡ t → any_of is_sign (cond t ((48 + k) ∷ []) ((48 + k / 10) ∷ (48 + k % 10) ∷ [])) ≡ false
    go true e = rw (digit_plain (48 + k) (omega (arith, ltb-true k 10 e)) (omega arith))
    go false e = rw (digit_plain (48 + k / 10) (omega arith) (omega arith), digit_plain (48 + k % 10) (omega arith) (omega arith))

number_last : (a : Text) (k : ℕ) → last (a ++ decimal k) ≡ 108 → ⊥
unfolding decimal last
number_last a k = go (ltb k 10) refl
  where
    go : (t : Bool) → ltb k 10 ≡ t → last (a ++ cond t ((48 + k) ∷ []) ((48 + k / 10) ∷ (48 + k % 10) ∷ [])) ≡ 108 → ⊥
    go true e h = omega (arith, ltb-true k 10 e, sym (last_append a (48 + k) []) ∙ h)
    go false e h = omega (arith, sym (last_append a (48 + k / 10) ((48 + k % 10) ∷ [])) ∙ h)

number_end : (a : Text) (k : ℕ) → last (a ++ (58 ∷ decimal k)) ≡ 108 → ⊥
number_end a k e = number_last (58 ∷ []) k (sym (last_append a 58 (decimal k)) ∙ e)

colon_plain : is_sign 58 ≡ false
unfolding is_sign
colon_plain = refl

-- values

filled_append : (p : Profile) (k : ℕ) (t u : Text) → any_of (λ b. eqb b 37) t ≡ false → filled p k (t ++ u) ≡ t ++ filled p k u
unfolding any_of
filled_append p k [] u h = refl
filled_append p k (b ∷ t) u h =
    let n = neither (eqb b 37) (any_of (λ b. eqb b 37) t) h in
    filled_byte p k b (t ++ u) (eqb-false b 37 n.0) ∙ ap (λ (v : Text). b ∷ v) (filled_append p k t u n.1)

filled_number : (p : Profile) (k : ℕ) → filled p k (58 ∷ 37 ∷ 105 ∷ []) ≡ 58 ∷ decimal k
unfolding filled pieces piece_after piece_length piece_text concat_map
filled_number p k = rw append-nil

cuts_plain : (t : Text) → any_of is_sign t ≡ false → cuts t ≡ t ∷ []
unfolding cuts push any_of
cuts_plain [] h = refl
cuts_plain (b ∷ r) h = let n = neither (is_sign b) (any_of is_sign r) h in rw (n.0, cuts_plain r n.1)

plus : is_sign 43 ≡ true
unfolding is_sign
plus = refl

one_piece : (n : ℕ) (t : Text) → any_of is_sign t ≡ false → concat_map (spread n) (cuts (43 ∷ t)) ≡ spread n (43 ∷ t)
unfolding cuts push concat_map
one_piece n t h = rw (plus, cuts_plain t h, spread_nil n, append-nil (spread n (43 ∷ t)))

all_length : (a : Text) → length (a ++ (58 ∷ 97 ∷ 108 ∷ 108 ∷ [])) - 4 ≡ length a
all_length a = rw (length-append a (58 ∷ 97 ∷ 108 ∷ 108 ∷ [])) (omega arith)

spread_all : (n : ℕ) (a : Text) → spread n (a ++ (58 ∷ 97 ∷ 108 ∷ 108 ∷ [])) ≡ copies n 1 a
unfolding spread ends_all stem bytes
spread_all n a =
    rw (
      all_length a,
      seq.drop_at a (58 ∷ 97 ∷ 108 ∷ 108 ∷ []) (length a) refl,
      same_self (58 ∷ 97 ∷ 108 ∷ 108 ∷ []),
      seq.take_at a (58 ∷ 97 ∷ 108 ∷ 108 ∷ []) (length a) refl,
    )

spread_other : (n : ℕ) (t : Text) → ends_all t ≡ false → spread n t ≡ t
unfolding spread
spread_other n t h = rw h

copy_plus : (k : ℕ) (x : Text) → copy k (43 ∷ x) ≡ 43 ∷ (x ++ (58 ∷ decimal k))
unfolding copy signed first
copy_plus k x = rw plus

module _ (p : Profile) (x : Text) (s : Plain x) where
  expanded_all : (k : ℕ) → expanded p k (43 ∷ (x ++ (58 ∷ 97 ∷ 108 ∷ 108 ∷ []))) ≡ copies (layout_count p) 1 (43 ∷ x)
  unfolding expanded any_of is_sign
  expanded_all k =
      let n : any_of (λ b. eqb b 37) (43 ∷ x) ≡ false = s.percents in
      rw (filled_append p k (43 ∷ x) (58 ∷ 97 ∷ 108 ∷ 108 ∷ []) n, filled_plain p k (58 ∷ 97 ∷ 108 ∷ 108 ∷ []) refl)
      (one_piece (layout_count p) (x ++ (58 ∷ 97 ∷ 108 ∷ 108 ∷ [])) (none_append is_sign x (58 ∷ 97 ∷ 108 ∷ 108 ∷ []) s.signs refl)
      ∙ spread_all (layout_count p) (43 ∷ x))

  expanded_number : (k : ℕ) → k < 100 → expanded p k (43 ∷ (x ++ (58 ∷ 37 ∷ 105 ∷ []))) ≡ copy k (43 ∷ x)
  unfolding expanded any_of
  expanded_number k h =
      let n : any_of (λ b. eqb b 37) (43 ∷ x) ≡ false = s.percents in
      let plain : any_of is_sign (58 ∷ decimal k) ≡ false = rw (colon_plain, decimal_plain k h) in
      rw (filled_append p k (43 ∷ x) (58 ∷ 37 ∷ 105 ∷ []) n, filled_number p k, copy_plus k x)
      (one_piece (layout_count p) (x ++ (58 ∷ decimal k)) (none_append is_sign x (58 ∷ decimal k) s.signs plain)
      ∙ spread_other (layout_count p) (43 ∷ (x ++ (58 ∷ decimal k))) (ends_other _ (number_end (43 ∷ x) k)))

-- the one value of a rule, fired under a test

abbrev sole : Bool → Text → List Text
sole t v = cond t (cond (empty v) [] (v ∷ [])) []

module _ (p : Profile) (h : Heading) (r : Rule) (k c d : ℕ) (w v : Text)
    (one : h.components ≡ c ∷ [])
    (right : right_words h r.text ≡ w ∷ [])
    (e : expanded p k w ≡ v) where
  values_at : values_of d (fires_at p h r k) ≡ sole (eqb c d) v
  unfolding fires_at rule_fires fired values_of empty right_words
  values_at = go v e
    where
      go : (u : Text) → expanded p k w ≡ u → values_of d (fires_at p h r k) ≡ sole (eqb c d) u
      go [] q = rw (one, right, q, same_arms (eqb c d))
      go (b ∷ u) q = rw (one, right, q)

  values_if : (m : Bool) → values_of d (cond m (fires_at p h r k) []) ≡ sole (m && eqb c d) v
  unfolding values_of
  values_if true = values_at
  values_if false = refl

-- firings that give the component d no base, and these additions
record Adds (d : ℕ) (fs : List Firing) (t : Text) : Type 0 where
  signs : all_of signed (values_of d fs) ≡ true
  text : additions (values_of d fs) ≡ t

adds_none : (d : ℕ) → Adds d [] []
unfolding values_of all_of additions
adds_none d = record { signs = refl; text = refl }

adds_append : (d : ℕ) (a b : List Firing) (t u : Text) → Adds d a t → Adds d b u → Adds d (a ++ b) (t ++ u)
adds_append d a b t u x y =
    record {
      signs = rw (values_append d a b) (all_append signed (values_of d a) (values_of d b) x.signs y.signs);
      text = rw (values_append d a b, additions_append (values_of d a) (values_of d b), x.text, y.text);
    }

base_signed : (vs : List Text) → all_of signed vs ≡ true → base vs ≡ []
unfolding base all_of
base_signed [] h = refl
base_signed (v ∷ vs) h = let b = and_both (signed v) (all_of signed vs) h in rw b.0 (base_signed vs b.1)

-- nothing, or an addition
abbrev addition : Text → Bool
addition v = empty v || signed v

sole_signed : (t : Bool) (v : Text) → addition v ≡ true → all_of signed (sole t v) ≡ true
unfolding all_of empty
sole_signed true [] a = refl
sole_signed true (b ∷ u) a = rw a
sole_signed false v a = refl

sole_added : (t : Bool) (v : Text) → addition v ≡ true → additions (sole t v) ≡ cond t v []
unfolding additions empty
sole_added true [] a = refl
sole_added true (b ∷ u) a = rw (a, append-nil)
sole_added false v a = refl

adds_sole : (d : ℕ) (fs : List Firing) (t : Bool) (v : Text) → addition v ≡ true → values_of d fs ≡ sole t v → Adds d fs (cond t v [])
adds_sole d fs t v a e = record { signs = rw e (sole_signed t v a); text = rw e (sole_added t v a) }

copy_addition : (k : ℕ) (x : Text) → addition (copy k (43 ∷ x)) ≡ true
unfolding empty signed first
copy_addition k x = rw (copy_plus k x) plus

copies_addition : (n : ℕ) (x : Text) → addition (copies n 1 (43 ∷ x)) ≡ true
unfolding copies empty signed first
copies_addition zero x = refl
copies_addition (suc n) x = rw (copy_plus 1 x) plus

layout_at : (ls : List Text) (i : ℕ) → all_of (λ l. not (empty l)) ls ≡ true → i < length ls → not (empty (get_or ls i [])) ≡ true
unfolding all_of
layout_at [] i h l = absurd (omega arith)
layout_at (t ∷ ls) zero h l = (and_both (not (empty t)) (all_of (λ l. not (empty l)) ls) h).0
layout_at (t ∷ ls) (suc i) h l = layout_at ls i (and_both (not (empty t)) (all_of (λ l. not (empty l)) ls) h).1 (omega arith)

-- the columns

options_anywhere : (look : Text → Words) (p : Profile) (k : ℕ) (o : Text) → column_matches look p k column.Options o ≡ column_matches look p 0 column.Options o
unfolding column_matches
options_anywhere look p k o = refl

star_layout : (look : Text → Words) (p : Profile) (k : ℕ) → column_matches look p k column.Layout (bytes "*") ≡ not (empty (get_or p.layouts (k - 1) []))
unfolding column_matches value_matches is_star same bytes
star_layout look p k = refl

-- the firings of a rule at a layout
abbrev fires_of : (Text → Words) → Profile → Heading → Rule → ℕ → List Firing
fires_of look p h r k = cond (rule_matches look p k h.columns r.text) (fires_at p h r k) []

module _ (look : Text → Words) (p : Profile) (c d : ℕ) (e : Entry) where
  -- what one entry adds in either spelling
  abbrev added : Text
  added = cond (column_matches look p 0 column.Options e.option && eqb c d) (copies (layout_count p) 1 (43 ∷ e.text)) []

  module _ (r : Rule) (s : Plain e.text) where
    module _ (q : r.text ≡ all_rule e) where
      all_match : rule_matches look p 0 (column.Options ∷ []) r.text ≡ column_matches look p 0 column.Options e.option
      unfolding rule_matches
      all_match = rw q (and-true (column_matches look p 0 column.Options e.option))

      all_right : right_words (all_heading c) r.text ≡ (43 ∷ (e.text ++ (58 ∷ 97 ∷ 108 ∷ 108 ∷ []))) ∷ []
      unfolding right_words bytes
      all_right = rw q

      all_adds : Adds d (concat_map (fires_of look p (all_heading c) r) (0 ∷ [])) added
      unfolding concat_map
      all_adds =
          rw append-nil
          (adds_sole d _ (column_matches look p 0 column.Options e.option && eqb c d) (copies (layout_count p) 1 (43 ∷ e.text)) (copies_addition (layout_count p) e.text)
          (ap (λ (m : Bool). values_of d (cond m (fires_at p (all_heading c) r 0) [])) all_match
          ∙ values_if p (all_heading c) r 0 c d _ _ refl all_right (expanded_all p e.text s 0) (column_matches look p 0 column.Options e.option)))

    module _ (n : NoneEmpty p) (q : r.text ≡ any_rule e) where
      any_match : (k : ℕ) → not (empty (get_or p.layouts (k - 1) [])) ≡ true →
          rule_matches look p k (column.Layout ∷ column.Options ∷ []) r.text ≡ column_matches look p 0 column.Options e.option
      unfolding rule_matches
      any_match k h =
          rw (q, star_layout look p k, h, options_anywhere look p k e.option) (and-true (column_matches look p 0 column.Options e.option))

      any_right : right_words (any_heading c) r.text ≡ (43 ∷ (e.text ++ (58 ∷ 37 ∷ 105 ∷ []))) ∷ []
      unfolding right_words bytes
      any_right = rw q

      any_add : (k : ℕ) → 1 ≤ k → k ≤ layout_count p →
          Adds d (fires_of look p (any_heading c) r k) (cond (column_matches look p 0 column.Options e.option && eqb c d) (copy k (43 ∷ e.text)) [])
      unfolding layout_count
      any_add k l h =
          adds_sole d _ (column_matches look p 0 column.Options e.option && eqb c d) (copy k (43 ∷ e.text)) (copy_addition k e.text)
          (ap (λ (m : Bool). values_of d (cond m (fires_at p (any_heading c) r k) [])) (any_match k (layout_at p.layouts (k - 1) n.layouts (omega arith)))
          ∙ values_if p (any_heading c) r k c d _ _ refl any_right (expanded_number p e.text s k (omega (arith, n.few))) (column_matches look p 0 column.Options e.option))

      any_more : (j k : ℕ) → 1 ≤ k → k + j ≤ layout_count p + 1 →
          Adds d (concat_map (fires_of look p (any_heading c) r) (up_from j k))
          (cond (column_matches look p 0 column.Options e.option && eqb c d) (copies j k (43 ∷ e.text)) [])
      unfolding up_from concat_map copies
      any_more zero k l h = rw (same_arms (column_matches look p 0 column.Options e.option && eqb c d)) (adds_none d)
      any_more (suc j) k l h =
          rw (← append_arms (column_matches look p 0 column.Options e.option && eqb c d) (copy k (43 ∷ e.text)) (copies j (k + 1) (43 ∷ e.text)))
          (adds_append d _ _ _ _ (any_add k l (omega arith)) (any_more j (k + 1) (omega arith) (omega arith)))

      any_adds : Adds d (concat_map (fires_of look p (any_heading c) r) (up_from (layout_count p) 1)) added
      any_adds = any_more (layout_count p) 1 (omega arith) (omega arith)

-- rule by rule

module _ (look : Text → Words) (p : Profile) (c d : ℕ) where
  all_rules : (es : List Entry) (rs : List Rule) → Spelled all_rule es rs → Adds d (rule_by_rule look p (all_heading c) (0 ∷ []) rs) (concat_map (added look p c d) es)
  unfolding Spelled rule_by_rule concat_map
  all_rules [] [] s = adds_none d
  all_rules [] (r ∷ rs) s = absurd s
  all_rules (e ∷ es) [] s = absurd s
  all_rules (e ∷ es) (r ∷ rs) s = adds_append d _ _ _ _ (all_adds look p c d e r s.0 s.1) (all_rules es rs s.2)

  any_rules : NoneEmpty p → (es : List Entry) (rs : List Rule) → Spelled any_rule es rs →
      Adds d (rule_by_rule look p (any_heading c) (up_from (layout_count p) 1) rs) (concat_map (added look p c d) es)
  unfolding Spelled rule_by_rule concat_map
  any_rules n [] [] s = adds_none d
  any_rules n [] (r ∷ rs) s = absurd s
  any_rules n (e ∷ es) [] s = absurd s
  any_rules n (e ∷ es) (r ∷ rs) s = adds_append d _ _ _ _ (any_adds look p c d e r s.0 n s.1) (any_rules n es rs s.2)

-- a set's firings, by its heading
all_set : (gs : Groups) (p : Profile) (c : ℕ) (rs : List Rule) → head_fires gs p (applies (all_heading c)) rs ≡ rule_by_rule (members gs) p (all_heading c) (0 ∷ []) rs
unfolding head_fires any_of is_options layouts_of per_layout
all_set gs p c rs = refl

any_set : (gs : Groups) (p : Profile) (c : ℕ) (rs : List Rule) →
    head_fires gs p (applies (any_heading c)) rs ≡ rule_by_rule (members gs) p (any_heading c) (up_from (layout_count p) 1) rs
unfolding head_fires any_of is_options layouts_of layouts_at per_layout
any_set gs p c rs = refl

-- the headings, from their words

component_differs : (w : Text) → component_of w < 5 → is_equals w ≡ false
unfolding is_equals component_of same bytes
component_differs w h = go (is_equals w) refl
  where
    go : (t : Bool) → is_equals w ≡ t → t ≡ false
    go true e = let q : component_of w ≡ 5 = ap component_of (same_eq w (61 ∷ []) e) in absurd (omega arith)
    go false e = refl

module _ (w : Text) (h : component_of w < 5) where
  pub all_heading_lem : heading_entry (bytes "option" ∷ bytes "=" ∷ w ∷ []) ≡ set (all_heading (component_of w))
  unfolding heading_entry has_dollar set_entry set_shape before after good_items heading_of left_item known_item distinct alike columns_in indexes_in column_number first_index
      same bytes first empty all_of any_of concat_map is_equals
  all_heading_lem = rw (component_differs w h, lt-ltb (component_of w) 5 h)

  pub any_heading_lem : heading_entry (bytes "layout[any]" ∷ bytes "option" ∷ bytes "=" ∷ w ∷ []) ≡ set (any_heading (component_of w))
  unfolding heading_entry has_dollar set_entry set_shape before after good_items heading_of left_item index_of known_item index_number distinct alike columns_in
      indexes_in column_number first_index same bytes first empty all_of any_of concat_map is_equals
  any_heading_lem = rw (component_differs w h, lt-ltb (component_of w) 5 h)

-- Document 02, #105: the two spellings give each component d the same texts.
module _ (gs : Groups) (p : Profile) (c d : ℕ) (es : List Entry) (rs rs' : List Rule) (n : NoneEmpty p) (s : Spelled all_rule es rs) (s' : Spelled any_rule es rs') where
  pub spelled_base : base (values_of d (head_fires gs p (applies (all_heading c)) rs)) ≡ base (values_of d (head_fires gs p (applies (any_heading c)) rs'))
  spelled_base =
      rw (all_set, any_set)
      (base_signed _ (all_rules (members gs) p c d es rs s).signs ∙ sym (base_signed _ (any_rules (members gs) p c d n es rs' s').signs))

  pub spelled_additions :
      additions (values_of d (head_fires gs p (applies (all_heading c)) rs)) ≡ additions (values_of d (head_fires gs p (applies (any_heading c)) rs'))
  spelled_additions =
      rw (all_set, any_set)
      ((all_rules (members gs) p c d es rs s).text ∙ sym (any_rules (members gs) p c d n es rs' s').text)
