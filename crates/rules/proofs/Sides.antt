-- The two sides of a set heading, read word by word.
use Prim.Native.Nat.{ℕ, suc, ◌+◌, ◌-◌, ◌≤◌, ◌<◌}
use native.Mathlib.Omega.{arith}
use native.Mathlib.Numerals.{add-one}
use mathlib.Core.Path.{◌≡◌, refl, sym, ap, ◌∙◌}
use mathlib.Core.List.{List, [], ◌∷◌, ◌++◌, map, append-nil}
use mathlib.Core.Bool.{Bool, true, false, not, ◌&&◌, cond, false≢true, and-true, and-false}
use mathlib.Core.Logic.{◌⊎◌, ⊎_elim}
use lib.ListN.{length, take, drop, get_or, length-map, length-append, length-drop, take-append-drop, get_or-map}
use lib.Seq.{get_or-take, take-suc, take_all}
use lib.Dec.{eqb, ltb}
use borrow.Author.Tests.{eq-eqb, ne_eqb, le-ltb}
use Rattle.std.specs.Prelude.{Option, Some, None, unwrap_or, option_to_list}
use Rattle.std.specs.List.{list_any}
use Rattle.std.proofs.lemmas.List.{length-take-le, get_or-drop}
use Rattle.text.specs.Bytes.{Text, Words, all_of, any_of, concat_map}
use Rattle.text.proofs.Lists.{and_both, both_and, map_append, concat_append}
use Rattle.rules.specs.declared.Column.{Column}
use Rattle.rules.specs.declared.Column.TheVariants as column
use Rattle.rules.specs.declared.Index.{Index}
use Rattle.rules.specs.declared.Index.TheVariants as index
use Rattle.rules.specs.declared.Item.{Item}
use Rattle.rules.specs.declared.Item.TheVariants as item
use Rattle.rules.specs.declared.SetHeading.{SetHeading}
use Rattle.rules.specs.declared.listing.Listing.{Listing}
use Rattle.rules.specs.declared.sets.LeftSide.{LeftSide}
use Rattle.rules.specs.contracts.ColumnPartialEq.TheImpl as columns
use Rattle.rules.specs.Words.{is_equals}
use Rattle.rules.specs.Headings.{left_item, component_of, column_number, columns_in, indexes_in, index_number, known_item, distinct, alike, first_index, good_items, heading_of}
use Rattle.rules.specs.Entries.{before, after}
use Rattle.rules.specs.Sets.{known_component, Holds, IsSet}
use Rattle.rules.specs.Sides.{left_good, right_good, LeftHeld, RightHeld}
use Rattle.rules.proofs.Listings.{all_snoc, eqb_swap, distinct_snoc, all_front, distinct_front, few}

-- the words before the first `=`, and those after it

before_take : (ws : Words) → before ws ≡ take (length (before ws)) ws
unfolding before
before_take [] = refl
before_take (w ∷ ws) = go (is_equals w) (before_take ws)
  where
    go : (t : Bool) → before ws ≡ take (length (before ws)) ws → cond t [] (w ∷ before ws) ≡ take (length (cond t [] (w ∷ before ws))) (w ∷ ws)
    go true h = refl
    go false h = ap (λ (r : Words). w ∷ r) h

after_drop : (ws : Words) → after ws ≡ drop (length (before ws) + 1) ws
unfolding before after
after_drop [] = refl
after_drop (w ∷ ws) = go (is_equals w) (after_drop ws)
  where
    go : (t : Bool) → after ws ≡ drop (length (before ws) + 1) ws → cond t ws (after ws) ≡ drop (length (cond t [] (w ∷ before ws)) + 1) (w ∷ ws)
    go true h = refl
    go false h = let e : suc (length (before ws)) + 1 ≡ suc (length (before ws) + 1) = omega arith in rw e h

pub before_low : (ws : Words) → length (before ws) ≤ length ws
unfolding before
before_low [] = omega arith
before_low (w ∷ ws) = go (is_equals w) (before_low ws)
  where
    go : (t : Bool) → length (before ws) ≤ length ws → length (cond t [] (w ∷ before ws)) ≤ suc (length ws)
    go true h = omega arith
    go false h = omega arith

sides_high : (ws : Words) → length ws ≤ length (before ws) + 1 + length (after ws)
unfolding before after
sides_high [] = omega arith
sides_high (w ∷ ws) = go (is_equals w) (sides_high ws)
  where
    go : (t : Bool) → length ws ≤ length (before ws) + 1 + length (after ws) →
        suc (length ws) ≤ length (cond t [] (w ∷ before ws)) + 1 + length (cond t ws (after ws))
    go true h = omega arith
    go false h = omega arith

before_at : (ws : Words) (i : ℕ) → i < length (before ws) → get_or (before ws) i [] ≡ get_or ws i []
before_at ws i h = ap (λ (r : Words). get_or r i []) (before_take ws) ∙ get_or-take (length (before ws)) ws i [] h

-- Distinct columns are at most four: 0 is none.

all_columns : (p : ℕ → Bool) → ((c : Column) → p (column_number c) ≡ true) → (cs : List Column) → all_of p (map column_number cs) ≡ true
unfolding all_of
all_columns p h [] = refl
all_columns p h (c ∷ cs) = rw (h c, all_columns p h cs)

number_low : (c : Column) → ltb (column_number c) 5 ≡ true
unfolding column_number
number_low column.Model = refl
number_low column.Layout = refl
number_low column.Variant = refl
number_low column.Options = refl

number_high : (c : Column) → not (eqb 0 (column_number c)) ≡ true
unfolding column_number
number_high column.Model = refl
number_high column.Layout = refl
number_high column.Variant = refl
number_high column.Options = refl

pub few_columns : (cs : List Column) → distinct (map column_number cs) ≡ true → length cs ≤ 4
unfolding distinct all_of
few_columns cs d =
    let h : distinct (0 ∷ map column_number cs) ≡ true = rw (all_columns (λ m. not (eqb 0 m)) number_high cs, d) in
    let l : length (0 ∷ map column_number cs) ≤ 5 = few (0 ∷ map column_number cs) h (all_columns (λ c. ltb c 5) number_low cs) in
    omega (arith, l, length-map cs column_number)

-- a known item has one column
known_columns : (ls : List (Option Item)) → all_of known_item ls ≡ true → length (concat_map columns_in ls) ≡ length ls
unfolding all_of known_item concat_map columns_in
known_columns [] h = refl
known_columns (None ∷ ls) h = absurd (false≢true h)
known_columns (Some item.Model ∷ ls) h = ap suc (known_columns ls h)
known_columns (Some (item.Layout i) ∷ ls) h = ap suc (known_columns ls h)
known_columns (Some (item.Variant i) ∷ ls) h = ap suc (known_columns ls h)
known_columns (Some item.Options ∷ ls) h = ap suc (known_columns ls h)

-- what good items are
pub record GoodParts (ls : List (Option Item)) (rs : List ℕ) : Type 0 where
  pub items : all_of known_item ls ≡ true
  pub components : all_of (λ c. ltb c 5) rs ≡ true
  pub left : distinct (map column_number (concat_map columns_in ls)) ≡ true
  pub right : distinct rs ≡ true

pub good_parts : (ls : List (Option Item)) (rs : List ℕ) → good_items ls rs ≡ true → GoodParts ls rs
unfolding good_items
good_parts ls rs h =
    let a = and_both (all_of known_item ls) _ h in
    let b = and_both (all_of (λ c. ltb c 5) rs) _ a.1 in
    let d = and_both (distinct (map column_number (concat_map columns_in ls))) _ b.1 in
    let e = and_both (distinct rs) _ d.1 in
    record { items = a.0; components = b.0; left = d.0; right = e.0 }

-- A set heading of more than ten words has an item unknown or repeated.
pub too_many : (ws : Words) → 10 < length ws → good_items (map left_item (before ws)) (map component_of (after ws)) ≡ false
too_many ws h = go (good_items (map left_item (before ws)) (map component_of (after ws))) refl
  where
    go : (t : Bool) → good_items (map left_item (before ws)) (map component_of (after ws)) ≡ t → t ≡ false
    go true e =
        let p = good_parts (map left_item (before ws)) (map component_of (after ws)) e in
        absurd (omega (
          arith,
          sides_high ws,
          length-map (before ws) left_item,
          length-map (after ws) component_of,
          known_columns (map left_item (before ws)) p.items,
          few_columns (concat_map columns_in (map left_item (before ws))) p.left,
          few (map component_of (after ws)) p.right p.components,
        ))
    go false e = refl

-- columns as the code compares them

column_eq : (a b : Column) → columns.ghosts.eq a b ≡ eqb (column_number b) (column_number a)
unfolding column_number
column_eq column.Model column.Model = refl
column_eq column.Model column.Layout = refl
column_eq column.Model column.Variant = refl
column_eq column.Model column.Options = refl
column_eq column.Layout column.Model = refl
column_eq column.Layout column.Layout = refl
column_eq column.Layout column.Variant = refl
column_eq column.Layout column.Options = refl
column_eq column.Variant column.Model = refl
column_eq column.Variant column.Layout = refl
column_eq column.Variant column.Variant = refl
column_eq column.Variant column.Options = refl
column_eq column.Options column.Model = refl
column_eq column.Options column.Layout = refl
column_eq column.Options column.Variant = refl
column_eq column.Options column.Options = refl

column_there : (cs : List Column) (c : Column) → list_any (λ y. columns.ghosts.eq y c) cs ≡ any_of (eqb (column_number c)) (map column_number cs)
unfolding any_of
column_there [] c = refl
column_there (y ∷ cs) c = rw (column_eq y c, column_there cs c) refl

-- indexes are equal where their numbers are

index_by : ℕ → Index
index_by n =
    cond (ltb n 5) (cond (eqb n 0) index.Absent (cond (eqb n 1) index.Single (cond (eqb n 2) index.First (cond (eqb n 3) index.Later index.Any))))
    (index.Numbered (n - 5))

index_back : (i : Index) → index_by (index_number i) ≡ i
unfolding index_by index_number
index_back index.Absent = refl
index_back index.Single = refl
index_back index.First = refl
index_back index.Later = refl
index_back index.Any = refl
index_back (index.Numbered k) = let e : 5 + k - 5 ≡ k = omega arith in rw (le-ltb (5 + k) 5 (omega arith), e) refl

index_ne : (i j : Index) → (i ≡ j → ⊥) → eqb (index_number i) (index_number j) ≡ false
index_ne i j n = ne_eqb (index_number i) (index_number j) (λ e. n (sym (index_back i) ∙ (ap index_by e ∙ index_back j)))

-- left items with one more

concat_snoc : {A B : Type 0} (f : A → List B) (xs : List A) (x : A) → concat_map f (xs ++ (x ∷ [])) ≡ concat_map f xs ++ f x
unfolding concat_map
concat_snoc f xs x = concat_append f xs (x ∷ []) ∙ ap (λ r. concat_map f xs ++ r) (append-nil (f x))

left_snoc : (ls : List (Option Item)) (x : Option Item) → left_good (ls ++ (x ∷ [])) ≡
    ((all_of known_item ls && known_item x)
    && (distinct (map column_number (concat_map columns_in ls ++ columns_in x)) && alike (concat_map indexes_in ls ++ indexes_in x)))
unfolding left_good
left_snoc ls x = rw (all_snoc known_item ls x, concat_snoc columns_in ls x, concat_snoc indexes_in ls x) refl

-- what good left items are
record LeftParts (ls : List (Option Item)) : Type 0 where
  known : all_of known_item ls ≡ true
  columns : distinct (map column_number (concat_map columns_in ls)) ≡ true
  indexes : alike (concat_map indexes_in ls) ≡ true

left_parts : (ls : List (Option Item)) → left_good ls ≡ true → LeftParts ls
unfolding left_good
left_parts ls h =
    let a = and_both (all_of known_item ls) _ h in
    let b = and_both (distinct (map column_number (concat_map columns_in ls))) _ a.1 in
    record { known = a.0; columns = b.0; indexes = b.1 }

alike_front : (is js : List Index) → alike (is ++ js) ≡ true → alike is ≡ true
unfolding alike
alike_front [] js h = refl
alike_front (i ∷ is) js h = all_front (λ j. eqb (index_number i) (index_number j)) is js h

left_front : (ls ms : List (Option Item)) → left_good (ls ++ ms) ≡ true → left_good ls ≡ true
unfolding left_good
left_front ls ms h =
    let a = left_parts (ls ++ ms) h in
    let c = rw (concat_append columns_in ls ms, map_append column_number (concat_map columns_in ls) (concat_map columns_in ms)) at a.columns in
    let d = rw (concat_append indexes_in ls ms) at a.indexes in
    both_and (all_of known_item ls) _ (all_front known_item ls ms a.known)
    (both_and (distinct (map column_number (concat_map columns_in ls))) (alike (concat_map indexes_in ls)) (distinct_front _ _ c) (alike_front _ _ d))

-- one that is bad makes all bad
by_front : (a b : Bool) → (a ≡ true → b ≡ true) → b ≡ false → a ≡ false
by_front true b f h = sym (f refl) ∙ h
by_front false b f h = refl

pub left_bad : (ls : List (Option Item)) (k : ℕ) → left_good (take k ls) ≡ false → left_good ls ≡ false
left_bad ls k h = by_front (left_good ls) (left_good (take k ls)) (λ e. left_front (take k ls) (drop k ls) (rw (take-append-drop k ls) e)) h

pub left_unknown : (ls : List (Option Item)) → left_good (ls ++ (None ∷ [])) ≡ false
unfolding known_item
left_unknown ls = left_snoc ls None ∙ rw (and-false (all_of known_item ls)) refl

-- the first index
head_is : (is : List Index) (i : Index) → i ∷ [] ≡ take 1 is → is ≡ i ∷ drop 1 is
head_is [] i h = cc
head_is (j ∷ is) i h = cc

none_is : (is : List Index) → [] ≡ take 1 is → is ≡ []
none_is [] h = refl
none_is (j ∷ is) h = cc

head_stays : (is js : List Index) (i : Index) → i ∷ [] ≡ take 1 is → i ∷ [] ≡ take 1 (is ++ js)
head_stays is js i h = rw (head_is is i h) refl

alike_more : (is : List Index) (i j : Index) → i ∷ [] ≡ take 1 is → alike is ≡ true → alike (is ++ (j ∷ [])) ≡ eqb (index_number i) (index_number j)
unfolding alike
alike_more is i j h a =
    let e = head_is is i h in
    let b = rw e at a in
    rw e (all_snoc (λ j. eqb (index_number i) (index_number j)) (drop 1 is) j ∙ rw b refl)

module _ (ls : List (Option Item)) (s : LeftSide) (v : LeftHeld ls s) (x : Item) (c : Column) (e : c ∷ [] ≡ columns_in (Some x)) where
  abbrev cs : List Column
  cs = concat_map columns_in ls

  abbrev is : List Index
  is = concat_map indexes_in ls

  abbrev old : List Column
  old = take s.columns.count s.columns.items

  abbrev there : Bool
  there = list_any (λ y. columns.ghosts.eq y c) old

  columns_more : distinct (map column_number (cs ++ columns_in (Some x))) ≡ not there
  columns_more =
      rw (← e, map_append column_number cs (c ∷ []), distinct_snoc (map column_number cs) (column_number c), (left_parts ls v.good).columns)
      (ap not (sym (column_there cs c) ∙ ap (λ r. list_any (λ y. columns.ghosts.eq y c) r) (sym v.columns)))

  size : length cs ≡ s.columns.count
  size = sym (ap length v.columns) ∙ length-take-le s.columns.count s.columns.items (omega (arith, s.columns.few, s.columns.sized))

  distinct_full : s.columns.count ≡ 5 → distinct (map column_number (cs ++ columns_in (Some x))) ≡ false
  distinct_full f = go (distinct (map column_number (cs ++ columns_in (Some x)))) refl
    where
      go : (t : Bool) → distinct (map column_number (cs ++ columns_in (Some x))) ≡ t → t ≡ false
      go true d =
          let l = few_columns (cs ++ columns_in (Some x)) d in
          let n : length (cs ++ columns_in (Some x)) ≡ length cs + 1 = rw (← e) (length-append cs (c ∷ [])) in
          absurd (omega (arith, l, n, size))
      go false d = refl

  pub column_bad : (s.columns.count ≡ 5) ⊎ (list_any (λ y. columns.ghosts.eq y c) (take s.columns.count s.columns.items) ≡ true) →
      left_good (ls ++ (Some x ∷ [])) ≡ false
  unfolding known_item
  column_bad h =
      let d : distinct (map column_number (cs ++ columns_in (Some x))) ≡ false = ⊎_elim distinct_full (λ t. columns_more ∙ ap not t) h in
      left_snoc ls (Some x) ∙ rw d (and-false (all_of known_item ls && true))

  pub index_bad : (i j : Index) → s.index ≡ Some i → j ∷ [] ≡ indexes_in (Some x) → (i ≡ j → ⊥) → left_good (ls ++ (Some x ∷ [])) ≡ false
  unfolding known_item
  index_bad i j a d n =
      let h : i ∷ [] ≡ take 1 is = rw (ap option_to_list a) at v.index in
      let k : alike (is ++ indexes_in (Some x)) ≡ false = rw (← d) (alike_more is i j h (left_parts ls v.good).indexes ∙ index_ne i j n) in
      left_snoc ls (Some x) ∙ rw (k, and-false (distinct (map column_number (cs ++ columns_in (Some x))))) (and-false (all_of known_item ls && true))

  module _ (l : Listing Column 5) (t : list_any (λ y. columns.ghosts.eq y c) (take s.columns.count s.columns.items) ≡ false)
      (k : take l.count l.items ≡ take s.columns.count s.columns.items ++ (c ∷ [])) where
    held : (o : Option Index) → alike (is ++ indexes_in (Some x)) ≡ true → option_to_list o ≡ take 1 (is ++ indexes_in (Some x)) →
        LeftHeld (ls ++ (Some x ∷ [])) (record { columns = l; index = o })
    unfolding known_item
    held o a h =
        record {
          good = left_snoc ls (Some x) ∙ rw ((left_parts ls v.good).known, columns_more ∙ ap not t, a) refl;
          columns = k ∙ (rw (v.columns, e) refl ∙ sym (concat_snoc columns_in ls (Some x)));
          index = h ∙ ap (take 1) (sym (concat_snoc indexes_in ls (Some x)));
        }

    pub held_alike : (i j : Index) → s.index ≡ Some i → j ∷ [] ≡ indexes_in (Some x) → i ≡ j → LeftHeld (ls ++ (Some x ∷ [])) (record { columns = l; index = Some i })
    held_alike i j a d q =
        let h : i ∷ [] ≡ take 1 is = rw (ap option_to_list a) at v.index in
        held (Some i) (rw (← d) (alike_more is i j h (left_parts ls v.good).indexes ∙ eq-eqb _ _ (ap index_number q))) (head_stays is (indexes_in (Some x)) i h)

    pub held_bare : (i : Index) → s.index ≡ Some i → [] ≡ indexes_in (Some x) → LeftHeld (ls ++ (Some x ∷ [])) (record { columns = l; index = Some i })
    held_bare i a d =
        let h : i ∷ [] ≡ take 1 is = rw (ap option_to_list a) at v.index in
        held (Some i) (rw (← d, append-nil is) (left_parts ls v.good).indexes) (head_stays is (indexes_in (Some x)) i h)

    pub held_first : s.index ≡ None → (o : Option Index) → option_to_list o ≡ indexes_in (Some x) → LeftHeld (ls ++ (Some x ∷ [])) (record { columns = l; index = o })
    unfolding alike all_of
    held_first a o d =
        let h : is ≡ [] = none_is is (rw (ap option_to_list a) at v.index) in
        held o (rw (h, ← d) (lone o)) (rw (h, ← d) (front o))
      where
        lone : (o : Option Index) → alike (option_to_list o) ≡ true
        lone None = refl
        lone (Some i) = refl

        front : (o : Option Index) → option_to_list o ≡ take 1 (option_to_list o)
        front None = refl
        front (Some i) = refl

-- components with one more

component_there : (rs : List ℕ) (c : ℕ) → list_any (λ y. eqb y c) rs ≡ any_of (eqb c) rs
unfolding any_of
component_there [] c = refl
component_there (y ∷ rs) c = rw (eqb_swap y c, component_there rs c) refl

right_snoc : (rs : List ℕ) (c : ℕ) → right_good (rs ++ (c ∷ [])) ≡ ((all_of (λ k. ltb k 5) rs && ltb c 5) && (distinct rs && not (any_of (eqb c) rs)))
unfolding right_good
right_snoc rs c = rw (all_snoc (λ k. ltb k 5) rs c, distinct_snoc rs c) refl

right_front : (rs qs : List ℕ) → right_good (rs ++ qs) ≡ true → right_good rs ≡ true
unfolding right_good
right_front rs qs h =
    let a = and_both (all_of (λ k. ltb k 5) (rs ++ qs)) (distinct (rs ++ qs)) h in
    both_and (all_of (λ k. ltb k 5) rs) (distinct rs) (all_front (λ k. ltb k 5) rs qs a.0) (distinct_front rs qs a.1)

pub right_bad : (rs : List ℕ) (k : ℕ) → right_good (take k rs) ≡ false → right_good rs ≡ false
right_bad rs k h = by_front (right_good rs) (right_good (take k rs)) (λ e. right_front (take k rs) (drop k rs) (rw (take-append-drop k rs) e)) h

known_low : (c k : ℕ) → known_component c ≡ Some k → (ltb c 5 ≡ true) × (k ≡ c)
unfolding known_component
known_low c k h = go (ltb c 5) refl h
  where
    go : (t : Bool) → ltb c 5 ≡ t → cond t (Some c) None ≡ Some k → (ltb c 5 ≡ true) × (k ≡ c)
    go true e q = (e, cc)
    go false e q = cc

known_not : (c : ℕ) → known_component c ≡ None → ltb c 5 ≡ false
unfolding known_component
known_not c h = go (ltb c 5) refl h
  where
    go : (t : Bool) → ltb c 5 ≡ t → cond t (Some c) None ≡ None → ltb c 5 ≡ false
    go true e q = cc
    go false e q = e

pub right_unknown : (rs : List ℕ) (c : ℕ) → known_component c ≡ None → right_good (rs ++ (c ∷ [])) ≡ false
right_unknown rs c h = right_snoc rs c ∙ rw (known_not c h, and-false (all_of (λ k. ltb k 5) rs)) refl

module _ (rs : List ℕ) (l : Listing ℕ 5) (v : RightHeld rs l) (c k : ℕ) (e : known_component c ≡ Some k) where
  parts : (all_of (λ k. ltb k 5) rs ≡ true) × (distinct rs ≡ true)
  unfolding right_good
  parts = and_both (all_of (λ k. ltb k 5) rs) (distinct rs) v.good

  right_more : right_good (rs ++ (c ∷ [])) ≡ not (list_any (λ y. eqb y k) (take l.count l.items))
  right_more =
      right_snoc rs c
      ∙ rw (parts.0, parts.1, (known_low c k e).0, (known_low c k e).1, v.items, component_there rs c) refl

  right_full : l.count ≡ 5 → right_good (rs ++ (c ∷ [])) ≡ false
  unfolding right_good
  right_full f = go (right_good (rs ++ (c ∷ []))) refl
    where
      go : (t : Bool) → right_good (rs ++ (c ∷ [])) ≡ t → t ≡ false
      go true h =
          let a = and_both (all_of (λ k. ltb k 5) (rs ++ (c ∷ []))) (distinct (rs ++ (c ∷ []))) h in
          absurd (omega (arith, few (rs ++ (c ∷ [])) a.1 a.0, length-append rs (c ∷ []), ap length v.items, length-take-le l.count l.items (omega (arith, l.few, l.sized))))
      go false h = refl

  pub component_bad : (l.count ≡ 5) ⊎ (list_any (λ y. eqb y k) (take l.count l.items) ≡ true) → right_good (rs ++ (c ∷ [])) ≡ false
  component_bad h = ⊎_elim right_full (λ t. right_more ∙ ap not t) h

  pub held_component : (m : Listing ℕ 5) → list_any (λ y. eqb y k) (take l.count l.items) ≡ false → take m.count m.items ≡ take l.count l.items ++ (k ∷ []) →
      RightHeld (rs ++ (c ∷ [])) m
  held_component m t q = record { good = right_more ∙ ap not t; items = q ∙ rw (v.items, (known_low c k e).1) refl }

-- the loops over the words: the next one

take-more : {A : Type 0} (xs : List A) (j : ℕ) (d x : A) → j < length xs → x ≡ get_or xs j d → take (j + 1) xs ≡ take j xs ++ (x ∷ [])
take-more xs j d x h e = rw (add-one j, e) (take-suc xs j d h)

take-whole : {A : Type 0} (xs : List A) (j : ℕ) → length xs ≤ j → take j xs ≡ xs
take-whole xs j h = take_all j xs h

module _ (ws : Words) where
  abbrev pub lefts : List (Option Item)
  lefts = map left_item (before ws)

  abbrev pub rights : List ℕ
  rights = map component_of (after ws)

  pub left_next : (j : ℕ) → j < length (before ws) → (w : Text) → w ≡ get_or ws j [] → take (j + 1) lefts ≡ take j lefts ++ (left_item w ∷ [])
  left_next j h w e =
      take-more lefts j (left_item []) (left_item w) (omega (arith, length-map (before ws) left_item))
      (ap left_item (e ∙ sym (before_at ws j h)) ∙ sym (get_or-map left_item (before ws) j []))

  pub lefts_whole : (j : ℕ) → length (before ws) ≤ j → take j lefts ≡ lefts
  lefts_whole j h = take-whole lefts j (omega (arith, length-map (before ws) left_item))

  module _ (from : ℕ) (f : from ≡ length (before ws) + 1) where
    rights_length : length rights ≡ length ws - from
    rights_length = length-map (after ws) component_of ∙ (ap length (after_drop ws) ∙ (length-drop (length (before ws) + 1) ws ∙ rw f refl))

    pub right_next : (j : ℕ) → from ≤ j → j < length ws → (w : Text) → w ≡ get_or ws j [] →
        take (j + 1 - from) rights ≡ take (j - from) rights ++ (component_of w ∷ [])
    right_next j l h w e =
        let n : j + 1 - from ≡ j - from + 1 = omega arith in
        let m : from + (j - from) ≡ j = omega arith in
        rw n
        (take-more rights (j - from) (component_of []) (component_of w) (omega (arith, rights_length))
        (ap component_of (e ∙ (ap (λ i. get_or ws i []) (sym m) ∙ (sym (get_or-drop from ws (j - from) []) ∙ ap (λ r. get_or r (j - from) []) (rw f (sym (after_drop ws))))))
        ∙ sym (get_or-map component_of (after ws) (j - from) [])))

    pub rights_whole : (j : ℕ) → length ws ≤ j → take (j - from) rights ≡ rights
    rights_whole j h = take-whole rights (j - from) (omega (arith, rights_length))

pub left_start : (s : LeftSide) → s.columns.count ≡ 0 → s.index ≡ None → LeftHeld [] s
unfolding left_good distinct alike all_of concat_map
left_start s c i = record { good = refl; columns = rw c refl; index = rw i refl }

module _ (ws : Words) (j : ℕ) (h : j < length (before ws)) (w : Text) (e : w ≡ get_or ws j []) (o : Option Item) (g : o ≡ left_item w) where
  pub left_fails : o ≡ None → left_good (lefts ws) ≡ false
  left_fails n = left_bad (lefts ws) (j + 1) (rw (left_next ws j h w e, ← g, n) (left_unknown (take j (lefts ws))))

  module _ (x : Item) (a : o ≡ Some x) where
    pub left_stops : left_good (take j (lefts ws) ++ (Some x ∷ [])) ≡ false → left_good (lefts ws) ≡ false
    left_stops b = left_bad (lefts ws) (j + 1) (rw (left_next ws j h w e, ← g, a) b)

    pub left_goes : (s : LeftSide) → LeftHeld (take j (lefts ws) ++ (Some x ∷ [])) s → LeftHeld (take (j + 1) (lefts ws)) s
    left_goes s v = rw (left_next ws j h w e, ← g, a) v

pub right_start : (l : Listing ℕ 5) → l.count ≡ 0 → RightHeld [] l
unfolding right_good distinct all_of
right_start l c = record { good = refl; items = rw c refl }

module _ (ws : Words) (from : ℕ) (f : from ≡ length (before ws) + 1) (j : ℕ) (l : from ≤ j) (h : j < length ws) (w : Text) (e : w ≡ get_or ws j [])
    (o : Option ℕ) (g : o ≡ known_component (component_of w)) where
  pub right_fails : o ≡ None → right_good (rights ws) ≡ false
  right_fails n =
      right_bad (rights ws) (j + 1 - from) (rw (right_next ws from f j l h w e) (right_unknown (take (j - from) (rights ws)) (component_of w) (sym g ∙ n)))

  module _ (c : ℕ) (a : o ≡ Some c) (m : Listing ℕ 5) (v : RightHeld (take (j - from) (rights ws)) m) where
    pub right_stops : (m.count ≡ 5) ⊎ (list_any (λ y. eqb y c) (take m.count m.items) ≡ true) → right_good (rights ws) ≡ false
    right_stops b =
        right_bad (rights ws) (j + 1 - from)
        (rw (right_next ws from f j l h w e) (component_bad (take (j - from) (rights ws)) m v (component_of w) c (sym g ∙ a) b))

    pub right_goes : (n : Listing ℕ 5) → list_any (λ y. eqb y c) (take m.count m.items) ≡ false → take n.count n.items ≡ take m.count m.items ++ (c ∷ []) →
        RightHeld (take (j + 1 - from) (rights ws)) n
    right_goes n t q = rw (right_next ws from f j l h w e) (held_component (take (j - from) (rights ws)) m v (component_of w) c (sym g ∙ a) n t q)

-- the heading of both sides

in_order : (k b d e a : Bool) → (k && (b && (d && (e && a)))) ≡ ((k && (d && a)) && (b && e))
in_order false b d e a = refl
in_order true false d e a = sym (and-false (d && a))
in_order true true false e a = refl
in_order true true true false a = sym (and-false a)
in_order true true true true a = sym (and-true a)

sides_good : (ws : Words) → good_items (lefts ws) (rights ws) ≡ (left_good (lefts ws) && right_good (rights ws))
unfolding good_items left_good right_good
sides_good ws =
    in_order (all_of known_item (lefts ws)) (all_of (λ c. ltb c 5) (rights ws)) (distinct (map column_number (concat_map columns_in (lefts ws))))
    (distinct (rights ws)) (alike (concat_map indexes_in (lefts ws)))

module _ (ws : Words) where
  no_set : good_items (lefts ws) (rights ws) ≡ false → IsSet ws None
  no_set h = record { good = sym h; holds = λ h e. cc }

  pub set_many : 10 < length ws → IsSet ws None
  set_many h = no_set (too_many ws h)

  pub set_left : left_good (lefts ws) ≡ false → IsSet ws None
  set_left h = no_set (sides_good ws ∙ rw h refl)

  pub set_right : right_good (rights ws) ≡ false → IsSet ws None
  set_right h = no_set (sides_good ws ∙ rw h (and-false (left_good (lefts ws))))

  module _ (s : LeftSide) (v : LeftHeld (lefts ws) s) (l : Listing ℕ 5) (u : RightHeld (rights ws) l) where
    first_is : unwrap_or s.index index.Absent ≡ first_index (concat_map indexes_in (lefts ws))
    unfolding first_index
    first_is = go s.index (concat_map indexes_in (lefts ws)) v.index
      where
        go : (o : Option Index) (is : List Index) → option_to_list o ≡ take 1 is → unwrap_or o index.Absent ≡ first_index is
        go None [] h = refl
        go None (i ∷ is) h = cc
        go (Some j) [] h = cc
        go (Some j) (i ∷ is) h = cc

    listed : {A : Type 0} {n : ℕ} (l : Listing A n) → length (take l.count l.items) ≡ l.count
    listed l = length-take-le l.count l.items (omega (arith, l.few, l.sized))

    abbrev pub it : SetHeading
    it = record { columns = s.columns; index = unwrap_or s.index index.Absent; components = l }

    left_distinct : distinct (map column_number (concat_map columns_in (lefts ws))) ≡ true
    unfolding left_good
    left_distinct = (and_both (distinct (map column_number (concat_map columns_in (lefts ws)))) _ (and_both (all_of known_item (lefts ws)) _ v.good).1).0

    holds : Holds (heading_of (lefts ws) (rights ws)) it
    unfolding heading_of
    holds =
        record {
          left = sym (listed s.columns) ∙ ap length v.columns;
          right = sym (listed l) ∙ ap length u.items;
          columns = sym v.columns;
          components = sym u.items;
          index = first_is;
          few_left = omega (arith, few_columns (concat_map columns_in (lefts ws)) left_distinct, ap length v.columns, listed s.columns);
        }

    pub set_some : IsSet ws (Some it)
    set_some =
        record {
          good = sym (sides_good ws ∙ rw (v.good, u.good) refl);
          holds = λ h e. let q : it ≡ h = cc in rw (← q) holds;
        }
