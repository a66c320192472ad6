-- Set headings. Document 01, "Lines and words", "Set heading", and refusal 7.
use Rattle.std.specs.Prelude.{ℕ, suc, zero, ◌+◌, ◌/◌, ◌%◌, List, [], ◌∷◌, ◌++◌, map, Bool, true, false, not, ◌&&◌, cond, take, drop, eqb, ltb, Option, Some, None, option_map}
use Rattle.text.specs.Limits.{most_layouts}
use Rattle.text.specs.Bytes.{Text, bytes, same, all_of, concat_map}
use Rattle.rules.specs.declared.Column.{Column}
use Rattle.rules.specs.declared.Column.TheVariants as column
use Rattle.rules.specs.declared.Index.{Index}
use Rattle.rules.specs.declared.Index.TheVariants as index
use Rattle.rules.specs.declared.Item.{Item}
use Rattle.rules.specs.declared.Item.TheVariants as item

-- a number below 100, without leading zeros
unfoldable pub decimal : ℕ → Text
decimal k = cond (ltb k 10) ((48 + k) ∷ []) ((48 + k / 10) ∷ (48 + k % 10) ∷ [])

-- the numbers k to k + j - 1
unfoldable pub up_from : ℕ → ℕ → List ℕ
up_from zero k = []
up_from (suc j) k = k ∷ up_from j (k + 1)

-- the first of the numbers that stands in brackets
unfoldable pub numbered_in : Text → List ℕ → Option Index
numbered_in w [] = None
numbered_in w (k ∷ ks) = let r = numbered_in w ks in cond (same w ((91 ∷ decimal k) ++ (93 ∷ []))) (Some (index.Numbered k)) r

-- "`[1]` to `[4]`, or `[single]`, `[first]`, `[later]`, `[any]`": what follows `layout` or `variant`
unfoldable pub index_of : Text → Option Index
index_of w =
    cond (same w []) (Some index.Absent)
    (cond (same w (bytes "[single]")) (Some index.Single)
    (cond (same w (bytes "[first]")) (Some index.First)
    (cond (same w (bytes "[later]")) (Some index.Later)
    (cond (same w (bytes "[any]")) (Some index.Any)
    (numbered_in w (up_from most_layouts 1))))))

-- "one or more of model, layout, variant, option". "Only layout and variant take an index"
unfoldable pub left_item : Text → Option Item
left_item w =
    cond (same w (bytes "model")) (Some item.Model)
    (cond (same w (bytes "option")) (Some item.Options)
    (cond (same (take 6 w) (bytes "layout")) (option_map item.Layout (index_of (drop 6 w)))
    (cond (same (take 7 w) (bytes "variant")) (option_map item.Variant (index_of (drop 7 w)))
    None)))

-- "one or more of keycodes, symbols, types, compat, geometry": its number in the answer; 5 is none of these
unfoldable pub component_of : Text → ℕ
component_of w =
    cond (same w (bytes "keycodes")) 0
    (cond (same w (bytes "types")) 1
    (cond (same w (bytes "compat")) 2
    (cond (same w (bytes "symbols")) 3
    (cond (same w (bytes "geometry")) 4
    5))))

-- the column of an item, and its index if it is one that takes an index; a word that is no item has neither
unfoldable pub columns_in : Option Item → List Column
columns_in None = []
columns_in (Some item.Model) = column.Model ∷ []
columns_in (Some (item.Layout i)) = column.Layout ∷ []
columns_in (Some (item.Variant i)) = column.Variant ∷ []
columns_in (Some item.Options) = column.Options ∷ []

unfoldable pub indexes_in : Option Item → List Index
indexes_in None = []
indexes_in (Some item.Model) = []
indexes_in (Some (item.Layout i)) = i ∷ []
indexes_in (Some (item.Variant i)) = i ∷ []
indexes_in (Some item.Options) = []

-- numbers to compare columns and indexes by
unfoldable pub column_number : Column → ℕ
column_number column.Model = 1
column_number column.Layout = 2
column_number column.Variant = 3
column_number column.Options = 4

unfoldable pub index_number : Index → ℕ
index_number index.Absent = 0
index_number index.Single = 1
index_number index.First = 2
index_number index.Later = 3
index_number index.Any = 4
index_number (index.Numbered k) = 5 + k

unfoldable pub known_item : Option Item → Bool
known_item None = false
known_item (Some i) = true

-- "None twice."
unfoldable pub distinct : List ℕ → Bool
distinct [] = true
distinct (n ∷ r) = all_of (λ m. not (eqb n m)) r && distinct r

-- "If both stand in a heading their indexes are written alike."
unfoldable pub alike : List Index → Bool
alike [] = true
alike (i ∷ r) = all_of (λ j. eqb (index_number i) (index_number j)) r

unfoldable pub first_index : List Index → Index
first_index [] = index.Absent
first_index (i ∷ r) = i

-- The columns of the left words and of the rule's left side, the index of layout and variant, the components in the heading's order.
pub record Heading : Type 0 where
  pub columns : List Column
  pub index : Index
  pub components : List ℕ

unfoldable pub heading_of : List (Option Item) → List ℕ → Heading
heading_of ls rs = record { columns = concat_map columns_in ls; index = first_index (concat_map indexes_in ls); components = rs }

-- "an item unknown, on the wrong side or repeated; bad or unlike indexes" is refused as 7
unfoldable pub good_items : List (Option Item) → List ℕ → Bool
good_items ls rs =
    all_of known_item ls &&
    (all_of (λ c. ltb c 5) rs &&
    (distinct (map column_number (concat_map columns_in ls)) && (distinct rs && alike (concat_map indexes_in ls))))

-- "a heading with one of the four index words"
unfoldable pub has_word : Index → Bool
has_word index.Absent = false
has_word (index.Numbered k) = false
has_word index.Single = true
has_word index.First = true
has_word index.Later = true
has_word index.Any = true
