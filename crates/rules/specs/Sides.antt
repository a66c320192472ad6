-- The two sides of a set heading as they are read, item by item.
use Rattle.std.specs.Prelude.{ℕ, ◌≡◌, List, map, Bool, true, false, ◌&&◌, take, ltb, Option, MatchOption, option_to_list}
use Rattle.text.specs.Bytes.{all_of, concat_map}
use Rattle.rules.specs.declared.Item.{Item}
use Rattle.rules.specs.declared.listing.Listing.{Listing}
use Rattle.rules.specs.declared.sets.LeftSide.{LeftSide}
use Rattle.rules.specs.Headings.{known_item, columns_in, indexes_in, column_number, distinct, alike}

-- left items of which none is unknown or repeated, and whose indexes are alike; components likewise
unfoldable pub left_good : List (Option Item) → Bool
left_good ls = all_of known_item ls && (distinct (map column_number (concat_map columns_in ls)) && alike (concat_map indexes_in ls))

unfoldable pub right_good : List ℕ → Bool
right_good rs = all_of (λ c. ltb c 5) rs && distinct rs

-- what is held of good left items, and of good components
pub record LeftHeld (ls : List (Option Item)) (s : LeftSide) : Type 0 where
  pub good : left_good ls ≡ true
  pub columns : take s.columns.count s.columns.items ≡ concat_map columns_in ls
  pub index : option_to_list s.index ≡ take 1 (concat_map indexes_in ls)

pub record RightHeld (rs : List ℕ) (l : Listing ℕ 5) : Type 0 where
  pub good : right_good rs ≡ true
  pub items : take l.count l.items ≡ rs

-- they are held if they are good
abbrev pub LeftOf : List (Option Item) → Option LeftSide → Type 0
LeftOf ls r = MatchOption r (left_good ls ≡ false) (LeftHeld ls)

abbrev pub RightOf : List ℕ → Option (Listing ℕ 5) → Type 0
RightOf rs r = MatchOption r (right_good rs ≡ false) (RightHeld rs)
