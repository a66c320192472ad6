-- A set heading as the code reads and holds it.
use Rattle.std.specs.Prelude.{ℕ, ◌≡◌, ◌≤◌, map, cond, length, take, ltb, Option, Some, None, is_some}
use Rattle.text.specs.Bytes.{Words}
use Rattle.rules.specs.declared.SetHeading.{SetHeading}
use Rattle.rules.specs.Headings.{Heading, left_item, component_of, good_items, heading_of}
use Rattle.rules.specs.Entries.{before, after}

-- a component's number, of which 5 is none
unfoldable pub known_component : ℕ → Option ℕ
known_component c = cond (ltb c 5) (Some c) None

-- a heading that is held by the code
pub record Holds (h : Heading) (r : SetHeading) : Type 0 where
  pub left : r.columns.count ≡ length h.columns
  pub right : r.components.count ≡ length h.components
  pub columns : h.columns ≡ take r.columns.count r.columns.items
  pub components : h.components ≡ take r.components.count r.components.items
  pub index : r.index ≡ h.index
  pub few_left : r.columns.count ≤ 4

-- the heading of a line's words
pub record IsSet (ws : Words) (r : Option SetHeading) : Type 0 where
  pub good : is_some r ≡ good_items (map left_item (before ws)) (map component_of (after ws))
  pub holds : (h : SetHeading) → r ≡ Some h → Holds (heading_of (map left_item (before ws)) (map component_of (after ws))) h
