-- A profile's values, put into the table one by one.
use Rattle.std.specs.Prelude.{ℕ, ◌+◌, ◌≤◌, ◌≡◌, ◌∷◌, Bool, not, ◌||◌, ◌&&◌, cond, Some, None}
use Rattle.text.specs.Bytes.{Text, same, empty}
use Rattle.rules.specs.declared.Column.{Column}
use Rattle.rules.specs.Words.{has_dollar}
use Rattle.listing.specs.Names.{number_in}
use Rattle.listing.specs.Lists.{text_of, names_of}
use Rattle.names.specs.declared.table.Table.{Table}
use Rattle.names.specs.Rows.{Question}
use Rattle.names.specs.Compiled.{Filled}

-- a word matches by one question or by another
unfoldable pub or_also : Question → Question → Question
or_also q f k c w = q k c w || f k c w

-- An empty value is not listed, nor one that begins with `$`: a word that does asks for a group.
unfoldable pub listable : Text → Bool
listable v = not (empty v || has_dollar v)

-- a word that is the value matches at some layouts and columns
unfoldable pub value_asks : Text → (ℕ → Column → Bool) → Question
value_asks v g k c w = listable v && (same w v && g k c)

-- how many names a value is at most
unfoldable pub name_count : Text → ℕ
name_count v = cond (empty v) 0 1

-- Values are put into their rows, or listed with them, at most `most` new names: what is held for a question is then held for that question or theirs. No name
-- that is listed changes its number, none that begins with `$` is new, and the text stays.
pub record Marked (t t' : Table) (most : ℕ) (f : Question) : Type 0 where
  pub text : text_of t'.list ≡ text_of t.list
  pub used : t'.list.used ≡ t.list.used
  pub room : t'.list.text ≡ t.list.text
  pub few : t'.list.count ≤ t.list.count + most
  pub held : (q : Question) → Filled q 32 t → Filled (or_also q f) 32 t'
  pub numbers : (w : Text) (g : ℕ) → number_in (names_of t.list) w ≡ Some g → number_in (names_of t'.list) w ≡ Some g
  pub plain : (g : Text) → number_in (names_of t.list) (36 ∷ g) ≡ None → number_in (names_of t'.list) (36 ∷ g) ≡ None
