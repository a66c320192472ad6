-- What a profile's values ask of a word, and the whole of what is compiled for a profile.
use Rattle.std.specs.Prelude.{ℕ, zero, suc, ◌+◌, ◌≤◌, ◌≡◌, List, [], ◌∷◌, ◌++◌, Bool, true, false, not, ◌||◌, eqb, Some, None, length}
use Rattle.text.specs.declared.Span.{Span}
use Rattle.text.specs.Bytes.{Text, empty, any_of}
use Rattle.profile.specs.Profile.{Texts, options_of}
use Rattle.profile.specs.Spans.{most_values, before_layouts, before_variants, value_at}
use Rattle.rules.specs.declared.Column.{Column}
use Rattle.rules.specs.declared.Column.TheVariants as column
use Rattle.answers.specs.Matching.{is_options}
use Rattle.listing.specs.Names.{number_in}
use Rattle.listing.specs.Lists.{text_of, names_of}
use Rattle.names.specs.declared.Row.{Row}
use Rattle.names.specs.declared.table.Table.{Table}
use Rattle.names.specs.Rows.{Question, says}
use Rattle.names.specs.Compiled.{Filled}
use Rattle.names.specs.Marked.{or_also, value_asks}
use Rattle.names.specs.Placing.{four_texts}

-- the number of the value that a column asks for at a layout; of the options none
unfoldable pub value_number : ℕ → Column → ℕ
value_number k column.Model = 0
value_number k column.Layout = before_layouts + k
value_number k column.Variant = before_variants + k
value_number k column.Options = most_values

-- the row of the value of a number
pub record ValueRow (j : ℕ) (r : Row) : Type 0 where
  pub at : (k : ℕ) (c : Column) → 1 ≤ k → k ≤ 32 → says r k c ≡ eqb j (value_number k c)

-- the values of the numbers below n
unfoldable pub values_ask : Text → List Span → ℕ → Question
values_ask s b zero k c w = false
values_ask s b (suc j) k c w = values_ask s b j k c w || value_asks (value_at s b j) (λ i d. eqb j (value_number i d)) k c w

-- the options
unfoldable pub options_ask : List Text → Question
options_ask vs k c w = any_of (λ v. value_asks v (λ i d. is_options d) k c w) vs

-- "`*` always matches for model and option, with no options too; for layout and variant it matches a non-empty value."
unfoldable pub star_at : Text → List Span → ℕ → Column → Bool
star_at s b k column.Model = true
star_at s b k column.Layout = not (empty (value_at s b (before_layouts + k)))
star_at s b k column.Variant = not (empty (value_at s b (before_variants + k)))
star_at s b k column.Options = true

-- all of a profile
unfoldable pub profile_asks : Text → List Span → List Text → Question
profile_asks s b vs = or_also (or_also (value_asks (42 ∷ []) (star_at s b)) (values_ask s b most_values)) (options_ask vs)

-- names are listed for a question: `*` is the first, and none begins with `$`
pub record Begun (q : Question) (t : Table) : Type 0 where
  pub held : Filled q 32 t
  pub star : number_in (names_of t.list) (42 ∷ []) ≡ Some 0
  pub plain : (g : Text) → number_in (names_of t.list) (36 ∷ g) ≡ None

-- `*` and the values of a profile, whose places are in b, are listed
pub record TableCompiled (x : Texts) (b : List Span) (t : Table) : Type 0 where
  pub begun : Begun (profile_asks (text_of t.list) b (options_of x.options)) t
  pub text : text_of t.list ≡ four_texts x ++ (42 ∷ [])
  pub used : t.list.used ≡ length (four_texts x) + 1
  pub few : t.list.count ≤ 130
