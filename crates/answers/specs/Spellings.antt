-- Two spellings of entries for all layouts. Document 02, #105: "the `:all` spelling, which document 001 calls equivalent".
use Rattle.std.specs.Prelude.{ℕ, ◌<◌, ◌≡◌, List, [], ◌∷◌, ◌++◌, true, false, not, eqb}
use Rattle.text.specs.Bytes.{Text, Words, bytes, empty, all_of, any_of}
use Rattle.profile.specs.Profile.{Profile, layout_count}
use Rattle.rules.specs.declared.Column.TheVariants as column
use Rattle.rules.specs.declared.Index.TheVariants as index
use Rattle.rules.specs.Headings.{Heading}
use Rattle.rules.specs.Sections.{Rule}
use Rattle.values.specs.Spread.{is_sign}

-- the left word of an option column, and what an option adds for each layout, without its `+` and the layout's number
pub record Entry : Type 0 where
  pub option : Text
  pub text : Text

-- `option` = the component c, with the rule `o = +x:all`
abbrev pub all_heading : ℕ → Heading
all_heading c = record { columns = column.Options ∷ []; index = index.Absent; components = c ∷ [] }

abbrev pub all_rule : Entry → Words
all_rule e = e.option ∷ bytes "=" ∷ (bytes "+" ++ (e.text ++ bytes ":all")) ∷ []

-- `layout[any] option` = the component c, with the rule `* o = +x:%i`
abbrev pub any_heading : ℕ → Heading
any_heading c = record { columns = column.Layout ∷ column.Options ∷ []; index = index.Any; components = c ∷ [] }

abbrev pub any_rule : Entry → Words
any_rule e = bytes "*" ∷ e.option ∷ bytes "=" ∷ (bytes "+" ++ (e.text ++ bytes ":%i")) ∷ []

-- an entry without percent signs and without signs
pub record Plain (x : Text) : Type 0 where
  pub percents : any_of (λ b. eqb b 37) x ≡ false
  pub signs : any_of is_sign x ≡ false

-- the rules, on whatever lines, are the entries in one spelling, in order
unfoldable pub Spelled : (Entry → Words) → List Entry → List Rule → Type 0
Spelled f [] [] = Unit {0}
Spelled f [] (r ∷ rs) = ⊥
Spelled f (e ∷ es) [] = ⊥
Spelled f (e ∷ es) (r ∷ rs) = Plain e.text × (r.text ≡ f e) × Spelled f es rs

-- the layouts are all non-empty, and their numbers have at most two digits
pub record NoneEmpty (p : Profile) : Type 0 where
  pub layouts : all_of (λ l. not (empty l)) p.layouts ≡ true
  pub few : layout_count p < 100
