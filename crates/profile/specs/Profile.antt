-- What the four texts of a profile hold. Document 01, "The profile".
use Rattle.std.specs.Prelude.{ℕ, List, [], ◌∷◌, Bool, cond, eqb, length}
use Rattle.text.specs.Bytes.{Text, empty, any_of}

-- "a profile of four texts (model, layouts, variants, options)", as they are lent
pub record Texts : Type 0 where
  pub model : Text
  pub layouts : Text
  pub variants : Text
  pub options : Text

-- the four texts by their names, for a contract
abbrev pub texts_of : Text → Text → Text → Text → Texts
texts_of m l v o = record { model = m; layouts = l; variants = v; options = o }

-- a byte before the first field
unfoldable pub push : ℕ → List Text → List Text
push b [] = (b ∷ []) ∷ []
push b (f ∷ fs) = (b ∷ f) ∷ fs

-- "Layouts, variants and options are split at commas." The empty text has one empty field.
unfoldable pub fields : Text → List Text
fields [] = [] ∷ []
fields (b ∷ r) = let fs = fields r in cond (eqb b 44) ([] ∷ fs) (push b fs)

-- "Empty option fields are dropped"
unfoldable pub drop_empty : List Text → List Text
drop_empty [] = []
drop_empty (t ∷ ts) = let r = drop_empty ts in cond (empty t) r (t ∷ r)

unfoldable pub options_of : Text → List Text
options_of o = drop_empty (fields o)

-- The model, the layouts, the variants, and whether any option passes a test: the options matter to a resolve in no other way.
pub record Profile : Type 0 where
  pub model : Text
  pub layouts : List Text
  pub variants : List Text
  pub any_option : (Text → Bool) → Bool

unfoldable pub profile_of : Texts → Profile
profile_of t =
    record { model = t.model; layouts = fields t.layouts; variants = fields t.variants; any_option = λ q. any_of q (options_of t.options) }

-- "the layout count n"
unfoldable pub layout_count : Profile → ℕ
layout_count p = length p.layouts
