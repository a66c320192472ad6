-- Which sets apply, and at which layouts. Document 01, "Which sets apply, and at which layout", its first paragraph.
use Rattle.std.specs.Prelude.{ℕ, ◌-◌, List, [], ◌∷◌, Bool, true, false, ◌&&◌, cond, eqb, ltb, leb}
use Rattle.text.specs.Bytes.{any_of}
use Rattle.rules.specs.declared.Column.{Column}
use Rattle.rules.specs.declared.Column.TheVariants as column
use Rattle.rules.specs.declared.Index.{Index}
use Rattle.rules.specs.declared.Index.TheVariants as index
use Rattle.rules.specs.Headings.{Heading, up_from}

-- "No index, or `single`: once, at layout 1, if n is 1. `[k]`: once, at layout k, if n > 1 and k ≤ n. `first`: once, at layout 1.
-- `later`: at 2 to n. `any`: at 1 to n." In ascending order.
unfoldable pub layouts_at : ℕ → Index → List ℕ
layouts_at n index.Absent = cond (eqb n 1) (1 ∷ []) []
layouts_at n index.Single = cond (eqb n 1) (1 ∷ []) []
layouts_at n (index.Numbered k) = cond (ltb 1 n && leb k n) (k ∷ []) []
layouts_at n index.First = 1 ∷ []
layouts_at n index.Later = up_from (n - 1) 2
layouts_at n index.Any = up_from n 1

unfoldable pub per_layout : Column → Bool
per_layout column.Model = false
per_layout column.Layout = true
per_layout column.Variant = true
per_layout column.Options = false

-- "A heading with neither layout nor variant applies once", here at 0.
unfoldable pub layouts_of : ℕ → Heading → List ℕ
layouts_of n h = cond (any_of per_layout h.columns) (layouts_at n h.index) (0 ∷ [])
