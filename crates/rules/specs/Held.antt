-- The heading of a set that is not refused, as the code holds it.
use Rattle.std.specs.Prelude.{ℕ, ◌≤◌, ◌≡◌, take}
use Rattle.rules.specs.declared.Index.{Index}
use Rattle.rules.specs.declared.Index.TheVariants as index
use Rattle.rules.specs.declared.SetHeading.{SetHeading}
use Rattle.rules.specs.Headings.{Heading}

unfoldable pub heading_by : SetHeading → Heading
heading_by r =
    record { columns = take r.columns.count r.columns.items; index = r.index; components = take r.components.count r.components.items }

-- a heading has a column, and no more than there are
pub record SetSized (h : SetHeading) : Type 0 where
  pub some : 1 ≤ h.columns.count
  pub left : h.columns.count ≤ 4

-- `[k]` counts from 1
abbrev pub FromOne : Index → Type 0
FromOne i = (k : ℕ) → i ≡ index.Numbered k → 1 ≤ k
