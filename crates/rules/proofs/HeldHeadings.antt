-- A heading as the code holds it.
use Prim.Native.Nat.{ℕ, ◌≤◌, ◌<◌}
use native.Mathlib.Omega.{arith}
use mathlib.Core.Path.{◌≡◌, refl}
use lib.ListN.{length, get_or, take}
use lib.Seq.{get_or-take}
use Rattle.std.proofs.lemmas.List.{length-take-le}
use Rattle.rules.specs.declared.Column.{Column}
use Rattle.rules.specs.declared.SetHeading.{SetHeading}
use Rattle.rules.specs.Headings.{Heading}
use Rattle.rules.specs.Sets.{Holds}
use Rattle.rules.specs.Held.{heading_by, SetSized}

pub heading_held : (h : Heading) (r : SetHeading) → Holds h r → heading_by r ≡ h
unfolding heading_by
heading_held h r v = rw (← v.columns, v.index, ← v.components) refl

pub sized_held : (h : Heading) (r : SetHeading) → Holds h r → 1 ≤ length h.columns → SetSized r
sized_held h r v n = record { some = omega (arith, n, v.left); left = v.few_left }

module _ (r : SetHeading) where
  pub columns_length : length (heading_by r).columns ≡ r.columns.count
  unfolding heading_by
  columns_length = length-take-le r.columns.count r.columns.items (omega (arith, r.columns.few, r.columns.sized))

  pub components_length : length (heading_by r).components ≡ r.components.count
  unfolding heading_by
  components_length = length-take-le r.components.count r.components.items (omega (arith, r.components.few, r.components.sized))

  pub components_are : (heading_by r).components ≡ take r.components.count r.components.items
  unfolding heading_by
  components_are = refl

  pub columns_are : (heading_by r).columns ≡ take r.columns.count r.columns.items
  unfolding heading_by
  columns_are = refl

  pub column_at : (c : ℕ) (d : Column) → c < r.columns.count → get_or (heading_by r).columns c d ≡ get_or r.columns.items c d
  unfolding heading_by
  column_at c d h = get_or-take r.columns.count r.columns.items c d h
