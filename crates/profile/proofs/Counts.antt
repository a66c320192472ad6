-- How many layouts, variants and options a profile has.
use Prim.Native.Nat.{ℕ, ◌≤◌}
use native.Mathlib.Omega.{arith}
use mathlib.Core.Path.{◌≡◌, refl}
use mathlib.Core.List.{[], ◌++◌}
use mathlib.Core.Bool.{Bool, true, false}
use lib.Dec.{ltb}
use lib.ListN.{length}
use borrow.Author.Tests.{ltb-false}
use Rattle.text.specs.Limits.{most_layouts, most_options}
use Rattle.text.specs.Refusals.{refused_if}
use Rattle.text.proofs.Lists.{nil_left, nil_right}
use Rattle.profile.specs.Profile.{Texts, fields, options_of, profile_of, layout_count}
use Rattle.profile.specs.Refusals.{text_refusals, count_refusals, profile_refusals}
use Rattle.profile.proofs.Splitting.{some_field}

pub some_layout : (t : Texts) → 1 ≤ layout_count (profile_of t)
unfolding layout_count profile_of
some_layout t = some_field t.layouts

-- a test that refuses nothing
pub untested : (a b n p : ℕ) → refused_if (ltb a b) n p ≡ [] → b ≤ a
unfolding refused_if
untested a b n p h = go (ltb a b) refl h
  where
    go : (t : Bool) → ltb a b ≡ t → refused_if t n p ≡ [] → b ≤ a
    go true e k = absurd (let z : ◌≡◌ {A = ℕ} 0 1 = cc in omega arith)
    go false e k = ltb-false a b e

module _ (t : Texts) (h : profile_refusals t ≡ []) where
  none_counted : count_refusals t ≡ []
  unfolding profile_refusals
  none_counted = nil_right (text_refusals t) (count_refusals t) h

  pub few_layouts : layout_count (profile_of t) ≤ most_layouts
  unfolding layout_count profile_of count_refusals
  few_layouts = untested most_layouts _ 2 2 (nil_left (refused_if (ltb most_layouts (length (fields t.layouts))) 2 2) _ none_counted)

  later_counted : refused_if (ltb (length (fields t.layouts)) (length (fields t.variants))) 2 3
      ++ refused_if (ltb most_options (length (options_of t.options))) 2 4 ≡ []
  unfolding count_refusals
  later_counted = nil_right (refused_if (ltb most_layouts (length (fields t.layouts))) 2 2) _ none_counted

  pub few_variants : length (profile_of t).variants ≤ layout_count (profile_of t)
  unfolding layout_count profile_of
  few_variants = untested (length (fields t.layouts)) _ 2 3 (nil_left (refused_if (ltb (length (fields t.layouts)) (length (fields t.variants))) 2 3) _ later_counted)

  pub few_options : length (options_of t.options) ≤ most_options
  few_options = untested most_options _ 2 4 (nil_right (refused_if (ltb (length (fields t.layouts)) (length (fields t.variants))) 2 3) _ later_counted)
