-- The values that fire, in firing order. Document 01, "Which sets apply, and at which layout".
use Rattle.std.specs.Prelude.{ℕ, List, [], ◌∷◌, ◌++◌, cond}
use Rattle.text.specs.Bytes.{Text, Words, empty, any_of, concat_map}
use Rattle.text.specs.Lines.{lines}
use Rattle.profile.specs.Profile.{Profile, layout_count}
use Rattle.rules.specs.Headings.{Heading}
use Rattle.rules.specs.Sections.{Rule, Head, bad, defines, applies, Section, sections}
use Rattle.rules.specs.Faults.{Groups, with_group, right_words}
use Rattle.values.specs.Spread.{expanded}
use Rattle.answers.specs.Matching.{members, rule_matches, is_options}
use Rattle.answers.specs.Layouts.{layouts_of}

-- a value that fired: the rule's line, the layout (0 if the heading has neither layout nor variant), the component, the text
pub record Firing : Type 0 where
  pub line : ℕ
  pub layout : ℕ
  pub component : ℕ
  pub value : Text

-- "A fired value that is empty does nothing."
unfoldable pub fired : ℕ → ℕ → ℕ → Text → List Firing
fired n k c v = cond (empty v) [] (record { line = n; layout = k; component = c; value = v } ∷ [])

-- the values of one rule, in the heading's order
unfoldable pub rule_fires : Profile → ℕ → ℕ → List ℕ → Words → List Firing
rule_fires p n k [] ws = []
rule_fires p n k (c ∷ cs) [] = []
rule_fires p n k (c ∷ cs) (w ∷ ws) = fired n k c (expanded p k w) ++ rule_fires p n k cs ws

-- a rule fired at a layout
unfoldable pub fires_at : Profile → Heading → Rule → ℕ → List Firing
fires_at p h r k = rule_fires p r.number k h.components (right_words h r.text)

-- "In a set without an option column the first matching rule fires and the rest are passed over": the rules of a set at a layout
unfoldable pub set_fires : (Text → Words) → Profile → Heading → ℕ → List Rule → List Firing
set_fires look p h k [] = []
set_fires look p h k (r ∷ rs) = let more = set_fires look p h k rs in cond (rule_matches look p k h.columns r.text) (fires_at p h r k) more

-- "with one, every matching rule fires, in file order". #105: "In a set with an option column and a range, take rule by rule, and for each rule
-- the layouts in ascending order": the rules of a set at some layouts
unfoldable pub rule_by_rule : (Text → Words) → Profile → Heading → List ℕ → List Rule → List Firing
rule_by_rule look p h ks [] = []
rule_by_rule look p h ks (r ∷ rs) =
    let more = rule_by_rule look p h ks rs in
    concat_map (λ k. cond (rule_matches look p k h.columns r.text) (fires_at p h r k) []) ks ++ more

-- "For a range the whole set is run for each of its layouts in ascending order"; #105: "For other sets 01's "whole set is run" stays"
unfoldable pub head_fires : Groups → Profile → Head → List Rule → List Firing
head_fires gs p (bad k) rs = []
head_fires gs p (defines g ms) rs = []
head_fires gs p (applies h) rs =
    cond (any_of is_options h.columns)
    (rule_by_rule (members gs) p h (layouts_of (layout_count p) h) rs)
    (concat_map (λ k. set_fires (members gs) p h k rs) (layouts_of (layout_count p) h))

unfoldable pub firings : Groups → Profile → List Section → List Firing
firings gs p [] = []
firings gs p (s ∷ ss) = head_fires gs p s.head s.rules ++ firings (with_group s.head gs) p ss

unfoldable pub file_firings : Text → Profile → List Firing
file_firings f p = firings [] p (sections (lines f)).1
