-- What is still to fire at a line: of the set that is being read, and of all that follows.
use Rattle.std.specs.Prelude.{ℕ, ◌+◌, ◌≤◌, ◌<◌, ◌≡◌, List, [], ◌++◌, true, cond}
use Rattle.text.specs.Bytes.{Text, Words, concat_map}
use Rattle.text.specs.Lines.{Line}
use Rattle.profile.specs.Profile.{Profile}
use Rattle.rules.specs.Headings.{Heading, up_from}
use Rattle.rules.specs.Sections.{Rule}
use Rattle.rules.specs.Faults.{Groups}
use Rattle.answers.specs.Matching.{members}
use Rattle.answers.specs.Firings.{Firing, fires_at, set_fires, rule_by_rule}
use Rattle.bitsets.specs.Sets.{is_in}
use Rattle.rules.specs.Held.{heading_by}
use Rattle.reading.specs.declared.OpenSet.{OpenSet}
use Rattle.reading.specs.Order.{rules_from, firings_from}

-- the rule that is kept for each layout
abbrev pub Kept : Type 0
Kept = ℕ → Rule

abbrev pub layouts_in : OpenSet → List ℕ
layouts_in o = up_from o.count o.first

-- at a layout that still wants a rule: what the rules from here on fire; at any other: what the kept rule fires
unfoldable pub owed_at : (Text → Words) → Profile → Heading → ℕ → Kept → List Rule → ℕ → List Firing
owed_at look p h wanted kept rs k = cond (is_in k wanted) (set_fires look p h k rs) (fires_at p h (kept k) k)

-- what the set still fires
unfoldable pub set_owes : (Text → Words) → Profile → OpenSet → Kept → List Rule → List Firing
set_owes look p o kept rs =
    cond o.every
    (rule_by_rule look p (heading_by o.set) (layouts_in o) rs)
    (concat_map (owed_at look p (heading_by o.set) o.wanted kept rs) (layouts_in o))

-- what is still to fire from a line on
unfoldable pub owed : Groups → Profile → OpenSet → Kept → List Line → List Firing
owed gs p o kept ls = set_owes (members gs) p o kept (rules_from ls) ++ firings_from gs p ls

-- the kept rules, layout by layout
unfoldable pub kept_fires : Profile → OpenSet → Kept → List Firing
kept_fires p o kept = concat_map (λ k. cond (is_in k o.wanted) [] (fires_at p (heading_by o.set) (kept k) k)) (layouts_in o)

-- the layouts that want a rule of a set of which each matching rule fires are all of them
pub record AllWanted (o : OpenSet) : Type 0 where
  pub all : o.every ≡ true → (k : ℕ) → o.first ≤ k → k < o.first + o.count → is_in k o.wanted ≡ true

-- the set with other layouts that want a rule
abbrev pub wanting : OpenSet → ℕ → OpenSet
wanting o w = record { present = o.present; set = o.set; first = o.first; count = o.count; every = o.every; wanted = w }

-- a rule kept at the layouts of m
unfoldable pub keeping : ℕ → Rule → Kept → Kept
keeping m r kept k = cond (is_in k m) r (kept k)
