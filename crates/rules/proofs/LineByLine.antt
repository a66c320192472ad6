-- The faults of a file, met line by line: what a loop over the lines knows.
use Prim.Native.Nat.{ℕ}
use mathlib.Core.Path.{◌≡◌, refl, ap}
use mathlib.Core.List.{List, [], ◌∷◌, ◌++◌, append_assoc}
use mathlib.Core.Option.{Option, none, some}
use mathlib.Core.Bool.{◌||◌}
use lib.ListN.{length}
use lib.Dec.{leb}
use Rattle.text.specs.declared.Refusal.{Refusal}
use Rattle.text.specs.Limits.{most_groups}
use Rattle.text.specs.Bytes.{Text, Words, concat_map}
use Rattle.text.specs.Refusals.{refused_if, refused_as}
use Rattle.text.specs.Lines.{Line, lines}
use Rattle.rules.specs.Headings.{Heading}
use Rattle.rules.specs.Entries.{Entry, ignored, wrong, group, set, rule, entry_of}
use Rattle.rules.specs.Sections.{Rule, add_entry, sections}
use Rattle.rules.specs.Faults.{Groups, defined, with_group, rule_fault, orphans, head_faults, faults, line_faults}
use Rattle.rules.proofs.Shifted.{sections_cons, sections_nil}

-- a rule's refusal under the present heading, if there is one
unfoldable pub rule_faults : Option Heading → ℕ → Words → List Refusal
rule_faults none n ws = record { number = 6; place = n } ∷ []
rule_faults (some h) n ws = refused_as (rule_fault h ws) n

unfoldable pub rules_faults : Option Heading → List Rule → List Refusal
rules_faults h rs = concat_map (λ r. rule_faults h r.number r.text) rs

-- what is left to be refused: under the present heading, with the groups so far
unfoldable pub faults_from : Groups → Option Heading → List Line → List Refusal
faults_from gs h ls = rules_faults h (sections ls).0 ++ faults gs (sections ls).1

-- one line further, by what the line is
unfoldable pub next_faults : Groups → Option Heading → ℕ → Entry → List Line → List Refusal
next_faults gs h n ignored ls = faults_from gs h ls
next_faults gs h n (wrong k) ls = record { number = k; place = n } ∷ faults_from gs none ls
next_faults gs h n (group g ms) ls =
    refused_if (defined gs g || leb most_groups (length gs)) 10 n ++ faults_from (record { name = g; members = ms } ∷ gs) none ls
next_faults gs h n (set h') ls = faults_from gs (some h') ls
next_faults gs h n (rule ws) ls = rule_faults h n ws ++ faults_from gs h ls

orphan_rules : (rs : List Rule) → orphans rs ≡ rules_faults none rs
unfolding orphans rules_faults concat_map rule_faults
orphan_rules [] = refl
orphan_rules (r ∷ rs) = ap (λ (l : List Refusal). record { number = 6; place = r.number } ∷ l) (orphan_rules rs)

set_rules : (h : Heading) (rs : List Rule) → concat_map (λ r. refused_as (rule_fault h r.text) r.number) rs ≡ rules_faults (some h) rs
unfolding rules_faults concat_map rule_faults
set_rules h [] = refl
set_rules h (r ∷ rs) = ap (λ (l : List Refusal). refused_as (rule_fault h r.text) r.number ++ l) (set_rules h rs)

no_rules : (h : Option Heading) → rules_faults h [] ≡ []
unfolding rules_faults concat_map
no_rules h = refl

more_rules : (h : Option Heading) (r : Rule) (rs : List Rule) → rules_faults h (r ∷ rs) ≡ rule_faults h r.number r.text ++ rules_faults h rs
unfolding rules_faults concat_map
more_rules h r rs = refl

add_faults : (gs : Groups) (h : Option Heading) (n : ℕ) (e : Entry) (ls : List Line) →
    rules_faults h (add_entry n e (sections ls)).0 ++ faults gs (add_entry n e (sections ls)).1 ≡ next_faults gs h n e ls
unfolding add_entry next_faults faults_from faults head_faults with_group
add_faults gs h n ignored ls = refl
add_faults gs h n (wrong k) ls = rw (no_rules h, orphan_rules)
add_faults gs h n (group g ms) ls = rw (no_rules h, orphan_rules, append_assoc)
add_faults gs h n (set h') ls = rw (no_rules h, set_rules h' (sections ls).0)
add_faults gs h n (rule ws) ls = rw (more_rules, append_assoc)

pub faults_line : (gs : Groups) (h : Option Heading) (l : Line) (ls : List Line) → faults_from gs h (l ∷ ls) ≡ next_faults gs h l.number (entry_of l) ls
unfolding faults_from
faults_line gs h l ls = rw (sections_cons l ls) (add_faults gs h l.number (entry_of l) ls)

pub faults_none : (gs : Groups) (h : Option Heading) → faults_from gs h [] ≡ []
unfolding faults_from faults
faults_none gs h = rw (sections_nil, no_rules h)

pub faults_start : (f : Text) → line_faults f ≡ faults_from [] none (lines f)
unfolding line_faults faults_from
faults_start f = rw orphan_rules

-- the groups that are defined from a line on
