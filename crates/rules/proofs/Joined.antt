-- The sections and the faults of a joined file.
use Prim.Native.Nat.{ℕ, ◌+◌, ◌≤◌}
use native.Mathlib.Omega.{arith}
use mathlib.Core.Path.{◌≡◌, refl, ap, ◌∙◌}
use mathlib.Core.List.{List, [], ◌∷◌, ◌++◌, map, append_assoc, append-nil}
use mathlib.Core.Bool.{true}
use lib.ListN.{length}
use Rattle.text.specs.Limits.{most_groups}
use Rattle.text.specs.Bytes.{Text, apart}
use Rattle.text.specs.Lines.{Line, lines, closed}
use Rattle.text.proofs.Lists.{nil_left, nil_right}
use Rattle.text.proofs.Joined.{shifted, physical, lines_join}
use Rattle.rules.specs.Entries.{Entry, ignored, wrong, group, set, rule, entry_of}
use Rattle.rules.specs.Sections.{Rule, Section, Sections, add_entry, sections}
use Rattle.rules.specs.Faults.{Groups, with_group, groups_after, orphans, faults, line_faults}
use Rattle.rules.specs.Names.{groups_of, defines_of, names_of}
use Rattle.rules.proofs.Shifted.{sections_cons, sections_nil, shift_section, sections_shift, faults_shift}
use Rattle.rules.proofs.Fresh.{fresh, faults_beside, fresh_named}

add_append : (n : ℕ) (e : Entry) (o : List Rule) (x y : List Section) →
    add_entry n e (o, x ++ y) ≡ ((add_entry n e (o, x)).0, (add_entry n e (o, x)).1 ++ y)
unfolding add_entry
add_append n ignored o x y = refl
add_append n (wrong k) o x y = refl
add_append n (group g ms) o x y = refl
add_append n (set h) o x y = refl
add_append n (rule ws) o x y = refl

no_orphans : (s : Sections) → s.0 ≡ [] → s ≡ ([], s.1)
no_orphans s h = λ i. (h i, s.1)

sections_append : (a b : List Line) → (sections b).0 ≡ [] → sections (a ++ b) ≡ ((sections a).0, (sections a).1 ++ (sections b).1)
sections_append [] b h = rw sections_nil (no_orphans (sections b) h)
sections_append (l ∷ a) b h =
    rw (sections_cons l (a ++ b), sections_cons l a, sections_append a b h)
    (add_append l.number (entry_of l) (sections a).0 (sections a).1 (sections b).1)

faults_append : (gs : Groups) (a b : List Section) → faults gs (a ++ b) ≡ faults gs a ++ faults (groups_after gs a) b
unfolding faults groups_after
faults_append gs [] b = refl
faults_append gs (s ∷ a) b = rw (faults_append (with_group s.head gs) a b, append_assoc)

no_rules : (rs : List Rule) → orphans rs ≡ [] → rs ≡ []
unfolding orphans
no_rules [] h = refl
no_rules (r ∷ rs) h = cc

module _ (a b : Text) (end : closed a ≡ true) (fa : line_faults a ≡ []) (fb : line_faults b ≡ []) (names : apart (names_of b) (defines_of a) ≡ true) where
  pub joined_sections : sections (lines (a ++ b)) ≡ ((sections (lines a)).0, (sections (lines a)).1 ++ map (shift_section (physical a)) (sections (lines b)).1)
  unfolding line_faults
  joined_sections =
      let o : (sections (lines b)).0 ≡ [] = no_rules _ (nil_left _ _ fb) in
      let q = sections_shift (physical a) (lines b) in
      let z : (sections (map (shifted (physical a)) (lines b))).0 ≡ [] = ap (λ (s : Sections). s.0) q ∙ rw o in
      rw (lines_join a b end, sections_append (lines a) (map (shifted (physical a)) (lines b)) z, q)

  pub joined_fresh : fresh (groups_of a) (sections (lines b)).1 ≡ true
  unfolding line_faults names_of defines_of
  joined_fresh = fresh_named [] (groups_of a) (sections (lines b)).1 (nil_right (orphans (sections (lines b)).0) _ fb) names

  -- The joined file is accepted line by line if it has no more groups than a file may have.
  pub joined_lines : length (groups_of a) + length (groups_of b) ≤ most_groups → line_faults (a ++ b) ≡ []
  unfolding line_faults groups_of
  joined_lines l =
      let m : length (groups_after [] (sections (lines b)).1) + length (groups_after [] (sections (lines a)).1) ≤ most_groups = omega arith in
      let n : faults [] (sections (lines b)).1 ≡ [] = nil_right (orphans (sections (lines b)).0) _ fb in
      rw (joined_sections, faults_append, faults_shift, faults_beside [] (groups_of a) (sections (lines b)).1 joined_fresh m, n, append-nil) fa
