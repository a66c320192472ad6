-- A heading ends the set before it: what it is, and what it leaves to be refused and to fire.
use Prim.Native.Nat.{ℕ, ◌+◌, ◌≤◌, ◌<◌}
use native.Mathlib.Omega.{arith}
use mathlib.Core.Path.{◌≡◌, refl, ap, ◌∙◌}
use mathlib.Core.List.{List, [], ◌∷◌, ◌++◌, map}
use mathlib.Core.Bool.{Bool, true, false, ◌||◌, ◌&&◌, cond}
use lib.ListN.{length}
use lib.Dec.{eqb, leb}
use borrow.Author.Tests.{ne_eqb}
use Rattle.text.specs.declared.Refusal.{Refusal}
use Rattle.text.specs.Limits.{most_groups}
use Rattle.text.specs.Bytes.{Text, Words, bytes, same, any_of, all_of}
use Rattle.text.specs.Lines.{Line}
use Rattle.text.specs.Words.{words_fault}
use Rattle.text.specs.Refusals.{refused_if, refused_as, first_refusal}
use Rattle.text.proofs.Lists.{no}
use Rattle.profile.specs.Profile.{Profile}
use Rattle.rules.specs.declared.Present.{Present}
use Rattle.rules.specs.Words.{is_equals, has_dollar, ordinary, is_group_name}
use Rattle.rules.specs.Headings.{Heading, good_items}
use Rattle.rules.specs.Entries.{Entry, ignored, wrong, group, set, rule, set_shape, set_entry, group_entry, heading_entry, entry_of}
use Rattle.rules.specs.Sections.{applies}
use Rattle.rules.specs.Faults.{Group, Groups, defined}
use Rattle.rules.specs.Checking.{line_of, no_heading, present_of, line_fault, present_after, names_after, check_from}
use Rattle.rules.proofs.CheckSteps.{check_cons}
use Rattle.answers.specs.Matching.{members}
use Rattle.answers.specs.Firings.{head_fires}
use Rattle.reading.specs.declared.OpenSet.{OpenSet}
use Rattle.reading.specs.Order.{rules_from, firings_from}
use Rattle.reading.specs.Owed.{Kept, AllWanted, owed, kept_fires}
use Rattle.reading.proofs.LineFires.{next_rules, rules_line, rules_none, next_firings, firings_line, firings_none}
use Rattle.reading.proofs.Owing.{owes_end}

-- a heading is no rule

is_head : Entry → Bool
is_head ignored = false
is_head (wrong k) = true
is_head (group g ms) = true
is_head (set h) = true
is_head (rule ws) = false

either : (t : Bool) (a b : Entry) → is_head a ≡ true → is_head b ≡ true → is_head (cond t a b) ≡ true
either true a b h k = h
either false a b h k = k

set_head : (ws : Words) → is_head (set_entry ws) ≡ true
unfolding set_entry is_head
set_head ws = either (set_shape ws) _ (wrong 6) (either (good_items _ _) _ (wrong 7) refl refl) refl

group_head : (n : Text) (ws : Words) → is_head (group_entry n ws) ≡ true
unfolding group_entry is_head
group_head n [] = refl
group_head n (e ∷ ws) = either (is_group_name n && (is_equals e && all_of ordinary ws)) _ (wrong 6) refl refl

heading_head : (ws : Words) → is_head (heading_entry ws) ≡ true
unfolding heading_entry is_head
heading_head [] = refl
heading_head (w ∷ ws) = either (has_dollar w) (group_entry w ws) _ (group_head w ws) (either (same w (bytes "include")) (wrong 9) (set_entry (w ∷ ws)) refl (set_head (w ∷ ws)))

line_head : (n : ℕ) (ws : Words) → is_head (entry_of (line_of n true ws)) ≡ true
unfolding entry_of is_head
line_head n ws = either (eqb (words_fault ws) 0) (heading_entry ws) (wrong (words_fault ws)) (heading_head ws) refl

head_rules : (n : ℕ) (e : Entry) (ls : List Line) → is_head e ≡ true → next_rules n e ls ≡ []
unfolding next_rules is_head
head_rules n ignored ls h = absurd (no h)
head_rules n (wrong k) ls h = refl
head_rules n (group g ms) ls h = refl
head_rules n (set g) ls h = refl
head_rules n (rule ws) ls h = absurd (no h)

module _ (gs : Groups) (p : Profile) (o : OpenSet) (all : AllWanted o) (kept : Kept) where
  -- the end of the file
  pub owed_end : owed gs p o kept [] ≡ kept_fires p o kept ++ []
  unfolding owed
  owed_end = rw (rules_none, firings_none gs p, owes_end (members gs) p o kept all) refl

  -- a heading
  pub owed_close : (n : ℕ) (ws : Words) (ls : List Line) → owed gs p o kept (line_of n true ws ∷ ls) ≡ kept_fires p o kept ++ firings_from gs p (line_of n true ws ∷ ls)
  unfolding owed
  owed_close n ws ls =
      let e : rules_from (line_of n true ws ∷ ls) ≡ [] = rules_line (line_of n true ws) ls ∙ head_rules n (entry_of (line_of n true ws)) ls (line_head n ws) in
      rw (e, owes_end (members gs) p o kept all) refl

-- what the heading fires, with what follows

module _ (gs : Groups) (p : Profile) (n : ℕ) (ws : Words) (ls : List Line) where
  pub fires_set : (h : Heading) → entry_of (line_of n true ws) ≡ set h → firings_from gs p (line_of n true ws ∷ ls) ≡ head_fires gs p (applies h) (rules_from ls) ++ firings_from gs p ls
  unfolding next_firings
  fires_set h e = firings_line gs p (line_of n true ws) ls ∙ rw e refl

  pub fires_group : (g : Text) (ms : Words) → entry_of (line_of n true ws) ≡ group g ms →
      firings_from gs p (line_of n true ws ∷ ls) ≡ firings_from (record { name = g; members = ms } ∷ gs) p ls
  unfolding next_firings
  fires_group g ms e = firings_line gs p (line_of n true ws) ls ∙ rw e refl

-- what is refused of it

refused_first : (f n : ℕ) (rs : List Refusal) → (f ≡ 0 → ⊥) → first_refusal (refused_as f n ++ rs) ≡ record { number = f; place = n }
unfolding refused_as refused_if first_refusal
refused_first f n rs h = rw (ne_eqb f 0 h)

refused_none : (f n : ℕ) (rs : List Refusal) → f ≡ 0 → refused_as f n ++ rs ≡ rs
unfolding refused_as refused_if
refused_none f n rs h = rw h

defined_names : (gs : Groups) (n : Text) → defined gs n ≡ any_of (same n) (map (λ (g : Group). g.name) gs)
unfolding defined any_of
defined_names [] n = refl
defined_names (g ∷ gs) n = rw (defined_names gs n) refl

names_length : (gs : Groups) → length (map (λ (g : Group). g.name) gs) ≡ length gs
names_length [] = refl
names_length (g ∷ gs) = ap (λ (i : ℕ). Prim.Native.Nat.suc i) (names_length gs)

module _ (ns : List Text) (p : Present) (n : ℕ) (ws : Words) (ls : List Line) where
  pub faults_wrong : (k : ℕ) → (k ≡ 0 → ⊥) → entry_of (line_of n true ws) ≡ wrong k → first_refusal (check_from ns p (line_of n true ws ∷ ls)) ≡ record { number = k; place = n }
  unfolding line_fault
  faults_wrong k z e = rw (check_cons ns p (line_of n true ws) ls, e) (refused_first k n _ z)

  pub faults_set : (h : Heading) → entry_of (line_of n true ws) ≡ set h → check_from ns p (line_of n true ws ∷ ls) ≡ check_from ns (present_of h) ls
  unfolding line_fault names_after present_after
  faults_set h e = check_cons ns p (line_of n true ws) ls ∙ rw e (refused_none 0 n _ refl)

group_carries : (p : Present) (ls : List Line) (g : Text) (ms : Words) (ns : List Text) →
    check_from (names_after ns (group g ms)) (present_after p (group g ms)) ls ≡ check_from (g ∷ ns) no_heading ls
unfolding names_after present_after
group_carries p ls g ms ns = refl

module _ (gs : Groups) (p : Present) (n : ℕ) (ws : Words) (ls : List Line) (g : Text) (ms : Words) (e : entry_of (line_of n true ws) ≡ group g ms) where
  group_fault_lem : line_fault (map (λ (g : Group). g.name) gs) p (group g ms) ≡ cond (defined gs g || leb most_groups (length gs)) 10 0
  unfolding line_fault
  group_fault_lem = rw (← defined_names gs g, names_length gs) refl

  -- refusal 10
  pub faults_twice : defined gs g || leb most_groups (length gs) ≡ true →
      first_refusal (check_from (map (λ (g : Group). g.name) gs) p (line_of n true ws ∷ ls)) ≡ record { number = 10; place = n }
  faults_twice t =
      let f : line_fault (map (λ (g : Group). g.name) gs) p (entry_of (line_of n true ws)) ≡ 10 = ap (line_fault (map (λ (g : Group). g.name) gs) p) e ∙ (group_fault_lem ∙ rw t refl) in
      rw (check_cons (map (λ (g : Group). g.name) gs) p (line_of n true ws) ls) (rw f (refused_first 10 n _ (λ z. absurd (omega arith))))

  pub faults_group : defined gs g || leb most_groups (length gs) ≡ false →
      check_from (map (λ (g : Group). g.name) gs) p (line_of n true ws ∷ ls) ≡ check_from (g ∷ map (λ (g : Group). g.name) gs) no_heading ls
  faults_group t =
      let f : line_fault (map (λ (g : Group). g.name) gs) p (entry_of (line_of n true ws)) ≡ 0 = ap (line_fault (map (λ (g : Group). g.name) gs) p) e ∙ (group_fault_lem ∙ rw t refl) in
      check_cons (map (λ (g : Group). g.name) gs) p (line_of n true ws) ls ∙ (refused_none _ n _ f ∙ rw e (group_carries p ls g ms (map (λ (g : Group). g.name) gs)))
