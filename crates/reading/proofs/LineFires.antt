-- What fires from a line on, by what the line is.
use Prim.Native.Nat.{ℕ}
use mathlib.Core.Path.{◌≡◌, refl, ap, ◌∙◌}
use mathlib.Core.List.{List, [], ◌∷◌, ◌++◌}
use Rattle.text.specs.Bytes.{Text}
use Rattle.text.specs.Lines.{Line, lines}
use Rattle.profile.specs.Profile.{Profile}
use Rattle.rules.specs.Entries.{Entry, ignored, wrong, group, set, rule, entry_of}
use Rattle.rules.specs.Sections.{Rule, applies, Sections, add_entry, sections}
use Rattle.rules.specs.Faults.{Groups, with_group}
use Rattle.rules.proofs.Shifted.{sections_cons, sections_nil}
use Rattle.answers.specs.Firings.{Firing, file_firings, firings, head_fires}
use Rattle.reading.specs.Order.{rules_from, firings_from}

-- the rules ahead of a line, up to the next heading
unfoldable pub next_rules : ℕ → Entry → List Line → List Rule
next_rules n ignored ls = rules_from ls
next_rules n (wrong k) ls = []
next_rules n (group g ms) ls = []
next_rules n (set h) ls = []
next_rules n (rule ws) ls = record { number = n; text = ws } ∷ rules_from ls

add_rules : (n : ℕ) (e : Entry) (ls : List Line) → (add_entry n e (sections ls)).0 ≡ next_rules n e ls
unfolding add_entry next_rules rules_from
add_rules n ignored ls = refl
add_rules n (wrong k) ls = refl
add_rules n (group g ms) ls = refl
add_rules n (set h) ls = refl
add_rules n (rule ws) ls = refl

pub rules_line : (l : Line) (ls : List Line) → rules_from (l ∷ ls) ≡ next_rules l.number (entry_of l) ls
unfolding rules_from
rules_line l ls = ap (λ (s : Sections). s.0) (sections_cons l ls) ∙ add_rules l.number (entry_of l) ls

pub rules_none : rules_from [] ≡ []
unfolding rules_from
rules_none = ap (λ (s : Sections). s.0) sections_nil

-- the firings from a line on
unfoldable pub next_firings : Groups → Profile → Entry → List Line → List Firing
next_firings gs p ignored ls = firings_from gs p ls
next_firings gs p (wrong k) ls = firings_from gs p ls
next_firings gs p (group g ms) ls = firings_from (record { name = g; members = ms } ∷ gs) p ls
next_firings gs p (set h) ls = head_fires gs p (applies h) (rules_from ls) ++ firings_from gs p ls
next_firings gs p (rule ws) ls = firings_from gs p ls

add_firings : (gs : Groups) (p : Profile) (n : ℕ) (e : Entry) (ls : List Line) → firings gs p (add_entry n e (sections ls)).1 ≡ next_firings gs p e ls
unfolding add_entry next_firings firings_from firings head_fires with_group rules_from
add_firings gs p n ignored ls = refl
add_firings gs p n (wrong k) ls = refl
add_firings gs p n (group g ms) ls = refl
add_firings gs p n (set h) ls = refl
add_firings gs p n (rule ws) ls = refl

pub firings_line : (gs : Groups) (p : Profile) (l : Line) (ls : List Line) → firings_from gs p (l ∷ ls) ≡ next_firings gs p (entry_of l) ls
unfolding firings_from
firings_line gs p l ls = rw (sections_cons l ls) (add_firings gs p l.number (entry_of l) ls)

pub firings_none : (gs : Groups) (p : Profile) → firings_from gs p [] ≡ []
unfolding firings_from firings
firings_none gs p = rw sections_nil

pub firings_start : (f : Text) (p : Profile) → file_firings f p ≡ firings_from [] p (lines f)
unfolding file_firings firings_from
firings_start f p = refl
