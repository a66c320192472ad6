-- The check line by line gives the refusals of a file and the names of its groups.
use Prim.Native.Nat.{ℕ}
use mathlib.Core.Path.{◌≡◌, refl, sym, ◌∙◌}
use mathlib.Core.List.{List, [], ◌∷◌, ◌++◌, map}
use mathlib.Core.Option.{Option, none, some}
use mathlib.Core.Bool.{Bool, true, false, not, cond}
use lib.ListN.{length}
use lib.Dec.{eqb}
use borrow.Author.Tests.{eqb-true}
use Rattle.text.specs.declared.Refusal.{Refusal}
use Rattle.text.specs.Bytes.{Text, Words, same, any_of}
use Rattle.text.specs.Refusals.{refused_if, refused_as, is_number}
use Rattle.text.specs.Lines.{Line, lines}
use Rattle.text.proofs.Lists.{no}
use Rattle.rules.specs.declared.Form.TheVariants as form
use Rattle.rules.specs.declared.Present.{Present}
use Rattle.rules.specs.declared.Index.{Index}
use Rattle.rules.specs.Headings.{Heading, has_word}
use Rattle.rules.specs.Entries.{Entry, ignored, wrong, group, set, rule, entry_of}
use Rattle.rules.specs.Faults.{Groups, defined, rule_fault, line_faults}
use Rattle.rules.specs.Checking.{no_heading, is_absent, is_indexed, form_of, present_of, present_fault, line_fault, present_after, names_after, check_from}
use Rattle.rules.proofs.Numbers.{good_entry, entry_good}
use Rattle.rules.proofs.LineByLine.{rule_faults, faults_from, next_faults, faults_line, faults_none, faults_start}

unfoldable pub present_by : Option Heading → Present
present_by none = no_heading
present_by (some h) = present_of h

abbrev names_in : Groups → List Text
names_in gs = map (λ g. g.name) gs

pub form_is : (i : Index) → (is_absent (form_of i) ≡ false) × (is_indexed (form_of i) ≡ has_word i)
unfolding form_of is_absent is_indexed
form_is i = go (has_word i)
  where
    go : (t : Bool) → (is_absent (cond t form.Indexed form.Plain) ≡ false) × (is_indexed (cond t form.Indexed form.Plain) ≡ t)
    go true = (refl, refl)
    go false = (refl, refl)

rule_by : (h : Option Heading) (n : ℕ) (ws : Words) → rule_faults h n ws ≡ refused_as (present_fault (present_by h) ws) n
unfolding rule_faults present_fault present_by present_of rule_fault refused_as refused_if is_absent
rule_by none n ws = refl
rule_by (some h) n ws = rw ((form_is h.index).0, (form_is h.index).1)

zero_not : (m : ℕ) → eqb m 0 ≡ true → is_number m ≡ false
unfolding is_number
zero_not m e = rw (eqb-true m 0 e)

as_wrong : (k n : ℕ) → is_number k ≡ true → refused_as k n ≡ record { number = k; place = n } ∷ []
unfolding refused_as refused_if is_number
as_wrong k n h = go (eqb k 0) refl (record { number = k; place = n })
  where
    go : (t : Bool) → eqb k 0 ≡ t → (x : Refusal) → cond (not t) (x ∷ []) [] ≡ x ∷ []
    go true e x = absurd (no (sym (zero_not k e) ∙ h))
    go false e x = refl

defined_names : (gs : Groups) (n : Text) → defined gs n ≡ any_of (same n) (names_in gs)
unfolding defined any_of
defined_names [] n = refl
defined_names (g ∷ gs) n = rw (defined_names gs n)

names_length : (gs : Groups) → length (names_in gs) ≡ length gs
names_length [] = refl
names_length (g ∷ gs) = rw (names_length gs)

if_as : (t : Bool) (n : ℕ) → refused_if t 10 n ≡ refused_as (cond t 10 0) n
unfolding refused_as refused_if
if_as true n = refl
if_as false n = refl

none_refused : (rs : List Refusal) (n : ℕ) → rs ≡ refused_as 0 n ++ rs
unfolding refused_as refused_if
none_refused rs n = refl

next_checked : (gs : Groups) (h : Option Heading) (n : ℕ) (e : Entry) (ls : List Line) → good_entry e ≡ true →
    ((gs' : Groups) (h' : Option Heading) → faults_from gs' h' ls ≡ check_from (names_in gs') (present_by h') ls) →
    next_faults gs h n e ls ≡ refused_as (line_fault (names_in gs) (present_by h) e) n ++ check_from (names_after (names_in gs) e) (present_after (present_by h) e) ls
unfolding next_faults line_fault present_after names_after good_entry present_by
next_checked gs h n ignored ls g ih = ih gs h ∙ none_refused (check_from (names_in gs) (present_by h) ls) n
next_checked gs h n (wrong k) ls g ih = rw (as_wrong k n g, ih gs none)
next_checked gs h n (group m ms) ls g ih =
    rw (ih (record { name = m; members = ms } ∷ gs) none, defined_names gs m, if_as, names_length gs)
next_checked gs h n (set h') ls g ih = ih gs (some h') ∙ none_refused (check_from (names_in gs) (present_of h') ls) n
next_checked gs h n (rule ws) ls g ih = rw (rule_by h n ws, ih gs h)

pub faults_checked : (gs : Groups) (h : Option Heading) (ls : List Line) → faults_from gs h ls ≡ check_from (names_in gs) (present_by h) ls
unfolding check_from
faults_checked gs h [] = faults_none gs h
faults_checked gs h (l ∷ ls) = faults_line gs h l ls ∙ next_checked gs h l.number (entry_of l) ls (entry_good l) (λ gs' h'. faults_checked gs' h' ls)

pub lines_checked : (f : Text) → line_faults f ≡ check_from [] no_heading (lines f)
unfolding present_by
lines_checked f = faults_start f ∙ faults_checked [] none (lines f)

-- the names of the groups
