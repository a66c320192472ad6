-- Lines whose numbers are shifted: their sections and faults are the same, shifted.
use Prim.Native.Nat.{ℕ, ◌+◌}
use mathlib.Core.Path.{◌≡◌, refl, ap}
use mathlib.Core.List.{List, [], ◌∷◌, map}
use mathlib.Core.Bool.{Bool, true, false, not}
use lib.Dec.{eqb}
use Rattle.text.specs.declared.Refusal.{Refusal}
use Rattle.text.specs.Bytes.{concat_map}
use Rattle.text.specs.Refusals.{refused_if, refused_as}
use Rattle.text.specs.Lines.{Line}
use Rattle.text.proofs.Lists.{map_append}
use Rattle.text.proofs.Joined.{shifted}
use Rattle.rules.specs.Headings.{Heading}
use Rattle.rules.specs.Entries.{Entry, ignored, wrong, group, set, rule, entry_of}
use Rattle.rules.specs.Sections.{Rule, Head, bad, defines, applies, Section, Sections, add_entry, sections}
use Rattle.rules.specs.Faults.{Groups, with_group, rule_fault, orphans, head_faults, faults}

pub sections_cons : (l : Line) (ls : List Line) → sections (l ∷ ls) ≡ add_entry l.number (entry_of l) (sections ls)
unfolding sections
sections_cons l ls = refl

pub sections_nil : sections [] ≡ ([], [])
unfolding sections
sections_nil = refl

unfoldable pub shift_rule : ℕ → Rule → Rule
shift_rule k r = record { number = r.number + k; text = r.text }

unfoldable pub shift_section : ℕ → Section → Section
shift_section k s = record { number = s.number + k; head = s.head; rules = map (shift_rule k) s.rules }

unfoldable pub shift_refusal : ℕ → Refusal → Refusal
shift_refusal k r = record { number = r.number; place = r.place + k }

-- sections

shift_add : (k n : ℕ) (e : Entry) (s : Sections) →
    add_entry (n + k) e (map (shift_rule k) s.0, map (shift_section k) s.1) ≡ (map (shift_rule k) (add_entry n e s).0, map (shift_section k) (add_entry n e s).1)
unfolding add_entry shift_section shift_rule
shift_add k n ignored s = refl
shift_add k n (wrong j) s = refl
shift_add k n (group g ms) s = refl
shift_add k n (set h) s = refl
shift_add k n (rule ws) s = refl

entry_shift : (k : ℕ) (l : Line) → entry_of (shifted k l) ≡ entry_of l
unfolding entry_of shifted
entry_shift k l = refl

shifted_number : (k : ℕ) (l : Line) → (shifted k l).number ≡ l.number + k
unfolding shifted
shifted_number k l = refl

pub sections_shift : (k : ℕ) (a : List Line) → sections (map (shifted k) a) ≡ (map (shift_rule k) (sections a).0, map (shift_section k) (sections a).1)
sections_shift k [] = rw sections_nil
sections_shift k (l ∷ a) =
    rw (sections_cons l a, sections_cons (shifted k l) (map (shifted k) a), entry_shift, shifted_number, sections_shift k a)
    (shift_add k l.number (entry_of l) (sections a))

-- the groups that shifted sections define are the same

-- faults

if_shift : (k : ℕ) (t : Bool) (n p : ℕ) → refused_if t n (p + k) ≡ map (shift_refusal k) (refused_if t n p)
unfolding refused_if shift_refusal
if_shift k true n p = refl
if_shift k false n p = refl

as_shift : (k n p : ℕ) → refused_as n (p + k) ≡ map (shift_refusal k) (refused_as n p)
unfolding refused_as
as_shift k n p = if_shift k (not (eqb n 0)) n p

orphans_shift : (k : ℕ) (rs : List Rule) → orphans (map (shift_rule k) rs) ≡ map (shift_refusal k) (orphans rs)
unfolding orphans shift_rule shift_refusal
orphans_shift k [] = refl
orphans_shift k (r ∷ rs) = ap (λ (l : List Refusal). record { number = 6; place = r.number + k } ∷ l) (orphans_shift k rs)

rules_shift : (k : ℕ) (h : Heading) (rs : List Rule) →
    concat_map (λ r. refused_as (rule_fault h r.text) r.number) (map (shift_rule k) rs) ≡
    map (shift_refusal k) (concat_map (λ r. refused_as (rule_fault h r.text) r.number) rs)
unfolding concat_map shift_rule
rules_shift k h [] = refl
rules_shift k h (r ∷ rs) = rw (rules_shift k h rs, as_shift k (rule_fault h r.text) r.number, map_append)

head_faults_shift : (gs : Groups) (k n : ℕ) (h : Head) (rs : List Rule) →
    head_faults gs (n + k) h (map (shift_rule k) rs) ≡ map (shift_refusal k) (head_faults gs n h rs)
unfolding head_faults shift_refusal
head_faults_shift gs k n (bad j) rs = rw orphans_shift
head_faults_shift gs k n (defines g ms) rs = rw (orphans_shift, if_shift, map_append)
head_faults_shift gs k n (applies h) rs = rules_shift k h rs

pub faults_shift : (gs : Groups) (k : ℕ) (ss : List Section) → faults gs (map (shift_section k) ss) ≡ map (shift_refusal k) (faults gs ss)
unfolding faults shift_section
faults_shift gs k [] = refl
faults_shift gs k (s ∷ ss) = rw (head_faults_shift gs k s.number s.head s.rules, faults_shift (with_group s.head gs) k ss, map_append)
