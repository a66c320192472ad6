-- The number and the place of every answer are small: a place is a text's number, a line of a file that is not too long, or 0.
use Prim.Native.Nat.{ℕ, suc, ◌+◌, ◌≤◌}
use native.Mathlib.Omega.{arith}
use mathlib.Core.Path.{◌≡◌, refl, ap}
use mathlib.Core.List.{List, [], ◌∷◌, ◌++◌}
use mathlib.Core.Bool.{Bool, true, false, ◌||◌, ◌&&◌}
use lib.ListN.{length}
use lib.Dec.{leb, ltb}
use borrow.Author.Tests.{le-leb, leb-true, ltb-false}
use Rattle.text.specs.declared.Refusal.{Refusal}
use Rattle.text.specs.declared.Place.{Place}
use Rattle.text.specs.declared.Place.TheVariants.{Start}
use Rattle.text.specs.Limits.{longest_file, most_groups}
use Rattle.text.specs.Bytes.{Text, first, rest, all_of, concat_map}
use Rattle.text.specs.Marks.{Mark, char, gap, join, bang, end, step, marks}
use Rattle.text.specs.Lines.{Line, feeds, inside, lines_of, lines}
use Rattle.text.specs.Refusals.{refused_if, refused_as}
use Rattle.text.proofs.Lists.{and_both, both_and, all_append}
use Rattle.profile.specs.Profile.{Texts}
use Rattle.profile.specs.Refusals.{text_refusals, count_refusals, profile_refusals}
use Rattle.rules.specs.Headings.{Heading}
use Rattle.rules.specs.Entries.{Entry, ignored, wrong, group, set, rule, entry_of}
use Rattle.rules.specs.Sections.{Rule, Head, bad, defines, applies, Section, Sections, add_entry, sections}
use Rattle.rules.specs.Faults.{Groups, defined, with_group, rule_fault, orphans, head_faults, faults, line_faults, file_refusals}
use Rattle.answers.specs.Answer.{ten_texts, total, no_room, refusals, Answer, refused, accepted, first_of, answer, number_of, place_of, Answered}
use Rattle.answers.proofs.Answers.{answered}

-- a line's number is at most m, where the file's bytes and the first line's number are together

marks_length : (p : Place) (s : Text) → length (marks p s) ≡ length s
unfolding marks
marks_length p [] = refl
marks_length p (b ∷ r) = ap suc (marks_length (step p b (first r) (first (rest r))).1 r)

feeds_few : (y : Mark) → feeds y ≤ 1
unfolding feeds
feeds_few (char b) = omega arith
feeds_few gap = omega arith
feeds_few join = omega arith
feeds_few bang = omega arith
feeds_few end = omega arith

abbrev low_lines : ℕ → List Line → Bool
low_lines m ls = all_of (λ l. leb l.number m) ls

lines_low : (m n : ℕ) (f : Bool) (ys : List Mark) → n + length ys ≤ m → low_lines m (lines_of n f ys) ≡ true
unfolding lines_of all_of
lines_low m n f [] h = refl
lines_low m n false (y ∷ r) h =
    both_and (leb n m) _ (le-leb n m (omega arith)) (lines_low m (n + feeds y) (inside y) r (omega (arith, feeds_few y)))
lines_low m n true (y ∷ r) h = lines_low m (n + feeds y) (inside y) r (omega (arith, feeds_few y))

-- so are the numbers of rules and sections

abbrev low_rules : ℕ → List Rule → Bool
low_rules m rs = all_of (λ r. leb r.number m) rs

abbrev low_sections : ℕ → List Section → Bool
low_sections m ss = all_of (λ s. leb s.number m && low_rules m s.rules) ss

add_low : (m n : ℕ) (e : Entry) (s : Sections) → leb n m ≡ true → low_rules m s.0 ≡ true → low_sections m s.1 ≡ true →
    (low_rules m (add_entry n e s).0 ≡ true) × (low_sections m (add_entry n e s).1 ≡ true)
unfolding add_entry all_of
add_low m n ignored s h k l = (k, l)
add_low m n (wrong j) s h k l = (refl, both_and _ _ (both_and _ _ h k) l)
add_low m n (group g ms) s h k l = (refl, both_and _ _ (both_and _ _ h k) l)
add_low m n (set g) s h k l = (refl, both_and _ _ (both_and _ _ h k) l)
add_low m n (rule ws) s h k l = (both_and _ _ h k, l)

sections_low : (m : ℕ) (ls : List Line) → low_lines m ls ≡ true → (low_rules m (sections ls).0 ≡ true) × (low_sections m (sections ls).1 ≡ true)
unfolding sections all_of
sections_low m [] h = (refl, refl)
sections_low m (l ∷ ls) h =
    let w = and_both (leb l.number m) (low_lines m ls) h in
    let q = sections_low m ls w.1 in
    add_low m l.number (entry_of l) (sections ls) w.0 q.0 q.1

-- and the places of the refusals

abbrev low : ℕ → Refusal → Bool
low m r = leb r.place m

if_low : (m : ℕ) (t : Bool) (n p : ℕ) → leb p m ≡ true → all_of (low m) (refused_if t n p) ≡ true
unfolding refused_if all_of
if_low m true n p h = rw h
if_low m false n p h = refl

orphans_low : (m : ℕ) (rs : List Rule) → low_rules m rs ≡ true → all_of (low m) (orphans rs) ≡ true
unfolding orphans all_of
orphans_low m [] h = refl
orphans_low m (r ∷ rs) h = let w = and_both (leb r.number m) (low_rules m rs) h in both_and _ _ w.0 (orphans_low m rs w.1)

rules_low : (m : ℕ) (h : Heading) (rs : List Rule) → low_rules m rs ≡ true →
    all_of (low m) (concat_map (λ r. refused_as (rule_fault h r.text) r.number) rs) ≡ true
unfolding all_of concat_map refused_as
rules_low m h [] e = refl
rules_low m h (r ∷ rs) e =
    let w = and_both (leb r.number m) (low_rules m rs) e in
    all_append (low m) (refused_as (rule_fault h r.text) r.number) _ (if_low m _ (rule_fault h r.text) r.number w.0) (rules_low m h rs w.1)

head_low : (m : ℕ) (gs : Groups) (n : ℕ) (h : Head) (rs : List Rule) → leb n m ≡ true → low_rules m rs ≡ true → all_of (low m) (head_faults gs n h rs) ≡ true
unfolding head_faults all_of
head_low m gs n (bad k) rs e l = both_and _ _ e (orphans_low m rs l)
head_low m gs n (defines g ms) rs e l =
    all_append (low m) (refused_if (defined gs g || leb most_groups (length gs)) 10 n) (orphans rs) (if_low m _ 10 n e) (orphans_low m rs l)
head_low m gs n (applies h) rs e l = rules_low m h rs l

faults_low : (m : ℕ) (gs : Groups) (ss : List Section) → low_sections m ss ≡ true → all_of (low m) (faults gs ss) ≡ true
unfolding faults all_of
faults_low m gs [] h = refl
faults_low m gs (s ∷ ss) h =
    let w = and_both (leb s.number m && low_rules m s.rules) (low_sections m ss) h in
    let q = and_both (leb s.number m) (low_rules m s.rules) w.0 in
    all_append (low m) (head_faults gs s.number s.head s.rules) _ (head_low m gs s.number s.head s.rules q.0 q.1)
    (faults_low m (with_group s.head gs) ss w.1)

file_low : (m : ℕ) (f : Text) → suc (length f) ≤ m → all_of (low m) (line_faults f) ≡ true
unfolding line_faults lines
file_low m f h =
    let l = lines_low m 1 false (marks Start f) (omega (arith, marks_length Start f)) in
    let q = sections_low m (lines f) l in
    all_append (low m) (orphans (sections (lines f)).0) _ (orphans_low m (sections (lines f)).0 q.0) (faults_low m [] (sections (lines f)).1 q.1)

-- a place of an answer: the longest file has at most 65,537 lines

abbrev most : ℕ
most = suc longest_file

texts_low : (t : Texts) → all_of (low most) (text_refusals t) ≡ true
unfolding text_refusals
texts_low t =
    all_append (low most) (refused_if _ 1 1) _ (if_low most _ 1 1 refl)
    (all_append (low most) (refused_if _ 1 2) _ (if_low most _ 1 2 refl)
    (all_append (low most) (refused_if _ 1 3) _ (if_low most _ 1 3 refl) (if_low most _ 1 4 refl)))

counts_low : (t : Texts) → all_of (low most) (count_refusals t) ≡ true
unfolding count_refusals
counts_low t =
    all_append (low most) (refused_if _ 2 2) _ (if_low most _ 2 2 refl)
    (all_append (low most) (refused_if _ 2 3) _ (if_low most _ 2 3 refl) (if_low most _ 2 4 refl))

profile_low : (t : Texts) → all_of (low most) (profile_refusals t) ≡ true
unfolding profile_refusals
profile_low t = all_append (low most) (text_refusals t) (count_refusals t) (texts_low t) (counts_low t)

first_low : (rs : List Refusal) (ts : List Text) → all_of (low most) rs ≡ true → place_of (first_of rs ts) ≤ most
unfolding all_of first_of place_of
first_low [] ts h = omega arith
first_low (r ∷ rs) ts h = leb-true r.place most (and_both (leb r.place most) (all_of (low most) rs) h).0

-- of refusals with a low one among them, only those up to it can be the first
up_to : (ps : List Refusal) (r : Refusal) (rs : List Refusal) (ts : List Text) → all_of (low most) ps ≡ true → low most r ≡ true →
    place_of (first_of (ps ++ (r ∷ rs)) ts) ≤ most
unfolding all_of first_of place_of
up_to [] r rs ts h k = leb-true r.place most k
up_to (p ∷ ps) r rs ts h k = first_low (p ∷ ps) ts h

pub place_low : (room : ℕ) (f : Text) (t : Texts) → place_of (answer room f t) ≤ most
unfolding answer refusals file_refusals refused_if
place_low room f t = go (ltb longest_file (length f)) refl
  where
    go : (b : Bool) → ltb longest_file (length f) ≡ b → place_of (first_of (refusals room f t) (ten_texts f t)) ≤ most
    go true e = rw e (up_to (profile_refusals t) _ _ (ten_texts f t) (profile_low t) refl)
    go false e =
        let l : suc (length f) ≤ most = omega (arith, ltb-false longest_file (length f) e) in
        rw e (first_low _ (ten_texts f t)
        (all_append (low most) (profile_refusals t) _ (profile_low t) (all_append (low most) (line_faults f) _ (file_low most f l)
        (if_low most (no_room room (total (ten_texts f t))) 11 0 refl))))

-- and a number
few : (room : ℕ) (a : Answer) → Answered room a → number_of a ≤ 11
unfolding Answered number_of
few room (refused r) h = h.1
few room (accepted ts) h = omega arith

pub number_low : (room : ℕ) (f : Text) (t : Texts) → number_of (answer room f t) ≤ 11
number_low room f t = few room (answer room f t) (answered room f t)
