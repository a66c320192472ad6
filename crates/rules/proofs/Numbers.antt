-- Each refusal of a file has a number of document 01.
use Prim.Native.Nat.{ℕ, ◌+◌}
use mathlib.Core.Path.{◌≡◌, refl}
use mathlib.Core.List.{List, [], ◌∷◌, map}
use mathlib.Core.Bool.{Bool, true, false, ◌||◌, ◌&&◌, cond}
use lib.ListN.{length, drop}
use lib.Dec.{eqb, ltb, leb}
use Rattle.text.specs.Limits.{longest_file, most_groups}
use Rattle.text.specs.Bytes.{Text, Words, bytes, same, all_of, any_of}
use Rattle.text.specs.Refusals.{refused_if, refused_as, is_number, has_number}
use Rattle.text.specs.Lines.{Line, lines}
use Rattle.text.specs.Words.{words_fault}
use Rattle.text.proofs.Lists.{and_both, all_append, all_concat}
use Rattle.text.proofs.Numbers.{if_number, as_number, words_number}
use Rattle.rules.specs.Words.{is_equals, has_dollar, ordinary, is_group_name}
use Rattle.rules.specs.Percent.{malformed}
use Rattle.rules.specs.Headings.{Heading, left_item, component_of, good_items, heading_of, has_word}
use Rattle.rules.specs.Entries.{Entry, ignored, wrong, group, set, rule, before, after, set_shape, set_entry, group_entry, heading_entry, rule_entry, entry_of}
use Rattle.rules.specs.Sections.{Rule, Head, bad, defines, applies, Section, Sections, add_entry, sections}
use Rattle.rules.specs.Faults.{Groups, defined, with_group, rule_shape, shape_fault, rule_fault, orphans, head_faults, faults, line_faults, file_refusals}

-- a line that is wrong by itself has a number

unfoldable pub good_entry : Entry → Bool
good_entry ignored = true
good_entry (wrong k) = is_number k
good_entry (group g ms) = true
good_entry (set h) = true
good_entry (rule ws) = true

either : (t : Bool) (a b : Entry) → good_entry a ≡ true → good_entry b ≡ true → good_entry (cond t a b) ≡ true
either true a b h k = h
either false a b h k = k

set_good : (ws : Words) → good_entry (set_entry ws) ≡ true
unfolding set_entry good_entry is_number
set_good ws =
    let ls = map left_item (before ws) in
    let rs = map component_of (after ws) in
    either (set_shape ws) (cond (good_items ls rs) (set (heading_of ls rs)) (wrong 7)) (wrong 6) (either (good_items ls rs) (set (heading_of ls rs)) (wrong 7) refl refl) refl

group_good : (n : Text) (ws : Words) → good_entry (group_entry n ws) ≡ true
unfolding group_entry good_entry is_number
group_good n [] = refl
group_good n (e ∷ ws) = either (is_group_name n && (is_equals e && all_of ordinary ws)) _ (wrong 6) refl refl

heading_good : (ws : Words) → good_entry (heading_entry ws) ≡ true
unfolding heading_entry good_entry is_number
heading_good [] = refl
heading_good (w ∷ ws) =
    either (has_dollar w) (group_entry w ws) _ (group_good w ws) (either (same w (bytes "include")) (wrong 9) (set_entry (w ∷ ws)) refl (set_good (w ∷ ws)))

rule_good : (ws : Words) → good_entry (rule_entry ws) ≡ true
unfolding rule_entry good_entry
rule_good [] = refl
rule_good (w ∷ ws) = refl

pub entry_good : (l : Line) → good_entry (entry_of l) ≡ true
unfolding entry_of good_entry
entry_good l = go (eqb (words_fault l.text) 0) (words_number l.text) (either l.is_heading (heading_entry l.text) (rule_entry l.text) (heading_good l.text) (rule_good l.text))
  where
    go : (t : Bool) → cond t true (is_number (words_fault l.text)) ≡ true → good_entry (cond l.is_heading (heading_entry l.text) (rule_entry l.text)) ≡ true →
        good_entry (cond t (cond l.is_heading (heading_entry l.text) (rule_entry l.text)) (wrong (words_fault l.text))) ≡ true
    go true h k = k
    go false h k = h

-- and so has a section

unfoldable good_head : Head → Bool
good_head (bad k) = is_number k
good_head (defines g ms) = true
good_head (applies h) = true

abbrev good_sections : List Section → Bool
good_sections ss = all_of (λ s. good_head s.head) ss

add_good : (n : ℕ) (e : Entry) (s : Sections) → good_entry e ≡ true → good_sections s.1 ≡ true → good_sections (add_entry n e s).1 ≡ true
unfolding good_entry good_head add_entry all_of
add_good n ignored s h k = k
add_good n (wrong j) s h k = rw (h, k)
add_good n (group g ms) s h k = k
add_good n (set g) s h k = k
add_good n (rule ws) s h k = k

sections_good : (ls : List Line) → good_sections (sections ls).1 ≡ true
unfolding sections all_of
sections_good [] = refl
sections_good (l ∷ ls) = add_good l.number (entry_of l) (sections ls) (entry_good l) (sections_good ls)

orphan_numbers : (rs : List Rule) → all_of has_number (orphans rs) ≡ true
unfolding orphans all_of has_number is_number
orphan_numbers [] = refl
orphan_numbers (r ∷ rs) = orphan_numbers rs

shape_number : (l r : ℕ) (i : Bool) (ws : Words) → cond (eqb (shape_fault l r i ws) 0) true (is_number (shape_fault l r i ws)) ≡ true
unfolding shape_fault is_number
shape_number l r i ws = go (rule_shape l r ws) (any_of (malformed i) (drop (l + 1) ws))
  where
    go : (t u : Bool) → cond (eqb (cond t (cond u 8 0) 6) 0) true (is_number (cond t (cond u 8 0) 6)) ≡ true
    go true true = refl
    go true false = refl
    go false u = refl

rule_number : (h : Heading) (ws : Words) → cond (eqb (rule_fault h ws) 0) true (is_number (rule_fault h ws)) ≡ true
unfolding rule_fault
rule_number h ws = shape_number (length h.columns) (length h.components) (has_word h.index) ws

head_numbers : (gs : Groups) (n : ℕ) (h : Head) (rs : List Rule) → good_head h ≡ true → all_of has_number (head_faults gs n h rs) ≡ true
unfolding head_faults good_head all_of has_number is_number
head_numbers gs n (bad k) rs g = rw g (orphan_numbers rs)
head_numbers gs n (defines m ms) rs g =
    all_append has_number (refused_if (defined gs m || leb most_groups (length gs)) 10 n) (orphans rs) (if_number _ 10 n refl) (orphan_numbers rs)
head_numbers gs n (applies h) rs g =
    all_concat has_number (λ r. refused_as (rule_fault h r.text) r.number) rs (λ r. as_number (rule_fault h r.text) r.number (rule_number h r.text))

fault_numbers : (gs : Groups) (ss : List Section) → good_sections ss ≡ true → all_of has_number (faults gs ss) ≡ true
unfolding faults all_of
fault_numbers gs [] g = refl
fault_numbers gs (s ∷ ss) g =
    let w = and_both (good_head s.head) (good_sections ss) g in
    all_append has_number (head_faults gs s.number s.head s.rules) _ (head_numbers gs s.number s.head s.rules w.0) (fault_numbers (with_group s.head gs) ss w.1)

pub file_numbers : (f : Text) → all_of has_number (file_refusals f) ≡ true
unfolding file_refusals line_faults is_number
file_numbers f =
    all_append has_number (refused_if (ltb longest_file (length f)) 3 0) _ (if_number _ 3 0 refl)
    (all_append has_number (orphans (sections (lines f)).0) _ (orphan_numbers (sections (lines f)).0) (fault_numbers [] (sections (lines f)).1 (sections_good (lines f))))
