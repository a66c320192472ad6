-- The refusals of a file's lines, in file order, each line's lowest number: of these the first counts. Document 01, "Refusal numbers".
use Rattle.std.specs.Prelude.{ℕ, ◌+◌, List, [], ◌∷◌, ◌++◌, map, Bool, ◌||◌, ◌&&◌, cond, length, get_or, take, drop, eqb, ltb, leb}
use Rattle.text.specs.declared.Refusal.{Refusal}
use Rattle.text.specs.Limits.{longest_file, most_groups}
use Rattle.text.specs.Bytes.{Text, Words, same, all_of, any_of, concat_map}
use Rattle.text.specs.Refusals.{refused_if, refused_as}
use Rattle.text.specs.Lines.{lines}
use Rattle.rules.specs.Words.{is_equals, ordinary, left_word}
use Rattle.rules.specs.Percent.{malformed}
use Rattle.rules.specs.Headings.{Heading, has_word}
use Rattle.rules.specs.Sections.{Rule, Head, bad, defines, applies, Section, sections}

-- groups "defined earlier in the file", the last first
pub record Group : Type 0 where
  pub name : Text
  pub members : Words

abbrev pub Groups : Type 0
Groups = List Group

unfoldable pub defined : Groups → Text → Bool
defined gs n = any_of (λ g. same n g.name) gs

-- the groups after a heading, and after sections
unfoldable pub with_group : Head → Groups → Groups
with_group (bad k) gs = gs
with_group (defines g ms) gs = record { name = g; members = ms } ∷ gs
with_group (applies h) gs = gs

unfoldable pub groups_after : Groups → List Section → Groups
groups_after gs [] = gs
groups_after gs (s ∷ ss) = groups_after (with_group s.head gs) ss

-- "as many left words as the heading has left items, `=`, as many right words"
unfoldable pub left_words : Heading → Words → Words
left_words h ws = take (length h.columns) ws

unfoldable pub right_words : Heading → Words → Words
right_words h ws = drop (length h.columns + 1) ws

-- l left words and r right words
unfoldable pub rule_shape : ℕ → ℕ → Words → Bool
rule_shape l r ws = eqb (length ws) (l + 1 + r) && (all_of left_word (take l ws) && (is_equals (get_or ws l []) && all_of ordinary (drop (l + 1) ws)))

-- "rule with a wrong word, word count or `=`": 6. "malformed percent item": 8. The flag: the heading has one of the four index words.
unfoldable pub shape_fault : ℕ → ℕ → Bool → Words → ℕ
shape_fault l r i ws = cond (rule_shape l r ws) (cond (any_of (malformed i) (drop (l + 1) ws)) 8 0) 6

unfoldable pub rule_fault : Heading → Words → ℕ
rule_fault h ws = shape_fault (length h.columns) (length h.components) (has_word h.index) ws

-- "rule before any set heading, or after a group line with no new heading"
unfoldable pub orphans : List Rule → List Refusal
orphans rs = map (λ r. record { number = 6; place = r.number }) rs

-- "group defined twice, or a 65th": 10
unfoldable pub head_faults : Groups → ℕ → Head → List Rule → List Refusal
head_faults gs n (bad k) rs = record { number = k; place = n } ∷ orphans rs
head_faults gs n (defines g ms) rs = refused_if (defined gs g || leb most_groups (length gs)) 10 n ++ orphans rs
head_faults gs n (applies h) rs = concat_map (λ r. refused_as (rule_fault h r.text) r.number) rs

unfoldable pub faults : Groups → List Section → List Refusal
faults gs [] = []
faults gs (s ∷ ss) = head_faults gs s.number s.head s.rules ++ faults (with_group s.head gs) ss

unfoldable pub line_faults : Text → List Refusal
line_faults f = let s = sections (lines f) in orphans s.0 ++ faults [] s.1

-- "3, then the first bad line". "All lines are checked, also in sets that don't apply."
unfoldable pub file_refusals : Text → List Refusal
file_refusals f = refused_if (ltb longest_file (length f)) 3 0 ++ line_faults f
