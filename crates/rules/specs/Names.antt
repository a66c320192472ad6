-- The groups that a file defines and names. Document 01, "How far the promises go".
use Rattle.std.specs.Prelude.{List, [], ◌∷◌, map, cond}
use Rattle.text.specs.Bytes.{Text, Words, rest, concat_map}
use Rattle.text.specs.Lines.{lines}
use Rattle.rules.specs.Words.{is_group_name}
use Rattle.rules.specs.Sections.{Rule, Head, bad, defines, applies, sections}
use Rattle.rules.specs.Faults.{Groups, groups_after, left_words}

-- "a file defines a group by a group line"
unfoldable pub groups_of : Text → Groups
groups_of f = groups_after [] (sections (lines f)).1

unfoldable pub defines_of : Text → List Text
defines_of f = map (λ g. g.name) (groups_of f)

-- the names of the words `$name`
unfoldable pub names_in : Words → List Text
names_in ws = concat_map (λ w. cond (is_group_name w) (rest w ∷ []) []) ws

unfoldable pub head_names : Head → List Rule → List Text
head_names (bad k) rs = []
head_names (defines g ms) rs = g ∷ []
head_names (applies h) rs = concat_map (λ r. names_in (left_words h r.text)) rs

-- "and names one by a group line or by a `$name` as a left word of a rule"
unfoldable pub names_of : Text → List Text
names_of f = concat_map (λ s. head_names s.head s.rules) (sections (lines f)).1
