-- What a line is by itself. Document 01, "Lines and words", and refusals 4 to 7 and 9.
use Rattle.std.specs.Prelude.{ℕ, [], ◌∷◌, map, Bool, not, ◌&&◌, cond, eqb}
use Rattle.text.specs.Bytes.{Text, Words, bytes, same, empty, rest, all_of, any_of}
use Rattle.text.specs.Lines.{Line}
use Rattle.text.specs.Words.{words_fault}
use Rattle.rules.specs.Words.{is_equals, has_dollar, ordinary, is_group_name}
use Rattle.rules.specs.Headings.{Heading, left_item, component_of, good_items, heading_of}

-- nothing; a refusal that the line alone decides; a group with its words; the heading of a set; a rule
pub data Entry : Type 0 where
  ignored : Entry
  wrong : ℕ → Entry
  group : Text → Words → Entry
  set : Heading → Entry
  rule : Words → Entry

-- the words before the first `=`, and those after it
unfoldable pub before : Words → Words
before [] = []
before (w ∷ ws) = let r = before ws in cond (is_equals w) [] (w ∷ r)

unfoldable pub after : Words → Words
after [] = []
after (w ∷ ws) = let r = after ws in cond (is_equals w) ws r

-- "one or more words, one `=`, one or more words"
unfoldable pub set_shape : Words → Bool
set_shape ws = not (empty (before ws)) && (not (empty (after ws)) && not (any_of is_equals (after ws)))

unfoldable pub set_entry : Words → Entry
set_entry ws =
    let ls = map left_item (before ws) in
    let rs = map component_of (after ws) in
    cond (set_shape ws) (cond (good_items ls rs) (set (heading_of ls rs)) (wrong 7)) (wrong 6)

-- "Group line: `! $name =` and any number of ordinary words. The name is not empty."
unfoldable pub group_entry : Text → Words → Entry
group_entry n [] = wrong 6
group_entry n (e ∷ ws) = cond (is_group_name n && (is_equals e && all_of ordinary ws)) (group (rest n) ws) (wrong 6)

-- "A heading without words is refused as 6". "heading that begins with a `$` word and is no group line": 6. "heading whose first word is `include`": 9
unfoldable pub heading_entry : Words → Entry
heading_entry [] = wrong 6
heading_entry (w ∷ ws) = cond (has_dollar w) (group_entry w ws) (cond (same w (bytes "include")) (wrong 9) (set_entry (w ∷ ws)))

-- "any other line without words is ignored"
unfoldable pub rule_entry : Words → Entry
rule_entry [] = ignored
rule_entry (w ∷ ws) = rule (w ∷ ws)

-- the line's lowest number: 4 and 5 before all others
unfoldable pub entry_of : Line → Entry
entry_of l =
    let f = words_fault l.text in
    cond (eqb f 0) (cond l.is_heading (heading_entry l.text) (rule_entry l.text)) (wrong f)
