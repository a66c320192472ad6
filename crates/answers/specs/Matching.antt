-- Whether a rule matches. Document 01, "Which sets apply, and at which layout", its second paragraph.
use Rattle.std.specs.Prelude.{ℕ, ◌-◌, List, [], ◌∷◌, Bool, true, false, not, ◌||◌, ◌&&◌, cond, get_or}
use Rattle.text.specs.Bytes.{Text, Words, same, empty, rest, any_of}
use Rattle.profile.specs.Profile.{Profile}
use Rattle.rules.specs.declared.Column.{Column}
use Rattle.rules.specs.declared.Column.TheVariants as column
use Rattle.rules.specs.Words.{has_dollar, is_star}
use Rattle.rules.specs.Faults.{Groups}

-- the words of a group "defined earlier in the file"; "an undefined group matches nothing"
unfoldable pub members : Groups → Text → Words
members [] n = []
members (g ∷ gs) n = let r = members gs n in cond (same n g.name) g.members r

-- "An ordinary word equals the value. `$name` matches a value that is an element of that group". `look` gives a group's elements.
unfoldable pub word_matches : (Text → Words) → Text → Text → Bool
word_matches look w v = cond (has_dollar w) (any_of (same v) (look (rest w))) (same w v)

-- "`*` always matches for model and option, with no options too; for layout and variant it matches a non-empty value."
-- "An option column matches if any option does".
unfoldable pub value_matches : (Text → Words) → Text → Text → Bool
value_matches look w v = cond (is_star w) (not (empty v)) (word_matches look w v)

unfoldable pub column_matches : (Text → Words) → Profile → ℕ → Column → Text → Bool
column_matches look p k column.Model w = is_star w || word_matches look w p.model
column_matches look p k column.Layout w = value_matches look w (get_or p.layouts (k - 1) [])
column_matches look p k column.Variant w = value_matches look w (get_or p.variants (k - 1) [])
column_matches look p k column.Options w = is_star w || p.any_option (word_matches look w)

-- "A rule matches if every left word does."
unfoldable pub rule_matches : (Text → Words) → Profile → ℕ → List Column → Words → Bool
rule_matches look p k [] ws = true
rule_matches look p k (c ∷ cs) [] = true
rule_matches look p k (c ∷ cs) (w ∷ ws) = column_matches look p k c w && rule_matches look p k cs ws

unfoldable pub is_options : Column → Bool
is_options column.Model = false
is_options column.Layout = false
is_options column.Variant = false
is_options column.Options = true
