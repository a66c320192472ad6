-- The examples of document 01, "Checked examples", marked and unmarked, and the one of its program: one table, and one theorem over it by computation.
use Rattle.std.specs.Prelude.{ℕ, ◌≡◌, refl, List, [], ◌∷◌, ◌++◌, map, replicate}
use Prim.Native.String.{String}
use Rattle.text.specs.Bytes.{bytes, same, empty, first, rest, all_of, any_of, concat_map, Text}
use Rattle.text.specs.Lines.{run, words, heading, feeds, inside, lines_of, lines}
use Rattle.text.specs.Marks.{ends_line, class_of, step, marks}
use Rattle.text.specs.Refusals.{refused_if, refused_as}
use Rattle.text.specs.Words.{bad_byte, too_long, words_fault}
use Rattle.profile.specs.Profile.{push, fields, drop_empty, options_of, profile_of, layout_count, Texts, texts_of}
use Rattle.profile.specs.Refusals.{outside, long_field, bad_text, text_refusals, count_refusals, profile_refusals}
use Rattle.rules.specs.Entries.{before, after, set_shape, set_entry, group_entry, heading_entry, rule_entry, entry_of}
use Rattle.rules.specs.Faults.{defined, with_group, left_words, right_words, rule_shape, shape_fault, rule_fault, orphans, head_faults, faults, line_faults, file_refusals}
use Rattle.rules.specs.Headings.{decimal, up_from, numbered_in, index_of, left_item, component_of, columns_in, indexes_in, column_number, index_number, known_item, distinct, alike, first_index, heading_of, good_items, has_word}
use Rattle.rules.specs.Percent.{which_of, variable_of, which_length, variable_length, is_prefix, in_parens, piece_after, piece_length, pieces, bad_which, bad_variable, bad_piece, malformed}
use Rattle.rules.specs.Sections.{add_entry, sections}
use Rattle.rules.specs.Words.{is_equals, is_star, has_dollar, ordinary, is_group_name, left_word}
use Rattle.values.specs.Spread.{is_sign, signed, cuts, ends_all, stem, copy, copies, spread, expanded}
use Rattle.values.specs.Values.{choose, value_of, piece_text, filled}
use Rattle.answers.specs.Answer.{texts_from, ten_texts, sum, joined, total, no_room, refusals, first_of, answer, Answer, refused, accepted, number_of, place_of}
use Rattle.answers.specs.Components.{values_of, base, additions}
use Rattle.answers.specs.Firings.{fired, rule_fires, fires_at, set_fires, rule_by_rule, head_fires, firings, file_firings}
use Rattle.answers.specs.Layouts.{layouts_at, per_layout, layouts_of}
use Rattle.answers.specs.Matching.{members, word_matches, value_matches, column_matches, rule_matches, is_options}

-- the five strings, or the number and the place
pub data Outcome : Type 0 where
  strings : List Text → Outcome
  refusal : ℕ → ℕ → Outcome

-- base and additions together
unfoldable pub pairs : List Text → List Text
pairs [] = []
pairs (b ∷ []) = []
pairs (b ∷ a ∷ r) = (b ++ a) ∷ pairs r

unfoldable pub outcome : Answer → Outcome
outcome (accepted ts) = strings (pairs ts)
outcome (refused r) = refusal (number_of (refused r)) (place_of (refused r))

-- the buffer's length, the file and the four texts
pub record Example : Type 0 where
  pub room : ℕ
  pub file : Text
  pub profile : Texts
  pub wanted : Outcome

unfoldable pub resolved : Example → Outcome
resolved e = outcome (answer e.room e.file e.profile)

-- layouts and variants, with no model and no options
unfoldable pub profile : String → String → Texts
profile l v = texts_of [] (bytes l) (bytes v) []

-- symbols for the layouts, with room enough
unfoldable pub symbols : String → String → String → String → Example
symbols f l v w = record { room = 65536; file = bytes f; profile = profile l v; wanted = strings ([] ∷ [] ∷ [] ∷ bytes w ∷ [] ∷ []) }

-- the same for a buffer of a given length, where the outcome is given
unfoldable pub within : ℕ → String → Outcome → Example
within n f w = record { room = n; file = bytes f; profile = profile "us" ""; wanted = w }

-- the same for a number of layouts
unfoldable pub layouts : String → Outcome → Example
layouts l w = record { room = 65536; file = bytes "! model = symbols\n* = a\n"; profile = profile l ""; wanted = w }

-- the same for a word of n bytes
unfoldable pub word : ℕ → Outcome → Example
word n w = record { room = 65536; file = bytes "! model = symbols\n* = " ++ replicate n 97; profile = profile "us" ""; wanted = w }

-- the program's example
unfoldable pub program : Example
program =
    record {
      room = 65536;
      file = bytes "! $west = fr be\n! model = keycodes\ndesk9 = desk(nine)\n* = evdev\n! layout[first] = symbols\n* = pc+%l[%i]%(v[%i])\n! layout[later] = symbols\n$west = +%l[%i]%(v[%i]):%i\n! layout = types\n* = complete\n! option = symbols types\nctrl:nocaps = +ctrl(nocaps):all |caps\n";
      profile = texts_of (bytes "pc") (bytes "us,fr") (bytes ",bepo") (bytes "ctrl:nocaps");
      wanted = strings (bytes "evdev" ∷ bytes "|caps" ∷ [] ∷ bytes "pc+us+fr(bepo):2+ctrl(nocaps):1+ctrl(nocaps):2" ∷ [] ∷ []);
    }

unfoldable pub examples : List Example
examples =
    symbols "! layout = symbols\n* = pc+%l%(v)\n" "us" "" "pc+us" ∷
    symbols "! layout = symbols\n* = pc+%l%(v)\n" "us" "intl" "pc+us(intl)" ∷
    symbols "! layout[1] = symbols\n* = pc+%l[1]%(v[1])\n! layout[2] = symbols\n* = +%l[2]%(v[2]):2\n! layout[3] = symbols\n* = +%l[3]%(v[3]):3\n" "us,es,fr" "intl,,bepo" "pc+us(intl)+es:2+fr(bepo):3" ∷
    symbols "! model = symbols\n* = x:all\n" "us" "" "x:1" ∷
    symbols "! model = symbols\n* = x:all\n" "us,fr" "" "x:1+x:2" ∷
    symbols "! model = symbols\n* = |x:all\n" "us,fr,de,es" "" "|x:1|x:2|x:3|x:4" ∷
    symbols "! model = symbols\n* = x|y:all\n" "us,fr,de" "" "x|y:1|y:2|y:3" ∷
    symbols "! model = symbols\n* = x:all+y|z:all\n" "us,fr" "" "x:1+x:2+y|z:1|z:2" ∷
    symbols "! model = symbols\n* = +foo\n! model = symbols\n* = bar\n" "us" "" "bar+foo" ∷
    symbols "! model = symbols\n* = foo\n! model = symbols\n* = bar\n" "us" "" "foo" ∷
    symbols "! model = symbols\n* = +a\n! model = symbols\n* = b\n! model = symbols\n* = +c\n" "us" "" "b+a+c" ∷
    symbols "! model = symbols\n* = %l[1]\n" "us" "" "" ∷
    symbols "! model = symbols\n* = %l\n" "us,il" "" "" ∷
    within 5 "! model = symbols\n* = ab+cd\n" (strings ([] ∷ [] ∷ [] ∷ bytes "ab+cd" ∷ [] ∷ [])) ∷
    within 4 "! model = symbols\n* = ab+cd\n" (refusal 11 0) ∷
    layouts "us,fr,de,es" (strings ([] ∷ [] ∷ [] ∷ bytes "a" ∷ [] ∷ [])) ∷
    layouts "us,fr,de,es,it" (refusal 2 2) ∷
    word 256 (strings ([] ∷ [] ∷ [] ∷ replicate 256 97 ∷ [] ∷ [])) ∷
    word 257 (refusal 5 2) ∷
    symbols "" "us" "" "" ∷
    program ∷ []

pub checked : map resolved examples ≡ map (λ e. e.wanted) examples
unfolding examples symbols within layouts word program profile resolved outcome pairs bytes same empty first rest all_of any_of concat_map run words heading feeds inside lines_of lines class_of step marks refused_if refused_as bad_byte too_long words_fault push fields drop_empty options_of profile_of layout_count outside long_field bad_text text_refusals count_refusals profile_refusals before after set_shape set_entry group_entry heading_entry rule_entry entry_of defined with_group left_words right_words rule_shape shape_fault rule_fault orphans head_faults faults line_faults file_refusals decimal up_from numbered_in index_of left_item component_of columns_in indexes_in column_number index_number known_item distinct alike first_index heading_of good_items has_word which_of variable_of which_length variable_length is_prefix in_parens piece_after piece_length pieces bad_which bad_variable bad_piece malformed add_entry sections is_equals is_star has_dollar ordinary is_group_name left_word is_sign signed cuts ends_all stem copy copies spread expanded choose value_of piece_text filled texts_from ten_texts sum joined total no_room refusals first_of answer number_of place_of values_of base additions fired rule_fires fires_at set_fires rule_by_rule head_fires firings file_firings layouts_at per_layout layouts_of members word_matches value_matches column_matches rule_matches is_options ends_line
checked = refl
