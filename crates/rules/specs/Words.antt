-- Kinds of words. Document 01, "Lines and words".
use Rattle.std.specs.Prelude.{[], ◌∷◌, Bool, not, ◌||◌, ◌&&◌, eqb}
use Rattle.text.specs.Bytes.{Text, same, empty, first, rest}

unfoldable pub is_equals : Text → Bool
is_equals w = same w (61 ∷ [])

unfoldable pub is_star : Text → Bool
is_star w = same w (42 ∷ [])

unfoldable pub has_dollar : Text → Bool
has_dollar w = eqb (first w) 36

-- "An ordinary word isn't `=` and doesn't begin with `!`, `$` or `*`."
unfoldable pub ordinary : Text → Bool
ordinary w = not (is_equals w || (eqb (first w) 33 || (has_dollar w || eqb (first w) 42)))

-- "`$name` with a name that isn't empty"
unfoldable pub is_group_name : Text → Bool
is_group_name w = has_dollar w && not (empty (rest w))

-- "Left words are ordinary, `*`, or `$name` with a name that isn't empty."
unfoldable pub left_word : Text → Bool
left_word w = ordinary w || (is_star w || is_group_name w)
