-- The lines of a file, judged one by one: what is carried from line to line are the names of the groups so far, and the present heading.
use Rattle.std.specs.Prelude.{ℕ, ◌+◌, List, [], ◌∷◌, ◌++◌, Bool, true, false, not, ◌||◌, ◌&&◌, cond, length, get_or, take, eqb, leb}
use Rattle.text.specs.declared.Refusal.{Refusal}
use Rattle.text.specs.Limits.{most_groups}
use Rattle.text.specs.Bytes.{Text, Words, same, all_of, any_of}
use Rattle.text.specs.Refusals.{refused_as}
use Rattle.text.specs.Lines.{Line}
use Rattle.rules.specs.declared.Form.{Form}
use Rattle.rules.specs.declared.Form.TheVariants as form
use Rattle.rules.specs.declared.Present.{Present}
use Rattle.rules.specs.declared.Index.{Index}
use Rattle.rules.specs.declared.SetHeading.{SetHeading}
use Rattle.rules.specs.Words.{is_equals, ordinary, left_word}
use Rattle.rules.specs.Percent.{malformed}
use Rattle.rules.specs.Headings.{Heading, has_word}
use Rattle.rules.specs.Entries.{Entry, ignored, wrong, group, set as set_of, rule, entry_of}
use Rattle.rules.specs.Faults.{shape_fault}

abbrev pub line_of : ℕ → Bool → Words → Line
line_of n h ws = record { number = n; is_heading = h; text = ws }

abbrev pub no_heading : Present
no_heading = record { form = form.Absent; left = 0; right = 0 }

unfoldable pub form_of : Index → Form
form_of i = cond (has_word i) form.Indexed form.Plain

unfoldable pub is_absent : Form → Bool
is_absent form.Absent = true
is_absent form.Plain = false
is_absent form.Indexed = false

unfoldable pub is_indexed : Form → Bool
is_indexed form.Absent = false
is_indexed form.Plain = false
is_indexed form.Indexed = true

unfoldable pub present_of : Heading → Present
present_of h = record { form = form_of h.index; left = length h.columns; right = length h.components }

-- the same of a heading as it is read
abbrev pub present_by : SetHeading → Present
present_by h = record { form = form_of h.index; left = h.columns.count; right = h.components.count }

-- a rule's right words
unfoldable pub right_fault : Bool → Words → ℕ
right_fault i ws = cond (all_of ordinary ws) (cond (any_of (malformed i) ws) 8 0) 6

-- there is a heading, and before its right words a rule has what the heading asks for
unfoldable pub has_left : Present → Words → Bool
has_left p ws =
    not (is_absent p.form) && (eqb (length ws) (p.left + 1 + p.right) && (all_of left_word (take p.left ws) && is_equals (get_or ws p.left [])))

-- a rule under the present heading
unfoldable pub present_fault : Present → Words → ℕ
present_fault p ws = cond (is_absent p.form) 6 (shape_fault p.left p.right (is_indexed p.form) ws)

-- the refusal of a line, or 0
unfoldable pub line_fault : List Text → Present → Entry → ℕ
line_fault ns p ignored = 0
line_fault ns p (wrong k) = k
line_fault ns p (group g ms) = cond (any_of (same g) ns || leb most_groups (length ns)) 10 0
line_fault ns p (set_of h) = 0
line_fault ns p (rule ws) = present_fault p ws

-- what is carried on
unfoldable pub present_after : Present → Entry → Present
present_after p ignored = p
present_after p (wrong k) = no_heading
present_after p (group g ms) = no_heading
present_after p (set_of h) = present_of h
present_after p (rule ws) = p

unfoldable pub names_after : List Text → Entry → List Text
names_after ns ignored = ns
names_after ns (wrong k) = ns
names_after ns (group g ms) = g ∷ ns
names_after ns (set_of h) = ns
names_after ns (rule ws) = ns

unfoldable pub check_from : List Text → Present → List Line → List Refusal
check_from ns p [] = []
check_from ns p (l ∷ ls) =
    refused_as (line_fault ns p (entry_of l)) l.number ++ check_from (names_after ns (entry_of l)) (present_after p (entry_of l)) ls
