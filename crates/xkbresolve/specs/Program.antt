-- The program: what it reads and what it prints. Document 01, "Checked examples"; document 02, #103.
use Rattle.std.specs.Prelude.{ℕ, zero, suc, ◌+◌, ◌*◌, ◌/◌, ◌%◌, List, [], ◌∷◌, ◌++◌, cond, length, take, get_or, eqb, ltb}
use Rattle.text.specs.Limits.{longest_file}
use Rattle.text.specs.Bytes.{Text, bytes, first}
use Rattle.text.specs.Marks.{ends_line}
use Rattle.profile.specs.Profile.{Texts, texts_of}
use Rattle.answers.specs.Answer.{Answer, refused, accepted, answer, stretch}

-- a text up to its first line end ("The program drops a CR directly before LF in its four text lines too."), and what stands behind its first LF
unfoldable pub first_line : Text → Text
first_line [] = []
first_line (b ∷ s) = let r = first_line s in cond (ends_line b (first s)) [] (b ∷ r)

unfoldable pub later_lines : Text → Text
later_lines [] = []
later_lines (b ∷ s) = let r = later_lines s in cond (eqb b 10) s r

-- "four lines for the texts, then the rules (its line 1 is the fifth). Missing lines are empty."
unfoldable pub input_texts : Text → Texts
input_texts s = texts_of (first_line s) (first_line (later_lines s)) (first_line (later_lines (later_lines s))) (first_line (later_lines (later_lines (later_lines s))))

unfoldable pub input_rules : Text → Text
input_rules s = later_lines (later_lines (later_lines (later_lines s)))

-- "It lends 65,536 bytes for the texts."
abbrev pub lent_room : ℕ
lent_room = 65536

-- "Over 65,536 bytes of input in all it prints `refused 3 at 0` and looks at nothing else."
unfoldable pub input_answer : Text → Answer
input_answer s = cond (ltb longest_file (length s)) (refused (record { number = 3; place = 0 })) (answer lent_room (input_rules s) (input_texts s))

-- a number in decimal, without leading zeros: in at most n digits, and in as many as it needs
unfoldable pub digits : ℕ → ℕ → Text
digits zero k = []
digits (suc n) k = let r = digits n (k / 10) in cond (ltb k 10) ((48 + k) ∷ []) (r ++ ((48 + k % 10) ∷ []))

unfoldable pub in_decimal : ℕ → Text
in_decimal k = digits (suc k) k

-- "A refusal prints one line, as `refused 6 at 2`, with number and place."
unfoldable pub refusal_line : ℕ → ℕ → Text
refusal_line n p = bytes "refused " ++ (in_decimal n ++ (bytes " at " ++ (in_decimal p ++ (10 ∷ []))))

-- "it prints, whole": a line for each component, base and additions together
abbrev pub names : List Text
names = bytes "keycodes=" ∷ bytes "types=" ∷ bytes "compat=" ∷ bytes "symbols=" ∷ bytes "geometry=" ∷ []

unfoldable pub component_line : Text → Text → Text
component_line name v = name ++ (v ++ (10 ∷ []))

-- from component c on
unfoldable pub component_lines : List Text → ℕ → List Text → Text
component_lines [] c ts = []
component_lines (n ∷ ns) c ts = component_line n (get_or ts (2 * c) [] ++ get_or ts (2 * c + 1) []) ++ component_lines ns (c + 1) ts

unfoldable pub printed : Answer → Text
printed (refused r) = refusal_line r.number r.place
printed (accepted ts) = component_lines names 0 ts

-- the same lines, read out of a buffer d that holds texts of the lengths ls
unfoldable pub stretch_lines : List Text → ℕ → Text → List ℕ → Text
stretch_lines [] c d ls = []
stretch_lines (n ∷ ns) c d ls = component_line n (stretch d ls c) ++ stretch_lines ns (c + 1) d ls

-- room for all that can be printed
abbrev pub most_printed : ℕ
most_printed = 65600

-- what a page has room for of a text
unfoldable pub on_page : Text → Text
on_page t = take most_printed t
