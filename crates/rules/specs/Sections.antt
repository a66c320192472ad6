-- The sections of a file: each heading with the rules that follow it.
use Rattle.std.specs.Prelude.{ℕ, List, [], ◌∷◌}
use Rattle.text.specs.Bytes.{Text, Words}
use Rattle.text.specs.Lines.{Line}
use Rattle.rules.specs.Headings.{Heading}
use Rattle.rules.specs.Entries.{Entry, ignored, wrong, group, set, rule, entry_of}

pub record Rule : Type 0 where
  pub number : ℕ
  pub text : Words

-- a refused line; a group line; a set's heading
pub data Head : Type 0 where
  bad : ℕ → Head
  defines : Text → Words → Head
  applies : Heading → Head

pub record Section : Type 0 where
  pub number : ℕ
  pub head : Head
  pub rules : List Rule

-- the rules before the first heading, and the sections
abbrev pub Sections : Type 0
Sections = List Rule × List Section

-- a line before what follows it
unfoldable pub add_entry : ℕ → Entry → Sections → Sections
add_entry n ignored s = s
add_entry n (wrong k) s = ([], record { number = n; head = bad k; rules = s.0 } ∷ s.1)
add_entry n (group g ms) s = ([], record { number = n; head = defines g ms; rules = s.0 } ∷ s.1)
add_entry n (set h) s = ([], record { number = n; head = applies h; rules = s.0 } ∷ s.1)
add_entry n (rule ws) s = (record { number = n; text = ws } ∷ s.0, s.1)

unfoldable pub sections : List Line → Sections
sections [] = ([], [])
sections (l ∷ ls) = add_entry l.number (entry_of l) (sections ls)
