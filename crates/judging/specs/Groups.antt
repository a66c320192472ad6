-- A group line, judged and looked up as it is read.
use Rattle.std.specs.Prelude.{ℕ, ◌+◌, ◌≤◌, ◌<◌, ◌≡◌, [], ◌∷◌, true, false, length, get_or, drop, Option, Some, None}
use Rattle.text.specs.Bytes.{Text, Words, rest, part, all_of}
use Rattle.text.specs.Words.{words_fault}
use Rattle.text.specs.declared.faults.Fault.{Fault}
use Rattle.text.specs.Told.{number_of, fault_number}
use Rattle.text.specs.Reading.{left, fault_of, FoundWord, Passed}
use Rattle.rules.specs.Words.{has_dollar, ordinary as ordinary_word}
use Rattle.rules.specs.Entries.{wrong as wrong_as, group, entry_of}
use Rattle.rules.specs.Checking.{line_of}
use Rattle.names.specs.declared.table.Table.{Table}
use Rattle.names.specs.Compiled.{Joined}
use Rattle.judging.specs.declared.FirstWord.{FirstWord}
use Rattle.judging.specs.declared.Members.{Members}
use Rattle.judging.specs.declared.GroupLine.{GroupLine}

-- x is the next word from `from` on, in the physical line n, and begins with `$`
pub record DollarFound (s : Text) (from n : ℕ) (x : FirstWord) : Type 0 where
  pub word : FoundWord s from n x.start x.end.at x.end.line (fault_number x.fault)
  pub yes : has_dollar (part s x.start x.end.at) ≡ true

-- the first word of a line from `from` on, in the physical line n, if it begins with `$`
abbrev pub FirstWordAt : Text → ℕ → ℕ → Option FirstWord → Type 0
FirstWordAt s from n (Some x) = DollarFound s from n x
FirstWordAt s from n None = has_dollar (get_or (left s from) 0 []) ≡ false

-- a word that begins with `$`
pub record DollarWord (s : Text) (x : FirstWord) : Type 0 where
  pub some : x.start < x.end.at
  pub high : x.end.at ≤ length s
  pub few : x.end.line ≤ x.end.at + 1
  pub fault : fault_number x.fault ≡ fault_of (part s x.start x.end.at)
  pub yes : has_dollar (part s x.start x.end.at) ≡ true

-- the words from `at` on, in the physical line n
pub record MembersOf (s : Text) (at n : ℕ) (t : Table) (r : Members) : Type 0 where
  pub fault : fault_number r.fault ≡ words_fault (left s at)
  pub ordinary : r.ordinary ≡ all_of ordinary_word (left s at)
  pub joined : Joined t (left s at) r.row
  pub passed : Passed s at n r.next.at r.next.line

-- the words of the line, and of the group
abbrev pub line_words : Text → FirstWord → Words
line_words s x = part s x.start x.end.at ∷ left s x.end.at

abbrev pub members_in : Text → FirstWord → Words
members_in s x = drop 1 (left s x.end.at)

-- the heading whose first word is x; `joined` holds also where the line is refused
pub record GroupLineOf (s : Text) (x : FirstWord) (t : Table) (r : GroupLine) : Type 0 where
  pub wrong : (f : Fault) → r.fault ≡ Some f → entry_of (line_of 0 true (line_words s x)) ≡ wrong_as (number_of f)
  pub right : r.fault ≡ None → (entry_of (line_of 0 true (line_words s x)) ≡ group (rest (part s x.start x.end.at)) (members_in s x))
      × (all_of ordinary_word (members_in s x) ≡ true) × Joined t (members_in s x) r.row
  pub joined : Joined t (members_in s x) r.row
  pub on : x.end.at ≤ r.next.at
  pub passed : Passed s x.end.at x.end.line r.next.at r.next.line
