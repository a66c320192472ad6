-- A line that may be a rule: what it says of the line, and of the lines after it.
use Rattle.std.specs.Prelude.{ℕ, ◌+◌, ◌≤◌, ◌<◌, ◌≡◌, List, ◌∷◌, true, false, length, Result, Ok, Err}
use Rattle.text.specs.declared.Spot.{Spot}
use Rattle.text.specs.declared.faults.Fault.{Fault}
use Rattle.text.specs.Bytes.{Text}
use Rattle.text.specs.Refusals.{first_refusal}
use Rattle.text.specs.Told.{number_of}
use Rattle.text.specs.Reading.{left, ahead, follow, Passed, Opens}
use Rattle.rules.specs.declared.Present.{Present}
use Rattle.rules.specs.Entries.{entry_of}
use Rattle.rules.specs.Checking.{line_of, line_fault, check_from}
use Rattle.rules.specs.Plain.{Passes}
use Rattle.judging.specs.declared.RuleLine.{RuleLine}
use Rattle.judging.specs.declared.RuleLine.TheVariants as line

-- the rest of a line that is read at one go, and of which nothing is refused: the next line starts at e
pub record RestRead (s : Text) (from : ℕ) (p : Present) (e : ℕ) : Type 0 where
  pub low : from < e
  pub high : e ≤ length s
  pub onto : (m : ℕ) → m ≤ from + 1 → ahead s from m ≡ follow s e (m + 1)
  pub passes : (n : ℕ) → Passes p (entry_of (line_of n false (left s from)))

-- a line begins with a plain byte at r
pub record PlainStart (s : Text) (at r : ℕ) : Type 0 where
  pub opens : (n : ℕ) → n ≤ at + 1 → Opens s at n false r n

-- the rest of a line that is no heading, from the physical line m on, of which nothing is refused
pub record WordsPass (s : Text) (from m : ℕ) (p : Present) (next : Spot) : Type 0 where
  pub fault : (ns : List Text) → line_fault ns p (entry_of (line_of 0 false (left s from))) ≡ 0
  pub passed : Passed s from m next.at next.line

-- the rest of any line that is no heading: its fault, or the start of the next line
abbrev pub WordsJudged : Text → ℕ → ℕ → Present → Result Spot Fault → Type 0
WordsJudged s from m p (Ok next) = WordsPass s from m p next
WordsJudged s from m p (Err f) = (ns : List Text) → line_fault ns p (entry_of (line_of 0 false (left s from))) ≡ number_of f

-- a line that is no heading, of which nothing is refused under the heading p: its words stand from `from` on, in the physical line m
pub record RuleLineRead (s : Text) (at n : ℕ) (p : Present) (from m next n' : ℕ) : Type 0 where
  pub low : at ≤ from
  pub inside : from ≤ length s
  pub few : m ≤ from + 1
  pub on : at < next
  pub high : next ≤ length s
  pub fewer : n' ≤ next + 1
  pub read : follow s at n ≡ line_of n false (left s from) ∷ follow s next n'
  pub onto : ahead s from m ≡ follow s next n'
  pub fault : (ns : List Text) → line_fault ns p (entry_of (line_of n false (left s from))) ≡ 0

-- the line is refused with the number k, whatever groups there are
pub record LineRefused (s : Text) (at n : ℕ) (p : Present) (k : ℕ) : Type 0 where
  pub some : k ≡ 0 → ⊥
  pub first : (ns : List Text) → first_refusal (check_from ns p (follow s at n)) ≡ record { number = k; place = n }

abbrev pub RuleLineOf : Text → ℕ → ℕ → Present → Result RuleLine Fault → Type 0
RuleLineOf s at n p (Ok (line.Read words next)) = RuleLineRead s at n p words.at words.line next.at next.line
RuleLineOf s at n p (Ok (line.Heading words)) = Opens s at n true words.at words.line
RuleLineOf s at n p (Err f) = LineRefused s at n p (number_of f)
