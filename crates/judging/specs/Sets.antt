-- The heading of a set, judged and read at once.
use Rattle.std.specs.Prelude.{ℕ, ◌≤◌, ◌≡◌, true, Result, Ok, Err}
use Rattle.text.specs.declared.faults.Fault.{Fault}
use Rattle.text.specs.Bytes.{Text}
use Rattle.text.specs.Told.{number_of}
use Rattle.text.specs.Reading.{left, Passed}
use Rattle.rules.specs.declared.SetHeading.{SetHeading}
use Rattle.rules.specs.Entries.{Entry, wrong as wrong_as, set as set_of, entry_of}
use Rattle.rules.specs.Checking.{line_of}
use Rattle.rules.specs.Held.{heading_by, SetSized, FromOne}
use Rattle.judging.specs.declared.SetLine.{SetLine}

-- the line is the heading h of a set
pub record SetIs (e : Entry) (h : SetHeading) : Type 0 where
  pub is : e ≡ set_of (heading_by h)
  pub sized : SetSized h
  pub index : FromOne h.index

-- a line that is a set's heading, or refused
abbrev pub SetOf : Entry → Result SetHeading Fault → Type 0
SetOf e (Ok h) = SetIs e h
SetOf e (Err f) = e ≡ wrong_as (number_of f)

-- the heading whose words begin at `from`, in the physical line m, with the lines after it
pub record SetLineOf (s : Text) (from m : ℕ) (r : SetLine) : Type 0 where
  pub set : SetOf (entry_of (line_of 0 true (left s from))) r.set
  pub on : from ≤ r.next.at
  pub passed : Passed s from m r.next.at r.next.line
