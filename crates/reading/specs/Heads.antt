-- A heading read: a set is opened, or a group defined.
use Rattle.std.specs.Prelude.{◌≤◌, ◌<◌, ◌≡◌, Bool, true, length, Result, Ok, Err, IsErr}
use Rattle.text.specs.declared.Spot.{Spot}
use Rattle.text.specs.declared.faults.Refusal.{Refusal}
use Rattle.text.specs.Bytes.{Text}
use Rattle.text.specs.Reading.{left, ahead, Opens}
use Rattle.names.specs.declared.Names.{Names}
use Rattle.judging.specs.declared.FirstWord.{FirstWord}
use Rattle.judging.specs.Groups.{line_words}
use Rattle.reading.specs.declared.Reading.{Reading}
use Rattle.reading.specs.Opening.{closed_set}
use Rattle.reading.specs.States.{NamesKept, Sound}
use Rattle.reading.specs.Steps.{Stepped}

-- the next line is a heading, whose words begin at `words`, and no set is being read
pub record AtHeading (s : Text) (r : Reading) (words : Spot) : Type 0 where
  pub inside : r.at.at < length s
  pub opens : Opens s r.at.at r.at.line true words.at words.line
  pub closed : r.set ≡ closed_set r.set.present r.set.set

-- the next line is a group line, whose first word is x, and no set is being read
pub record AtGroup (s : Text) (r : Reading) (x : FirstWord) : Type 0 where
  pub from : Spot
  pub heading : AtHeading s r from
  pub words : left s from.at ≡ line_words s x
  pub onto : ahead s from.at from.line ≡ ahead s x.end.at x.end.line
  pub low : from.at ≤ x.end.at

-- a heading that is not refused: there is more to read
abbrev pub going : Result (Unit {0}) Refusal → Result Bool Refusal
going (Ok u) = Ok true
going (Err e) = Err e

-- A group is defined, or a set opened; or it is refused, and nothing is changed. Where rules were held to at most four columns, they still are. The scratch and
-- the buffer are not looked at.
pub record HeadRead (s : Text) (names names' : Names) (r r' : Reading) (o : Result (Unit {0}) Refusal) : Type 0 where
  pub kept : NamesKept names names'
  pub refused : IsErr o → (names' ≡ names) × (r' ≡ r)
  pub left : r.set.set.columns.count ≤ 4 → r'.set.set.columns.count ≤ 4
  pub steps : (x w : Text) → Sound s names x w r → Stepped s names names' x x w w r r' (going o)
