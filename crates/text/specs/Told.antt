-- The code's faults as the numbers of the definitions: 0 where nothing is refused.
use Rattle.std.specs.Prelude.{ℕ, Option, Some, None, Result, Ok, Err}
use Rattle.text.specs.declared.faults.Fault.{Fault}
use Rattle.text.specs.declared.faults.Fault.TheVariants.{BadText, TooMany, LongFile, BadByte, LongWord, BadLine, BadHeading, BadPercent, IncludeLine, BadGroup, NoRoom, BadCard}
use Rattle.text.specs.declared.faults.Refusal.{Refusal as Refused}
use Rattle.text.specs.declared.Refusal.{Refusal}

abbrev pub number_of : Fault → ℕ
number_of BadText = 1
number_of TooMany = 2
number_of LongFile = 3
number_of BadByte = 4
number_of LongWord = 5
number_of BadLine = 6
number_of BadHeading = 7
number_of BadPercent = 8
number_of IncludeLine = 9
number_of BadGroup = 10
number_of NoRoom = 11
number_of BadCard = 16

-- the number of a fault that there may be
abbrev pub fault_number : Option Fault → ℕ
fault_number None = 0
fault_number (Some f) = number_of f

-- the number of what was refused in place of a result
abbrev pub outcome_number : {A : Type 0} → Result A Fault → ℕ
outcome_number (Ok a) = 0
outcome_number (Err f) = number_of f

-- a refusal, or number 0 and place 0
abbrev pub told_refusal : Refused → Refusal
told_refusal r = record { number = number_of r.fault; place = r.place }

abbrev pub told : {A : Type 0} → Result A Refused → Refusal
told (Ok a) = record { number = 0; place = 0 }
told (Err r) = told_refusal r
