-- A resolve's answer as the code gives it, a Result, as an outcome.
use Rattle.std.specs.Prelude.{ℕ, List, replicate, Result, Ok, Err}
use Rattle.text.specs.declared.faults.Refusal.{Refusal as Refused}
use Rattle.text.specs.Told.{number_of}
use Rattle.answers.specs.declared.Outcome.{Outcome}

-- "A refusal has ten zero lengths"
abbrev pub outcome_told : Result (List ℕ) Refused → Outcome
outcome_told (Ok ns) = record { number = 0; place = 0; lengths = ns }
outcome_told (Err r) = record { number = number_of r.fault; place = r.place; lengths = replicate 10 0 }
