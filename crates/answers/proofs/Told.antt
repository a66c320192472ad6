-- What a resolve's Result says of its answer.
use mathlib.Core.Path.{◌≡◌, refl}
use mathlib.Core.List.{List, map}
use lib.ListN.{length}
use Rattle.std.proofs.Common.{Ok, Err}
use Rattle.text.specs.declared.faults.Refusal.{Refusal as Refused}
use Rattle.text.specs.Told.{told_refusal}
use Rattle.text.specs.Bytes.{Text}
use Rattle.answers.specs.Answer.{refused, accepted, number_of, place_of, lengths_of, outcome}
use Rattle.answers.specs.Told.{outcome_told}

pub told_refused : (r : Refused) → outcome_told (Err r) ≡ outcome (refused (told_refusal r))
unfolding outcome number_of place_of lengths_of
told_refused r = refl

pub told_accepted : (ts : List Text) → outcome_told (Ok (map length ts)) ≡ outcome (accepted ts)
unfolding outcome number_of place_of lengths_of
told_accepted ts = refl
