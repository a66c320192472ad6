use Rattle.profile.proofs.FieldWalk.{Walked}
use Rattle.profile.proofs.limits.bad_fields.Given as goal

abbrev pub invariant-loop-i : goal.invariant-loop-i
invariant-loop-i l = Walked l.text l.start l.i
