use Rattle.profile.proofs.FieldWalk.{Counted}
use Rattle.profile.proofs.fields.field_count.Given as goal

abbrev pub invariant-loop-b : goal.invariant-loop-b
invariant-loop-b l = Counted l.text l.b-index l.count
