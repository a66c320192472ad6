use Rattle.std.proofs.Common.{◌≡◌, true, [], ◌∷◌, refl, arith}
use Rattle.text.specs.Bytes.{first}
use Rattle.rules.specs.Words.{has_dollar}
use Rattle.names.proofs.Defining.{room_for_name}
use Rattle.resolver.proofs.Resolves.{profile_clear}
use Rattle.calls.proofs.tests.groups.Goals as goal

own : has_dollar (36 ∷ 111 ∷ 119 ∷ 110 ∷ []) ≡ true
unfolding has_dollar first
own = refl

pub compile-requires : goal.compile-requires
compile-requires g c = profile_clear _ c.in_ok-check.ensures

pub define_group-requires : goal.define_group-requires
define_group-requires g c = (room_for_name _ c.compile.new.self c.compile.ensures.1.room (omega arith), own)

pub define_group-requires-2 : goal.define_group-requires-2
define_group-requires-2 g c = (room_for_name _ c.define_group.new.self (c.define_group.ensures.room (omega arith) c.compile.ensures.1.room) (omega arith), own)
