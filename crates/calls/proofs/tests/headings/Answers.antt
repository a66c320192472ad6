use Rattle.resolver.proofs.Resolves.{profile_clear}
use Rattle.calls.proofs.tests.headings.Goals as goal

pub compile-requires : goal.compile-requires
compile-requires g c = profile_clear _ c.in_ok-check.ensures
