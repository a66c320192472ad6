use Rattle.std.proofs.Common.{refl, arith}
use Rattle.rules.proofs.HeldHeadings.{columns_length}
use Rattle.calls.proofs.tests.before_heading.Goals as goal

pub returns : goal.returns
returns c = (
  refl,
  rw c.closed.ensures (record { columns = rw (columns_length _) (omega arith); left = omega arith; right = omega arith; heading = λ f. absurd (f refl) }),
)
