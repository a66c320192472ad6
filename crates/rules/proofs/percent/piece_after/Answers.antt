use native.Mathlib.Omega.{arith}
use Rattle.std.proofs.lemmas.Bool.Decides.{nat_tests}
use Rattle.rules.proofs.Pieces.{piece_reads}
use Rattle.rules.proofs.percent.piece_after.Goals as goal
use Rattle.rules.proofs.percent.piece_after.Goals.{in_default-via-then-t-lt1, in_default-via-else-t-lt1+in_default-1}

pub returns-in_default : goal.returns-in_default
returns-in_default c =
    elim c.in_default.branch [
      | in_default-via-then-t-lt1 w ↦ grind (arith, piece_reads, nat_tests)
      | in_default-via-else-t-lt1+in_default-1 w ↦ grind (arith, piece_reads, nat_tests)
    ]
