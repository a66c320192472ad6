use Rattle.std.proofs.Common.{length}
use Rattle.file_cases.proofs.report_all.Given as goal

abbrev pub decreases-loop-next : goal.decreases-loop-next
decreases-loop-next l = length l.rest
