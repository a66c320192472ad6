use native.Mathlib.Omega.{arith}
use Rattle.card.proofs.ReadLoops.{profile_held}
use Rattle.card.proofs.reading.Sections.profile.Goals as goal

pub returns : goal.returns
returns c = profile_held c.args.self.now.texts (omega arith)
