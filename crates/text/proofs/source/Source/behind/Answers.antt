use Rattle.text.proofs.Readers.{fence_rest}
use Rattle.text.proofs.source.Source.behind.Goals as goal

pub invariant_of-result : goal.invariant_of-result
invariant_of-result c = record { fenced = fence_rest _ _ _ _ c.args.self.now.fenced c.saturating_sub.ensures }
