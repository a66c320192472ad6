use borrow.Author.Tests.{tests}
use Rattle.std.proofs.Common.{rules}
use Rattle.text.proofs.Readers.{gaps_more, gaps_two, gaps_stop, fence_in}
use Rattle.text.proofs.source.Source.skip_blanks.Goals as goal

pub bounds-s-i-in-loop-s : goal.bounds-s-i-in-loop-s
bounds-s-i-in-loop-s c = fence_in _ _ _ c.args.self.now.fenced (gaps_more _ _ _ _ c.args.self.now.fenced c.loop-s.invariant (search (rules, tests))).inside

pub returns-then-not-is_blank-2 : goal.returns-then-not-is_blank-2
returns-then-not-is_blank-2 c = gaps_stop _ _ _ _ (gaps_more _ _ _ _ c.args.self.now.fenced c.loop-s.invariant (search (rules, tests))) (search (rules, tests))

pub loop-s-preserved : goal.loop-s-preserved
loop-s-preserved c = gaps_two _ _ _ _ c.args.self.now.fenced c.loop-s.invariant (search (rules, tests)) (search (rules, tests))
