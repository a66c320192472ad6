use borrow.Author.Tests.{tests}
use Rattle.std.proofs.Common.{rules}
use Rattle.text.proofs.Readers.{fast_start, fast_more, fast_two, fast_three, fast_four, fast_stop, fence_in}
use Rattle.text.proofs.source.Source.run_end.Goals as goal

pub loop-s-init : goal.loop-s-init
loop-s-init c = fast_start _ _ _ _ c.args.self.now.fenced c.requires.0

pub bounds-s-i-in-loop-s : goal.bounds-s-i-in-loop-s
bounds-s-i-in-loop-s c = fence_in _ _ _ c.args.self.now.fenced (fast_more _ _ _ _ _ c.args.self.now.fenced c.requires.1 c.loop-s.invariant (search (rules, tests))).inside

pub returns-then-lt-2 : goal.returns-then-lt-2
returns-then-lt-2 c = fast_stop _ _ _ _ _ (fast_more _ _ _ _ _ c.args.self.now.fenced c.requires.1 c.loop-s.invariant (search (rules, tests))) (search (rules, tests))

pub bounds-s-i-in-loop-s-2 : goal.bounds-s-i-in-loop-s-2
bounds-s-i-in-loop-s-2 c = fence_in _ _ _ c.args.self.now.fenced (fast_two _ _ _ _ _ c.args.self.now.fenced c.requires.1 c.loop-s.invariant (search (rules, tests)) (search (rules, tests))).inside

pub returns-then-lt-3 : goal.returns-then-lt-3
returns-then-lt-3 c = fast_stop _ _ _ _ _ (fast_two _ _ _ _ _ c.args.self.now.fenced c.requires.1 c.loop-s.invariant (search (rules, tests)) (search (rules, tests))) (search (rules, tests))

pub bounds-s-i-in-loop-s-3 : goal.bounds-s-i-in-loop-s-3
bounds-s-i-in-loop-s-3 c = fence_in _ _ _ c.args.self.now.fenced (fast_three _ _ _ _ _ c.args.self.now.fenced c.requires.1 c.loop-s.invariant (search (rules, tests)) (search (rules, tests)) (search (rules, tests))).inside

pub returns-then-lt-4 : goal.returns-then-lt-4
returns-then-lt-4 c = fast_stop _ _ _ _ _ (fast_three _ _ _ _ _ c.args.self.now.fenced c.requires.1 c.loop-s.invariant (search (rules, tests)) (search (rules, tests)) (search (rules, tests))) (search (rules, tests))

pub loop-s-preserved : goal.loop-s-preserved
loop-s-preserved c = fast_four _ _ _ _ _ c.args.self.now.fenced c.requires.1 c.loop-s.invariant (search (rules, tests)) (search (rules, tests)) (search (rules, tests)) (search (rules, tests))
