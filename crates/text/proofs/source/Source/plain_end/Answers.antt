use borrow.Author.Tests.{tests}
use Rattle.std.proofs.Common.{rules}
use Rattle.text.proofs.Readers.{plain_inside, plain_whole}
use Rattle.text.proofs.source.Source.plain_end.Goals as goal

pub run_end-end-requires : goal.run_end-end-requires
run_end-end-requires c = (plain_inside _ _ c.args.most _ c.args.self.now.fenced c.requires.0 c.requires.2, c.requires.1)

pub returns : goal.returns
returns c = plain_whole _ _ _ _ c.args.self.now.fenced c.requires.0 c.requires.2 _ c.run_end-end.ensures.0 c.run_end-end.ensures.1 (search (rules, tests)) (search (rules, tests))
