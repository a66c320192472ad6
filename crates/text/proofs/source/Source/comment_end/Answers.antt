use borrow.Author.Tests.{tests}
use Rattle.std.proofs.Common.{rules}
use Rattle.std.proofs.lemmas.Iterator.{IsFirst-from_position, YieldsList-from_slice}
use Rattle.text.proofs.Firsts.{tail}
use Rattle.text.proofs.Readers.{NoFeed, IsFeed, comment_some, comment_none}
use Rattle.text.proofs.source.Source.comment_end.Goals as goal

pub returns-in-Some : goal.returns-in-Some
returns-in-Some c =
    let first = IsFirst-from_position _ _ _ IsFeed NoFeed c.position.ensures.ran (YieldsList-from_slice (tail c.args.self.now.bytes.now c.args.from) cc) (λ x q k. search (rules, tests)) (λ x q k. search (rules, tests)) in
    comment_some _ _ c.requires _ _ c.in-Some.is first

pub returns-in-None : goal.returns-in-None
returns-in-None c =
    let first = IsFirst-from_position _ _ _ IsFeed NoFeed c.position.ensures.ran (YieldsList-from_slice (tail c.args.self.now.bytes.now c.args.from) cc) (λ x q k. search (rules, tests)) (λ x q k. search (rules, tests)) in
    comment_none _ _ c.requires _ c.in-None.is first
