use borrow.Author.Tests.{tests}
use Rattle.std.proofs.Common.{rules}
use Rattle.std.proofs.lemmas.Iterator.{IsFirst-from_position, YieldsList-from_slice}
use Rattle.text.proofs.Firsts.{tail}
use Rattle.text.proofs.Readers.{NoBlank, IsBlank, skipped_first}
use Rattle.text.proofs.source.Source.skip.Goals as goal

pub returns : goal.returns
returns c =
    let s = c.args.self.now.bytes.now in
    let first = IsFirst-from_position _ _ _ NoBlank IsBlank c.position.ensures.ran (YieldsList-from_slice (tail s c.args.from) cc) (λ x q k. search (rules, tests)) (λ x q k. search (rules, tests)) in
    rw c.unwrap_or-blanks.ensures (skipped_first s c.args.from c.requires _ first)
