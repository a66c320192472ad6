use borrow.Author.Tests.{tests}
use Rattle.std.proofs.Common.{rules}
use mathlib.Core.Bool.{true, false}
use mathlib.Core.Path.{◌≡◌}
use Rattle.std.proofs.lemmas.Iterator.{first_from_Range}
use Rattle.text.proofs.Positions.{in_word_at}
use Rattle.text.proofs.Readers.{word_first}
use Rattle.text.proofs.source.Source.word_end.Goals as goal

pub returns : goal.returns
returns c =
    let s = c.args.self.now.bytes.now in
    let first = first_from_Range _ _ _ _ (λ i. in_word_at s i ≡ false) (λ i. in_word_at s i ≡ true) c.find.ensures.ran (λ x q k. search (rules, tests)) (λ x q k. search (rules, tests)) in
    rw c.unwrap_or.ensures (word_first s c.args.from c.requires _ first)
