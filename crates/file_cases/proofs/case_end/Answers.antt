use mathlib.Core.Path.{◌≡◌}
use mathlib.Core.Bool.{true, false}
use borrow.Author.Rules.{rules}
use borrow.Author.Tests.{tests}
use Rattle.std.proofs.lemmas.Iterator.{first_from_Range}
use Rattle.file_cases.specs.Cases.{separates}
use Rattle.file_cases.proofs.Cases.{first_separator}
use Rattle.file_cases.proofs.case_end.Goals as goal

pub returns : goal.returns
returns c =
    let s = c.args.s.now in
    first_separator s _ _ (first_from_Range _ _ _ _ (λ i. separates s i ≡ true) (λ i. separates s i ≡ false) c.find.ensures.ran (λ x q k. search (rules, tests)) (λ x q k. search (rules, tests))) c.unwrap_or.ensures
