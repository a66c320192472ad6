use borrow.Author.Rules.{rules}
use borrow.Author.Tests.{tests}
use mathlib.Core.Path.{refl}
use Rattle.std.proofs.lemmas.Iterator.{YieldsList-from_slice}
use Rattle.std.proofs.lemmas.Iterator.Search.{position_from_yields_List}
use Rattle.xkbresolve.proofs.Cuts.{is_feed, stripped, split_some, split_none}
use Rattle.xkbresolve.proofs.input.split_line.Goals as goal

pub returns-in-Some : goal.returns-in-Some
returns-in-Some c =
    split_some c.args.s.now _ (position_from_yields_List is_feed _ _ _ c.position.ensures.ran (YieldsList-from_slice c.args.s.now cc) (λ x b q k. search (rules, tests))) _ c.in-Some.is _
    (stripped _ _ _ _ c.strip_suffix.ensures.cases c.unwrap_or.ensures refl)

pub returns-in-None : goal.returns-in-None
returns-in-None c =
    split_none c.args.s.now _ (position_from_yields_List is_feed _ _ _ c.position.ensures.ran (YieldsList-from_slice c.args.s.now cc) (λ x b q k. search (rules, tests))) c.in-None.is
