use borrow.Author.Rules.{rules}
use borrow.Author.Tests.{tests}
use mathlib.Core.Path.{refl, ◌∙◌}
use mathlib.Core.Bool.{◌||◌}
use Rattle.std.specs.List.{list_any}
use Rattle.std.proofs.lemmas.Iterator.{YieldsList-from_slice}
use Rattle.std.proofs.lemmas.Iterator.Search.{any_from_yields_List}
use Rattle.std.proofs.lemmas.List.Recursion.{same_from_clauses}
use Rattle.text.specs.Bytes.{any_of}
use Rattle.card.specs.Writing.{long_section}
use Rattle.card.proofs.writing.any_long.Goals as goal

pub returns : goal.returns
unfolding any_of long_section
returns c =
    any_from_yields_List long_section _ _ _ c.any.ensures.ran (YieldsList-from_slice c.args.lengths.now cc) (λ x b q k. search (rules, tests)) ∙
    same_from_clauses (list_any long_section) (any_of long_section) (λ x b. long_section x || b) refl (λ x xs. refl) (λ x xs. refl) c.args.lengths.now
