use borrow.Author.Tests.{tests}
use mathlib.Core.Path.{◌∙◌}
use Rattle.std.proofs.Common.{rules}
use Rattle.std.proofs.lemmas.Iterator.{YieldsList-from_slice}
use Rattle.std.proofs.lemmas.Iterator.Search.{any_from_yields_List}
use Rattle.text.specs.Words.{bad_byte}
use Rattle.text.proofs.Lists.{any_is}
use Rattle.text.proofs.source.any_bad.Goals as goal

pub returns : goal.returns
returns c = any_from_yields_List bad_byte _ _ _ c.any.ensures.ran (YieldsList-from_slice c.args.w.now cc) (λ x b q k. search (rules, tests)) ∙ any_is bad_byte c.args.w.now
