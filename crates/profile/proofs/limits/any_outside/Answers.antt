use mathlib.Core.Bool.{not}
use Rattle.std.proofs.Common.{rules, tests}
use Rattle.std.specs.Char.{is_ascii_graphic}
use Rattle.std.proofs.lemmas.Iterator.{YieldsList-from_slice}
use Rattle.std.proofs.lemmas.Iterator.Search.{any_from_yields_List}
use Rattle.profile.proofs.Parts.{any_outside_is}
use Rattle.profile.proofs.limits.any_outside.Goals as goal

pub returns : goal.returns
returns c =
    rw (any_outside_is c.args.text.now) (any_from_yields_List (λ b. not (is_ascii_graphic b)) _ _ _ c.any.ensures.ran (YieldsList-from_slice c.args.text.now cc) (λ x b q k. search (rules, tests)))
