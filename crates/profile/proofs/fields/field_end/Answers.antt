use mathlib.Core.Path.{sym, ◌∙◌}
use Rattle.std.proofs.Common.{rules, tests}
use Rattle.std.proofs.lemmas.Iterator.{YieldsList-from_slice}
use Rattle.std.proofs.lemmas.Iterator.Search.{position_from_yields_List}
use Rattle.profile.proofs.Parts.{comma}
use Rattle.profile.proofs.Splitting.{end_at, end_last}
use Rattle.std.proofs.lemmas.List.{take_rest}
use Rattle.profile.proofs.fields.field_end.Goals as goal

pub returns-in-Some : goal.returns-in-Some
returns-in-Some c =
    end_at _ _ c.requires _ (take_rest c.args.text.now c.args.from) _
    (sym c.in-Some.is ∙ position_from_yields_List comma _ _ c.position.result c.position.ensures.ran
    (YieldsList-from_slice _ c.iter.ensures.rest) (λ x b q k. search (rules, tests)))

pub returns-in-None : goal.returns-in-None
returns-in-None c =
    end_last _ _ c.requires _ (take_rest c.args.text.now c.args.from)
    (sym c.in-None.is ∙ position_from_yields_List comma _ _ c.position.result c.position.ensures.ran
    (YieldsList-from_slice _ c.iter.ensures.rest) (λ x b q k. search (rules, tests)))
