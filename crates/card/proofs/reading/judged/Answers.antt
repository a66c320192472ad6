use mathlib.Core.Path.{refl, ap, ◌∙◌}
use Rattle.std.proofs.lemmas.Option.{MatchOption-at_some, MatchOption-at_none}
use Rattle.std.proofs.lemmas.Result.{err_from_is_err_and}
use Rattle.text.specs.Refusals.{first_refusal}
use Rattle.profile.specs.Refusals.{profile_refusals}
use Rattle.card.proofs.Limits.{ok_or_fault}
use Rattle.card.proofs.Judged.{judged_broken, judged_beyond, judged_clear}
use Rattle.card.proofs.reading.judged.Goals as goal

pub returns-in_err-sections : goal.returns-in_err-sections
returns-in_err-sections c =
    let p = err_from_is_err_and c.from_residual.result c.from_residual.ensures.1 in
    let e = c.in_err-sections.ensures in
    rw (p.1, p.2, ok_or_fault _ _ _ e.value) (refl, judged_broken _ (MatchOption-at_none _ _ e.ok_part c.find.ensures))

pub returns-then-refused : goal.returns-then-refused
returns-then-refused c =
    let f = MatchOption-at_some _ _ _ c.in_ok-sections.ensures.ok_part c.find.ensures in
    (refl, judged_beyond _ _ f.0 f.1 c.check.result (c.check.ensures ∙ ap (λ t. first_refusal (profile_refusals t)) c.profile.ensures) (cc))

pub returns : goal.returns
returns c =
    let f = MatchOption-at_some _ _ _ c.in_ok-sections.ensures.ok_part c.find.ensures in
    judged_clear _ _ f.0 f.1 c.check.result (c.check.ensures ∙ ap (λ t. first_refusal (profile_refusals t)) c.profile.ensures) (cc)
