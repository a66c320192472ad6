use native.Mathlib.Omega.{arith}
use mathlib.Core.Path.{refl}
use Rattle.std.proofs.lemmas.Result.{err_from_is_err_and}
use Rattle.card.proofs.Limits.{unrefused}
use Rattle.std.proofs.lemmas.Option.{MatchOption-at_some, MatchOption-at_none}
use Rattle.card.proofs.Limits.{ok_or_fault}
use Rattle.card.proofs.Written.{answer_profile, answer_unwritable, answer_written, able, room_first, room_then, way_refused, way_written, put_both}
use Rattle.card.proofs.writing.write.Goals as goal

pub returns-in_err-check : goal.returns-in_err-check
returns-in_err-check c =
    let p = err_from_is_err_and c.from_residual.result c.from_residual.ensures.1 in
    rw (p.1, p.2) (way_refused _ _ _ _ _ (answer_profile _ _ _ _ _ c.in_err-check.ensures))

pub card_size-requires : goal.card_size-requires
card_size-requires c = unrefused _ _ c.in_ok-check.ensures refl

pub returns-in_err-size : goal.returns-in_err-size
returns-in_err-size c =
    let p = err_from_is_err_and c.from_residual-in_err-size.result c.from_residual-in_err-size.ensures.1 in
    let e = c.in_err-size.ensures in
    let h = MatchOption-at_none _ _ e.ok_part c.card_size.ensures in
    rw (p.1, p.2, ok_or_fault _ _ _ e.value)
    (way_refused _ _ _ _ _ (answer_unwritable _ _ _ _ (unrefused _ _ c.in_ok-check.ensures refl) h))

pub put_profile-at-requires : goal.put_profile-at-requires
put_profile-at-requires c =
    let h = MatchOption-at_some _ _ _ c.in_ok-size.ensures.ok_part c.card_size.ensures in
    room_first _ _ _ _ (omega arith) h.0 (unrefused _ _ c.in_ok-check.ensures refl)

pub put_components-requires : goal.put_components-requires
put_components-requires c =
    let h = MatchOption-at_some _ _ _ c.in_ok-size.ensures.ok_part c.card_size.ensures in
    room_then _ _ _ _ (omega arith) h.0 _ _ _ refl c.put_profile-at.ensures.0 c.put_profile-at.ensures.1

pub returns : goal.returns
returns c =
    let h = MatchOption-at_some _ _ _ c.in_ok-size.ensures.ok_part c.card_size.ensures in
    let v = able _ _ _ _ h.0 in
    way_written _ _ _ _ _ _ (answer_written _ _ _ _ (unrefused _ _ c.in_ok-check.ensures refl) h.0) h.1 (omega (arith, v.2, h.1))
    (put_both _ _ _ _ _ _ _ c.put_profile-at.ensures.0 c.put_profile-at.ensures.1 c.put_components.ensures)
