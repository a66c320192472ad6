-- `resolving::staged` meets its contract: the refusals in their order, or the texts in the stage.
use native.Mathlib.Omega.{arith}
use mathlib.Core.Path.{refl, sym, ap, ◌∙◌}
use Rattle.std.proofs.lemmas.Result.{err_from_is_err_and}
use Rattle.answers.specs.Answer.{ten_texts}
use Rattle.firing.specs.declared.Cursors.{Cursors}
use Rattle.firing.specs.Writing.{starts}
use Rattle.firing.specs.Stage.{regions}
use Rattle.firing.proofs.Measured.{ends_reached, low_lengths, room_counted, lengths_counted}
use Rattle.firing.proofs.Staged.{regions_ten, near_regions, low_regions}
use Rattle.resolver.proofs.Resolves.{profile_clear, file_lines, staged_profile, staged_long, staged_lines, staged_room, staged_accepted}
use Rattle.resolver.proofs.resolving.staged.Goals as goal

pub returns-in_err-check : goal.returns-in_err-check
returns-in_err-check c =
    let p = err_from_is_err_and c.from_residual.result c.from_residual.ensures.1 in
    rw (p.1, p.2) (staged_profile _ _ _ _ _ c.in_err-check.ensures)

pub returns-then-s-gt-LONGEST_FILE : goal.returns-then-s-gt-LONGEST_FILE
returns-then-s-gt-LONGEST_FILE c = staged_long _ _ _ _ (profile_clear _ c.in_ok-check.ensures) c.if-s-gt-LONGEST_FILE.true

pub read_for-requires : goal.read_for-requires
unfolding regions starts
read_for-requires c = (profile_clear _ c.in_ok-check.ensures, omega (arith, c.requires), low_regions)

pub returns-in_err-cursors : goal.returns-in_err-cursors
returns-in_err-cursors c =
    let p = err_from_is_err_and c.from_residual-in_err-cursors.result c.from_residual-in_err-cursors.ensures.1 in
    rw (p.1, p.2)
    (staged_lines _ _ _ _ (profile_clear _ c.in_ok-check.ensures) _ c.if-s-gt-LONGEST_FILE.false (c.in_err-cursors.ensures.refused _ refl))

pub lengths_between-lengths-requires : goal.lengths_between-lengths-requires
unfolding regions starts
lengths_between-lengths-requires c =
    ends_reached _ _ _ regions_ten near_regions (ap (λ (q : Cursors). q.at) (c.in_ok-cursors.ensures.accepted _ refl).2)

pub places-sums-requires : goal.places-sums-requires
unfolding regions starts
places-sums-requires c =
    low_lengths _ _ _ regions_ten near_regions (ap (λ (q : Cursors). q.at) (c.in_ok-cursors.ensures.accepted _ refl).2) _ c.lengths_between-lengths.ensures

pub returns-then-no_room : goal.returns-then-no_room
unfolding ten_texts regions starts
returns-then-no_room c =
    let v = c.in_ok-cursors.ensures.accepted _ refl in
    let b = file_lines _ c.if-s-gt-LONGEST_FILE.false ∙ v.0 in
    let w = ap (λ (q : Cursors). q.at) v.2 in
    let e = room_counted _ _ _ regions_ten near_regions w _ c.lengths_between-lengths.ensures _ _ c.places-sums.ensures.1 in
    staged_room _ _ _ _ (profile_clear _ c.in_ok-check.ensures) b (sym e ∙ sym c.no_room.ensures ∙ c.if-no_room.true)

pub returns : goal.returns
unfolding ten_texts regions starts
returns c =
    let v = c.in_ok-cursors.ensures.accepted _ refl in
    let b = file_lines _ c.if-s-gt-LONGEST_FILE.false ∙ v.0 in
    let w = ap (λ (q : Cursors). q.at) v.2 in
    let n = sym c.no_room.ensures ∙ c.if-no_room.false in
    let e = room_counted _ _ _ regions_ten near_regions w _ c.lengths_between-lengths.ensures _ _ c.places-sums.ensures.1 in
    let l = lengths_counted _ _ _ regions_ten near_regions w _ c.lengths_between-lengths.ensures _ _ c.places-sums.ensures.1 n in
    staged_accepted _ _ _ _ (profile_clear _ c.in_ok-check.ensures) _ _ b (sym e ∙ n) l c.requires v.1
