-- `resolving::resolve` meets its contract: the texts are copied from the stage, or written where they belong.
use borrow.Author.Rules.{rules}
use native.Mathlib.Omega.{arith}
use mathlib.Core.Path.{refl, sym, ◌∙◌}
use lib.Seq.{length-take-le}
use Rattle.std.proofs.lemmas.Result.{err_from_is_err_and}
use Rattle.resolver.proofs.Resolves.{accepts, sum_accepted, low_accepted, low_placed, part_low, lines_clear, read_again, buffer_kept, buffer_copied, buffer_written}
use Rattle.resolver.proofs.resolving.resolve.Goals as goal

pub returns-in_err-lengths : goal.returns-in_err-lengths
returns-in_err-lengths c =
    let p = err_from_is_err_and c.from_residual.result c.from_residual.ensures.1 in
    rw (p.1, p.2) (buffer_kept _ _ _ _ c.in_err-lengths.ensures.result)

pub copy_texts-requires : goal.copy_texts-requires
copy_texts-requires c =
    let r = c.in_ok-lengths.ensures.result in
    let a = accepts _ _ _ _ r refl in
    (search rules, sym c.in_regions.ensures ∙ c.if-in_regions.true, omega (arith, a.fits, sum_accepted _ _ _ _ r a))

pub returns-then-in_regions : goal.returns-then-in_regions
returns-then-in_regions c =
    let v = c.in_ok-lengths.ensures in
    buffer_copied _ _ _ _ _ _ v (accepts _ _ _ _ v.result refl) (sym c.in_regions.ensures ∙ c.if-in_regions.true) c.copy_texts.ensures

pub places-sums-requires : goal.places-sums-requires
places-sums-requires c =
    let r = c.in_ok-lengths.ensures.result in low_accepted _ _ _ _ r (accepts _ _ _ _ r refl)

pub slice_bounds-read_for-end : goal.slice_bounds-read_for-end
slice_bounds-read_for-end c =
    let r = c.in_ok-lengths.ensures.result in
    let a = accepts _ _ _ _ r refl in
    omega (arith, a.fits, c.places-sums.ensures.1 ∙ sum_accepted _ _ _ _ r a)

pub slice_bounds-read_for-end-2 : goal.slice_bounds-read_for-end-2
slice_bounds-read_for-end-2 c =
    let r = c.in_ok-lengths.ensures.result in
    let a = accepts _ _ _ _ r refl in
    sym (length-take-le _ _ (omega (arith, a.fits, c.places-sums.ensures.1 ∙ sum_accepted _ _ _ _ r a)))

pub read_for-requires : goal.read_for-requires
read_for-requires c =
    let r = c.in_ok-lengths.ensures.result in
    let a = accepts _ _ _ _ r refl in
    let p = c.places-sums.ensures in
    (a.profile, part_low _ _ _ (p.1 ∙ sum_accepted _ _ _ _ r a) a.fits a.low, low_placed _ _ _ _ r a _ p.0)

pub returns-in_err-read_for : goal.returns-in_err-read_for
returns-in_err-read_for c =
    let a = accepts _ _ _ _ c.in_ok-lengths.ensures.result refl in
    absurd (read_again _ _ _ _ _ _ (lines_clear _ a.file) c.in_err-read_for.ensures)

pub returns : goal.returns
returns c =
    let r = c.in_ok-lengths.ensures.result in
    let p = c.places-sums.ensures in
    buffer_written _ _ _ _ r (accepts _ _ _ _ r refl) _ _ _ p.0 p.1 (c.in_ok-read_for.ensures.accepted _ refl).1
