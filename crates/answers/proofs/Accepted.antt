-- What an accepted answer says of its profile, and of its texts.
use Prim.Native.Nat.{ℕ, zero, suc, ◌+◌, ◌*◌, ◌≤◌, ◌<◌}
use native.Mathlib.Nat.{add-zero, zero-add}
use native.Mathlib.Omega.{arith}
use mathlib.Core.Path.{◌≡◌}
use mathlib.Core.List.{List, []}
use lib.ListN.{length, get_or}
use Rattle.text.specs.Limits.{longest_total, most_layouts, most_options}
use Rattle.text.specs.Bytes.{Text}
use Rattle.profile.specs.Profile.{Texts, profile_of, options_of, layout_count}
use Rattle.profile.specs.Refusals.{profile_refusals}
use Rattle.profile.proofs.Counts as counts
use Rattle.text.proofs.Lists.{nil_left}
use Rattle.answers.specs.Firings.{Firing, file_firings}
use Rattle.answers.specs.Components.{values_of, base, additions}
use Rattle.answers.specs.Answer.{texts_from, ten_texts, total, refusals, accepted, answer, Answered}
use Rattle.answers.proofs.Answers.{accepted_first, answered}

-- of n components from component c on, the base and the additions of the one k after it
in_order : (c n k : ℕ) (fs : List Firing) → k < n →
    (get_or (texts_from c n fs) (2 * k) [] ≡ base (values_of (c + k) fs)) × (get_or (texts_from c n fs) (2 * k + 1) [] ≡ additions (values_of (c + k) fs))
unfolding texts_from
in_order c zero k fs h = absurd (omega arith)
in_order c (suc n) zero fs h = (rw (add-zero c), rw (add-zero c))
in_order c (suc n) (suc k) fs h =
    let l : k < n = omega arith in
    let a : 2 * suc k ≡ suc (suc (2 * k)) = omega arith in
    let b : 2 * suc k + 1 ≡ suc (suc (2 * k + 1)) = omega arith in
    let e : c + suc k ≡ suc c + k = omega arith in
    rw (b, a, e) (in_order (suc c) n k fs l)

module _ (room : ℕ) (f : Text) (t : Texts) (ts : List Text) (h : answer room f t ≡ accepted ts) where
  pub no_refusals : refusals room f t ≡ []
  unfolding answer
  no_refusals = (accepted_first (refusals room f t) (ten_texts f t) ts h).0

  no_profile_refusals : profile_refusals t ≡ []
  unfolding refusals
  no_profile_refusals = nil_left (profile_refusals t) _ no_refusals

  pub few_layouts : layout_count (profile_of t) ≤ most_layouts
  few_layouts = counts.few_layouts t no_profile_refusals

  pub few_variants : length (profile_of t).variants ≤ layout_count (profile_of t)
  few_variants = counts.few_variants t no_profile_refusals

  pub few_options : length (options_of t.options) ≤ most_options
  few_options = counts.few_options t no_profile_refusals

  pub texts_fit : (length ts ≡ 10) × (total ts ≤ room) × (total ts ≤ longest_total)
  unfolding Answered
  texts_fit = rw h at (answered room f t)

  -- the texts of component c
  pub texts_at_lem : (c : ℕ) → c ≤ 4 →
      (get_or ts (2 * c) [] ≡ base (values_of c (file_firings f (profile_of t)))) × (get_or ts (2 * c + 1) [] ≡ additions (values_of c (file_firings f (profile_of t))))
  unfolding answer ten_texts
  texts_at_lem c k =
      let e : ten_texts f t ≡ ts = (accepted_first (refusals room f t) (ten_texts f t) ts h).1 in
      let w = in_order 0 5 c (file_firings f (profile_of t)) (omega arith) in
      rw (← e) (rw (zero-add c) at w)
