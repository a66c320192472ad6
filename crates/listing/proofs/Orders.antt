-- The order of names, and their keys.
use Rattle.std.proofs.Common.{◌≡◌, ℕ, ◌<◌, true, List, get_or, refl, sym, ap, ◌∙◌, arith}
use Rattle.std.specs.declared.cmp.Ordering.{Ordering}
use Rattle.std.specs.declared.cmp.Ordering.TheVariants.{Less, Equal, Greater}
use Rattle.std.specs.Ordering.{nat_cmp, ordering_then, is_eq, is_lt}
use Rattle.std.specs.Cmp.{IsTotalOrder, nat_cmp_is}
use Rattle.std.specs.Cmp.Lexicographic.{slice_cmp}
use Rattle.std.proofs.lemmas.Cmp.{nat_cmp_total, nat_list_cmp_total, on_total, then_total, same_from_slice_cmp, tied_itself}
use Rattle.std.proofs.lemmas.Map.Lookups.{exact_unsigned}
use Rattle.std.proofs.lemmas.Bool.Decides.{nat_tests}
use Rattle.text.specs.Bytes.{Text, same, part}
use Rattle.text.specs.declared.Span.{Span}
use Rattle.text.proofs.Lists.{no, same_eq}
use Rattle.listing.specs.Names.{key_of, order, span_at, told_order}

pub order_total : IsTotalOrder order
unfolding order
order_total = then_total (on_total key_of nat_cmp_total) nat_list_cmp_total

bytes_alike : (a b : Text) → slice_cmp nat_cmp a b ≡ Equal → a ≡ b
unfolding same
bytes_alike a b e =
    same_eq a b (sym (same_from_slice_cmp nat_cmp is_eq same refl (λ _ _. refl) (λ _ _. refl) (λ x y xs ys o h. grind (arith, nat_tests)) a b _ refl) ∙ ap is_eq e)

keys_alike : (j k : ℕ) → nat_cmp j k ≡ Equal → j ≡ k
keys_alike j k e = exact_unsigned j k e

then_last : (o p : Ordering) → ordering_then o p ≡ Equal → p ≡ Equal
then_last Less p e = cc
then_last Equal p e = e
then_last Greater p e = cc

then_equal : (o p : Ordering) → o ≡ Equal → ordering_then o p ≡ p
then_equal o p e = rw e

then_unequal : (o p : Ordering) → (o ≡ Equal → ⊥) → ordering_then o p ≡ o
then_unequal Less p d = refl
then_unequal Equal p d = absurd (d refl)
then_unequal Greater p d = refl

pub less_is : (o : Ordering) → is_lt o ≡ true → Less ≡ o
less_is Less e = refl
less_is Equal e = absurd (no e)
less_is Greater e = absurd (no e)

-- what the search is told, by the key that is kept, and where that is the same by the bytes
module _ (t : Text) (spans : List Span) (kept : List ℕ) (w : Text) (g : ℕ) where
  pub told_by_key : (get_or kept g 0 ≡ key_of w → ⊥) → nat_cmp (get_or kept g 0) (key_of w) ≡ told_order t spans kept w g
  unfolding told_order
  told_by_key d = sym (then_unequal _ _ (λ e. d (keys_alike _ _ e)))

  pub told_less : get_or kept g 0 < key_of w → Less ≡ told_order t spans kept w g
  told_less l = nat_cmp_is (get_or kept g 0) (key_of w) Less l ∙ told_by_key (λ e. omega arith)

  pub told_greater : key_of w < get_or kept g 0 → Greater ≡ told_order t spans kept w g
  told_greater l = nat_cmp_is (get_or kept g 0) (key_of w) Greater l ∙ told_by_key (λ e. omega arith)

  module _ (k : get_or kept g 0 ≡ key_of w) where
    pub told_by_bytes : slice_cmp nat_cmp (part t (span_at spans g).start (span_at spans g).end) w ≡ told_order t spans kept w g
    unfolding told_order
    told_by_bytes = sym (then_equal _ _ (ap (λ (x : ℕ). nat_cmp x (key_of w)) k ∙ tied_itself nat_cmp_total (key_of w)))

    pub told_same : same (part t (span_at spans g).start (span_at spans g).end) w ≡ true → Equal ≡ told_order t spans kept w g
    told_same e =
        sym (ap (λ (x : Text). slice_cmp nat_cmp x w) (same_eq _ w e) ∙ tied_itself nat_list_cmp_total w) ∙ told_by_bytes

-- two names that stand in one place are one
pub order_alike : (a b : Text) → order a b ≡ Equal → a ≡ b
unfolding order
order_alike a b e = bytes_alike a b (then_last (nat_cmp (key_of a) (key_of b)) _ e)
