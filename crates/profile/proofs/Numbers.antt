-- Each refusal of a profile has a number of document 01.
use mathlib.Core.Path.{◌≡◌, refl}
use mathlib.Core.Bool.{true}
use Rattle.text.specs.Bytes.{all_of}
use Rattle.text.specs.Refusals.{refused_if, is_number, has_number}
use Rattle.text.proofs.Lists.{all_append}
use Rattle.text.proofs.Numbers.{if_number}
use Rattle.profile.specs.Profile.{Texts}
use Rattle.profile.specs.Refusals.{text_refusals, count_refusals, profile_refusals}

text_numbers : (t : Texts) → all_of has_number (text_refusals t) ≡ true
unfolding text_refusals is_number
text_numbers t =
    all_append has_number (refused_if _ 1 1) _ (if_number _ 1 1 refl)
    (all_append has_number (refused_if _ 1 2) _ (if_number _ 1 2 refl)
    (all_append has_number (refused_if _ 1 3) _ (if_number _ 1 3 refl) (if_number _ 1 4 refl)))

count_numbers : (t : Texts) → all_of has_number (count_refusals t) ≡ true
unfolding count_refusals is_number
count_numbers t =
    all_append has_number (refused_if _ 2 2) _ (if_number _ 2 2 refl)
    (all_append has_number (refused_if _ 2 3) _ (if_number _ 2 3 refl) (if_number _ 2 4 refl))

pub profile_numbers : (t : Texts) → all_of has_number (profile_refusals t) ≡ true
unfolding profile_refusals
profile_numbers t = all_append has_number (text_refusals t) (count_refusals t) (text_numbers t) (count_numbers t)
