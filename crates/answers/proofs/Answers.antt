-- What every answer is; the answers of joined files, and of profiles with the same options.
use Prim.Native.Nat.{ℕ, zero, suc, ◌+◌, ◌≤◌}
use native.Mathlib.Omega.{arith}
use mathlib.Core.Path.{◌≡◌, refl, ◌∙◌}
use mathlib.Core.List.{List, [], ◌∷◌, ◌++◌, map}
use mathlib.Core.Bool.{true}
use lib.ListN.{length}
use lib.Dec.{ltb, leb}
use borrow.Author.Tests.{le-ltb, ltb-false, leb-true}
use Rattle.text.specs.declared.Refusal.{Refusal}
use Rattle.text.specs.Limits.{longest_file, longest_total, most_groups}
use Rattle.text.specs.Bytes.{Text, all_of, apart}
use Rattle.text.specs.Lines.{closed}
use Rattle.text.specs.Refusals.{refused_if, is_number, has_number}
use Rattle.text.proofs.Lists.{and_both, neither, all_append, nil_left, nil_right}
use Rattle.text.proofs.Numbers.{if_number, clear_if}
use Rattle.profile.specs.Profile.{Texts, profile_of}
use Rattle.profile.specs.Options.{Alike, Within, with_options}
use Rattle.profile.specs.Refusals.{profile_refusals}
use Rattle.profile.proofs.Options.{same_profile, same_refusals}
use Rattle.profile.proofs.Numbers.{profile_numbers}
use Rattle.rules.specs.Faults.{Group, line_faults, file_refusals}
use Rattle.rules.specs.Names.{groups_of, defines_of, names_of}
use Rattle.rules.proofs.Joined.{joined_lines}
use Rattle.rules.proofs.Numbers.{file_numbers}
use Rattle.answers.specs.Firings.{Firing, file_firings}
use Rattle.answers.specs.Answer.{texts_from, ten_texts, total, no_room, refusals, accepted, first_of, answer, Answered}
use Rattle.answers.specs.Joined.{together}
use Rattle.answers.proofs.Joined.{joined_texts}

-- an accepted answer has no refusal, and its texts are the ten
pub accepted_first : (rs : List Refusal) (ts us : List Text) → first_of rs ts ≡ accepted us → (rs ≡ []) × (ts ≡ us)
unfolding first_of
accepted_first [] ts us h = (refl, cc)
accepted_first (r ∷ rs) ts us h = (cc, cc)

-- every answer is ten texts that fit, or a refusal with a number

ten : (c n : ℕ) (fs : List Firing) → length (texts_from c n fs) ≡ n + n
unfolding texts_from
ten c zero fs = refl
ten c (suc n) fs = let e : length (texts_from (suc c) n fs) ≡ n + n = ten (suc c) n fs in omega arith

ten_texts_lem : (f : Text) (t : Texts) → length (ten_texts f t) ≡ 10
unfolding ten_texts
ten_texts_lem f t = ten 0 5 (file_firings f (profile_of t))

numbers : (room : ℕ) (f : Text) (t : Texts) → all_of has_number (refusals room f t) ≡ true
unfolding refusals is_number
numbers room f t =
    all_append has_number (profile_refusals t) _ (profile_numbers t)
    (all_append has_number (file_refusals f) _ (file_numbers f) (if_number _ 11 0 refl))

accepted_fits : (room : ℕ) (f : Text) (t : Texts) → refusals room f t ≡ [] → Answered room (first_of [] (ten_texts f t))
unfolding refusals no_room first_of Answered
accepted_fits room f t e =
    let k = clear_if (no_room room (total (ten_texts f t))) 11 0 (nil_right (file_refusals f) _ (nil_right (profile_refusals t) _ e)) in
    let w = neither (ltb room (total (ten_texts f t))) (ltb longest_total (total (ten_texts f t))) k in
    (ten_texts_lem f t, ltb-false room _ w.0, ltb-false longest_total _ w.1)

refused_number : (room : ℕ) (r : Refusal) (rs : List Refusal) (ts : List Text) → all_of has_number (r ∷ rs) ≡ true → Answered room (first_of (r ∷ rs) ts)
unfolding all_of has_number is_number first_of Answered
refused_number room r rs ts h =
    let w = and_both (leb 1 r.number) (leb r.number 11) (and_both (has_number r) (all_of has_number rs) h).0 in
    (leb-true 1 r.number w.0, leb-true r.number 11 w.1)

pub answered : (room : ℕ) (f : Text) (t : Texts) → Answered room (answer room f t)
unfolding answer
answered room f t = go (refusals room f t) refl (numbers room f t)
  where
    go : (rs : List Refusal) → refusals room f t ≡ rs → all_of has_number rs ≡ true → Answered room (first_of rs (ten_texts f t))
    go [] e h = accepted_fits room f t e
    go (r ∷ rs) e h = refused_number room r rs (ten_texts f t) h

length_names : (gs : List Group) → length (map (λ g. g.name) gs) ≡ length gs
length_names [] = refl
length_names (g ∷ gs) = rw (length_names gs)

module _ (a b : Text) (t : Texts) (room_a room_b room : ℕ) (xs ys : List Text)
    (acc-a : answer room_a a t ≡ accepted xs) (acc-b : answer room_b b t ≡ accepted ys)
    (end : closed a ≡ true) (names : apart (names_of b) (defines_of a) ≡ true) where
  first_a : (refusals room_a a t ≡ []) × (ten_texts a t ≡ xs)
  unfolding answer
  first_a = accepted_first (refusals room_a a t) (ten_texts a t) xs acc-a

  first_b : (refusals room_b b t ≡ []) × (ten_texts b t ≡ ys)
  unfolding answer
  first_b = accepted_first (refusals room_b b t) (ten_texts b t) ys acc-b

  lines_a : line_faults a ≡ []
  unfolding refusals file_refusals
  lines_a = nil_right (refused_if (ltb longest_file (length a)) 3 0) _ (nil_left (file_refusals a) _ (nil_right (profile_refusals t) _ first_a.0))

  lines_b : line_faults b ≡ []
  unfolding refusals file_refusals
  lines_b = nil_right (refused_if (ltb longest_file (length b)) 3 0) _ (nil_left (file_refusals b) _ (nil_right (profile_refusals t) _ first_b.0))

  texts_ab : ten_texts (a ++ b) t ≡ together xs ys
  texts_ab = joined_texts a b end lines_a lines_b names t ∙ rw (first_a.1, first_b.1)

  pub joined_answer : length (a ++ b) ≤ longest_file → length (defines_of a) + length (defines_of b) ≤ most_groups →
      total (together xs ys) ≤ longest_total → total (together xs ys) ≤ room → answer room (a ++ b) t ≡ accepted (together xs ys)
  unfolding answer refusals file_refusals refused_if no_room first_of defines_of
  joined_answer size groups top fits =
      let p : profile_refusals t ≡ [] = nil_left (profile_refusals t) _ first_a.0 in
      let g : length (groups_of a) + length (groups_of b) ≤ most_groups = rw (length_names (groups_of a), length_names (groups_of b)) at groups in
      rw (p, le-ltb longest_file _ size, joined_lines a b end lines_a lines_b names g, texts_ab, le-ltb room _ fits, le-ltb longest_total _ top)

pub options_answer : (room : ℕ) (f : Text) (t : Texts) (o o' : Text) → Alike o o' → Within o → Within o' →
    answer room f (with_options t o) ≡ answer room f (with_options t o')
unfolding answer refusals ten_texts
options_answer room f t o o' h w w' = rw (same_refusals t o o' h w w', same_profile t o o' h)
