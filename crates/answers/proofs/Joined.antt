-- The firings and the ten texts of a joined file.
use Prim.Native.Nat.{ℕ, zero, suc}
use mathlib.Core.Path.{◌≡◌, refl, ap}
use mathlib.Core.List.{List, [], ◌++◌, map}
use mathlib.Core.Bool.{true}
use Rattle.text.specs.Bytes.{Text, all_of, apart}
use Rattle.text.specs.Lines.{lines, closed}
use Rattle.text.proofs.Joined.{physical}
use Rattle.profile.specs.Profile.{Texts, Profile, profile_of}
use Rattle.rules.specs.Sections.{sections}
use Rattle.rules.specs.Faults.{line_faults}
use Rattle.rules.specs.Names.{groups_of, defines_of, names_of}
use Rattle.rules.proofs.Joined.{joined_sections, joined_fresh}
use Rattle.answers.specs.Firings.{Firing, firings, file_firings}
use Rattle.answers.specs.Components.{values_of}
use Rattle.answers.specs.Answer.{texts_from, ten_texts}
use Rattle.answers.specs.Joined.{together}
use Rattle.answers.proofs.Updates.{non_empty, values_append, additions_append, base_append}
use Rattle.answers.proofs.Firings.{shift_firing, firings_append, firings_shift, firings_beside, file_values, values_shift}

texts_append : (a b : List Firing) (k c n : ℕ) → ((d : ℕ) → all_of non_empty (values_of d a) ≡ true) →
    texts_from c n (a ++ map (shift_firing k) b) ≡ together (texts_from c n a) (texts_from c n b)
unfolding texts_from together
texts_append a b k c zero h = refl
texts_append a b k c (suc n) h =
    rw (values_append c a (map (shift_firing k) b), values_shift c k b, base_append (values_of c a) (values_of c b) (h c), additions_append (values_of c a) (values_of c b), texts_append a b k (suc c) n h)

module _ (a b : Text) (end : closed a ≡ true) (fa : line_faults a ≡ []) (fb : line_faults b ≡ []) (names : apart (names_of b) (defines_of a) ≡ true) where
  -- the first's firings, then the second's with their lines shifted
  pub joined_firings : (p : Profile) → file_firings (a ++ b) p ≡ file_firings a p ++ map (shift_firing (physical a)) (file_firings b p)
  unfolding file_firings groups_of
  joined_firings p =
      rw (joined_sections a b end fa fb names, firings_append, firings_shift)
      (ap (λ (x : List Firing). firings [] p (sections (lines a)).1 ++ map (shift_firing (physical a)) x)
      (firings_beside [] (groups_of a) p (sections (lines b)).1 (joined_fresh a b end fa fb names)))

  pub joined_texts : (t : Texts) → ten_texts (a ++ b) t ≡ together (ten_texts a t) (ten_texts b t)
  unfolding ten_texts
  joined_texts t =
      rw (joined_firings (profile_of t))
      (texts_append (file_firings a (profile_of t)) (file_firings b (profile_of t)) (physical a) 0 5 (file_values a (profile_of t)))
