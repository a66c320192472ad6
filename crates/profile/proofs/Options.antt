-- Options that are reordered or repeated: the profile and its refusals are the same.
use Prim.Native.Nat.{ℕ}
use mathlib.Core.Path.{◌≡◌, refl, sym, ap, ◌∙◌, fun_ext}
use mathlib.Core.List.{List, [], ◌∷◌}
use mathlib.Core.Bool.{Bool, true, false, ◌||◌, cond, or_assoc, or-false}
use lib.Dec.{eqb}
use lib.ListN.{length}
use borrow.Author.Tests.{le-ltb, eqb-true}
use Rattle.text.specs.Limits.{longest_text, most_options}
use Rattle.text.specs.Bytes.{Text, empty, any_of}
use Rattle.text.proofs.Lists.{any_alike}
use Rattle.profile.specs.Profile.{Texts, push, fields, drop_empty, options_of, profile_of}
use Rattle.profile.specs.Options.{Alike, Within, with_options}
use Rattle.profile.specs.Refusals.{outside, long_field, bad_text, text_refusals, count_refusals, profile_refusals}

-- the bytes of a text are those of its fields, and commas

any_push : (q : ℕ → Bool) (b : ℕ) (fs : List Text) → any_of (any_of q) (push b fs) ≡ (q b || any_of (any_of q) fs)
unfolding push any_of
any_push q b [] = or-false (q b || false)
any_push q b (f ∷ fs) = or_assoc (q b) (any_of q f) (any_of (any_of q) fs)

pub any_fields : (q : ℕ → Bool) (t : Text) → q 44 ≡ false → any_of (any_of q) (fields t) ≡ any_of q t
unfolding fields any_of
any_fields q [] h = refl
any_fields q (b ∷ r) h = go (eqb b 44) refl (any_fields q r h)
  where
    go : (t : Bool) → eqb b 44 ≡ t → any_of (any_of q) (fields r) ≡ any_of q r →
        any_of (any_of q) (cond t ([] ∷ fields r) (push b (fields r))) ≡ (q b || any_of q r)
    go true e ih = let z : q b ≡ false = ap q (eqb-true b 44 e) ∙ h in rw (z, ih)
    go false e ih = any_push q b (fields r) ∙ rw ih

-- a test that fails at the empty text does not miss the dropped fields
any_dropped : (q : Text → Bool) (ts : List Text) → q [] ≡ false → any_of q (drop_empty ts) ≡ any_of q ts
unfolding any_of drop_empty empty
any_dropped q [] h = refl
any_dropped q ([] ∷ ts) h = rw h (any_dropped q ts h)
any_dropped q ((b ∷ t) ∷ ts) h = rw (any_dropped q ts h)

any_option_lem : (q : Text → Bool) (o : Text) → q [] ≡ false → any_of q (options_of o) ≡ any_of q (fields o)
unfolding options_of
any_option_lem q o h = any_dropped q (fields o) h

outside_comma : outside 44 ≡ false
unfolding outside
outside_comma = refl

outside_none : any_of outside [] ≡ false
unfolding any_of
outside_none = refl

long_none : long_field [] ≡ false
unfolding long_field
long_none = refl

module _ (t : Texts) (o o' : Text) (h : Alike o o') where
  any_same : (q : Text → Bool) → any_of q (options_of o) ≡ any_of q (options_of o')
  any_same q = any_alike q (options_of o) (options_of o') h.there h.back

  pub same_profile : profile_of (with_options t o) ≡ profile_of (with_options t o')
  unfolding profile_of
  same_profile =
      let e : ◌≡◌ {A = (Text → Bool) → Bool} (λ q. any_of q (options_of o)) (λ q. any_of q (options_of o')) = fun_ext any_same in
      λ i. record { model = t.model; layouts = fields t.layouts; variants = fields t.variants; any_option = e i }

  same_bad : Within o → Within o' → bad_text o (fields o) ≡ bad_text o' (fields o')
  unfolding bad_text
  same_bad w w' =
      let a : any_of outside o ≡ any_of outside o' =
      sym (any_fields outside o outside_comma)
      ∙ (sym (any_option_lem (any_of outside) o outside_none) ∙ (any_same (any_of outside) ∙ (any_option_lem (any_of outside) o' outside_none ∙ any_fields outside o' outside_comma))) in
      let b : any_of long_field (fields o) ≡ any_of long_field (fields o') =
      sym (any_option_lem long_field o long_none) ∙ (any_same long_field ∙ any_option_lem long_field o' long_none) in
      rw (le-ltb longest_text (length o) w.short, le-ltb longest_text (length o') w'.short, a, b)

  pub same_refusals : Within o → Within o' → profile_refusals (with_options t o) ≡ profile_refusals (with_options t o')
  unfolding profile_refusals text_refusals count_refusals
  same_refusals w w' = rw (same_bad w w', le-ltb most_options (length (options_of o)) w.few, le-ltb most_options (length (options_of o')) w'.few)
