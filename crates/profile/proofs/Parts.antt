-- The definitions' fields in std's words: a text is split at its commas.
use Prim.Native.Nat.{ℕ}
use mathlib.Core.Path.{◌≡◌, refl}
use mathlib.Core.List.{List, [], ◌∷◌}
use mathlib.Core.Bool.{Bool, true, false, cond, not}
use lib.Dec.{eqb}
use Rattle.std.proofs.Common.{arith, tests}
use Rattle.std.specs.List.{slice_split, onto_first, list_any, filter}
use Rattle.std.specs.Char.{is_ascii_graphic}
use Rattle.text.specs.Bytes.{Text, empty, any_of}
use Rattle.profile.specs.Profile.{push, fields, drop_empty, options_of}
use Rattle.profile.specs.Refusals.{outside}

abbrev pub comma : ℕ → Bool
comma b = eqb b 44

push_is : (b : ℕ) (fs : List Text) → push b fs ≡ onto_first b fs
unfolding push
push_is b [] = refl
push_is b (f ∷ fs) = refl

pub fields_split : (t : Text) → fields t ≡ slice_split comma t
unfolding fields
fields_split [] = refl
fields_split (b ∷ r) = rw (fields_split r, push_is)

pub graphic : (b : ℕ) → outside b ≡ not (is_ascii_graphic b)
unfolding outside
graphic b = grind (arith, tests)

pub any_outside_is : (t : Text) → any_of outside t ≡ list_any (λ b. not (is_ascii_graphic b)) t
unfolding any_of
any_outside_is [] = refl
any_outside_is (b ∷ t) = rw (any_outside_is t, graphic b)

kept_is : (ts : List Text) → drop_empty ts ≡ filter (λ t. not (empty t)) ts
unfolding drop_empty
kept_is [] = refl
kept_is (t ∷ ts) = rw (kept_is ts) (go (empty t))
  where
    go : (e : Bool) → cond e (filter (λ t. not (empty t)) ts) (t ∷ filter (λ t. not (empty t)) ts) ≡ cond (not e) (t ∷ filter (λ t. not (empty t)) ts) (filter (λ t. not (empty t)) ts)
    go true = refl
    go false = refl

pub options_filter : (o : Text) → options_of o ≡ filter (λ t. not (empty t)) (slice_split comma o)
unfolding options_of
options_filter o = rw (fields_split o) (kept_is _)
