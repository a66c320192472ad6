-- What a percent item stands for, by the ways of `chosen` and `value_of`, and a value with what stands around it.
use Prim.Native.Nat.{ℕ, suc, ◌-◌, ◌≤◌, ◌<◌}
use native.Mathlib.Omega.{arith}
use mathlib.Core.Path.{◌≡◌, sym, ◌∙◌}
use mathlib.Core.Bool.{Bool, false}
use mathlib.Core.List.{List, [], ◌∷◌, ◌++◌}
use lib.Dec.{eqb}
use lib.ListN.{length, get_or}
use borrow.Author.Tests.{eq-eqb, ne_eqb, le-ltb}
use Rattle.text.specs.Bytes.{Text, empty}
use Rattle.profile.specs.Profile.{Profile, layout_count}
use Rattle.rules.specs.declared.Which.{Which}
use Rattle.rules.specs.declared.Which.TheVariants as which
use Rattle.rules.specs.declared.Variable.{Variable}
use Rattle.rules.specs.declared.Variable.TheVariants as variable
use Rattle.values.specs.Values.{choose, value_of}
use Rattle.values.specs.Filling.{enclosed, prefixed}
use Rattle.values.proofs.Invalid.{beyond_numbered, several_numbered}

-- one of the layouts or variants

module _ (n k : ℕ) (ts : List Text) (x : Which) where
  pub alone_one : x ≡ which.Alone → n ≡ 1 → (r : Text) → r ≡ get_or ts 0 [] → r ≡ choose n k ts x
  unfolding choose
  alone_one q e r g = g ∙ sym (rw (q, eq-eqb n 1 e))

  pub alone_none : x ≡ which.Alone → (n ≡ 1 → ⊥) → [] ≡ choose n k ts x
  unfolding choose
  alone_none q e = sym (rw (q, ne_eqb n 1 e))

  pub matched : x ≡ which.Matched → (i : ℕ) → i ≡ k - 1 → (r : Text) → r ≡ get_or ts i [] → r ≡ choose n k ts x
  unfolding choose
  matched q i p r g = g ∙ sym (rw (q, p))

  pub wrong_none : x ≡ which.Wrong → [] ≡ choose n k ts x
  unfolding choose
  wrong_none q = sym (rw q)

  module _ (j : ℕ) (q : x ≡ which.Numbered j) where
    pub numbered_lone : n ≤ 1 → [] ≡ choose n k ts x
    unfolding choose
    numbered_lone h = sym (rw (q, le-ltb 1 n h))

    pub numbered_beyond : n < j → [] ≡ choose n k ts x
    numbered_beyond h = sym (rw (q, beyond_numbered n k j ts h))

    pub numbered_one : 1 < n → j ≤ n → (i : ℕ) → i ≡ j - 1 → (r : Text) → r ≡ get_or ts i [] → r ≡ choose n k ts x
    numbered_one h l i p r g = g ∙ sym (rw (q, several_numbered n k j ts h l, p))

-- what an item stands for

module _ (y : Profile) (k : ℕ) (x : Variable) where
  pub value_model : x ≡ variable.Model → (r : Text) → r ≡ y.model → r ≡ value_of y k x
  unfolding value_of
  value_model q r g = g ∙ sym (rw q)

  module _ (w : Which) (n : ℕ) (e : n ≡ layout_count y) (r : Text) where
    pub value_layout : x ≡ variable.Layout w → r ≡ choose n k y.layouts w → r ≡ value_of y k x
    unfolding value_of
    value_layout q g = g ∙ sym (rw (q, e))

    pub value_variant : x ≡ variable.Variant w → r ≡ choose n k y.variants w → r ≡ value_of y k x
    unfolding value_of
    value_variant q g = g ∙ sym (rw (q, e))

  pub value_unknown : x ≡ variable.Unknown → [] ≡ value_of y k x
  unfolding value_of
  value_unknown q = sym (rw q)

-- a value in parentheses and one with a prefix

pub empty_is : (t : Text) (b : Bool) → b ≡ eqb (length t) 0 → empty t ≡ b
unfolding empty
empty_is [] b e = sym e
empty_is (x ∷ t) b e = sym (e ∙ ne_eqb (suc (length t)) 0 (λ z. omega arith))

pub parens_prefixed : (t : Text) → empty t ≡ false → enclosed t ≡ prefixed 40 t ++ (41 ∷ [])
unfolding enclosed prefixed
parens_prefixed t e = rw e
