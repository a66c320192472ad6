-- The pieces of a filled value, one after the other.
use Prim.Native.Nat.{ℕ, ◌+◌, ◌≤◌, ◌<◌}
use native.Mathlib.Omega.{arith}
use mathlib.Core.Path.{◌≡◌, refl, sym, ap, ◌∙◌}
use mathlib.Core.List.{List, [], ◌∷◌, ◌++◌, append-nil, append_assoc}
use mathlib.Core.Bool.{Bool, true, false, cond}
use lib.ListN.{length, drop, get_or, drop_of_length-le}
use Rattle.text.specs.Bytes.{Text, part, concat_map}
use Rattle.text.proofs.Comparing.{drop_at}
use Rattle.text.proofs.Positions.{part_empty, part_snoc, part_cons}
use Rattle.profile.specs.Profile.{push}
use Rattle.values.specs.Spread.{is_sign, cuts}
use Rattle.values.specs.Cutting.{upto}

-- the text from the first sign on
unfoldable pub beyond : Text → Text
beyond [] = []
beyond (b ∷ r) = let u = beyond r in cond (is_sign b) (b ∷ r) u

-- the cuts behind the first
unfoldable pub later : Text → List Text
later [] = []
later (b ∷ r) = let u = later r in cond (is_sign b) (push b (cuts r)) u

pub cuts_first : (r : Text) → cuts r ≡ upto r ∷ later r
unfolding cuts upto later push
cuts_first [] = refl
cuts_first (b ∷ r) = go (is_sign b) (cuts_first r)
  where
    go : (t : Bool) → cuts r ≡ upto r ∷ later r → cond t ([] ∷ push b (cuts r)) (push b (cuts r)) ≡ cond t [] (b ∷ upto r) ∷ cond t (push b (cuts r)) (later r)
    go true h = refl
    go false h = rw h

cuts_beyond : (r : Text) → cuts (beyond r) ≡ [] ∷ later r
unfolding cuts beyond later
cuts_beyond [] = refl
cuts_beyond (b ∷ r) = go (is_sign b) refl (cuts_beyond r)
  where
    go : (t : Bool) → is_sign b ≡ t → cuts (beyond r) ≡ [] ∷ later r → cuts (cond t (b ∷ r) (beyond r)) ≡ [] ∷ cond t (push b (cuts r)) (later r)
    go true e h = rw e
    go false e h = h

cuts_cons : (b : ℕ) (r : Text) → cuts (b ∷ r) ≡ cond (is_sign b) ([] ∷ push b (cuts r)) (push b (cuts r))
unfolding cuts
cuts_cons b r = refl

empty_first : (f : Text → Text) (t : Bool) (l : List Text) → f [] ≡ [] → concat_map f (cond t ([] ∷ l) l) ≡ concat_map f l
unfolding concat_map
empty_first f true l h = rw h
empty_first f false l h = refl

pub first_cut : (f : Text → Text) (b : ℕ) (r : Text) → concat_map f (push b (cuts r)) ≡ f (b ∷ upto r) ++ concat_map f (later r)
unfolding concat_map push
first_cut f b r = rw cuts_first

-- a piece, and what is left behind it
pub cuts_piece : (f : Text → Text) (b : ℕ) (r : Text) → f [] ≡ [] → concat_map f (cuts (b ∷ r)) ≡ f (b ∷ upto r) ++ concat_map f (cuts (beyond r))
unfolding concat_map
cuts_piece f b r h = rw (cuts_cons b r) (empty_first f (is_sign b) (push b (cuts r)) h ∙ (first_cut f b r ∙ rw (cuts_beyond r, h)))

pub cuts_none : (f : Text → Text) → f [] ≡ [] → concat_map f (cuts []) ≡ []
unfolding concat_map cuts
cuts_none f h = rw h

-- the clauses at a sign and at any other byte
pub upto_sign : (b : ℕ) (r : Text) → is_sign b ≡ true → upto (b ∷ r) ≡ []
unfolding upto
upto_sign b r e = rw e

pub upto_other : (b : ℕ) (r : Text) → is_sign b ≡ false → upto (b ∷ r) ≡ b ∷ upto r
unfolding upto
upto_other b r e = rw e

pub beyond_other : (b : ℕ) (r : Text) → is_sign b ≡ false → beyond (b ∷ r) ≡ beyond r
unfolding beyond
beyond_other b r e = rw e

pub upto_nil : upto [] ≡ []
unfolding upto
upto_nil = refl

-- what stands before the first sign, and from it on
pub upto_beyond : (r : Text) → upto r ++ beyond r ≡ r
unfolding upto beyond
upto_beyond [] = refl
upto_beyond (b ∷ r) = go (is_sign b) (upto_beyond r)
  where
    go : (t : Bool) → upto r ++ beyond r ≡ r → cond t [] (b ∷ upto r) ++ cond t (b ∷ r) (beyond r) ≡ b ∷ r
    go true h = refl
    go false h = ap (λ (x : Text). b ∷ x) h

pub beyond_starts : (r : Text) → upto (beyond r) ≡ []
unfolding beyond
beyond_starts [] = upto_nil
beyond_starts (b ∷ r) = go (is_sign b) refl (beyond_starts r)
  where
    go : (t : Bool) → is_sign b ≡ t → upto (beyond r) ≡ [] → upto (cond t (b ∷ r) (beyond r)) ≡ []
    go true e h = upto_sign b r e
    go false e h = h

-- no sign stands from `from` up to i
pub record InCut (t : Text) (from i : ℕ) : Type 0 where
  pub low : from ≤ i
  pub high : i ≤ length t
  pub piece : upto (drop from t) ≡ part t from i ++ upto (drop i t)
  pub rest : beyond (drop from t) ≡ beyond (drop i t)

-- no sign stands from `from` up to e, and at e one stands or the text ends
pub record CutEnd (t : Text) (from e : ℕ) : Type 0 where
  pub low : from ≤ e
  pub high : e ≤ length t
  pub piece : upto (drop from t) ≡ part t from e
  pub rest : beyond (drop from t) ≡ drop e t

module _ (t : Text) (from : ℕ) where
  pub in_cut_start : from ≤ length t → InCut t from from
  in_cut_start h = record { low = omega arith; high = h; piece = rw (part_empty t from); rest = refl }

  module _ (i : ℕ) (v : InCut t from i) where
    pub in_cut_end : upto (drop i t) ≡ [] → CutEnd t from i
    in_cut_end h =
        record {
          low = v.low;
          high = v.high;
          piece = v.piece ∙ rw (h, append-nil);
          rest = v.rest ∙ (ap (λ (x : Text). x ++ beyond (drop i t)) (sym h) ∙ upto_beyond (drop i t));
        }

    pub in_cut_more : i < length t → is_sign (get_or t i 0) ≡ false → InCut t from (i + 1)
    in_cut_more h e =
        record {
          low = omega (arith, v.low);
          high = omega arith;
          piece = v.piece ∙ rw (drop_at t i h, upto_other _ _ e, part_snoc t from i v.low h, append_assoc) refl;
          rest = v.rest ∙ rw (drop_at t i h, beyond_other _ _ e);
        }

-- what a loop over the pieces does to what is left
pub cut_at : (f : Text → Text) (t : Text) (i e : ℕ) → f [] ≡ [] → i < length t → CutEnd t (i + 1) e →
    concat_map f (cuts (drop i t)) ≡ f (part t i e) ++ concat_map f (cuts (drop e t))
cut_at f t i e h l c =
    rw (drop_at t i l, cuts_piece f (get_or t i 0) (drop (i + 1) t) h, c.piece, c.rest, part_cons t i e (omega (arith, c.low)) c.high)

pub cut_over : (f : Text → Text) (t : Text) (i : ℕ) → f [] ≡ [] → length t ≤ i → concat_map f (cuts (drop i t)) ≡ []
cut_over f t i h l = rw (drop_of_length-le t l) (cuts_none f h)
