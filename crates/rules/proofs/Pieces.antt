-- The pieces of a right-hand value, by the bytes that they begin with.
use Prim.Native.Nat.{ℕ, zero, suc, ◌+◌, ◌-◌, ◌≤◌, ◌<◌}
use native.Mathlib.Omega.{arith}
use mathlib.Core.Path.{◌≡◌, refl, sym, ◌∙◌}
use mathlib.Core.List.{[], ◌∷◌}
use mathlib.Core.Bool.{Bool, true, false, not, ◌||◌, ◌&&◌, cond, and-true}
use lib.ListN.{length, take, drop, get_or, length-drop, drop_of_length-le, get_or-eq_default}
use lib.Seq.{take_all, drop-drop}
use lib.Dec.{eqb, ltb, leb}
use borrow.Author.Tests.{eqb-true, ne_eqb, ltb-false, lt-ltb}
use Rattle.std.specs.Prelude.{nat_eq}
use Rattle.std.proofs.lemmas.Bool.Decides.{nat_tests}
use Rattle.std.specs.Cmp.Lexicographic.{pointwise}
use Rattle.text.specs.Bytes.{Text}
use Rattle.text.proofs.Lists.{and_both, any_nil, any_cons}
use Rattle.text.proofs.Comparing.{drop_at}
use Rattle.rules.specs.declared.Which.{Which}
use Rattle.rules.specs.declared.Which.TheVariants as which
use Rattle.rules.specs.declared.Variable.{Variable}
use Rattle.rules.specs.declared.Variable.TheVariants as variable
use Rattle.rules.specs.declared.Piece.{Piece}
use Rattle.rules.specs.declared.Piece.TheVariants.{Byte, Number, Bare, Parens, Prefixed, Unclosed}
use Rattle.rules.specs.Percent

pub tail_whole : (w : Text) (k : ℕ) → k ≤ length w → take (length w - k) (drop k w) ≡ drop k w
tail_whole w k h = take_all (length w - k) (drop k w) (omega (arith, length-drop k w))

-- what the pattern `[b, rest @ ..]` calls `rest`
pub rest_is : (t : Text) → take (length t - 1) (drop 1 t) ≡ drop 1 t
rest_is t = take_all (length t - 1) (drop 1 t) (omega (arith, length-drop 1 t))

-- a byte that a text has at an index
abbrev has : Text → ℕ → ℕ → Bool
has t i b = ltb i (length t) && eqb (get_or t i 0) b

has_byte : (t : Text) (i b : ℕ) → 0 < b → has t i b ≡ eqb (get_or t i 0) b
has_byte t i b h = go (ltb i (length t)) refl
  where
    go : (l : Bool) → ltb i (length t) ≡ l → (l && eqb (get_or t i 0) b) ≡ eqb (get_or t i 0) b
    go true e = refl
    go false e = rw (get_or-eq_default t 0 (ltb-false _ _ e)) (sym (ne_eqb 0 b (λ z. omega arith)))

pub which_reads : (t : Text) → Percent.which_of t ≡
    cond (not (has t 0 91)) which.Alone
    (cond (leb 49 (get_or t 1 0) && (leb (get_or t 1 0) 52 && has t 2 93)) (which.Numbered (get_or t 1 0 - 48))
    (cond (has t 1 37 && (has t 2 105 && has t 3 93)) which.Matched
    which.Wrong))
unfolding Percent.which_of
which_reads t = rw (has_byte t 0 91 (omega arith), has_byte t 2 93 (omega arith), has_byte t 1 37 (omega arith), has_byte t 2 105 (omega arith), has_byte t 3 93 (omega arith)) refl

swap : (a b : ℕ) → eqb a b ≡ eqb b a
swap a b = grind (arith, nat_tests)

pub matched_reads : (t : Text) → pointwise nat_eq (91 ∷ 37 ∷ 105 ∷ 93 ∷ []) (take 4 t) ≡ (has t 0 91 && (has t 1 37 && (has t 2 105 && has t 3 93)))
matched_reads [] = refl
matched_reads (a ∷ []) = rw (swap 91 a) refl
matched_reads (a ∷ b ∷ []) = rw (swap 91 a, swap 37 b) refl
matched_reads (a ∷ b ∷ c ∷ []) = rw (swap 91 a, swap 37 b, swap 105 c) refl
matched_reads (a ∷ b ∷ c ∷ d ∷ t) =
    rw (
      swap 91 a,
      swap 37 b,
      swap 105 c,
      swap 93 d,
      lt-ltb 0 (length (a ∷ b ∷ c ∷ d ∷ t)) (omega arith),
      lt-ltb 1 (length (a ∷ b ∷ c ∷ d ∷ t)) (omega arith),
      lt-ltb 2 (length (a ∷ b ∷ c ∷ d ∷ t)) (omega arith),
      lt-ltb 3 (length (a ∷ b ∷ c ∷ d ∷ t)) (omega arith),
      and-true (eqb d 93),
    )
    refl

pub variable_reads : (t : Text) → Percent.variable_of t ≡
    cond (has t 0 109) variable.Model
    (cond (has t 0 108) (variable.Layout (Percent.which_of (drop 1 t)))
    (cond (has t 0 118) (variable.Variant (Percent.which_of (drop 1 t)))
    variable.Unknown))
unfolding Percent.variable_of
variable_reads t = rw (has_byte t 0 109 (omega arith), has_byte t 0 108 (omega arith), has_byte t 0 118 (omega arith)) refl

pub parens_reads : (t : Text) → Percent.in_parens t ≡
    cond (has t (Percent.variable_length (Percent.variable_of t)) 41) (Parens (Percent.variable_of t)) Unclosed
unfolding Percent.in_parens
parens_reads t = rw (has_byte t (Percent.variable_length (Percent.variable_of t)) 41 (omega arith)) refl

pub piece_reads : (t : Text) → Percent.piece_after t ≡
    cond (has t 0 105) Number
    (cond (has t 0 43 || (has t 0 124 || (has t 0 45 || has t 0 95))) (Prefixed (get_or t 0 0) (Percent.variable_of (drop 1 t)))
    (cond (has t 0 40) (Percent.in_parens (drop 1 t))
    (Bare (Percent.variable_of t))))
unfolding Percent.piece_after Percent.is_prefix
piece_reads t =
    rw (
      has_byte t 0 105 (omega arith),
      has_byte t 0 43 (omega arith),
      has_byte t 0 124 (omega arith),
      has_byte t 0 45 (omega arith),
      has_byte t 0 95 (omega arith),
      has_byte t 0 40 (omega arith),
    )
    refl

-- lengths

pub which_small : (x : Which) → Percent.which_length x ≤ 4
unfolding Percent.which_length
which_small which.Alone = omega arith
which_small which.Matched = omega arith
which_small (which.Numbered k) = omega arith
which_small which.Wrong = omega arith

pub variable_small : (v : Variable) → Percent.variable_length v ≤ 5
unfolding Percent.variable_length
variable_small variable.Model = omega arith
variable_small (variable.Layout x) = omega (arith, which_small x)
variable_small (variable.Variant x) = omega (arith, which_small x)
variable_small variable.Unknown = omega arith

-- an item lies within its text

inside : (t : Text) (i b : ℕ) → get_or t i 0 ≡ b → 0 < b → i < length t
inside [] i b e h = absurd (omega arith)
inside (x ∷ t) zero b e h = omega arith
inside (x ∷ t) (suc i) b e h = omega (arith, inside t i b e h)

and_last : (a b c : Bool) → a && (b && c) ≡ true → c ≡ true
and_last a b c h = (and_both b c (and_both a (b && c) h).1).1

which_fits : (t : Text) → Percent.which_length (Percent.which_of t) ≤ length t
unfolding Percent.which_of Percent.which_length
which_fits t =
    go (eqb (get_or t 0 0) 91) (leb 49 (get_or t 1 0) && (leb (get_or t 1 0) 52 && eqb (get_or t 2 0) 93))
    (eqb (get_or t 1 0) 37 && (eqb (get_or t 2 0) 105 && eqb (get_or t 3 0) 93)) refl refl
  where
    go : (a b c : Bool) → (leb 49 (get_or t 1 0) && (leb (get_or t 1 0) 52 && eqb (get_or t 2 0) 93)) ≡ b →
        (eqb (get_or t 1 0) 37 && (eqb (get_or t 2 0) 105 && eqb (get_or t 3 0) 93)) ≡ c →
        Percent.which_length (cond (not a) which.Alone (cond b (which.Numbered (get_or t 1 0 - 48)) (cond c which.Matched which.Wrong))) ≤ length t
    go false b c e f = omega arith
    go true true c e f = inside t 2 93 (eqb-true _ _ (and_last (leb 49 (get_or t 1 0)) (leb (get_or t 1 0) 52) _ e)) (omega arith)
    go true false true e f = inside t 3 93 (eqb-true _ _ (and_last (eqb (get_or t 1 0) 37) (eqb (get_or t 2 0) 105) _ f)) (omega arith)
    go true false false e f = omega arith

variable_fits : (t : Text) → Percent.variable_length (Percent.variable_of t) ≤ length t
unfolding Percent.variable_of Percent.variable_length
variable_fits [] = omega arith
variable_fits (b ∷ r) = go (eqb b 109) (eqb b 108) (eqb b 118)
  where
    go : (m l v : Bool) →
        Percent.variable_length (cond m variable.Model (cond l (variable.Layout (Percent.which_of r)) (cond v (variable.Variant (Percent.which_of r)) variable.Unknown)))
        ≤ suc (length r)
    go true l v = omega arith
    go false true v = omega (arith, which_fits r)
    go false false true = omega (arith, which_fits r)
    go false false false = omega arith

parens_fits : (t : Text) → Percent.piece_length (Percent.in_parens t) ≤ suc (length t)
unfolding Percent.in_parens Percent.piece_length
parens_fits t = go (eqb (get_or t (Percent.variable_length (Percent.variable_of t)) 0) 41) refl
  where
    go : (c : Bool) → eqb (get_or t (Percent.variable_length (Percent.variable_of t)) 0) 41 ≡ c →
        Percent.piece_length (cond c (Parens (Percent.variable_of t)) Unclosed) ≤ suc (length t)
    go true e = omega (arith, inside t (Percent.variable_length (Percent.variable_of t)) 41 (eqb-true _ _ e) (omega arith))
    go false e = omega arith

pub piece_fits : (t : Text) → Percent.piece_length (Percent.piece_after t) ≤ length t
unfolding Percent.piece_after Percent.is_prefix Percent.piece_length
piece_fits [] = variable_fits []
piece_fits (b ∷ r) = go (eqb b 105) (Percent.is_prefix b) (eqb b 40)
  where
    go : (n p o : Bool) →
        Percent.piece_length (cond n Number (cond p (Prefixed b (Percent.variable_of r)) (cond o (Percent.in_parens r) (Bare (Percent.variable_of (b ∷ r))))))
        ≤ suc (length r)
    go true p o = omega arith
    go false true o = omega (arith, variable_fits r)
    go false false true = parens_fits r
    go false false false = variable_fits (b ∷ r)

-- a value byte by byte

pub pieces_skip : (k : ℕ) (t : Text) → Percent.pieces k t ≡ Percent.pieces zero (drop k t)
unfolding Percent.pieces
pieces_skip zero t = refl
pieces_skip (suc k) [] = refl
pieces_skip (suc k) (b ∷ r) = pieces_skip k r

pub pieces_none : Percent.pieces zero [] ≡ []
unfolding Percent.pieces
pieces_none = refl

pub pieces_byte : (b : ℕ) (r : Text) → (b ≡ 37 → ⊥) → Percent.pieces zero (b ∷ r) ≡ Byte b ∷ Percent.pieces zero r
unfolding Percent.pieces
pieces_byte b r n = rw (ne_eqb b 37 n, Percent.pieces)

pub pieces_item : (b : ℕ) (r : Text) → b ≡ 37 →
    Percent.pieces zero (b ∷ r) ≡ Percent.piece_after r ∷ Percent.pieces zero (drop (Percent.piece_length (Percent.piece_after r)) r)
unfolding Percent.pieces
pieces_item b r e = rw (e, Percent.pieces) (rw (pieces_skip (Percent.piece_length (Percent.piece_after r)) r) refl)

bad_byte_lem : (i : Bool) (b : ℕ) → Percent.bad_piece i (Byte b) ≡ false
unfolding Percent.bad_piece
bad_byte_lem i b = refl

-- the bytes before i hold nothing malformed
pub record Sound (indexed : Bool) (w : Text) (i : ℕ) : Type 0 where
  pub high : i ≤ length w
  pub rest : Percent.malformed indexed w ≡ Percent.malformed indexed (drop i w)

module _ (x : Bool) (w : Text) where
  pub sound_start : Sound x w 0
  sound_start = record { high = omega arith; rest = refl }

  module _ (i : ℕ) (s : Sound x w i) where
    pub sound_end : length w ≤ i → false ≡ Percent.malformed x w
    unfolding Percent.malformed
    sound_end h = sym (s.rest ∙ rw (drop_of_length-le w h, pieces_none, any_nil))

    module _ (h : i < length w) where
      pub sound_byte : (get_or w i 0 ≡ 37 → ⊥) → Sound x w (i + 1)
      unfolding Percent.malformed
      sound_byte n =
          record { high = omega arith; rest = s.rest ∙ rw (drop_at w i h, pieces_byte _ _ n, any_cons, bad_byte_lem) }

      module _ (e : get_or w i 0 ≡ 37) (p : Piece) (q : p ≡ Percent.piece_after (drop (i + 1) w)) where
        pub item_fits : (k : ℕ) → k ≡ Percent.piece_length p → i + 1 + k ≤ length w
        item_fits k l = omega (arith, l, rw (← q) at (piece_fits (drop (i + 1) w)), length-drop (i + 1) w)

        item_step : Percent.malformed x (drop i w) ≡ Percent.bad_piece x p || Percent.malformed x (drop (i + 1 + Percent.piece_length p) w)
        unfolding Percent.malformed
        item_step = rw (drop_at w i h, pieces_item _ _ e, ← q, any_cons, drop-drop)

        pub sound_bad : (b : Bool) → b ≡ Percent.bad_piece x p → b ≡ true → true ≡ Percent.malformed x w
        sound_bad b a t = sym (s.rest ∙ item_step ∙ rw (← a, t))

        pub sound_good : (b : Bool) → b ≡ Percent.bad_piece x p → b ≡ false → (k : ℕ) → k ≡ Percent.piece_length p → Sound x w (i + 1 + k)
        sound_good b a t k l =
            record { high = item_fits k l; rest = s.rest ∙ item_step ∙ rw (← a, t, ← l) }

-- four bytes a turn

pub plain_sound : (w : Text) (i : ℕ) → Percent.PlainTo w i → (x : Bool) → Sound x w i
plain_sound w i v x = record { high = v.high; rest = v.rest x }

pub plain_start : (w : Text) → Percent.PlainTo w 0
plain_start w = record { high = omega arith; rest = λ x. refl }

pub plain_four : (w : Text) (i : ℕ) → Percent.PlainTo w i → 4 ≤ length w - i → (get_or w i 0 ≡ 37 → ⊥) → (get_or w (i + 1) 0 ≡ 37 → ⊥) →
    (get_or w (i + 2) 0 ≡ 37 → ⊥) → (get_or w (i + 3) 0 ≡ 37 → ⊥) → Percent.PlainTo w (i + 4)
plain_four w i v l a b c d =
    let h : i + 4 ≤ length w = omega arith in
    record {
      high = h;
      rest = λ x.
          let s₁ = sound_byte x w i (plain_sound w i v x) (omega arith) a in
          let s₂ = sound_byte x w (i + 1) s₁ (omega arith) b in
          let e₂ : i + 1 + 1 ≡ i + 2 = omega arith in
          let s₃ = sound_byte x w (i + 2) (rw e₂ at s₂) (omega arith) c in
          let e₃ : i + 2 + 1 ≡ i + 3 = omega arith in
          let s₄ = sound_byte x w (i + 3) (rw e₃ at s₃) (omega arith) d in
          let e₄ : i + 3 + 1 ≡ i + 4 = omega arith in
          (rw e₄ at s₄).rest;
    }
