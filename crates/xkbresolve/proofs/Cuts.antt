-- The first line of a text and what stands behind it, by the place of the first LF.
use Prim.Native.Nat.{ℕ, suc, ◌+◌, ◌-◌, ◌≤◌, ◌<◌}
use native.Mathlib.Omega.{arith}
use mathlib.Core.Path.{◌≡◌, refl, sym, ap, ◌∙◌}
use mathlib.Core.List.{[], ◌∷◌}
use mathlib.Core.Bool.{Bool, true, false, cond, ◌&&◌}
use lib.ListN.{length, take, drop, length-drop, drop_of_length-le}
use lib.Seq.{take_all}
use lib.Dec.{eqb, ltb}
use lib.Pointwise.{pointwise}
use borrow.Author.Tests.{ltb-true, ltb-false}
use Rattle.std.proofs.Common.{Bor, Option, Some, None, MatchOption, unwrap_or}
use Rattle.std.specs.List.{position_or_len}
use Rattle.std.proofs.lemmas.Option.{cond_some, none-some}
use Rattle.text.specs.Bytes.{Text, first}
use Rattle.text.specs.Marks.{ends_line}
use Rattle.xkbresolve.specs.Program.{first_line, later_lines}

abbrev pub is_feed : ℕ → Bool
is_feed b = eqb b 10

abbrev place : Text → ℕ
place s = position_or_len is_feed s

-- a text without a CR at its end
pub strip : Text → Text
strip [] = []
strip (b ∷ []) = cond (eqb b 13) [] (b ∷ [])
strip (b ∷ c ∷ t) = b ∷ strip (c ∷ t)

module _ (b : ℕ) (s : Text) where
  place_here : eqb b 10 ≡ true → place (b ∷ s) ≡ 0
  place_here e = rw e

  place_on : eqb b 10 ≡ false → place (b ∷ s) ≡ suc (place s)
  place_on e = rw e (omega arith)

later_so : (s : Text) → later_lines s ≡ drop (suc (place s)) s
unfolding later_lines
later_so [] = refl
later_so (b ∷ s) = go (eqb b 10) refl (later_so s)
  where
    go : (t : Bool) → eqb b 10 ≡ t → later_lines s ≡ drop (suc (place s)) s → later_lines (b ∷ s) ≡ drop (suc (place (b ∷ s))) (b ∷ s)
    go true e h = rw (place_here b s e, e) refl
    go false e h = rw (place_on b s e, e) h

no_end : (b c : ℕ) → eqb b 10 ≡ false → eqb c 10 ≡ false → ends_line b c ≡ false
unfolding ends_line
no_end b c e f = rw (e, f) (go (eqb b 13))
  where
    go : (t : Bool) → t && false ≡ false
    go true = refl
    go false = refl

line_on : (b : ℕ) (s : Text) → ends_line b (first s) ≡ false → first_line (b ∷ s) ≡ b ∷ first_line s
unfolding first_line
line_on b s e = rw e refl

line_some : (s : Text) → place s < length s → first_line s ≡ strip (take (place s) s)
unfolding first_line ends_line strip first
line_some [] h = absurd (omega arith)
line_some (b ∷ []) h = go (eqb b 10) refl
  where
    go : (t : Bool) → eqb b 10 ≡ t → first_line (b ∷ []) ≡ strip (take (place (b ∷ [])) (b ∷ []))
    go true e = rw (place_here b [] e, e) refl
    go false e = absurd (omega (arith, place_on b [] e))
line_some (b ∷ c ∷ s) h = go (eqb b 10) (eqb c 10) (eqb b 13) refl refl refl (line_some (c ∷ s))
  where
    go : (t u v : Bool) → eqb b 10 ≡ t → eqb c 10 ≡ u → eqb b 13 ≡ v → (place (c ∷ s) < length (c ∷ s) → first_line (c ∷ s) ≡ strip (take (place (c ∷ s)) (c ∷ s))) →
        first_line (b ∷ c ∷ s) ≡ strip (take (place (b ∷ c ∷ s)) (b ∷ c ∷ s))
    go true u v e f g k = rw (place_here b (c ∷ s) e, e) refl
    go false true true e f g k = rw (place_on b (c ∷ s) e, place_here c s f, e, f, g) refl
    go false true false e f g k = rw (place_on b (c ∷ s) e, place_here c s f, e, f, g) refl
    go false false v e f g k =
        let i = k (omega (arith, place_on b (c ∷ s) e)) in
        line_on b (c ∷ s) (no_end b c e f) ∙ ap (λ t. b ∷ t) i ∙ rw (place_on b (c ∷ s) e, place_on c s f) refl

not_here : (b : ℕ) (s : Text) → length (b ∷ s) ≤ place (b ∷ s) → (eqb b 10 ≡ false) × (length s ≤ place s)
not_here b s h = go (eqb b 10) refl
  where
    go : (t : Bool) → eqb b 10 ≡ t → (eqb b 10 ≡ false) × (length s ≤ place s)
    go true e = absurd (omega (arith, place_here b s e))
    go false e = (e, omega (arith, place_on b s e))

line_none : (s : Text) → length s ≤ place s → first_line s ≡ s
unfolding first_line first
line_none [] h = refl
line_none (b ∷ []) h = line_on b [] (no_end b 0 (not_here b [] h).0 refl)
line_none (b ∷ c ∷ s) h =
    let v = not_here b (c ∷ s) h in
    line_on b (c ∷ s) (no_end b c v.0 (not_here c s v.1).0) ∙ ap (λ t. b ∷ t) (line_none (c ∷ s) v.1)

strip_cut : (t : Text) → strip t ≡ cond (pointwise eqb (drop (length t - 1) t) (13 ∷ [])) (take (length t - 1) t) t
unfolding strip
strip_cut [] = refl
strip_cut (b ∷ []) = go (eqb b 13) refl
  where
    go : (t : Bool) → eqb b 13 ≡ t → strip (b ∷ []) ≡ cond (pointwise eqb (drop (length (b ∷ []) - 1) (b ∷ [])) (13 ∷ [])) (take (length (b ∷ []) - 1) (b ∷ [])) (b ∷ [])
    go true e = rw e refl
    go false e = rw e refl
strip_cut (b ∷ c ∷ t) =
    let n : length (b ∷ c ∷ t) - 1 ≡ suc (length (c ∷ t) - 1) = omega arith in
    rw n (ap (λ r. b ∷ r) (strip_cut (c ∷ t)) ∙ push (pointwise eqb (drop (length (c ∷ t) - 1) (c ∷ t)) (13 ∷ [])) _ _)
  where
    push : (k : Bool) (x y : Text) → b ∷ cond k x y ≡ cond k (b ∷ x) (b ∷ y)
    push true x y = refl
    push false x y = refl

-- the line, where `strip_suffix` gave r
pub stripped : (t : Text) (r : Option (Bor Text)) (d e : Bor Text) →
    MatchOption r (pointwise eqb (drop (length t - 1) t) (13 ∷ []) ≡ false)
    (λ x. (pointwise eqb (drop (length t - 1) t) (13 ∷ []) ≡ true) × (x.now ≡ take (length t - 1) t) × (length x.now + 1 ≡ length t)) →
    e ≡ unwrap_or r d → d.now ≡ t → e.now ≡ strip t
stripped t None d e h g q = ap (λ (x : Bor Text). x.now) g ∙ q ∙ sym (strip_cut t ∙ rw h)
stripped t (Some x) d e h g q = ap (λ (x : Bor Text). x.now) g ∙ h.1 ∙ sym (strip_cut t ∙ rw h.0)

module _ (s : Text) (r : Option ℕ) (found : r ≡ cond (ltb (place s) (length s)) (Some (place s)) None) where
  pub split_some : (k : ℕ) → r ≡ Some k → (line : Text) → line ≡ strip (take k s) → (line ≡ first_line s) × (take (length s - (k + 1)) (drop (k + 1) s) ≡ later_lines s)
  split_some k e line h =
      let f = cond_some (ltb (place s) (length s)) (place s) k (sym found ∙ e) in
      let n : k + 1 ≡ suc (place s) = omega arith in
      (h ∙ rw (← f.1) (sym (line_some s (ltb-true _ _ f.0))), take_all _ _ (omega (arith, length-drop (k + 1) s)) ∙ rw n (sym (later_so s)))

  pub split_none : r ≡ None → (s ≡ first_line s) × (◌≡◌ {A = Text} [] (later_lines s))
  split_none e = go (ltb (place s) (length s)) refl
    where
      go : (t : Bool) → ltb (place s) (length s) ≡ t → (s ≡ first_line s) × (◌≡◌ {A = Text} [] (later_lines s))
      go true f = absurd (none-some (place s) (sym e ∙ found ∙ rw f))
      go false f =
          let h : length s ≤ place s = ltb-false _ _ f in
          let k : length s ≤ suc (place s) = omega arith in
          (sym (line_none s h), sym (later_so s ∙ drop_of_length-le s k))
