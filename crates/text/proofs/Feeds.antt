-- Line ends at a position, LF or CR LF; and the backslashes before them.
use Prim.Native.Nat.{ℕ, zero, suc, suc-le-suc, ◌+◌, ◌-◌, ◌≤◌, ◌<◌}
use native.Mathlib.Omega.{arith}
use mathlib.Core.Path.{◌≡◌, refl, sym, ◌∙◌}
use mathlib.Core.List.{List, [], ◌∷◌}
use mathlib.Core.Bool.{Bool, true, false, ◌||◌, ◌&&◌, cond}
use mathlib.Core.Logic.{◌⊎◌, inl, inr, ⊎_elim}
use borrow.Author.Tests.{eq-eqb, ne_eqb, eqb-true, eqb-false, lt-ltb, le-ltb, ltb-true, ltb-false}
use lib.Dec.{eqb, ltb}
use lib.ListN.{length, get_or, take, drop, length-drop}
use lib.Seq.{get_or-drop}
use Rattle.std.proofs.lemmas.List.{length-take-le}
use Rattle.std.proofs.lemmas.Slice.{between_is}
use Rattle.std.specs.Cmp.Lexicographic.{pointwise}
use Rattle.text.proofs.Comparing.{drop_at}
use Rattle.std.specs.Prelude.{Some, None}
use Rattle.text.specs.declared.Class.{Class}
use Rattle.text.specs.declared.Class.TheVariants.{Blank}
use Rattle.text.specs.declared.Place.{Place}
use Rattle.text.specs.declared.Place.TheVariants.{Start, Space, JoinStart, JoinSpace}
use Rattle.text.specs.Bytes.{first}
use Rattle.text.specs.Marks.{ends_line, Mark, gap, join, at_feed, at_other, marks}
use Rattle.text.specs.Lines.{words, heading, lines_of}
use Rattle.text.specs.Reading.{slash_before}
use Rattle.text.specs.Sources.{feed_end, join_end}
use Rattle.text.proofs.Lists.{no, and_both}
use Rattle.text.proofs.Positions.{first_drop, marks_at, step_other, step_feed, lines_gap, lines_join}
use Rattle.text.proofs.ByteKinds.{ends_cases, differ, return_class}

pub byte_in : (s : List ℕ) (k b : ℕ) → get_or s k 0 ≡ b → 0 < b → k < length s
byte_in [] zero b e h = absurd (omega arith)
byte_in [] (suc k) b e h = absurd (omega arith)
byte_in (x ∷ s) zero b e h = omega arith
byte_in (x ∷ s) (suc k) b e h = suc-le-suc (byte_in s k b e h)

-- the line end at i is LF up to z, or CR LF
abbrev pub FeedCases : List ℕ → ℕ → ℕ → Type 0
FeedCases s i z = ((z ≡ i + 1) × (get_or s i 0 ≡ 10)) ⊎ ((z ≡ i + 2) × ((get_or s i 0 ≡ 13) × (get_or s (i + 1) 0 ≡ 10)))

feed_cases : (s : List ℕ) (i z : ℕ) → feed_end s i ≡ Some z → FeedCases s i z
unfolding feed_end
feed_cases s i z h = go (eqb (first (drop i s)) 10) (ends_line (first (drop i s)) (first (drop (i + 1) s))) refl refl h
  where
    b : get_or s i 0 ≡ first (drop i s)
    b = sym (first_drop s i)

    c : get_or s (i + 1) 0 ≡ first (drop (i + 1) s)
    c = sym (first_drop s (i + 1))

    go : (t u : Bool) → eqb (first (drop i s)) 10 ≡ t → ends_line (first (drop i s)) (first (drop (i + 1) s)) ≡ u →
        cond t (Some (i + 1)) (cond u (Some (i + 2)) None) ≡ Some z → FeedCases s i z
    go true u p q e = inl (cc, b ∙ eqb-true _ _ p)
    go false true p q e =
        ⊎_elim (λ (w : first (drop i s) ≡ 10). absurd (eqb-false _ _ p w))
        (λ (w : (first (drop i s) ≡ 13) × (first (drop (i + 1) s) ≡ 10)). inr (cc, (b ∙ w.0, c ∙ w.1)))
        (ends_cases (first (drop i s)) (first (drop (i + 1) s)) q)
    go false false p q e = cc

-- there is a line end at i, and z is behind it
pub record FeedAt (s : List ℕ) (i z : ℕ) : Type 0 where
  pub low : i < z
  pub high : z ≤ length s
  pub cases : FeedCases s i z

pub feed_some : (s : List ℕ) (i z : ℕ) → feed_end s i ≡ Some z → FeedAt s i z
feed_some s i z h =
    ⊎_elim
    (λ (w : (z ≡ i + 1) × (get_or s i 0 ≡ 10)).
    let k : i < length s = byte_in s i 10 w.1 (omega arith) in
    let e = w.0 in
    record { low = omega arith; high = omega arith; cases = inl w })
    (λ (w : (z ≡ i + 2) × ((get_or s i 0 ≡ 13) × (get_or s (i + 1) 0 ≡ 10))).
    let k : i + 1 < length s = byte_in s (i + 1) 10 w.1.1 (omega arith) in
    let e = w.0 in
    record { low = omega arith; high = omega arith; cases = inr w })
    (feed_cases s i z h)

-- there is none
pub feed_no : (s : List ℕ) (i : ℕ) → feed_end s i ≡ None → ends_line (get_or s i 0) (first (drop (i + 1) s)) ≡ false
unfolding feed_end ends_line
feed_no s i h = rw (sym (first_drop s i)) (go (eqb (first (drop i s)) 10) (eqb (first (drop i s)) 13 && eqb (first (drop (i + 1) s)) 10) h)
  where
    go : (t u : Bool) → cond t (Some (i + 1)) (cond (t || u) (Some (i + 2)) None) ≡ None → t || u ≡ false
    go true u k = cc
    go false true k = cc
    go false false k = refl

-- a backslash at i joins the line end before z

pub record JoinAt (s : List ℕ) (i z : ℕ) : Type 0 where
  pub slash : get_or s i 0 ≡ 92
  pub feed : FeedAt s (i + 1) z

pub join_some : (s : List ℕ) (i z : ℕ) → join_end s i ≡ Some z → JoinAt s i z
unfolding join_end
join_some s i z h = go (eqb (first (drop i s)) 92) refl h
  where
    go : (t : Bool) → eqb (first (drop i s)) 92 ≡ t → cond t (feed_end s (i + 1)) None ≡ Some z → JoinAt s i z
    go true p e = record { slash = sym (first_drop s i) ∙ eqb-true _ _ p; feed = feed_some s (i + 1) z e }
    go false p e = cc

pub join_no : (s : List ℕ) (i : ℕ) → join_end s i ≡ None → get_or s i 0 ≡ 92 → ends_line (first (drop (i + 1) s)) (first (drop (i + 2) s)) ≡ false
unfolding join_end
join_no s i h b =
    let q : i + 1 + 1 ≡ i + 2 = omega arith in
    let k : feed_end s (i + 1) ≡ None = rw (eq-eqb (first (drop i s)) 92 (first_drop s i ∙ b)) at h in
    rw (first_drop s (i + 1)) (rw q at (feed_no s (i + 1) k))

pub join_ends : (s : List ℕ) (i z : ℕ) → JoinAt s i z → ends_line (first (drop (i + 1) s)) (first (drop (i + 2) s)) ≡ true
unfolding ends_line
join_ends s i z v =
    let q : i + 1 + 1 ≡ i + 2 = omega arith in
    ⊎_elim
    (λ (w : (z ≡ i + 1 + 1) × (get_or s (i + 1) 0 ≡ 10)). rw (first_drop s (i + 1), w.1) refl)
    (λ (w : (z ≡ i + 1 + 2) × ((get_or s (i + 1) 0 ≡ 13) × (get_or s (i + 1 + 1) 0 ≡ 10))).
    rw (first_drop s (i + 1), first_drop s (i + 2), w.1.0, ← q, w.1.1) refl)
    v.feed.cases

-- the marks of a line end behind a joining backslash

pub record Joined (s : List ℕ) (p q : Place) (i z : ℕ) : Type 0 where
  pub mark : heading (marks p (drop i s)) ≡ heading (marks q (drop z s))
  pub text : words false (marks p (drop i s)) ≡ words false (marks q (drop z s))
  pub onto : (n : ℕ) → lines_of n true (marks p (drop i s)) ≡ lines_of (n + 1) true (marks q (drop z s))

heading_gap : (r : List Mark) → heading (gap ∷ r) ≡ heading r
unfolding heading
heading_gap r = refl

heading_join : (r : List Mark) → heading (join ∷ r) ≡ heading r
unfolding heading
heading_join r = refl

words_gap : (r : List Mark) → words false (gap ∷ r) ≡ words false r
unfolding words
words_gap r = refl

words_join : (r : List Mark) → words false (join ∷ r) ≡ words false r
unfolding words
words_join r = refl

module _ (s : List ℕ) (p q : Place) (a : at_feed p ≡ (join, q)) (o : (k : Class) (b : ℕ) → at_other p k b ≡ (gap, p)) where
  joined_feed : (i z : ℕ) → z ≡ i + 1 → get_or s i 0 ≡ 10 → Joined s p q i z
  joined_feed i z e f =
      let h : i < length s = byte_in s i 10 f (omega arith) in
      let x = step_feed p _ (first (drop (i + 1) s)) (first (drop (i + 2) s)) f ∙ a in
      record {
        mark = rw (e, marks_at p s i h, x, heading_join);
        text = rw (e, marks_at p s i h, x, words_join);
        onto = λ n. rw (e, marks_at p s i h, x, lines_join);
      }

  joined_return : (i z : ℕ) → z ≡ i + 2 → get_or s i 0 ≡ 13 → get_or s (i + 1) 0 ≡ 10 → Joined s p q i z
  joined_return i z e g f =
      let h : i < length s = byte_in s i 13 g (omega arith) in
      let y = joined_feed (i + 1) z (omega arith) f in
      let x = step_other p _ _ (first (drop (i + 2) s)) Blank (differ _ 13 10 refl g) (return_class _ _ _ g (first_drop s (i + 1) ∙ f)) ∙ o Blank (get_or s i 0) in
      record {
        mark = rw (marks_at p s i h, x, heading_gap) y.mark;
        text = rw (marks_at p s i h, x, words_gap) y.text;
        onto = λ n. rw (marks_at p s i h, x, lines_gap) (y.onto n);
      }

  joined_at : (i z : ℕ) → FeedAt s i z → Joined s p q i z
  joined_at i z v =
      ⊎_elim (λ (w : (z ≡ i + 1) × (get_or s i 0 ≡ 10)). joined_feed i z w.0 w.1)
      (λ (w : (z ≡ i + 2) × ((get_or s i 0 ≡ 13) × (get_or s (i + 1) 0 ≡ 10))). joined_return i z w.0 w.1.0 w.1.1)
      v.cases

pub joined_start : (s : List ℕ) (i z : ℕ) → FeedAt s i z → Joined s JoinStart Start i z
joined_start s = joined_at s JoinStart Start refl (λ k b. refl)

pub joined_space : (s : List ℕ) (i z : ℕ) → FeedAt s i z → Joined s JoinSpace Space i z
joined_space s = joined_at s JoinSpace Space refl (λ k b. refl)

pub join_high : (s : List ℕ) (i : ℕ) → first (drop i s) ≡ 92 → i + 1 ≤ length s
join_high s i e = let l = byte_in s i 92 (sym (first_drop s i) ∙ e) (omega arith) in omega arith

-- a backslash before a line end

last_one : (s : List ℕ) (i : ℕ) → 0 < i → i ≤ length s → drop (length (take i s) - 1) (take i s) ≡ get_or s (i - 1) 0 ∷ []
last_one s i p h =
    let l : length (take i s) ≡ i = length-take-le i s h in
    let q : i - (i - 1) ≡ 1 = omega arith in
    let b : i - 1 < length s = omega arith in
    rw l (sym (between_is s (i - 1) i) ∙ rw (q, drop_at s (i - 1) b) refl)

last_two : (s : List ℕ) (i : ℕ) → 1 < i → i ≤ length s → drop (length (take i s) - 2) (take i s) ≡ get_or s (i - 2) 0 ∷ get_or s (i - 1) 0 ∷ []
last_two s i p h =
    let l : length (take i s) ≡ i = length-take-le i s h in
    let q : i - (i - 2) ≡ 2 = omega arith in
    let r : i - 2 + 1 ≡ i - 1 = omega arith in
    let a : i - 2 < length s = omega arith in
    let b : i - 1 < length s = omega arith in
    rw l (sym (between_is s (i - 2) i) ∙ rw (q, drop_at s (i - 2) a, r, drop_at s (i - 1) b) refl)

too_short : (a b : ℕ) (xs : List ℕ) → length xs ≤ 1 → pointwise eqb (a ∷ b ∷ []) xs ≡ false
too_short a b [] h = refl
too_short a b (x ∷ []) h = go (eqb a x)
  where
    go : (t : Bool) → t && false ≡ false
    go true = refl
    go false = refl
too_short a b (x ∷ y ∷ xs) h = absurd (omega arith)

-- as the ends of the text before it tell
module _ (s : List ℕ) (i : ℕ) (h : i < length s) (r : Bool) (e : r ≡ pointwise eqb (92 ∷ []) (drop (length (take i s) - 1) (take i s))) where
  one_back : 0 < i → r ≡ (eqb 92 (get_or s (i - 1) 0) && true)
  one_back p = e ∙ rw (last_one s i p (omega arith)) refl

  pub slash_one : r ≡ true → r ≡ slash_before s i
  unfolding slash_before
  slash_one t = go (ltb 0 i) refl
    where
      go : (u : Bool) → ltb 0 i ≡ u → r ≡ u && cond (eqb (get_or s (i - 1) 0) 13) (ltb 1 i && eqb (get_or s (i - 2) 0) 92) (eqb (get_or s (i - 1) 0) 92)
      go true p =
          let x : 92 ≡ get_or s (i - 1) 0 = eqb-true _ _ (and_both _ _ (sym (one_back (ltb-true _ _ p)) ∙ t)).0 in
          rw (t, sym x) refl
      go false p = let z : i ≡ 0 = omega (arith, ltb-false _ _ p) in rw z at e

  pub slash_two : (q : Bool) → r ≡ false → q ≡ pointwise eqb (92 ∷ 13 ∷ []) (drop (length (take i s) - 2) (take i s)) → q ≡ slash_before s i
  unfolding slash_before
  slash_two q f g = go (ltb 0 i) (ltb 1 i) refl refl
    where
      other : 0 < i → get_or s (i - 1) 0 ≡ 92 → ⊥
      other p x = no (sym f ∙ (one_back p ∙ rw x refl))

      two : (t u : Bool) → eqb 92 (get_or s (i - 2) 0) ≡ t → eqb 13 (get_or s (i - 1) 0) ≡ u → 0 < i → q ≡ t && (u && true) →
          q ≡ cond (eqb (get_or s (i - 1) 0) 13) (eqb (get_or s (i - 2) 0) 92) (eqb (get_or s (i - 1) 0) 92)
      two true true a b p k = k ∙ rw (sym (eqb-true _ _ a), sym (eqb-true _ _ b)) refl
      two false true a b p k = k ∙ rw (sym (eqb-true _ _ b), ne_eqb (get_or s (i - 2) 0) 92 (λ x. eqb-false _ _ a (sym x))) refl
      two true false a b p k = k ∙ rw (ne_eqb (get_or s (i - 1) 0) 13 (λ x. eqb-false _ _ b (sym x)), ne_eqb _ 92 (other p)) refl
      two false false a b p k = k ∙ rw (ne_eqb (get_or s (i - 1) 0) 13 (λ x. eqb-false _ _ b (sym x)), ne_eqb _ 92 (other p)) refl

      one : (t : Bool) → cond t false false ≡ false
      one true = refl
      one false = refl

      short : ltb 1 i ≡ false → q ≡ false
      short p =
          let l : length (take i s) ≡ i = length-take-le i s (omega arith) in
          let n : length (drop (length (take i s) - 2) (take i s)) ≤ 1 = simp length-drop (omega (arith, ltb-false _ _ p)) in
          g ∙ too_short 92 13 _ n

      go : (t u : Bool) → ltb 0 i ≡ t → ltb 1 i ≡ u → q ≡ t && cond (eqb (get_or s (i - 1) 0) 13) (u && eqb (get_or s (i - 2) 0) 92) (eqb (get_or s (i - 1) 0) 92)
      go true true a b = two (eqb 92 (get_or s (i - 2) 0)) (eqb 13 (get_or s (i - 1) 0)) refl refl (ltb-true _ _ a) (g ∙ rw (last_two s i (ltb-true _ _ b) (omega arith)) refl)
      go true false a b = short b ∙ rw (ne_eqb _ 92 (other (ltb-true _ _ a))) (sym (one (eqb (get_or s (i - 1) 0) 13)))
      go false u a b = let n = ltb-false _ _ a in short (le-ltb 1 i (omega arith))

-- the LF that a backslash joins has it before its line end
slash_feed : (s : List ℕ) (i : ℕ) → get_or s i 0 ≡ 92 → slash_before s (i + 1) ≡ true
unfolding slash_before
slash_feed s i e =
    let p : 0 < i + 1 = omega arith in
    let q : i + 1 - 1 ≡ i = omega arith in
    rw (lt-ltb 0 (i + 1) p, q, e) refl

slash_return : (s : List ℕ) (i : ℕ) → get_or s i 0 ≡ 92 → get_or s (i + 1) 0 ≡ 13 → slash_before s (i + 2) ≡ true
unfolding slash_before
slash_return s i e f =
    let p : 0 < i + 2 = omega arith in
    let r : 1 < i + 2 = omega arith in
    let q : i + 2 - 1 ≡ i + 1 = omega arith in
    let t : i + 2 - 2 ≡ i = omega arith in
    rw (lt-ltb 0 (i + 2) p, lt-ltb 1 (i + 2) r, q, t, f, e) refl

pub slash_join : (s : List ℕ) (i z : ℕ) → JoinAt s i z → (slash_before s (z - 1) ≡ true) × (get_or s (z - 1) 0 ≡ 10)
slash_join s i z v =
    ⊎_elim
    (λ (w : (z ≡ i + 1 + 1) × (get_or s (i + 1) 0 ≡ 10)).
    let e = w.0 in
    let q : z - 1 ≡ i + 1 = omega arith in
    rw q (slash_feed s i v.slash, w.1))
    (λ (w : (z ≡ i + 1 + 2) × ((get_or s (i + 1) 0 ≡ 13) × (get_or s (i + 1 + 1) 0 ≡ 10))).
    let e = w.0 in
    let q : z - 1 ≡ i + 2 = omega arith in
    let r : i + 1 + 1 ≡ i + 2 = omega arith in
    rw q (slash_return s i v.slash w.1.0, rw r at w.1.1))
    v.feed.cases

-- as in a part of the file, so in the file
pub slash_drop : (s : List ℕ) (k i : ℕ) → slash_before s (k + i) ≡ false → slash_before (drop k s) i ≡ false
unfolding slash_before
slash_drop s k i h = go (ltb 0 i) (ltb 1 i) refl refl
  where
    one : 0 < i → get_or (drop k s) (i - 1) 0 ≡ get_or s (k + i - 1) 0
    one p = let q : k + (i - 1) ≡ k + i - 1 = omega arith in get_or-drop k s (i - 1) 0 ∙ rw q refl

    two : 1 < i → get_or (drop k s) (i - 2) 0 ≡ get_or s (k + i - 2) 0
    two p = let q : k + (i - 2) ≡ k + i - 2 = omega arith in get_or-drop k s (i - 2) 0 ∙ rw q refl

    first_case : (t : Bool) → eqb (get_or s (k + i - 1) 0) 13 ≡ t → ltb 1 i ≡ false → cond t (ltb 1 (k + i) && eqb (get_or s (k + i - 2) 0) 92) (eqb (get_or s (k + i - 1) 0) 92) ≡ false → cond t false (eqb (get_or s (k + i - 1) 0) 92) ≡ false
    first_case true e l g = refl
    first_case false e l g = g

    go : (t u : Bool) → ltb 0 i ≡ t → ltb 1 i ≡ u →
        t && cond (eqb (get_or (drop k s) (i - 1) 0) 13) (u && eqb (get_or (drop k s) (i - 2) 0) 92) (eqb (get_or (drop k s) (i - 1) 0) 92) ≡ false
    go false u p q = refl
    go true true p q =
        let a = ltb-true 0 i p in
        let b = ltb-true 1 i q in
        let a' : 0 < k + i = omega arith in
        let b' : 1 < k + i = omega arith in
        rw (one a, two b) (rw (lt-ltb 0 (k + i) a', lt-ltb 1 (k + i) b') at h)
    go true false p q =
        let a = ltb-true 0 i p in
        let a' : 0 < k + i = omega arith in
        rw (one a) (first_case (eqb (get_or s (k + i - 1) 0) 13) refl q (rw (lt-ltb 0 (k + i) a') at h))
