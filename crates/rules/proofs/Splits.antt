-- The words of a line, counted and placed one by one.
use Prim.Native.Nat.{ℕ, zero, suc, ◌+◌, ◌-◌, ◌≤◌, ◌<◌}
use native.Mathlib.Omega.{arith}
use native.Mathlib.Nat.{add-zero, zero-add}
use mathlib.Core.Path.{◌≡◌, refl, sym, ap, ◌∙◌}
use mathlib.Core.List.{List, [], ◌∷◌}
use mathlib.Core.Bool.{Bool, true, false, ◌||◌, ◌&&◌, cond, and_assoc, or_assoc, or-false}
use lib.ListN.{length, get_or, drop, set, length-set}
use lib.Dec.{ltb}
use borrow.Author.Tests.{ltb-true, ltb-false}
use Rattle.std.specs.Prelude.{Option, Some, None}
use Rattle.std.proofs.Common.{get_or-set_same, get_or-set_other}
use Rattle.text.specs.declared.Span.{Span}
use Rattle.text.specs.declared.faults.Fault.{Fault}
use Rattle.text.specs.Bytes.{Text, Words, any_of, all_of, part}
use Rattle.text.specs.Words.{words_fault}
use Rattle.text.specs.Told.{fault_number}
use Rattle.text.specs.Reading.{left, ahead, lower, FoundWord, NoWord}
use Rattle.text.proofs.Readers.{lower_zero, lower_none, lower_assoc, fault_cons, fault_nil}
use Rattle.rules.specs.declared.Tally.{Tally}
use Rattle.rules.specs.Words.{is_equals, ordinary}
use Rattle.rules.specs.Entries.{before, after}
use Rattle.rules.specs.Splitting.{words_of, equals_after, tallied, counted, Tallied, no_span, stored, IsWord, Placed, IsSplit}

-- the tally of words, from the first on

unfoldable pub tallies : Bool → Tally → Words → Tally
tallies h t [] = t
tallies h t (w ∷ ws) = tallies h (counted h t w) ws

abbrev pub nothing : Tally
nothing = record { count = 0; equals = None; again = false; plain = true }

tallies_nil : (h : Bool) (t : Tally) → tallies h t [] ≡ t
unfolding tallies
tallies_nil h t = refl

tallies_cons : (h : Bool) (t : Tally) (w : Text) (ws : Words) → tallies h t (w ∷ ws) ≡ tallies h (counted h t w) ws
unfolding tallies
tallies_cons h t w ws = refl

count_more : (h : Bool) (n : Tally) (w : Text) → (counted h n w).count ≡ n.count + 1
unfolding counted tallied
count_more true n w = refl
count_more false n w = refl

count_all : (h : Bool) (t : Tally) (ws : Words) → (tallies h t ws).count ≡ t.count + length ws
unfolding tallies
count_all h t [] = sym (add-zero t.count)
count_all h t (w ∷ ws) =
    let c = count_more h t w in
    count_all h (counted h t w) ws ∙ (let e : (counted h t w).count + length ws ≡ t.count + length (w ∷ ws) = omega (arith, c) in e)

-- the place of the first `=`, of words that are numbered from n on
found : ℕ → Words → Option ℕ
found n [] = None
found n (w ∷ ws) = let r = found (n + 1) ws in cond (is_equals w) (Some n) r

found_none : (n : ℕ) (ws : Words) → found n ws ≡ None → before ws ≡ ws
unfolding found before
found_none n [] h = refl
found_none n (w ∷ ws) h = go (is_equals w) h (found_none (n + 1) ws)
  where
    go : (b : Bool) → cond b (Some n) (found (n + 1) ws) ≡ None → (found (n + 1) ws ≡ None → before ws ≡ ws) → cond b [] (w ∷ before ws) ≡ w ∷ ws
    go true e ih = cc
    go false e ih = ap (λ (r : Words). w ∷ r) (ih e)

found_some : (n k : ℕ) (ws : Words) → found n ws ≡ Some k → k ≡ n + length (before ws)
unfolding found before
found_some n k [] h = cc
found_some n k (w ∷ ws) h = go (is_equals w) h (found_some (n + 1) k ws)
  where
    go : (b : Bool) → cond b (Some n) (found (n + 1) ws) ≡ Some k → (found (n + 1) ws ≡ Some k → k ≡ n + 1 + length (before ws)) →
        k ≡ n + length (cond b [] (w ∷ before ws))
    go true e ih = let q : n ≡ k = cc in omega arith
    go false e ih = omega (arith, ih e)

equals_met : (t : Tally) (n : ℕ) (ws : Words) → t.equals ≡ Some n → (tallies true t ws).equals ≡ Some n
unfolding tallies counted tallied equals_after
equals_met t n [] h = h
equals_met t n (w ∷ ws) h = equals_met (tallied t w) n ws (rw h)

equals_all : (t : Tally) (ws : Words) → t.equals ≡ None → (tallies true t ws).equals ≡ found t.count ws
unfolding tallies counted tallied equals_after found
equals_all t [] h = h
equals_all t (w ∷ ws) h = go (is_equals w) refl (equals_all (tallied t w) ws)
  where
    go : (e : Bool) → is_equals w ≡ e → ((tallied t w).equals ≡ None → (tallies true (tallied t w) ws).equals ≡ found (tallied t w).count ws) →
        (tallies true (tallied t w) ws).equals ≡ cond (is_equals w) (Some t.count) (found (t.count + 1) ws)
    go true e ih = equals_met (tallied t w) t.count ws (rw (h, e)) ∙ rw e
    go false e ih = ih (rw (h, e)) ∙ rw e

again_met : (t : Tally) (n : ℕ) (ws : Words) → t.equals ≡ Some n → (tallies true t ws).again ≡ (t.again || any_of is_equals ws)
unfolding tallies counted tallied equals_after any_of
again_met t n [] h = sym (or-false t.again)
again_met t n (w ∷ ws) h = again_met (tallied t w) n ws (rw h) ∙ rw h (or_assoc t.again (is_equals w) (any_of is_equals ws))

again_all : (t : Tally) (ws : Words) → t.equals ≡ None → t.again ≡ false → (tallies true t ws).again ≡ any_of is_equals (after ws)
unfolding tallies counted tallied equals_after after any_of
again_all t [] h k = k
again_all t (w ∷ ws) h k = go (is_equals w) refl (again_all (tallied t w) ws)
  where
    go : (e : Bool) → is_equals w ≡ e → ((tallied t w).equals ≡ None → (tallied t w).again ≡ false → (tallies true (tallied t w) ws).again ≡ any_of is_equals (after ws)) →
        (tallies true (tallied t w) ws).again ≡ any_of is_equals (cond (is_equals w) ws (after ws))
    go true e ih = again_met (tallied t w) t.count ws (rw (h, e)) ∙ rw (h, k, e)
    go false e ih = ih (rw (h, e)) (rw (h, k)) ∙ rw e

plain_all : (t : Tally) (ws : Words) → (tallies true t ws).plain ≡ (t.plain && all_of ordinary (drop (2 - t.count) ws))
unfolding tallies counted tallied all_of
plain_all t [] = drop_none (2 - t.count)
  where
    go : (b : Bool) → b ≡ (b && true)
    go true = refl
    go false = refl

    drop_none : (k : ℕ) → t.plain ≡ (t.plain && all_of ordinary (drop k []))
    drop_none zero = go t.plain
    drop_none (suc k) = go t.plain
plain_all t (w ∷ ws) = go (ltb t.count 2) refl (plain_all (tallied t w) ws)
  where
    go : (b : Bool) → ltb t.count 2 ≡ b → (tallies true (tallied t w) ws).plain ≡ ((tallied t w).plain && all_of ordinary (drop (2 - (tallied t w).count) ws)) →
        (tallies true (tallied t w) ws).plain ≡ (t.plain && all_of ordinary (drop (2 - t.count) (w ∷ ws)))
    go true e ih =
        let l : t.count < 2 = ltb-true _ _ e in
        let q : 2 - t.count ≡ suc (2 - (t.count + 1)) = omega arith in
        ih ∙ rw (e, q)
    go false e ih =
        let l : 2 ≤ t.count = ltb-false _ _ e in
        let q : 2 - t.count ≡ 0 = omega arith in
        let r : 2 - (t.count + 1) ≡ 0 = omega arith in
        ih ∙ rw (e, q, r) (and_assoc t.plain (ordinary w) (all_of ordinary ws))

tallied_all : (ws : Words) (t : Tally) → t ≡ tallies true nothing ws → Tallied ws t
tallied_all ws t e =
    let q : t.equals ≡ found 0 ws = ap (λ (x : Tally). x.equals) e ∙ equals_all nothing ws refl in
    record {
      count = ap (λ (x : Tally). x.count) e ∙ (count_all true nothing ws ∙ zero-add (length ws));
      none = λ h. found_none 0 ws (sym q ∙ h);
      first = λ n h. found_some 0 n ws (sym q ∙ h) ∙ zero-add (length (before ws));
      again = ap (λ (x : Tally). x.again) e ∙ again_all nothing ws refl refl;
      plain = ap (λ (x : Tally). x.plain) e ∙ plain_all nothing ws;
    }

-- places

drop_head : (ws : Words) (k : ℕ) (x : Text) (r : Words) → drop k ws ≡ x ∷ r → (get_or ws k [] ≡ x) × (drop (k + 1) ws ≡ r) × (k < length ws)
drop_head [] zero x r h = (cc, cc, absurd (let z : ◌≡◌ {A = ℕ} 0 1 = cc in omega arith))
drop_head [] (suc k) x r h = (cc, cc, absurd (let z : ◌≡◌ {A = ℕ} 0 1 = cc in omega arith))
drop_head (w ∷ ws) zero x r h = (cc, cc, omega arith)
drop_head (w ∷ ws) (suc k) x r h =
    let v = drop_head ws k x r h in
    let e : suc k + 1 ≡ suc (k + 1) = omega arith in
    (v.0, rw e v.1, omega (arith, v.2))

placed_none : (w : Text) (t : List Span) (ws : Words) → length t ≡ 10 → Placed w t ws 0
placed_none w t ws h = record { size = h; word = λ j l m. absurd (omega arith); behind = λ j l m. absurd (omega arith) }

module _ (w : Text) (t : List Span) (ws : Words) (n : ℕ) (a : Span) (v : Placed w t ws n) (x : IsWord w a.start a.end (get_or ws n []))
    (y : left w a.end ≡ drop (n + 1) ws) where
  -- what holds of the place of each word before, and of a, holds of each place then
  each : (P : ℕ → Span → Type 0) → n < 10 → ((j : ℕ) → j < 10 → j < n → P j (get_or t j no_span)) → P n a → (j : ℕ) → j < n + 1 → P j (get_or (set t n a) j no_span)
  each P l f p j m = go (ltb j n) refl
    where
      go : (b : Bool) → ltb j n ≡ b → P j (get_or (set t n a) j no_span)
      go true k =
          let i : j < n = ltb-true j n k in
          let e : get_or (set t n a) j no_span ≡ get_or t j no_span = get_or-set_other t n j a no_span (λ z. omega arith) in
          rw e (f j (omega arith) i)
      go false k =
          let q : j ≡ n = omega (arith, ltb-false j n k) in
          let e : get_or (set t n a) n no_span ≡ a = get_or-set_same t n a no_span (omega (arith, v.size)) in
          rw (q, e) p

  placed_more : (t' : List Span) → t' ≡ stored t n a → Placed w t' ws (n + 1)
  unfolding stored
  placed_more t' h = go (ltb n 10) refl
    where
      go : (b : Bool) → ltb n 10 ≡ b → Placed w t' ws (n + 1)
      go true k =
          let l : n < 10 = ltb-true n 10 k in
          let q : t' ≡ set t n a = h ∙ rw k refl in
          rw q
          (record {
            size = length-set t n a ∙ v.size;
            word = λ j i m. each (λ j b. IsWord w b.start b.end (get_or ws j [])) l v.word x j m;
            behind = λ j i m. each (λ j b. left w b.end ≡ drop (j + 1) ws) l v.behind y j m;
          })
      go false k =
          let q : t' ≡ t = h ∙ rw k refl in
          rw q
          (record {
            size = v.size;
            word = λ j l m. v.word j l (omega (arith, ltb-false n 10 k));
            behind = λ j l m. v.behind j l (omega (arith, ltb-false n 10 k));
          })

-- the loop over the words of a line

pub record Splitting (h : Bool) (w : Text) (t : List Span) (n : Tally) (f : Option Fault) (i l : ℕ) : Type 0 where
  pub high : i ≤ length w
  pub few : l ≤ i
  pub rest : drop n.count (words_of w) ≡ left w i
  pub within : n.count ≤ i
  pub tally : tallies h nothing (words_of w) ≡ tallies h n (left w i)
  pub fault : words_fault (words_of w) ≡ lower (fault_number f) (words_fault (left w i))
  pub placed : Placed w t (words_of w) n.count
  pub onto : ahead w 0 0 ≡ ahead w i l

pub splitting_start : (h : Bool) (w : Text) (t : List Span) → length t ≡ 10 → Splitting h w t nothing None 0 0
unfolding words_of
splitting_start h w t z =
    record {
      high = omega arith;
      few = omega arith;
      rest = refl;
      within = omega arith;
      tally = refl;
      fault = sym (lower_zero _);
      placed = placed_none w t (left w 0) z;
      onto = refl;
    }

module _ (h : Bool) (w : Text) (t : List Span) (n : Tally) (f : Option Fault) (i l : ℕ) (v : Splitting h w t n f i l) where
  pub splitting_more : (a e m : ℕ) (g : Option Fault) (t' : List Span) (n' : Tally) (f' : Option Fault) → FoundWord w i l a e m (fault_number g) →
      t' ≡ stored t n.count (record { start = a; end = e }) → n' ≡ counted h n (part w a e) → fault_number f' ≡ lower (fault_number f) (fault_number g) →
      Splitting h w t' n' f' e m
  splitting_more a e m g t' n' f' u p q r =
      let d = drop_head (words_of w) n.count (part w a e) (left w e) (v.rest ∙ u.text) in
      let c : n'.count ≡ n.count + 1 = ap (λ (x : Tally). x.count) q ∙ count_more h n (part w a e) in
      let x : IsWord w a e (get_or (words_of w) n.count []) = record { low = omega (arith, u.some); high = u.high; text = sym d.0 } in
      let y : Placed w t' (words_of w) (n.count + 1) = placed_more w t (words_of w) n.count (record { start = a; end = e }) v.placed x (sym d.1) t' p in
      record {
        high = u.high;
        few = omega (arith, v.few, u.grow);
        rest = rw c d.1;
        within = omega (arith, v.within, u.low, u.some, c);
        tally = v.tally ∙ rw (u.text, tallies_cons, q);
        fault = v.fault ∙ rw (r, u.text, fault_cons, u.fault, lower_assoc);
        placed = rw c y;
        onto = v.onto ∙ u.onto;
      }

  pub splitting_end : (p m : ℕ) → NoWord w i l p m → IsSplit h w t (record { tally = n; fault = f; next = record { at = p; line = m } })
  splitting_end p m u =
      let z : drop n.count (words_of w) ≡ [] = v.rest ∙ u.none in
      let k : n ≡ tallies h nothing (words_of w) = sym (v.tally ∙ rw (u.none, tallies_nil)) in
      let c : n.count ≡ length (words_of w) = ap (λ (x : Tally). x.count) k ∙ (count_all h nothing (words_of w) ∙ zero-add (length (words_of w))) in
      record {
        count = c;
        tally = λ z. tallied_all (words_of w) n (rw z at k);
        placed = rw (← c) v.placed;
        fault = sym (v.fault ∙ rw (u.none, fault_nil, lower_none));
        onwards = omega (arith, v.within, u.onwards);
        high = u.high;
        few = omega (arith, v.few, u.grow);
        onto = v.onto ∙ u.onto;
      }
