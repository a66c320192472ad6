-- Texts in regions of one buffer, each with a position of its own: a store at a region's position changes that region alone.
use Prim.Native.Nat.{ℕ, zero, suc, ◌+◌, ◌≤◌, ◌<◌, min}
use native.Mathlib.Nat.{add-zero}
use native.Mathlib.Omega.{arith}
use mathlib.Core.Path.{◌≡◌, refl, sym, ap, ◌∙◌}
use mathlib.Core.List.{List, [], ◌∷◌, ◌++◌, map, append_assoc}
use lib.ListN.{length, take, drop, get_or, set, length-append, take-append-drop}
use Rattle.text.specs.Bytes.{Text}
use Rattle.output.specs.Store.{stored, farthest, past}
use Rattle.output.proofs.Stores.{stored_append, stored_swap, length_stored, take_stored, drop_stored}
use Rattle.answers.specs.Answer.{sum, joined, total}
use Rattle.firing.specs.Writing.{Low, starts}

-- each text stored from its region's position on
unfoldable pub stored_all : Text → List ℕ → List Text → Text
stored_all d [] ts = d
stored_all d (p ∷ ps) [] = d
stored_all d (p ∷ ps) (t ∷ ts) = stored_all (stored d p t) ps ts

-- a text put before what region r has still to get
unfoldable pub add_at : ℕ → Text → List Text → List Text
add_at r v [] = []
add_at zero v (t ∷ ts) = (v ++ t) ∷ ts
add_at (suc r) v (t ∷ ts) = t ∷ add_at r v ts

pub total_add : (r : ℕ) (v : Text) (ts : List Text) → r < length ts → total (add_at r v ts) ≡ length v + total ts
unfolding total sum add_at
total_add r v [] h = absurd (omega arith)
total_add zero v (t ∷ ts) h = omega (arith, length-append v t)
total_add (suc r) v (t ∷ ts) h = let e = total_add r v ts (omega arith) in omega arith

-- no region starts before k, each text ends where the next region starts or before, and the last ends at the farthest position or before
unfoldable pub Apart : ℕ → List ℕ → List Text → Type 0
Apart k [] ts = k ≤ farthest
Apart k (p ∷ ps) [] = ⊥
Apart k (p ∷ ps) (t ∷ ts) = (k ≤ p) × Apart (p + length t) ps ts

apart_full : (k : ℕ) (ps : List ℕ) (ts : List Text) → Apart k ps ts → k ≤ farthest
unfolding Apart
apart_full k [] ts h = h
apart_full k (p ∷ ps) [] h = absurd h
apart_full k (p ∷ ps) (t ∷ ts) h = let n = apart_full (p + length t) ps ts h.1 in omega arith

-- region r's text, with v before it: it starts at k or later, and v ends at the farthest position or before
apart_at : (k : ℕ) (ps : List ℕ) (ts : List Text) (r : ℕ) (v : Text) → r < length ps → Apart k ps (add_at r v ts) →
    (k ≤ get_or ps r 0) × (get_or ps r 0 + length v ≤ farthest)
unfolding Apart add_at
apart_at k [] ts r v l h = absurd (omega arith)
apart_at k (p ∷ ps) [] r v l h = absurd h
apart_at k (p ∷ ps) (t ∷ ts) zero v l h =
    let n = apart_full (p + length (v ++ t)) ps ts h.1 in
    (h.0, omega (arith, length-append v t))
apart_at k (p ∷ ps) (t ∷ ts) (suc r) v l h =
    let n = apart_at (p + length t) ps ts r v (omega arith) h.1 in
    (omega arith, n.1)

-- the region's position moves on by v, and v is no longer to be written
apart_put : (k : ℕ) (ps : List ℕ) (ts : List Text) (r : ℕ) (v : Text) → Apart k ps (add_at r v ts) → Apart k (set ps r (get_or ps r 0 + length v)) ts
unfolding Apart add_at
apart_put k [] ts r v h = h
apart_put k (p ∷ ps) [] r v h = absurd h
apart_put k (p ∷ ps) (t ∷ ts) zero v h =
    let e : p + length (v ++ t) ≡ p + length v + length t = omega (arith, length-append v t) in
    (omega (arith, h.0), rw e at h.1)
apart_put k (p ∷ ps) (t ∷ ts) (suc r) v h = (h.0, apart_put (p + length t) ps ts r v h.1)

put_at : (d : Text) (k : ℕ) (ps : List ℕ) (ts : List Text) (r : ℕ) (v : Text) → r < length ps → Apart k ps (add_at r v ts) →
    stored_all (stored d (get_or ps r 0) v) (set ps r (get_or ps r 0 + length v)) ts ≡ stored_all d ps (add_at r v ts)
unfolding stored_all Apart add_at
put_at d k [] ts r v l h = absurd (omega arith)
put_at d k (p ∷ ps) [] r v l h = absurd h
put_at d k (p ∷ ps) (t ∷ ts) zero v l h = rw (stored_append d p v t)
put_at d k (p ∷ ps) (t ∷ ts) (suc r) v l h =
    let n = apart_at (p + length t) ps ts r v (omega arith) h.1 in
    ap (λ (m : Text). stored_all m (set ps r (get_or ps r 0 + length v)) ts) (stored_swap d p t (get_or ps r 0) v n.0)
    ∙ put_at (stored d p t) (p + length t) ps ts r v (omega arith) h.1

-- the same with positions that end at the farthest
module _ (d : Text) (k : ℕ) (ps : List ℕ) (ts : List Text) (r : ℕ) (v : Text) (l : r < length ps) (h : Apart k ps (add_at r v ts)) where
  pub past_at : past (get_or ps r 0) (length v) ≡ get_or ps r 0 + length v
  unfolding past
  past_at = let n = apart_at k ps ts r v l h in omega (arith, n.1)

  pub put_apart : Apart k (set ps r (past (get_or ps r 0) (length v))) ts
  put_apart = rw past_at (apart_put k ps ts r v h)

  pub put_region : stored_all (stored d (get_or ps r 0) v) (set ps r (past (get_or ps r 0) (length v))) ts ≡ stored_all d ps (add_at r v ts)
  put_region = rw past_at (put_at d k ps ts r v l h)

-- nothing left to write
unfoldable pub blanks : ℕ → List Text
blanks zero = []
blanks (suc n) = [] ∷ blanks n

pub all_none : (d : Text) (ps : List ℕ) (n : ℕ) → stored_all d ps (blanks n) ≡ d
unfolding stored_all stored blanks
all_none d [] n = refl
all_none d (p ∷ ps) zero = refl
all_none d (p ∷ ps) (suc n) = all_none d ps n

-- regions one behind the other without gaps
pub apart_starts : (k : ℕ) (ts : List Text) → k + total ts ≤ farthest → Apart k (starts k (map length ts)) ts
unfolding Apart starts sum total
apart_starts k [] h = omega arith
apart_starts k (t ∷ ts) h = (omega arith, apart_starts (k + length t) ts (omega arith))

pub all_joined : (d : Text) (k : ℕ) (ts : List Text) → k + total ts ≤ length d →
    stored_all d (starts k (map length ts)) ts ≡ take k d ++ (joined ts ++ drop (k + total ts) d)
unfolding stored_all starts sum total joined
all_joined d k [] h = rw add-zero (sym (take-append-drop k d))
all_joined d k (t ∷ ts) h =
    let a : k + length t ≤ length d = omega arith in
    let b : k + length t + total ts ≤ length (stored d k t) = rw (length_stored d k t) (omega arith) in
    let e : k + length t + total ts ≡ k + (length t + total ts) = omega arith in
    rw (all_joined (stored d k t) (k + length t) ts b, take_stored d k t a, drop_stored d k t (k + length t + total ts) (omega arith), e, append_assoc, append_assoc)

-- positions moved on by the lengths of what is left
unfoldable pub grown : List ℕ → List Text → List ℕ
grown [] ts = []
grown (p ∷ ps) [] = p ∷ ps
grown (p ∷ ps) (t ∷ ts) = past p (length t) ∷ grown ps ts

pub low_put : (ps : List ℕ) (r p n : ℕ) → Low ps → Low (set ps r (past p n))
unfolding Low past
low_put [] r p n h = tt
low_put (x ∷ ps) zero p n h = (omega arith, h.1)
low_put (x ∷ ps) (suc r) p n h = (h.0, low_put ps r p n h.1)

pub low_at : (ps : List ℕ) (i : ℕ) → Low ps → get_or ps i 0 ≤ farthest
unfolding Low
low_at [] i h = omega arith
low_at (x ∷ ps) zero h = h.0
low_at (x ∷ ps) (suc i) h = low_at ps i h.1

pub past_on : (p n : ℕ) → p ≤ farthest → (p ≤ past p n) × (past p n ≤ p + n)
unfolding past
past_on p n h = (omega arith, omega arith)

past_twice : (p : ℕ) (v t : Text) → past (past p (length v)) (length t) ≡ past p (length (v ++ t))
unfolding past
past_twice p v t = omega (arith, length-append v t)

pub grown_put : (ps : List ℕ) (ts : List Text) (r : ℕ) (v : Text) → length ts ≡ length ps → grown (set ps r (past (get_or ps r 0) (length v))) ts ≡ grown ps (add_at r v ts)
unfolding grown add_at
grown_put [] ts r v l = refl
grown_put (p ∷ ps) [] r v l = absurd (omega arith)
grown_put (p ∷ ps) (t ∷ ts) zero v l = rw (past_twice p v t)
grown_put (p ∷ ps) (t ∷ ts) (suc r) v l = rw (grown_put ps ts r v (omega arith))

pub grown_none : (ps : List ℕ) (n : ℕ) → Low ps → grown ps (blanks n) ≡ ps
unfolding grown Low past blanks
grown_none [] n h = refl
grown_none (p ∷ ps) zero h = refl
grown_none (p ∷ ps) (suc n) h =
    let e : min (p + 0) farthest ≡ p = omega (arith, h.0) in
    rw (e, grown_none ps n h.1)
