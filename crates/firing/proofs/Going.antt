-- Loops that fire, and the ways of one firing.
use Prim.Native.Nat.{ℕ, ◌+◌, ◌*◌, ◌-◌, ◌≤◌, ◌<◌}
use native.Mathlib.Omega.{arith}
use mathlib.Core.Path.{◌≡◌, refl, sym, ap, ◌∙◌}
use mathlib.Core.Bool.{Bool, true, false, cond}
use mathlib.Core.List.{List, [], ◌∷◌, ◌++◌}
use lib.ListN.{length, get_or, set}
use lib.Dec.{ltb}
use borrow.Author.Tests.{lt-ltb, le-ltb}
use Rattle.std.specs.Int.{from_bool}
use Rattle.text.specs.Limits.{longest_total}
use Rattle.text.specs.Bytes.{Text, empty}
use Rattle.output.specs.Store.{stored, farthest, past, Wrote}
use Rattle.values.specs.Spread.{signed}
use Rattle.firing.specs.declared.Cursors.{Cursors}
use Rattle.answers.specs.Firings.{Firing, fired}
use Rattle.firing.specs.Writing.{moved_at, based_at, put_cur, put_buf, full, fire_cur, fire_buf, run_cur, run_buf, FiredOne, Low}
use Rattle.firing.proofs.Regions.{low_put}
use Rattle.firing.proofs.Written.{run_cur_lem, run_buf_lem, run_cur_nil, run_buf_nil, cur_append, buf_append, length_run, full_fires, full_keeps, not_full}

low_fire : (q : Cursors) (f : Firing) → Low q.at → Low (fire_cur q f).at
unfolding fire_cur put_cur moved_at based_at
low_fire q f h = go (full q) (ltb f.component 5) (signed f.value) (get_or q.based f.component false)
  where
    c : ℕ
    c = f.component

    n : ℕ
    n = length f.value

    go : (u t a b : Bool) → Low (cond u q (cond t (cond a (moved_at q (2 * c + 1) n) (cond b q (based_at c (moved_at q (2 * c) n)))) q)).at
    go true t a b = h
    go false false a b = h
    go false true true b = low_put q.at (2 * c + 1) (get_or q.at (2 * c + 1) 0) n h
    go false true false true = h
    go false true false false = low_put q.at (2 * c) (get_or q.at (2 * c) 0) n h

pub low_run : (q : Cursors) (fs : List Firing) → Low q.at → Low (run_cur q fs).at
unfolding run_cur
low_run q [] h = h
low_run q (f ∷ fs) h = low_run (fire_cur q f) fs (low_fire q f h)

-- A loop that fires: what it has fired, with whatever fires the rest, fires the whole.
pub record Going (d₀ : Text) (q₀ : Cursors) (whole : List Firing) (d : Text) (q : Cursors) (rest : List Firing) : Type 0 where
  pub long : length d ≡ length d₀
  pub low : Low q.at
  pub bytes : run_buf d₀ q₀ whole ≡ run_buf d q rest
  pub places : run_cur q₀ whole ≡ run_cur q rest

pub going_start : (d : Text) (q : Cursors) (whole : List Firing) → Low q.at → Going d q whole d q whole
going_start d q whole h = record { long = refl; low = h; bytes = refl; places = refl }

module _ (d₀ : Text) (q₀ : Cursors) (whole : List Firing) (d : Text) (q : Cursors) where
  pub going_more : (x y : List Firing) (d' : Text) (q' : Cursors) → Going d₀ q₀ whole d q (x ++ y) → d' ≡ run_buf d q x → q' ≡ run_cur q x →
      Going d₀ q₀ whole d' q' y
  going_more x y d' q' v a b =
      record {
        long = ap length a ∙ length_run d q x ∙ v.long;
        low = rw b (low_run q x v.low);
        bytes = v.bytes ∙ rw (buf_append, ← a, ← b) refl;
        places = v.places ∙ rw (cur_append, ← b) refl;
      }

  pub going_end : Going d₀ q₀ whole d q [] → (d ≡ run_buf d₀ q₀ whole) × (q ≡ run_cur q₀ whole)
  unfolding run_buf run_cur
  going_end v = (sym v.bytes, sym v.places)

-- what fires of a value
none_fires : (l k c : ℕ) (v : Text) → empty v ≡ true → fired l k c v ≡ []
unfolding fired
none_fires l k c v h = rw h

one_fires : (l k c : ℕ) (v : Text) → empty v ≡ false → fired l k c v ≡ record { line = l; layout = k; component = c; value = v } ∷ []
unfolding fired
one_fires l k c v h = rw h

-- the text v was written at the position of region r
pub record PutAt (d d' : Text) (q q' : Cursors) (r : ℕ) (v : Text) : Type 0 where
  pub bytes : d' ≡ stored d (get_or q.at r 0) v
  pub places : q' ≡ moved_at q r (length v)

-- The ways of one firing, for any value: whether there is no room for sure, whether it is empty, whether it is an addition, and that it was written at its
-- region's position.
module _ (c : ℕ) (v d : Text) (q : Cursors) where
  pub fire_nothing : empty v ≡ true → FiredOne d d q q c v
  fire_nothing h =
      record {
        bytes = λ l k. rw (none_fires l k c v h, run_buf_nil);
        places = λ l k. rw (none_fires l k c v h, run_cur_nil);
      }

  pub fire_full : longest_total < q.total → FiredOne d d q q c v
  unfolding full
  fire_full h = go (empty v) refl
    where
      u : full q ≡ true
      u = lt-ltb longest_total q.total h

      go : (b : Bool) → empty v ≡ b → FiredOne d d q q c v
      go true e = fire_nothing e
      go false e =
          record {
            bytes = λ l k. rw (one_fires l k c v e, run_buf_lem, full_keeps d q _ u, run_buf_nil);
            places = λ l k. rw (one_fires l k c v e, run_cur_lem, full_fires q _ u, run_cur_nil);
          }

  module _ (room : q.total ≤ longest_total) where
    pub fire_over : 4 < c → FiredOne d d q q c v
    unfolding fire_cur fire_buf put_cur put_buf
    fire_over h = go (empty v) refl
      where
        z : ltb c 5 ≡ false
        z = le-ltb c 5 (omega arith)

        go : (b : Bool) → empty v ≡ b → FiredOne d d q q c v
        go true e = fire_nothing e
        go false e =
            record {
              bytes = λ l k. rw (one_fires l k c v e, run_buf_lem, not_full q room, z, run_buf_nil);
              places = λ l k. rw (one_fires l k c v e, run_cur_lem, not_full q room, z, run_cur_nil);
            }

    module _ (m : c ≤ 4) (e : empty v ≡ false) where
      z : ltb c 5 ≡ true
      z = lt-ltb c 5 (omega arith)

      pub fire_add : (r : ℕ) (s : Bool) → r ≡ cond s (2 * c + 1) (2 * c) → s ≡ true → (d' : Text) (q' : Cursors) → signed v ≡ true → PutAt d d' q q' r v →
          FiredOne d d' q q' c v
      unfolding fire_cur fire_buf put_cur put_buf
      fire_add r s n t d' q' g x =
          let w : PutAt d d' q q' (2 * c + 1) v = rw (n, t) at x in
          record {
            bytes = λ l k. w.bytes ∙ rw (one_fires l k c v e, run_buf_lem, not_full q room, z, g, run_buf_nil);
            places = λ l k. w.places ∙ rw (one_fires l k c v e, run_cur_lem, not_full q room, z, g, run_cur_nil);
          }

      pub fire_skip : signed v ≡ false → get_or q.based c false ≡ true → FiredOne d d q q c v
      unfolding fire_cur fire_buf put_cur put_buf
      fire_skip g b =
          record {
            bytes = λ l k. rw (one_fires l k c v e, run_buf_lem, not_full q room, z, g, b, run_buf_nil);
            places = λ l k. rw (one_fires l k c v e, run_cur_lem, not_full q room, z, g, b, run_cur_nil);
          }

      pub fire_base : (r : ℕ) (s : Bool) → r ≡ cond s (2 * c + 1) (2 * c) → s ≡ false → (d' : Text) (q' : Cursors) → signed v ≡ false → get_or q.based c false ≡ false →
          PutAt d d' q q' r v → FiredOne d d' q (based_at c q') c v
      unfolding fire_cur fire_buf put_cur put_buf
      fire_base r s n t d' q' g b x =
          let w : PutAt d d' q q' (2 * c) v = rw (n, t) at x in
          record {
            bytes = λ l k. w.bytes ∙ rw (one_fires l k c v e, run_buf_lem, not_full q room, z, g, b, run_buf_nil);
            places = λ l k. rw (w.places, one_fires l k c v e, run_cur_lem, not_full q room, z, g, b, run_cur_nil);
          }

-- the region by a sum
pub region_is : (c n : ℕ) (b : Bool) → n ≡ from_bool b → 2 * c + n ≡ cond b (2 * c + 1) (2 * c)
region_is c n true e = omega arith
region_is c n false e = omega arith

-- there are ten regions
pub region_low : (c r : ℕ) (s : Bool) → c ≤ 4 → r ≡ cond s (2 * c + 1) (2 * c) → r < 10
region_low c r true h e = omega arith
region_low c r false h e = omega arith

-- a position moved on
pub moves_on : (d d' : Text) (p r : ℕ) (v : Text) → p ≤ farthest → Wrote d d' p v r → (p ≤ r) × (r ≤ farthest)
unfolding past
moves_on d d' p r v h w = (omega (arith, w.next), omega (arith, w.next))

pub put_moved : (d d' : Text) (q : Cursors) (r p : ℕ) (v : Text) → Wrote d d' (get_or q.at r 0) v p →
    PutAt d d' q (record { at = set q.at r p; based = q.based; total = q.total + (p - get_or q.at r 0) }) r v
unfolding moved_at
put_moved d d' q r p v w = record { bytes = w.text; places = rw w.next }
