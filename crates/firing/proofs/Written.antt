-- What firings have still to write, and that they write it.
use Prim.Native.Nat.{ℕ, zero, suc, ◌+◌, ◌*◌, ◌-◌, ◌≤◌, ◌<◌}
use native.Mathlib.Omega.{arith}
use mathlib.Core.Path.{◌≡◌, refl, sym, ap, ◌∙◌}
use mathlib.Core.Bool.{Bool, true, false, cond}
use mathlib.Core.List.{List, [], ◌∷◌, ◌++◌, append-nil}
use lib.ListN.{length, get_or, set, replicate, length-set}
use lib.Dec.{ltb}
use borrow.Author.Tests.{ltb-true, ltb-false, le-ltb, eq-eqb, ne_eqb}
use Rattle.text.specs.Limits.{longest_total}
use Rattle.text.specs.Bytes.{Text}
use Rattle.output.specs.Store.{stored, past}
use Rattle.output.proofs.Stores.{length_stored}
use Rattle.values.specs.Spread.{signed}
use Rattle.firing.specs.declared.Cursors.{Cursors}
use Rattle.answers.specs.Firings.{Firing}
use Rattle.answers.specs.Components.{values_of, base, additions}
use Rattle.answers.specs.Answer.{texts_from, sum, total}
use Rattle.firing.specs.Writing.{moved_at, based_at, put_cur, put_buf, full, fire_cur, fire_buf, run_cur, run_buf, Low}
use Rattle.firing.specs.Stage.{between, Reached}
use Rattle.answers.proofs.Updates.{add_cons, base_cons}
use Rattle.firing.proofs.Regions.{stored_all, add_at, total_add, Apart, past_at, put_apart, put_region, blanks, all_none, grown, low_put, low_at, past_on, grown_put, grown_none}

-- the clauses, as equations
pub run_cur_lem : (q : Cursors) (f : Firing) (fs : List Firing) → run_cur q (f ∷ fs) ≡ run_cur (fire_cur q f) fs
unfolding run_cur
run_cur_lem q f fs = refl

pub run_buf_lem : (d : Text) (q : Cursors) (f : Firing) (fs : List Firing) → run_buf d q (f ∷ fs) ≡ run_buf (fire_buf d q f) (fire_cur q f) fs
unfolding run_buf
run_buf_lem d q f fs = refl

pub run_cur_nil : (q : Cursors) → run_cur q [] ≡ q
unfolding run_cur
run_cur_nil q = refl

pub run_buf_nil : (d : Text) (q : Cursors) → run_buf d q [] ≡ d
unfolding run_buf
run_buf_nil d q = refl

-- firings one after the other
pub cur_append : (q : Cursors) (a b : List Firing) → run_cur q (a ++ b) ≡ run_cur (run_cur q a) b
unfolding run_cur
cur_append q [] b = refl
cur_append q (f ∷ a) b = cur_append (fire_cur q f) a b

pub buf_append : (d : Text) (q : Cursors) (a b : List Firing) → run_buf d q (a ++ b) ≡ run_buf (run_buf d q a) (run_cur q a) b
unfolding run_buf run_cur
buf_append d q [] b = refl
buf_append d q (f ∷ a) b = buf_append (fire_buf d q f) (fire_cur q f) a b

length_put : (d : Text) (q : Cursors) (f : Firing) → length (put_buf d q f) ≡ length d
unfolding put_buf
length_put d q f = go (ltb f.component 5) (signed f.value) (get_or q.based f.component false)
  where
    x : ℕ
    x = get_or q.at (2 * f.component + 1) 0

    y : ℕ
    y = get_or q.at (2 * f.component) 0

    go : (t a b : Bool) → length (cond t (cond a (stored d x f.value) (cond b d (stored d y f.value))) d) ≡ length d
    go false a b = refl
    go true true b = length_stored d x f.value
    go true false true = refl
    go true false false = length_stored d y f.value

length_fire : (d : Text) (q : Cursors) (f : Firing) → length (fire_buf d q f) ≡ length d
unfolding fire_buf
length_fire d q f = go (full q)
  where
    go : (t : Bool) → length (cond t d (put_buf d q f)) ≡ length d
    go true = refl
    go false = length_put d q f

pub length_run : (d : Text) (q : Cursors) (fs : List Firing) → length (run_buf d q fs) ≡ length d
unfolding run_buf
length_run d q [] = refl
length_run d q (f ∷ fs) = length_run (fire_buf d q f) (fire_cur q f) fs ∙ length_fire d q f

-- the texts still to be written: base and additions of each component from k on, a base only where none is set
unfoldable pub left : ℕ → List Bool → List Firing → List Text
left k [] fs = []
left k (b ∷ bs) fs = cond b [] (base (values_of k fs)) ∷ additions (values_of k fs) ∷ left (suc k) bs fs

values_same : (k : ℕ) (f : Firing) (fs : List Firing) → f.component ≡ k → values_of k (f ∷ fs) ≡ f.value ∷ values_of k fs
unfolding values_of
values_same k f fs e = rw (eq-eqb f.component k e)

values_other : (k : ℕ) (f : Firing) (fs : List Firing) → (f.component ≡ k → ⊥) → values_of k (f ∷ fs) ≡ values_of k fs
unfolding values_of
values_other k f fs e = rw (ne_eqb f.component k e)

dbl : ℕ → ℕ
dbl zero = zero
dbl (suc j) = suc (suc (dbl j))

dbl_is : (j : ℕ) → dbl j ≡ 2 * j
unfolding dbl
dbl_is zero = refl
dbl_is (suc j) = let e = dbl_is j in omega arith

-- a firing of a component before k, or behind the last, leaves what is left
left_before_lem : (k : ℕ) (bs : List Bool) (f : Firing) (fs : List Firing) → f.component < k → left k bs (f ∷ fs) ≡ left k bs fs
unfolding left
left_before_lem k [] f fs h = refl
left_before_lem k (b ∷ bs) f fs h = rw (values_other k f fs (λ e. omega arith), left_before_lem (suc k) bs f fs (omega arith))

left_behind : (k : ℕ) (bs : List Bool) (f : Firing) (fs : List Firing) → k + length bs ≤ f.component → left k bs (f ∷ fs) ≡ left k bs fs
unfolding left
left_behind k [] f fs h = refl
left_behind k (b ∷ bs) f fs h = rw (values_other k f fs (λ e. omega arith), left_behind (suc k) bs f fs (omega arith))

-- the three ways of a firing of component k + j
module _ (f : Firing) (fs : List Firing) where
  left_add : (k j : ℕ) (bs : List Bool) → f.component ≡ k + j → j < length bs → signed f.value ≡ true →
      left k bs (f ∷ fs) ≡ add_at (suc (dbl j)) f.value (left k bs fs)
  unfolding left add_at dbl
  left_add k j [] e l h = absurd (omega arith)
  left_add k zero (b ∷ bs) e l h =
      rw (values_same k f fs (omega arith), base_cons, add_cons, h, left_before_lem (suc k) bs f fs (omega arith))
  left_add k (suc j) (b ∷ bs) e l h =
      rw (values_other k f fs (λ z. omega arith), left_add (suc k) j bs (omega arith) (omega arith) h)

  left_base : (k j : ℕ) (bs : List Bool) → f.component ≡ k + j → j < length bs → signed f.value ≡ false → get_or bs j false ≡ false →
      left k bs (f ∷ fs) ≡ add_at (dbl j) f.value (left k (set bs j true) fs)
  unfolding left add_at dbl
  left_base k j [] e l h g = absurd (omega arith)
  left_base k zero (b ∷ bs) e l h g =
      rw (g, values_same k f fs (omega arith), base_cons, add_cons, h, left_before_lem (suc k) bs f fs (omega arith), append-nil)
  left_base k (suc j) (b ∷ bs) e l h g =
      rw (values_other k f fs (λ z. omega arith), left_base (suc k) j bs (omega arith) (omega arith) h g)

  left_skip : (k j : ℕ) (bs : List Bool) → f.component ≡ k + j → j < length bs → signed f.value ≡ false → get_or bs j false ≡ true →
      left k bs (f ∷ fs) ≡ left k bs fs
  unfolding left
  left_skip k j [] e l h g = absurd (omega arith)
  left_skip k zero (b ∷ bs) e l h g =
      rw (g, values_same k f fs (omega arith), add_cons, h, left_before_lem (suc k) bs f fs (omega arith))
  left_skip k (suc j) (b ∷ bs) e l h g =
      rw (values_other k f fs (λ z. omega arith), left_skip (suc k) j bs (omega arith) (omega arith) h g)

left_nil : (k : ℕ) (bs : List Bool) → left k bs [] ≡ blanks (dbl (length bs))
unfolding left blanks values_of base additions dbl
left_nil k [] = refl
left_nil k (true ∷ bs) = rw (left_nil (suc k) bs)
left_nil k (false ∷ bs) = rw (left_nil (suc k) bs)

left_length : (k : ℕ) (bs : List Bool) (fs : List Firing) → length (left k bs fs) ≡ 2 * length bs
unfolding left
left_length k [] fs = refl
left_length k (b ∷ bs) fs = let e = left_length (suc k) bs fs in omega arith

-- the position of region r moved on by n bytes, and the bases that are then set
abbrev pub onward : Cursors → ℕ → List Bool → ℕ → Cursors
onward q r bs n =
    record { at = set q.at r (past (get_or q.at r 0) n); based = bs; total = q.total + (past (get_or q.at r 0) n - get_or q.at r 0) }

-- with no room for sure nothing fires
pub full_fires : (q : Cursors) (f : Firing) → full q ≡ true → fire_cur q f ≡ q
unfolding fire_cur
full_fires q f h = rw h

pub full_keeps : (d : Text) (q : Cursors) (f : Firing) → full q ≡ true → fire_buf d q f ≡ d
unfolding fire_buf
full_keeps d q f h = rw h

full_stays : (q : Cursors) (fs : List Firing) → full q ≡ true → run_cur q fs ≡ q
full_stays q [] h = run_cur_nil q
full_stays q (f ∷ fs) h = rw (run_cur_lem, full_fires q f h) (full_stays q fs h)

pub not_full : (q : Cursors) → q.total ≤ longest_total → full q ≡ false
unfolding full
not_full q h = le-ltb longest_total q.total h

full_over : (q : Cursors) → full q ≡ true → longest_total < q.total
unfolding full
full_over q h = ltb-true longest_total q.total h

-- what one firing does otherwise, as one of two ways
pub data Way (q : Cursors) (f : Firing) (fs : List Firing) : Type 0 where
  none : fire_cur q f ≡ q → ((d : Text) → fire_buf d q f ≡ d) → left 0 q.based (f ∷ fs) ≡ left 0 q.based fs → Way q f fs
  goes : (r : ℕ) (bs : List Bool) → r < 10 → length bs ≡ 5 → fire_cur q f ≡ onward q r bs (length f.value) →
      ((d : Text) → fire_buf d q f ≡ stored d (get_or q.at r 0) f.value) →
      left 0 q.based (f ∷ fs) ≡ add_at r f.value (left 0 bs fs) → Way q f fs

way : (q : Cursors) (f : Firing) (fs : List Firing) → length q.based ≡ 5 → full q ≡ false → Way q f fs
unfolding fire_cur fire_buf put_cur put_buf moved_at based_at
way q f fs l u = go (ltb f.component 5) (signed f.value) (get_or q.based f.component false) refl refl refl
  where
    c : ℕ
    c = f.component

    go : (t a b : Bool) → ltb c 5 ≡ t → signed f.value ≡ a → get_or q.based c false ≡ b → Way q f fs
    go false a b e g h =
        let n : 5 ≤ c = ltb-false c 5 e in
        none (rw (u, e)) (λ d. rw (u, e)) (left_behind 0 q.based f fs (omega arith))
    go true true b e g h =
        let n : c < 5 = ltb-true c 5 e in
        let z : suc (dbl c) ≡ 2 * c + 1 = omega (arith, dbl_is c) in
        goes (2 * c + 1) q.based (omega arith) l (rw (u, e, g)) (λ d. rw (u, e, g))
        (rw (left_add f fs 0 c q.based (omega arith) (omega arith) g, z))
    go true false true e g h =
        let n : c < 5 = ltb-true c 5 e in
        none (rw (u, e, g, h)) (λ d. rw (u, e, g, h)) (left_skip f fs 0 c q.based (omega arith) (omega arith) g h)
    go true false false e g h =
        let n : c < 5 = ltb-true c 5 e in
        goes (2 * c) (set q.based c true) (omega arith) (length-set q.based c true ∙ l) (rw (u, e, g, h)) (λ d. rw (u, e, g, h))
        (rw (left_base f fs 0 c q.based (omega arith) (omega arith) g h, dbl_is c))

-- firings whose regions are apart, and for which there is room, write into each what is left for it
pub written : (fs : List Firing) (d : Text) (q : Cursors) (k : ℕ) → length q.at ≡ 10 → length q.based ≡ 5 →
    q.total + total (left 0 q.based fs) ≤ longest_total → Apart k q.at (left 0 q.based fs) → run_buf d q fs ≡ stored_all d q.at (left 0 q.based fs)
written [] d q k n m s h = rw (run_buf_nil, left_nil, all_none)
written (f ∷ fs) d q k n m s h = go (way q f fs m (not_full q (omega arith))) (λ d' q' x y w z. written fs d' q' k x y w z)
  where
    go : Way q f fs → ((d' : Text) (q' : Cursors) → length q'.at ≡ 10 → length q'.based ≡ 5 → q'.total + total (left 0 q'.based fs) ≤ longest_total →
        Apart k q'.at (left 0 q'.based fs) → run_buf d' q' fs ≡ stored_all d' q'.at (left 0 q'.based fs)) →
        run_buf d q (f ∷ fs) ≡ stored_all d q.at (left 0 q.based (f ∷ fs))
    go (none a b e) next = rw (run_buf_lem, a, b d, e) (next d q n m (rw e at s) (rw e at h))
    go (goes r bs l w a b e) next =
        let i : r < length q.at = omega arith in
        let g = rw e at h in
        let x = past_at d k q.at (left 0 bs fs) r f.value i g in
        let y = total_add r f.value (left 0 bs fs) (omega (arith, left_length 0 bs fs)) in
        let z = rw (e, y) at s in
        rw (run_buf_lem, a, b d, e)
        (next (stored d (get_or q.at r 0) f.value) (onward q r bs (length f.value))
        (length-set q.at r (past (get_or q.at r 0) (length f.value)) ∙ n) w (omega (arith, x, z))
        (put_apart d k q.at (left 0 bs fs) r f.value i g)
        ∙ put_region d k q.at (left 0 bs fs) r f.value i g)

-- where there is room, the positions have moved on by the lengths of what was left
pub measured : (fs : List Firing) (q : Cursors) → length q.at ≡ 10 → length q.based ≡ 5 → Low q.at → (run_cur q fs).total ≤ longest_total →
    (run_cur q fs).at ≡ grown q.at (left 0 q.based fs)
measured [] q n m h s = rw (run_cur_nil, left_nil, grown_none q.at (dbl (length q.based)) h)
measured (f ∷ fs) q n m h s = by (full q) refl (λ q' x y z w. measured fs q' x y z w)
  where
    Next : Type 0
    Next = (q' : Cursors) → length q'.at ≡ 10 → length q'.based ≡ 5 → Low q'.at → (run_cur q' fs).total ≤ longest_total →
        (run_cur q' fs).at ≡ grown q'.at (left 0 q'.based fs)

    go : Way q f fs → Next → (run_cur q (f ∷ fs)).at ≡ grown q.at (left 0 q.based (f ∷ fs))
    go (none a b e) next = rw (run_cur_lem, a, e) (next q n m h (rw (run_cur_lem, a) at s))
    go (goes r bs l w a b e) next =
        let z : length (left 0 bs fs) ≡ length q.at = omega (arith, left_length 0 bs fs) in
        rw (run_cur_lem, a, e)
        (next (onward q r bs (length f.value))
        (length-set q.at r (past (get_or q.at r 0) (length f.value)) ∙ n) w (low_put q.at r (get_or q.at r 0) (length f.value) h)
        (rw (run_cur_lem, a) at s)
        ∙ grown_put q.at (left 0 bs fs) r f.value z)

    by : (t : Bool) → full q ≡ t → Next → (run_cur q (f ∷ fs)).at ≡ grown q.at (left 0 q.based (f ∷ fs))
    by true u next = absurd (omega (arith, s, full_over q u, ap (λ (x : Cursors). x.total) (full_stays q (f ∷ fs) u)))
    by false u next = go (way q f fs m u) next

-- they never move further than that
pub moved_most : (fs : List Firing) (q : Cursors) → length q.at ≡ 10 → length q.based ≡ 5 → Low q.at →
    (run_cur q fs).total ≤ q.total + total (left 0 q.based fs)
moved_most [] q n m h = rw run_cur_nil (omega arith)
moved_most (f ∷ fs) q n m h = by (full q) refl (λ q' x y z. moved_most fs q' x y z)
  where
    Next : Type 0
    Next = (q' : Cursors) → length q'.at ≡ 10 → length q'.based ≡ 5 → Low q'.at → (run_cur q' fs).total ≤ q'.total + total (left 0 q'.based fs)

    go : Way q f fs → Next → (run_cur q (f ∷ fs)).total ≤ q.total + total (left 0 q.based (f ∷ fs))
    go (none a b e) next = rw (run_cur_lem, a, e) (next q n m h)
    go (goes r bs l w a b e) next =
        let p = get_or q.at r 0 in
        let y = total_add r f.value (left 0 bs fs) (omega (arith, left_length 0 bs fs)) in
        let i = next (onward q r bs (length f.value)) (length-set q.at r (past p (length f.value)) ∙ n) w (low_put q.at r p (length f.value) h) in
        rw (run_cur_lem, a, e, y) (omega (arith, i, (past_on p (length f.value) (low_at q.at r h)).1))

    by : (t : Bool) → full q ≡ t → Next → (run_cur q (f ∷ fs)).total ≤ q.total + total (left 0 q.based (f ∷ fs))
    by true u next = omega (arith, ap (λ (x : Cursors). x.total) (full_stays q (f ∷ fs) u))
    by false u next = go (way q f fs m u) next

-- how far they have moved is told by the positions
module _ (ps : List ℕ) where
  between_set : (xs es : List ℕ) (r e : ℕ) → length es ≡ length xs → r < length es → Reached xs es → get_or es r 0 ≤ e →
      Reached xs (set es r e) × (sum (between xs (set es r e)) ≡ sum (between xs es) + (e - get_or es r 0))
  unfolding Reached between sum
  between_set [] es r e l i h g = absurd (omega arith)
  between_set (x ∷ xs) [] r e l i h g = absurd (omega arith)
  between_set (x ∷ xs) (y ∷ es) zero e l i h g = ((omega (arith, h.0), h.1), omega (arith, h.0))
  between_set (x ∷ xs) (y ∷ es) (suc r) e l i h g =
      let w = between_set xs es r e (omega arith) (omega arith) h.1 g in
      ((h.0, w.0), omega (arith, w.1))

  pub record Moved (q : Cursors) : Type 0 where
    pub ten : length q.at ≡ 10
    pub five : length q.based ≡ 5
    pub low : Low q.at
    pub reached : Reached ps q.at
    pub told : sum (between ps q.at) ≡ q.total

  pub moved_run : (fs : List Firing) (q : Cursors) → length ps ≡ 10 → Moved q → Moved (run_cur q fs)
  moved_run [] q l v = rw run_cur_nil v
  moved_run (f ∷ fs) q l v = rw run_cur_lem (by (full q) refl (λ q' w. moved_run fs q' l w))
    where
      go : Way q f fs → ((q' : Cursors) → Moved q' → Moved (run_cur q' fs)) → Moved (run_cur (fire_cur q f) fs)
      go (none a b e) next = rw a (next q v)
      go (goes r bs i w a b e) next =
          let p = get_or q.at r 0 in
          let n = length f.value in
          let t = between_set ps q.at r (past p n) (v.ten ∙ sym l) (omega (arith, v.ten)) v.reached (past_on p n (low_at q.at r v.low)).0 in
          rw a
          (next (onward q r bs n)
          (record {
            ten = length-set q.at r (past p n) ∙ v.ten;
            five = w;
            low = low_put q.at r p n v.low;
            reached = t.0;
            told = t.1 ∙ ap (λ (x : ℕ). x + (past p n - p)) v.told;
          }))

      by : (t : Bool) → full q ≡ t → ((q' : Cursors) → Moved q' → Moved (run_cur q' fs)) → Moved (run_cur (fire_cur q f) fs)
      by true u next = rw (full_fires q f u) (next q v)
      by false u next = go (way q f fs v.five u) next

-- with no base set all texts are left
pub left_all : (k n : ℕ) (fs : List Firing) → left k (replicate n false) fs ≡ texts_from k n fs
unfolding left texts_from
left_all k zero fs = refl
left_all k (suc n) fs = rw (left_all (suc k) n fs)
