-- A number put in at its rank, and the rank of a name that is not listed.
use Rattle.std.proofs.Common.{◌≡◌, ℕ, zero, suc, ◌+◌, ◌-◌, ◌≤◌, ◌<◌, Bool, true, false, cond, ltb, List, ◌∷◌, ◌++◌, length, get_or, set, take, drop, add-one, add-zero, refl, sym, ap, ◌∙◌, arith}
use Rattle.std.specs.Ordering.{ordering_reverse, is_lt}
use Rattle.std.proofs.lemmas.List.{take_more, take_more_set, take_all, take-take, drop-drop, drop-set-lt, length-set, length-drop, length-take-le, get_or-take, get_or-drop, get_or_append_left}
use Rattle.std.proofs.Math.Seq.{get_or-append_right}
use borrow.Author.Tests.{ltb-true, ltb-false}
use borrow.Rule.Slice.PartMut.{mid_of, put_mid}
use Rattle.text.specs.Bytes.{Text}
use Rattle.text.specs.declared.Span.{Span}
use Rattle.listing.specs.Names.{order, ranked_at, rank_of, with_rank, Gap}
use Rattle.listing.proofs.Orders.{order_total, less_is}

-- a number carried along a list: each place takes the one before it
pub record Carried (n : ℕ) (xs ys : List ℕ) (k c : ℕ) : Type 0 where
  pub size : length ys ≡ length xs
  pub done : take k ys ≡ take k (n ∷ xs)
  pub left : drop k ys ≡ drop k xs
  pub next : c ≡ get_or (n ∷ xs) k 0

pub carried_start : (n : ℕ) (xs : List ℕ) → Carried n xs xs 0 n
carried_start n xs = record { size = refl; done = refl; left = refl; next = refl }

module _ (n : ℕ) (xs ys : List ℕ) (k c : ℕ) (v : Carried n xs ys k c) where
  pub carried_more : k < length ys → (d : ℕ) → d ≡ get_or ys k 0 → Carried n xs (set ys k c) (k + 1) d
  carried_more l d e =
      record {
        size = length-set ys k c ∙ v.size;
        done = take_more_set ys k c l ∙ (rw (v.done, v.next) refl ∙ sym (take_more (n ∷ xs) k 0 (omega (arith, v.size))));
        left = drop-set-lt (k + 1) ys k c (omega arith) ∙ (sym (drop-drop 1 k ys) ∙ (ap (drop 1) v.left ∙ drop-drop 1 k xs));
        next = e ∙ (here ys ∙ (ap (λ (zs : List ℕ). get_or zs 0 0) v.left ∙ (sym (here xs) ∙ rw (add-one k) refl)));
      }
    where
      here : (zs : List ℕ) → get_or zs k 0 ≡ get_or (drop k zs) 0 0
      here zs = sym (get_or-drop k zs 0 0 ∙ ap (λ (i : ℕ). get_or zs i 0) (add-zero k))

  pub carried_end : length xs ≤ k → ys ≡ take (length xs) (n ∷ xs)
  carried_end l =
      let cut : take (length xs) (take k ys) ≡ take (length xs) (take k (n ∷ xs)) = ap (take (length xs)) v.done in
      sym (take_all (length xs) ys (omega (arith, v.size)))
      ∙ (sym (take-take (length xs) k ys l) ∙ (cut ∙ take-take (length xs) k (n ∷ xs) l))

-- the numbers with their places
module _ (ranks : List ℕ) (i n : ℕ) (a : i ≤ n) (b : n < length ranks) where
  pub ranks_put : put_mid i (n + 1 - i) ranks (take (length (mid_of i (n + 1 - i) ranks)) (n ∷ mid_of i (n + 1 - i) ranks)) ≡ with_rank ranks i n
  unfolding with_rank
  ranks_put =
      let d : List ℕ = drop i ranks in
      let more : n + 1 - i ≡ suc (n - i) = omega arith in
      let size : length (take (suc (n - i)) d) ≡ suc (n - i) = length-take-le (suc (n - i)) d (omega (arith, length-drop i ranks)) in
      let behind : drop (suc (n - i)) d ≡ drop (n + 1) ranks = drop-drop (suc (n - i)) i ranks ∙ ap (λ (k : ℕ). drop k ranks) (omega arith) in
      rw (more, size, behind, take-take (n - i) (suc (n - i)) d (omega arith)) refl

  front : length (take i ranks) ≡ i
  front = length-take-le i ranks (omega arith)

  pub rank_below : (j : ℕ) → j < i → get_or (with_rank ranks i n) j 0 ≡ get_or ranks j 0
  unfolding with_rank
  rank_below j l = get_or_append_left (take i ranks) _ 0 j (omega (arith, front)) ∙ get_or-take i ranks j 0 l

  pub rank_here : get_or (with_rank ranks i n) i 0 ≡ n
  unfolding with_rank
  rank_here =
      let z : i - length (take i ranks) ≡ 0 = omega (arith, front) in
      get_or-append_right (take i ranks) _ i 0 (omega (arith, front))
      ∙ ap (λ (k : ℕ). get_or (n ∷ (take (n - i) (drop i ranks) ++ drop (n + 1) ranks)) k 0) z

  pub rank_above : (j : ℕ) → i ≤ j → j < n → get_or (with_rank ranks i n) (j + 1) 0 ≡ get_or ranks j 0
  unfolding with_rank
  rank_above j l m =
      let back : List ℕ = drop (n + 1) ranks in
      let size : length (take (n - i) (drop i ranks)) ≡ n - i = length-take-le (n - i) (drop i ranks) (omega (arith, length-drop i ranks)) in
      get_or-append_right (take i ranks) _ (j + 1) 0 (omega (arith, front))
      ∙ (ap (λ (k : ℕ). get_or (n ∷ (take (n - i) (drop i ranks) ++ back)) k 0) {y = suc (j - i)} (omega (arith, front))
      ∙ (get_or_append_left (take (n - i) (drop i ranks)) back 0 (j - i) (omega (arith, size))
      ∙ (get_or-take (n - i) (drop i ranks) (j - i) 0 (omega arith)
      ∙ (get_or-drop i ranks (j - i) 0 ∙ ap (λ (k : ℕ). get_or ranks k 0) (omega arith)))))

-- the rank of a name that is not listed
module _ (s : Text) (spans : List Span) (ranks : List ℕ) (w : Text) (i : ℕ) (below : (j : ℕ) → j < i → is_lt (order (ranked_at s spans ranks j) w) ≡ true) where
  rank_is : (n : ℕ) → i ≤ n → ((j : ℕ) → i ≤ j → j < n → is_lt (order (ranked_at s spans ranks j) w) ≡ false) → i ≡ rank_of s spans ranks n w
  unfolding rank_of
  rank_is zero a above = omega arith
  rank_is (suc n) a above = by (ltb i (suc n)) refl (λ l. rank_is n l (λ j b c. above j b (omega arith)))
    where
      by : (u : Bool) → ltb i (suc n) ≡ u → (i ≤ n → i ≡ rank_of s spans ranks n w) → i ≡ cond (is_lt (order (ranked_at s spans ranks n) w)) (suc n) (rank_of s spans ranks n w)
      by true q f =
          let l = ltb-true i (suc n) q in
          rw (above n (omega arith) (omega arith)) (f (omega arith))
      by false q f =
          let l = ltb-false i (suc n) q in
          rw (below n (omega arith)) (omega arith)

pub rank_gap : (s : Text) (spans : List Span) (ranks : List ℕ) (n : ℕ) (w : Text) (i : ℕ) → Gap s spans ranks n w i → i ≡ rank_of s spans ranks n w
rank_gap s spans ranks n w i h =
    rank_is s spans ranks w i h.below n h.few
    (λ j a b. ap is_lt (order_total.antisymm (ranked_at s spans ranks j) w ∙ ap ordering_reverse (sym (less_is _ (h.above j a b)))))
