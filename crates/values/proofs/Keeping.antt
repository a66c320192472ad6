-- The pieces that do not end with `:all` stay as they are, and the next that does is found without a look at each.
use Prim.Native.Nat.{ℕ, zero, suc, ◌+◌, ◌-◌, ◌≤◌, ◌<◌}
use native.Mathlib.Omega.{arith}
use mathlib.Core.Path.{◌≡◌, refl, sym, ap, ◌∙◌}
use mathlib.Core.List.{List, [], ◌∷◌, ◌++◌, append_assoc, append-nil}
use mathlib.Core.Bool.{Bool, true, false, ◌||◌, cond}
use lib.ListN.{length, take, drop, get_or, length-append, length-take, length-drop, take-append-drop, get_or-append}
use lib.Seq.{drop-length, drop-append-le, drop-append_seam, take-append_seam, drop-drop, take-add, get_or-drop}
use lib.Dec.{eqb, ltb, leb}
use borrow.Author.Tests.{eqb-true, eqb-false, ltb-true, ltb-false, le-leb, lt-leb}
use Rattle.text.specs.Bytes.{Text, bytes, same, empty, first, part, concat_map}
use Rattle.text.proofs.Comparing.{drop_at}
use Rattle.text.proofs.Lists.{no, or_right, same_eq}
use Rattle.text.proofs.Numbers.{below_or}
use Rattle.text.proofs.Positions.{part_empty, part_cons}
use Rattle.rules.specs.Headings.{decimal}
use Rattle.rules.proofs.Pieces.{tail_whole}
use Rattle.profile.specs.Profile.{push}
use Rattle.values.specs.Spread.{is_sign, signed, cuts, ends_all, stem, copies, spread}
use Rattle.std.specs.Prelude.{Option, Some, None}
use Rattle.values.specs.Cutting.{upto, closes_all, FreeOfAll, FirstAll, FirstColon, ToColon, start_of, more_copies}
use Rattle.values.proofs.Cuts.{beyond, InCut, later, cuts_first, first_cut, upto_sign, upto_other, upto_nil, beyond_other, upto_beyond, beyond_starts, CutEnd, in_cut_start, in_cut_more, in_cut_end, cut_at, cut_over}
use Rattle.values.proofs.Copying.{all_long, ends_long, first_copy, spread_nil}

signless : (k : ℕ) → k < 4 → is_sign (get_or (bytes ":all") k 0) ≡ false
unfolding is_sign bytes
signless zero l = refl
signless (suc zero) l = refl
signless (suc (suc zero)) l = refl
signless (suc (suc (suc zero))) l = refl
signless (suc (suc (suc (suc k)))) l = absurd (omega arith)

-- `:all` at the end of a piece closes it, before a sign as at the end
all_upto : (z : Text) → upto (bytes ":all" ++ z) ≡ bytes ":all" ++ upto z
unfolding upto is_sign bytes
all_upto z = refl

all_closes : (z : Text) → upto z ≡ [] → closes_all (bytes ":all" ++ z) ≡ true
unfolding closes_all bytes same
all_closes z h = rw (all_upto z, h)

ends_closes : (w z : Text) → upto z ≡ [] → ends_all w ≡ true → closes_all (drop (length w - 4) (w ++ z)) ≡ true
unfolding ends_all
ends_closes w z u h =
    let e : drop (length w - 4) w ≡ bytes ":all" = same_eq (drop (length w - 4) w) (bytes ":all") h in
    rw (drop-append-le (length w - 4) w z (omega arith), e) (all_closes z u)

all_goes_on : (b : ℕ) (z : Text) → is_sign b ≡ false → closes_all (bytes ":all" ++ (b ∷ z)) ≡ false
unfolding closes_all bytes same
all_goes_on b z e = rw (all_upto (b ∷ z), upto_other b z e)

-- a piece of a text in whose first m bytes no `:all` closes a piece does not end with it
piece_free : (w z : Text) (m : ℕ) → upto z ≡ [] → length w ≤ m → ((k : ℕ) → k < m → closes_all (drop k (w ++ z)) ≡ false) → ends_all w ≡ false
piece_free w z m u l f = go (ends_all w) refl
  where
    go : (t : Bool) → ends_all w ≡ t → ends_all w ≡ false
    go true e = absurd (no (sym (f (length w - 4) (omega (arith, ends_long w e))) ∙ ends_closes w z u e))
    go false e = e

upto_short : (a b : Text) → upto b ≡ [] → length (upto (a ++ b)) ≤ length a
unfolding upto
upto_short [] b h = rw h (omega arith)
upto_short (x ∷ a) b h = go (is_sign x) (upto_short a b h)
  where
    go : (t : Bool) → length (upto (a ++ b)) ≤ length a → length (cond t [] (x ∷ upto (a ++ b))) ≤ suc (length a)
    go true l = omega arith
    go false l = omega arith

all_same : same (bytes ":all") (bytes ":all") ≡ true
unfolding same bytes
all_same = refl

module _ (n : ℕ) where
  spread_plain : (w : Text) → ends_all w ≡ false → spread n w ≡ w
  unfolding spread
  spread_plain w h = rw h

  spread_closed : (u : Text) → spread n (u ++ bytes ":all") ≡ copies n 1 u
  unfolding spread ends_all stem
  spread_closed u =
      let z : length (u ++ bytes ":all") - 4 ≡ length u = omega (arith, length-append u (bytes ":all"), all_long) in
      rw (z, drop-append_seam u (bytes ":all"), take-append_seam u (bytes ":all"), all_same)

  map_first : (x : Text) (xs : List Text) → concat_map (spread n) (x ∷ xs) ≡ spread n x ++ concat_map (spread n) xs
  unfolding concat_map
  map_first x xs = refl

  -- a text a before a sign or before nothing, the first piece not yet spread
  first_kept : (a b : Text) → upto b ≡ [] → ((k : ℕ) → k < length a → closes_all (drop k (a ++ b)) ≡ false) →
      upto (a ++ b) ++ concat_map (spread n) (later (a ++ b)) ≡ a ++ concat_map (spread n) (cuts b)
  unfolding upto later
  first_kept [] b h f =
      rw (cuts_first b, map_first (upto b) (later b), h, spread_nil n)
  first_kept (x ∷ a) b h f = go (is_sign x) (first_kept a b h (λ k l. f (suc k) (omega arith)))
    where
      whole : x ∷ (upto (a ++ b) ++ beyond (a ++ b)) ≡ x ∷ (a ++ b)
      whole = ap (λ (y : Text). x ∷ y) (upto_beyond (a ++ b))

      go : (t : Bool) → upto (a ++ b) ++ concat_map (spread n) (later (a ++ b)) ≡ a ++ concat_map (spread n) (cuts b) →
          cond t [] (x ∷ upto (a ++ b)) ++ concat_map (spread n) (cond t (push x (cuts (a ++ b))) (later (a ++ b))) ≡ x ∷ (a ++ concat_map (spread n) (cuts b))
      go true g =
          let s = upto_short a b h in
          let e : ends_all (x ∷ upto (a ++ b)) ≡ false =
          piece_free (x ∷ upto (a ++ b)) (beyond (a ++ b)) (suc (length a)) (beyond_starts (a ++ b)) (omega arith) (λ k l. ap (λ (y : Text). closes_all (drop k y)) whole ∙ f k l) in
          first_cut (spread n) x (a ++ b) ∙ rw (spread_plain (x ∷ upto (a ++ b)) e) (ap (λ (y : Text). x ∷ y) g)
      go false g = ap (λ (y : Text). x ∷ y) g

  texts_kept : (a b : Text) → upto b ≡ [] → ((k : ℕ) → k < length a → closes_all (drop k (a ++ b)) ≡ false) →
      concat_map (spread n) (cuts (a ++ b)) ≡ a ++ concat_map (spread n) (cuts b)
  texts_kept a b h f =
      let e : ends_all (upto (a ++ b)) ≡ false =
      piece_free (upto (a ++ b)) (beyond (a ++ b)) (length a) (beyond_starts (a ++ b)) (upto_short a b h) (λ k l. ap (λ (y : Text). closes_all (drop k y)) (upto_beyond (a ++ b)) ∙ f k l) in
      rw (cuts_first (a ++ b), map_first (upto (a ++ b)) (later (a ++ b)), spread_plain (upto (a ++ b)) e) (first_kept a b h f)

  -- the pieces from i up to p, where a sign stands or the text ends
  run_kept : (t : Text) (i p : ℕ) → i ≤ p → p ≤ length t → upto (drop p t) ≡ [] → ((k : ℕ) → i ≤ k → k < p → closes_all (drop k t) ≡ false) →
      concat_map (spread n) (cuts (drop i t)) ≡ part t i p ++ concat_map (spread n) (cuts (drop p t))
  unfolding part
  run_kept t i p l h u f =
      ap (λ (x : Text). concat_map (spread n) (cuts x)) (sym whole)
      ∙ texts_kept (take (p - i) (drop i t)) (drop p t) u
      (λ k m. ap (λ (x : Text). closes_all (drop k x)) whole ∙ (ap closes_all (drop-drop k i t) ∙ f (i + k) (omega arith) (omega (arith, m, length-take (p - i) (drop i t)))))
    where
      whole : take (p - i) (drop i t) ++ drop p t ≡ drop i t
      whole =
          let z : i + (p - i) ≡ p = omega arith in
          ap (λ (x : Text). take (p - i) (drop i t) ++ x) (sym (drop-drop (p - i) i t ∙ ap (λ (k : ℕ). drop k t) z)) ∙ take-append-drop (p - i) (drop i t)

-- no sign stands in a piece one byte longer
in_cut_back : (t : Text) (c p : ℕ) → c < length t → p + 1 ≤ c → is_sign (get_or t (suc p) 0) ≡ false → InCut t (suc p + 1) (c + 1) → InCut t (p + 1) (c + 1)
in_cut_back t c p m h e v =
    let z : suc p ≡ p + 1 = omega arith in
    let e' = rw z at e in
    let v' = rw z at v in
    let l : p + 1 < length t = omega arith in
    record {
      low = omega arith;
      high = omega arith;
      piece =
          rw (drop_at t (p + 1) l, upto_other (get_or t (p + 1) 0) (drop (p + 1 + 1) t) e', part_cons t (p + 1) (c + 1) (omega arith) (omega arith)) (ap (λ (x : Text). get_or t (p + 1) 0 ∷ x) v'.piece);
      rest = rw (drop_at t (p + 1) l) (beyond_other (get_or t (p + 1) 0) (drop (p + 1 + 1) t) e' ∙ v'.rest);
    }

-- parts

part_join : (t : Text) (a b c : ℕ) → a ≤ b → b ≤ c → part t a b ++ part t b c ≡ part t a c
unfolding part
part_join t a b c l m =
    let z : a + (b - a) ≡ b = omega arith in
    let y : b - a + (c - b) ≡ c - a = omega arith in
    sym (ap (λ (k : ℕ). take k (drop a t)) (sym y) ∙ (take-add (b - a) (c - b) (drop a t) ∙ ap (λ (x : Text). take (b - a) (drop a t) ++ take (c - b) x) (drop-drop (b - a) a t ∙ ap (λ (k : ℕ). drop k t) z)))

all_bytes : (z : Text) → 58 ∷ 97 ∷ 108 ∷ 108 ∷ z ≡ bytes ":all" ++ z
unfolding bytes
all_bytes z = refl

all_taken : (z : Text) → take 4 (bytes ":all" ++ z) ≡ bytes ":all"
unfolding bytes
all_taken z = refl

-- what stands where `:all` closes a piece
module _ (r : Text) (h : closes_all r ≡ true) where
  closes_is : r ≡ bytes ":all" ++ beyond r
  unfolding closes_all
  closes_is = sym (upto_beyond r) ∙ ap (λ (x : Text). x ++ beyond r) (same_eq (upto r) (bytes ":all") h)

  closes_rest : drop 4 r ≡ beyond r
  unfolding bytes
  closes_rest = ap (drop 4) closes_is

  closes_long : 4 ≤ length r
  closes_long = omega (arith, ap length closes_is, length-append (bytes ":all") (beyond r), all_long)

  closes_byte : (k : ℕ) → k < 4 → get_or r k 0 ≡ get_or (bytes ":all") k 0
  closes_byte k m = ap (λ (x : Text). get_or x k 0) closes_is ∙ get_or-append (bytes ":all") (beyond r) 0 k (omega (arith, all_long))

-- what stands behind the `:all` of a piece that ends with it: nothing, or a sign
pub closes_behind : (z : Text) → closes_all (bytes ":all" ++ z) ≡ empty z || signed z
unfolding empty signed first
closes_behind [] = all_closes [] upto_nil
closes_behind (b ∷ z) = go (is_sign b) refl
  where
    go : (x : Bool) → is_sign b ≡ x → closes_all (bytes ":all" ++ (b ∷ z)) ≡ is_sign b
    go true u = all_closes (b ∷ z) (upto_sign b z u) ∙ sym u
    go false u = all_goes_on b z u ∙ sym u

pub closes_not : (r : Text) → ((z : Text) → r ≡ bytes ":all" ++ z → ⊥) → false ≡ closes_all r
closes_not r n = go (closes_all r) refl
  where
    go : (b : Bool) → closes_all r ≡ b → false ≡ closes_all r
    go true e = absurd (n (beyond r) (closes_is r e))
    go false e = sym e

closes_first : (t : Text) (i : ℕ) → (get_or t i 0 ≡ 58 → ⊥) → closes_all (drop i t) ≡ false
unfolding bytes
closes_first t i h = none (closes_all (drop i t)) refl
  where
    none : (b : Bool) → closes_all (drop i t) ≡ b → closes_all (drop i t) ≡ false
    none true e = let z : i + 0 ≡ i = omega arith in absurd (h (rw z at (sym (get_or-drop i t 0 0) ∙ closes_byte (drop i t) e 0 (omega arith))))
    none false e = e

closes_short : (t : Text) (i : ℕ) → length t - i < 4 → closes_all (drop i t) ≡ false
closes_short t i h = go (closes_all (drop i t)) refl
  where
    go : (b : Bool) → closes_all (drop i t) ≡ b → closes_all (drop i t) ≡ false
    go true e = absurd (omega (arith, closes_long (drop i t) e, length-drop i t))
    go false e = e

all_signless : (t : Text) (c : ℕ) → closes_all (drop c t) ≡ true → (k : ℕ) → k < 4 → is_sign (get_or t (c + k) 0) ≡ false
all_signless t c h k m = ap is_sign (sym (get_or-drop c t k 0) ∙ closes_byte (drop c t) h k m) ∙ signless k m

pub free_start : (t : Text) (from : ℕ) → from ≤ length t → FreeOfAll t from from
free_start t from h = record { low = omega arith; high = h; free = λ k a b. absurd (omega arith) }

-- the loop of `to_colon`: no colon stands from `from` up to i
pub record Colonless (t : Text) (from i : ℕ) : Type 0 where
  pub low : from ≤ i
  pub high : i ≤ length t
  pub plain : (k : ℕ) → from ≤ k → k < i → get_or t k 0 ≡ 58 → ⊥

pub plain_start : (t : Text) (from : ℕ) → from ≤ length t → Colonless t from from
plain_start t from h = record { low = omega arith; high = h; plain = λ k a b. absurd (omega arith) }

pub plain_more : (t : Text) (from i j : ℕ) → i + 1 ≡ j → i < length t → Colonless t from i → (get_or t i 0 ≡ 58 → ⊥) → Colonless t from j
plain_more t from i j z l v n = record { low = omega (arith, v.low); high = omega arith; plain = λ k a b. by k a (omega arith) (eqb k i) refl }
  where
    by : (k : ℕ) → from ≤ k → k < i + 1 → (u : Bool) → eqb k i ≡ u → get_or t k 0 ≡ 58 → ⊥
    by k a b true q = let c : k ≡ i = eqb-true k i q in λ e. n (rw c at e)
    by k a b false q = v.plain k a (below_or k i (omega arith) (eqb-false k i q))

pub colon_at : (t : Text) (from i : ℕ) → Colonless t from i → i < length t → get_or t i 0 ≡ 58 → FirstColon t from i
colon_at t from i v h e = record { low = v.low; high = h; plain = v.plain; here = e }

pub colon_none : (t : Text) (from i : ℕ) → Colonless t from i → length t ≤ i + 3 → ToColon t from None
colon_none t from i v l = λ k a b. v.plain k a (omega arith)

-- no `:all` that a piece ends with begins from `from` up to i, nor from i on up to j
free_then : (t : Text) (from i j : ℕ) → FreeOfAll t from i → FreeOfAll t i j → FreeOfAll t from j
free_then t from i j v w =
    record { low = omega (arith, v.low, w.low); high = w.high; free = λ k a b. by k a b (ltb k i) refl }
  where
    by : (k : ℕ) → from ≤ k → k < j → (u : Bool) → ltb k i ≡ u → closes_all (drop k t) ≡ false
    by k a b true q = v.free k a (ltb-true k i q)
    by k a b false q = w.free k (ltb-false k i q) b

-- no more colon
free_over : (t : Text) (from i : ℕ) → FreeOfAll t from i → ToColon t i None → FreeOfAll t from (length t)
free_over t from i v n = free_then t from i (length t) v (record { low = v.high; high = omega arith; free = λ k a b. by k a (ltb (k + 3) (length t)) refl })
  where
    by : (k : ℕ) → i ≤ k → (u : Bool) → ltb (k + 3) (length t) ≡ u → closes_all (drop k t) ≡ false
    by k a true q = closes_first t k (n k a (ltb-true (k + 3) (length t) q))
    by k a false q = let l = ltb-false (k + 3) (length t) q in closes_short t k (omega arith)

-- the loop of `next_all`: none begins up to i, from which the next colon is looked for
pub record Finding (t : Text) (from : ℕ) (colon : Option ℕ) : Type 0 where
  pub here : ℕ
  pub free : FreeOfAll t from here
  pub next : ToColon t here colon

-- how much is left
pub bytes_behind : Text → Option ℕ → ℕ
bytes_behind t None = 0
bytes_behind t (Some c) = length t - c

pub finding_start : (t : Text) (from : ℕ) (colon : Option ℕ) → from ≤ length t → ToColon t from colon → Finding t from colon
finding_start t from colon h n = record { here = from; free = free_start t from h; next = n }

pub finding_end : (t : Text) (from : ℕ) → Finding t from None → FreeOfAll t from (length t)
finding_end t from v = free_over t from v.here v.free v.next

module _ (t : Text) (from c : ℕ) (v : Finding t from (Some c)) where
  pub colon_inside : c < length t
  colon_inside = v.next.high

  free_to : FreeOfAll t from c
  free_to =
      free_then t from v.here c v.free
      (record { low = v.next.low; high = omega (arith, colon_inside); free = λ k a b. closes_first t k (v.next.plain k a b) })

  pub first_here : closes_all (drop c t) ≡ true → FirstAll t from c
  first_here e = record { free = free_to; here = e }

  pub finding_more : closes_all (drop c t) ≡ false → (colon : Option ℕ) → ToColon t (c + 1) colon → Finding t from colon
  finding_more e colon n =
      let f : FreeOfAll t c (c + 1) = record { low = omega arith; high = omega (arith, colon_inside); free = λ k a b. let z : k ≡ c = omega arith in rw z e } in
      record { here = c + 1; free = free_then t from c (c + 1) free_to f; next = n }

  pub finding_less : (colon : Option ℕ) → ToColon t (c + 1) colon → bytes_behind t colon < bytes_behind t (Some c)
  unfolding bytes_behind
  finding_less None n = omega (arith, colon_inside)
  finding_less (Some d) n = omega (arith, colon_inside, n.low, n.high)

-- the piece that the place c stands in starts at p, not before `from`: there, or at a sign
record PieceStart (t : Text) (from c p : ℕ) : Type 0 where
  low : from ≤ p
  high : p ≤ c
  sign : from < p → is_sign (get_or t p 0) ≡ true
  inside : InCut t (p + 1) (c + 1)

-- the loop of `piece_start`
start_sign : (t : Text) (from p : ℕ) → from < p → is_sign (get_or t p 0) ≡ true → start_of t from p ≡ p
unfolding start_of
start_sign t from zero h e = refl
start_sign t from (suc p) h e = rw e

start_end : (t : Text) (from p : ℕ) → p ≤ from → start_of t from p ≡ p
unfolding start_of
start_end t from zero h = refl
start_end t from (suc p) h = rw (or_right (is_sign (get_or t (suc p) 0)) (leb (suc p) from) (le-leb (suc p) from h))

start_more : (t : Text) (from p : ℕ) → from < p → is_sign (get_or t p 0) ≡ false → start_of t from p ≡ start_of t from (p - 1)
unfolding start_of
start_more t from zero h e = absurd (omega arith)
start_more t from (suc p) h e = let z : suc p - 1 ≡ p = omega arith in rw (e, lt-leb (suc p) from h, z)

pub record Backing (t : Text) (from c p : ℕ) : Type 0 where
  pub low : from ≤ p
  pub high : p ≤ c
  pub same : start_of t from c ≡ start_of t from p

pub backing_start : (t : Text) (from c : ℕ) → from ≤ c → Backing t from c c
backing_start t from c h = record { low = h; high = omega arith; same = refl }

module _ (t : Text) (from c p : ℕ) (v : Backing t from c p) where
  pub backing_more : from < p → is_sign (get_or t p 0) ≡ false → Backing t from c (p - 1)
  backing_more h e = record { low = omega arith; high = omega (arith, v.high); same = v.same ∙ start_more t from p h e }

  pub backing_sign : from < p → is_sign (get_or t p 0) ≡ true → p ≡ start_of t from c
  backing_sign h e = sym (v.same ∙ start_sign t from p h e)

  pub backing_end : p ≤ from → p ≡ start_of t from c
  backing_end h = sym (v.same ∙ start_end t from p h)

-- behind p no sign stands up to c
starts_at : (t : Text) (from c : ℕ) → c < length t → (p : ℕ) → from ≤ p → p ≤ c → InCut t (p + 1) (c + 1) → PieceStart t from c (start_of t from p)
starts_at t from c m zero l h v = rw (start_end t from 0 (omega arith)) (record { low = l; high = h; sign = λ z. absurd (omega arith); inside = v })
starts_at t from c m (suc p) l h v = go (ltb from (suc p)) refl (is_sign (get_or t (suc p) 0)) refl (λ a b w. starts_at t from c m p a b w)
  where
    go : (x : Bool) → ltb from (suc p) ≡ x → (y : Bool) → is_sign (get_or t (suc p) 0) ≡ y →
        (from ≤ p → p ≤ c → InCut t (p + 1) (c + 1) → PieceStart t from c (start_of t from p)) → PieceStart t from c (start_of t from (suc p))
    go false q y e next =
        let a : suc p ≤ from = ltb-false from (suc p) q in
        rw (start_end t from (suc p) a) (record { low = l; high = h; sign = λ z. absurd (omega arith); inside = v })
    go true q true e next =
        let a : from < suc p = ltb-true from (suc p) q in
        rw (start_sign t from (suc p) a e) (record { low = l; high = h; sign = λ z. e; inside = v })
    go true q false e next =
        let a : from < suc p = ltb-true from (suc p) q in
        let z : suc p - 1 ≡ p = omega arith in
        rw (start_more t from (suc p) a e, z) (next (omega arith) (omega arith) (in_cut_back t c p (omega arith) (omega arith) e v))

pub start_low : (t : Text) (from c : ℕ) → from ≤ c → c < length t → (from ≤ start_of t from c) × (start_of t from c ≤ c)
start_low t from c l m =
    let b = starts_at t from c m c l (omega arith) (in_cut_start t (c + 1) (omega arith)) in
    (b.low, b.high)

pub start_inside : (t : Text) (from c s : ℕ) → from ≤ c → c < length t → s ≡ start_of t from c → s ≤ c
start_inside t from c s l m e = rw e (start_low t from c l m).1

-- the pieces from a place on, by the next `:all` that ends one
pub kept_last : (t : Text) (from : ℕ) → FreeOfAll t from (length t) → (n : ℕ) → concat_map (spread n) (cuts (drop from t)) ≡ part t from (length t)
kept_last t from f n =
    run_kept n t from (length t) f.low (omega arith) (ap upto (drop-length t) ∙ upto_nil) f.free
    ∙ (ap (λ (x : Text). part t from (length t) ++ x) (cut_over (spread n) t (length t) (spread_nil n) (omega arith)) ∙ append-nil (part t from (length t)))

-- a text too short for `:all`
pub short_kept : (n : ℕ) (t : Text) → length t < 4 → t ≡ concat_map (spread n) (cuts t)
unfolding part
short_kept n t h =
    let f : FreeOfAll t 0 (length t) = record { low = omega arith; high = omega arith; free = λ k a b. closes_short t k (omega arith) } in
    sym (kept_last t 0 f n ∙ tail_whole t 0 (omega arith))

module _ (t : Text) (from c : ℕ) (f : FirstAll t from c) where
  abbrev p : ℕ
  p = start_of t from c

  pub long : c + 4 ≤ length t
  long = omega (arith, closes_long (drop c t) f.here, length-drop c t)

  pub inside_text : c < length t
  inside_text = omega (arith, long)

  abbrev m : c < length t
  m = inside_text

  b : PieceStart t from c p
  b = starts_at t from c m c f.free.low (omega arith) (in_cut_start t (c + 1) (omega (arith, long)))

  -- no sign stands in `:all`
  inside : InCut t (p + 1) (c + 4)
  inside =
      let q₂ : c + 1 + 1 ≡ c + 2 = omega arith in
      let v₂ : InCut t (p + 1) (c + 2) = rw q₂ at (in_cut_more t (p + 1) (c + 1) b.inside (omega (arith, long)) (all_signless t c f.here 1 (omega arith))) in
      let q₃ : c + 2 + 1 ≡ c + 3 = omega arith in
      let v₃ : InCut t (p + 1) (c + 3) = rw q₃ at (in_cut_more t (p + 1) (c + 2) v₂ (omega (arith, long)) (all_signless t c f.here 2 (omega arith))) in
      let q₄ : c + 3 + 1 ≡ c + 4 = omega arith in
      rw q₄ at (in_cut_more t (p + 1) (c + 3) v₃ (omega (arith, long)) (all_signless t c f.here 3 (omega arith)))

  whole_piece : CutEnd t (p + 1) (c + 4)
  whole_piece =
      let e : drop (c + 4) t ≡ beyond (drop c t) = sym (drop-drop 4 c t) ∙ closes_rest (drop c t) f.here in
      in_cut_end t (p + 1) (c + 4) inside (ap upto e ∙ beyond_starts (drop c t))

  to_piece : (n : ℕ) → concat_map (spread n) (cuts (drop from t)) ≡ part t from p ++ concat_map (spread n) (cuts (drop p t))
  to_piece n = go (ltb from p) refl
    where
      go : (u : Bool) → ltb from p ≡ u → concat_map (spread n) (cuts (drop from t)) ≡ part t from p ++ concat_map (spread n) (cuts (drop p t))
      go true q =
          let s = b.sign (ltb-true from p q) in
          run_kept n t from p b.low (omega (arith, b.high, long))
          (ap upto (drop_at t p (omega (arith, b.high, long))) ∙ upto_sign (get_or t p 0) (drop (p + 1) t) s)
          (λ k x y. f.free.free k x (omega (arith, b.high)))
      go false q = let z : p ≡ from = omega (arith, ltb-false from p q, b.low) in rw (z, part_empty t from)

  stem_all : part t p (c + 4) ≡ part t p c ++ bytes ":all"
  unfolding part
  stem_all =
      let z : c + 4 - c ≡ 4 = omega arith in
      let e : part t c (c + 4) ≡ bytes ":all" = rw z (ap (take 4) (closes_is (drop c t) f.here) ∙ all_taken (beyond (drop c t))) in
      sym (part_join t p c (c + 4) b.high (omega arith)) ∙ ap (λ (x : Text). part t p c ++ x) e

  pub kept_copies : (n : ℕ) → 1 ≤ n →
      concat_map (spread n) (cuts (drop from t)) ≡ part t from c ++ ((58 ∷ decimal 1) ++ (more_copies n t from c ++ concat_map (spread n) (cuts (drop (c + 4) t))))
  unfolding more_copies
  kept_copies n h =
      let r = concat_map (spread n) (cuts (drop (c + 4) t)) in
      let e : copies n 1 (part t p c) ≡ part t p c ++ ((58 ∷ decimal 1) ++ copies (n - 1) 2 (part t p c)) = first_copy n (part t p c) h in
      to_piece n
      ∙ (ap (λ (x : Text). part t from p ++ x)
      (cut_at (spread n) t p (c + 4) (spread_nil n) (omega (arith, b.high, long)) whole_piece
      ∙ ap (λ (x : Text). x ++ r) (ap (spread n) stem_all ∙ (spread_closed n (part t p c) ∙ e)))
      ∙ (ap (λ (x : Text). part t from p ++ x) (append_assoc (part t p c) ((58 ∷ decimal 1) ++ copies (n - 1) 2 (part t p c)) r)
      ∙ (sym (append_assoc (part t from p) (part t p c) (((58 ∷ decimal 1) ++ copies (n - 1) 2 (part t p c)) ++ r))
      ∙ (ap (λ (x : Text). x ++ (((58 ∷ decimal 1) ++ copies (n - 1) 2 (part t p c)) ++ r)) (part_join t from p c b.low b.high)
      ∙ ap (λ (x : Text). part t from c ++ x) (append_assoc (58 ∷ decimal 1) (copies (n - 1) 2 (part t p c)) r)))))
