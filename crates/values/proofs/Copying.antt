-- The copies of a piece that ends with `:all`, and a value written piece by piece.
use Prim.Native.Nat.{ℕ, zero, suc, ◌+◌, ◌*◌, ◌-◌, ◌≤◌, ◌<◌}
use native.Mathlib.Omega.{arith}
use mathlib.Core.Path.{◌≡◌, refl, sym, ap, ◌∙◌}
use mathlib.Core.List.{[], ◌∷◌, ◌++◌, append_assoc}
use mathlib.Core.Bool.{Bool, true, false, cond}
use lib.ListN.{length, take, drop, get_or, set, length-append, length-take, length-drop, length-set}
use lib.Dec.{eqb}
use borrow.Author.Tests.{ne_eqb, lt-ltb}
use Rattle.text.specs.Bytes.{Text, bytes, same, first}
use Rattle.text.proofs.Comparing.{same_length}
use Rattle.text.proofs.Lists.{no, or_right}
use Rattle.output.specs.Store.{stored, farthest, past, Wrote}
use Rattle.output.proofs.Stores.{stored_append, length_stored, wrote_then}
use Rattle.rules.specs.Headings.{decimal}
use Rattle.rules.proofs.Pieces.{tail_whole}
use Rattle.values.specs.Spread.{is_sign, signed, ends_all, copy, copies, spread}
use Rattle.values.specs.Cutting.{sign_of, behind_sign}
use Rattle.values.proofs.Writes.{past_near, wrote_long, Writing, writing_start, writing_more, writing_end}

-- signs

pub sign_plus : (b : ℕ) → b ≡ 43 → eqb b 43 ≡ is_sign b
unfolding is_sign
sign_plus b e = rw e

pub sign_other : (b : ℕ) → (b ≡ 43 → ⊥) → eqb b 124 ≡ is_sign b
unfolding is_sign
sign_other b n = rw (ne_eqb b 43 n)

pub signed_none : (t : Text) → length t < 1 → false ≡ signed t
unfolding signed first is_sign
signed_none [] h = refl
signed_none (b ∷ t) h = absurd (omega arith)

pub signed_some : (t : Text) → 1 ≤ length t → is_sign (get_or t 0 0) ≡ signed t
unfolding signed first
signed_some [] h = absurd (omega arith)
signed_some (b ∷ t) h = refl

-- `:all`

pub all_long : length (bytes ":all") ≡ 4
unfolding bytes
all_long = refl

ends_short : (t : Text) → length t < 4 → false ≡ ends_all t
unfolding ends_all
ends_short t h =
    sym (same_length (drop (length t - 4) t) (bytes ":all") (λ e. omega (arith, e, all_long, length-drop (length t - 4) t)))

ends_nil : ends_all [] ≡ false
unfolding ends_all bytes same
ends_nil = refl

pub ends_long : (t : Text) → ends_all t ≡ true → 4 ≤ length t
ends_long t h = go (length t - 3) refl
  where
    go : (n : ℕ) → length t - 3 ≡ n → 4 ≤ length t
    go zero e = absurd (no (ends_short t (omega arith) ∙ h))
    go (suc n) e = omega arith

pub plus_sign : is_sign 43 ≡ true
unfolding is_sign
plus_sign = refl

-- one copy, but not the first

signed_cons : (b : ℕ) (t : Text) → is_sign b ≡ true → signed (b ∷ t) ≡ true
unfolding signed first
signed_cons b t h = h

copy_signed : (k : ℕ) (t : Text) → 2 ≤ k → signed t ≡ true → copy k t ≡ t ++ (58 ∷ decimal k)
unfolding copy
copy_signed k t h e = rw e

copy_other : (k : ℕ) (t : Text) → 2 ≤ k → signed t ≡ false → copy k t ≡ (43 ∷ t) ++ (58 ∷ decimal k)
unfolding copy
copy_other k t h e = rw (e, ne_eqb k 1 (λ z. omega arith))

copy_cons : (k b : ℕ) (t : Text) → 2 ≤ k → is_sign b ≡ true → copy k (b ∷ t) ≡ b ∷ (t ++ (58 ∷ decimal k))
copy_cons k b t h e = copy_signed k (b ∷ t) h (signed_cons b t e)

-- a text with a number behind it, where there is room for it and where there is none
module _ (d : Text) (t : Text) (k at : ℕ) (l : length d ≤ farthest) where
  pub numbered_written : (d₁ : Text) (r : ℕ) → k < 10 → at + length t + 2 ≤ length d → d₁ ≡ stored d at t → r ≡ at + (length t + 2) →
      Wrote d (set (set d₁ (at + length t) 58) (at + length t + 1) (48 + k)) at (t ++ (58 ∷ decimal k)) r
  unfolding stored decimal
  numbered_written d₁ r f g x y =
      record {
        text = sym (stored_append d at t (58 ∷ decimal k) ∙ rw (lt-ltb k 10 f, x));
        next = y ∙ (past_near at (length t + 2) (omega arith) ∙ ap (past at) (sym (length-append t (58 ∷ decimal k) ∙ rw (lt-ltb k 10 f))));
      }

  pub numbered_then : (d₁ d₂ d₃ : Text) (a b r : ℕ) → Wrote d d₁ at t a → Wrote d₁ d₂ a (58 ∷ []) b → Wrote d₂ d₃ b (decimal k) r →
      Wrote d d₃ at (t ++ (58 ∷ decimal k)) r
  numbered_then d₁ d₂ d₃ a b r u v w =
      let m : length d₁ ≤ farthest = omega (arith, wrote_long d d₁ at t a u) in
      wrote_then d d₁ d₃ at t (58 ∷ decimal k) a r l u (wrote_then d₁ d₂ d₃ a (58 ∷ []) (decimal k) b r m v w)

pub digit_inside : (d d₁ x : Text) (a n : ℕ) → d₁ ≡ stored d a x → a + n + 2 ≤ length d → a + n + 1 < length (set d₁ (a + n) 58)
digit_inside d d₁ x a n e h = omega (arith, length-set d₁ (a + n) 58, ap length e, length_stored d a x)

-- written as far as there is room
pub copy_put : (d d₁ d₂ : Text) (b : ℕ) (t : Text) (k at z r : ℕ) → 2 ≤ k → is_sign b ≡ true → length d ≤ farthest →
    Wrote d d₁ at (b ∷ []) z → Wrote d₁ d₂ z (t ++ (58 ∷ decimal k)) r → Wrote d d₂ at (copy k (b ∷ t)) r
copy_put d d₁ d₂ b t k at z r h e l p u = rw (copy_cons k b t h e) (wrote_then d d₁ d₂ at (b ∷ []) (t ++ (58 ∷ decimal k)) z r l p u)

-- written where there is room
pub copy_written : (d d₁ : Text) (b : ℕ) (t : Text) (k at z : ℕ) → 2 ≤ k → k < 10 → is_sign b ≡ true → d₁ ≡ stored (set d at b) (at + 1) t →
    z ≡ at + 1 + length t → set (set d₁ z 58) (z + 1) (48 + k) ≡ stored d at (copy k (b ∷ t))
unfolding stored decimal
copy_written d d₁ b t k at z h f e x q =
    sym (ap (stored d at) (copy_cons k b t h e)
    ∙ (stored_append (set d at b) (at + 1) t (58 ∷ decimal k)
    ∙ rw (lt-ltb k 10 f, ← q, x)))

copies_cons : (j k : ℕ) (t : Text) → copies (suc j) k t ≡ copy k t ++ copies j (k + 1) t
unfolding copies
copies_cons j k t = refl

copies_none : (k : ℕ) (t : Text) → copies 0 k t ≡ []
unfolding copies
copies_none k t = refl

pub copies_zero : (j k : ℕ) (t : Text) → j ≡ 0 → copies j k t ≡ []
copies_zero j k t e = rw (e, copies_none k t)

-- the first copy stands as the piece does
pub first_copy : (n : ℕ) (t : Text) → 1 ≤ n → copies n 1 t ≡ t ++ ((58 ∷ decimal 1) ++ copies (n - 1) 2 t)
unfolding copy
first_copy zero t h = absurd (omega arith)
first_copy (suc n) t h =
    let z : suc n - 1 ≡ n = omega arith in
    rw (copies_cons n 1 t, or_right (signed t) (eqb 1 1) refl, z, append_assoc)

-- the copies k to k + j - 1, by their sign

sign_some : (t : Text) → signed t ≡ true → t ≡ first t ∷ drop 1 t
unfolding signed first is_sign
sign_some [] h = absurd (no h)
sign_some (b ∷ t) h = refl

copies_plus : (j k : ℕ) (t : Text) → 2 ≤ k → signed t ≡ false → copies j k t ≡ copies j k (43 ∷ t)
copies_plus zero k t h e = rw (copies_none k t, copies_none k (43 ∷ t))
copies_plus (suc j) k t h e =
    rw (copies_cons j k t, copies_cons j k (43 ∷ t), copy_other k t h e, copy_cons k 43 t h plus_sign, copies_plus j (k + 1) t (omega arith) e)

pub sign_sign : (t : Text) (b : ℕ) → b ≡ sign_of t → is_sign b ≡ true
unfolding sign_of signed
sign_sign t b e = rw e (go (signed t) refl)
  where
    go : (s : Bool) → signed t ≡ s → is_sign (cond s (first t) 43) ≡ true
    go true h = h
    go false h = plus_sign

by_sign : (j : ℕ) (t : Text) → copies j 2 t ≡ copies j 2 (sign_of t ∷ behind_sign t)
unfolding sign_of behind_sign
by_sign j t = go (signed t) refl
  where
    go : (s : Bool) → signed t ≡ s → copies j 2 t ≡ copies j 2 (cond s (first t) 43 ∷ cond s (drop 1 t) t)
    go true h = ap (copies j 2) (sign_some t h)
    go false h = copies_plus j 2 t (omega arith) h

first_get : (t : Text) → get_or t 0 0 ≡ first t
unfolding first
first_get [] = refl
first_get (b ∷ t) = refl

-- the ways out of `Copies::of`
module _ (t : Text) where
  pub sign_signs : true ≡ signed t → is_sign (get_or t 0 0) ≡ true
  unfolding signed
  sign_signs q = ap is_sign (first_get t) ∙ sym q

  pub sign_inside : true ≡ signed t → 1 ≤ length t
  sign_inside q = omega (arith, ap length (sign_some t (sym q)))

  pub sign_first : true ≡ signed t → get_or t 0 0 ≡ sign_of t
  unfolding sign_of
  sign_first q = rw (← q) (first_get t)

  pub behind_first : true ≡ signed t → take (length t - 1) (drop 1 t) ≡ behind_sign t
  unfolding behind_sign
  behind_first q = rw (← q) (tail_whole t 1 (sign_inside q))

  pub sign_plain : false ≡ signed t → 43 ≡ sign_of t
  unfolding sign_of
  sign_plain q = rw (← q)

  pub behind_plain : false ≡ signed t → t ≡ behind_sign t
  unfolding behind_sign
  behind_plain q = rw (← q)

pub copies_by : (j : ℕ) (t : Text) (b : ℕ) (r : Text) → b ≡ sign_of t → r ≡ behind_sign t → copies j 2 (b ∷ r) ≡ copies j 2 t
copies_by j t b r e q = rw (e, q) (sym (by_sign j t))

pub behind_short : (t r : Text) → r ≡ behind_sign t → length r ≤ length t
unfolding behind_sign
behind_short t r e = rw e (go (signed t))
  where
    go : (s : Bool) → length (cond s (drop 1 t) t) ≤ length t
    go true = omega (arith, length-drop 1 t)
    go false = omega arith

pub behind_low : (t : Text) (s c : ℕ) (r : Text) → length t ≤ farthest → r ≡ behind_sign (take (c - s) (drop s t)) → length r ≤ farthest
behind_low t s c r h e =
    omega (arith, behind_short (take (c - s) (drop s t)) r e, length-take (c - s) (drop s t), length-drop s t)

-- counted

at_most : (a b x y : ℕ) → a ≤ b → x ≤ y → a * x ≤ b * y
at_most zero b x y i j = omega arith
at_most (suc a) zero x y i j = absurd (omega arith)
at_most (suc a) (suc b) x y i j = let e = at_most a b x y (omega arith) j in omega arith

pub few_copies : (n x m : ℕ) → 1 ≤ n → n < 10 → x ≤ m → (n - 1) * (x + 3) ≤ 9 * (m + 3)
few_copies n x m h l k = at_most (n - 1) 9 (x + 3) (m + 3) (omega arith) (omega arith)

copies_size : (j k b : ℕ) (t : Text) → k + j ≤ 10 → 2 ≤ k → is_sign b ≡ true → length (copies j k (b ∷ t)) ≡ j * (length t + 3)
unfolding decimal
copies_size zero k b t h m e = rw (copies_none k (b ∷ t)) (omega arith)
copies_size (suc j) k b t h m e =
    let a : length (copy k (b ∷ t)) ≡ length t + 3 = ap length (copy_cons k b t m e) ∙ (ap suc (length-append t (58 ∷ decimal k)) ∙ rw (lt-ltb k 10 (omega arith)) (omega arith)) in
    let c = copies_size j (k + 1) b t (omega arith) (omega arith) e in
    rw (copies_cons j k (b ∷ t)) (length-append (copy k (b ∷ t)) (copies j (k + 1) (b ∷ t)) ∙ rw (a, c) (omega arith))

pub copies_counted : (n : ℕ) (t r : Text) → 1 ≤ n → n < 10 → r ≡ behind_sign t → (n - 1) * (length r + 3) ≡ length (copies (n - 1) 2 t)
copies_counted n t r h l e =
    sym (ap length (sym (copies_by (n - 1) t (sign_of t) r refl e)) ∙ copies_size (n - 1) 2 (sign_of t) r (omega arith) (omega arith) (sign_sign t (sign_of t) refl))

-- the loop of `put_copies`: the copies k to n are left

pub record Copying (t : Text) (n : ℕ) (d d' : Text) (at k o : ℕ) : Type 0 where
  pub some : 2 ≤ k
  pub few : k ≤ n + 1
  pub left : Writing d d' at (copies (n - 1) 2 t) o (copies (n + 1 - k) k t)

pub copying_start : (t : Text) (n : ℕ) (d : Text) (at : ℕ) → 1 ≤ n → length d ≤ farthest → at ≤ farthest → Copying t n d d at 2 at
copying_start t n d at m l h =
    let e : n + 1 - 2 ≡ n - 1 = omega arith in
    record { some = omega arith; few = omega arith; left = rw e (writing_start d at (copies (n - 1) 2 t) l h) }

module _ (t : Text) (n : ℕ) (d d' : Text) (at k o : ℕ) (v : Copying t n d d' at k o) where
  pub copying_more : (d'' : Text) (r : ℕ) → k ≤ n → Wrote d' d'' o (copy k t) r → Copying t n d d'' at (k + 1) r
  copying_more d'' r h w =
      let e : n + 1 - k ≡ suc (n + 1 - (k + 1)) = omega arith in
      record {
        some = omega (arith, v.some);
        few = omega arith;
        left = writing_more d d' at (copies (n - 1) 2 t) o (copy k t) (copies (n + 1 - (k + 1)) (k + 1) t) d'' r (rw (e, copies_cons) at v.left) w;
      }

  pub copying_end : n < k → Wrote d d' at (copies (n - 1) 2 t) o
  copying_end h =
      let e : n + 1 - k ≡ 0 = omega arith in
      writing_end d d' at (copies (n - 1) 2 t) o (rw (e, copies_none) at v.left)

-- the loop of `write_copies`: the copies k to n are left, and there is room for them

pub record Storing (b : ℕ) (t : Text) (n : ℕ) (d d' : Text) (at k o : ℕ) : Type 0 where
  pub some : 2 ≤ k
  pub few : k ≤ n + 1
  pub long : length d' ≡ length d
  pub room : o + (n + 1 - k) * (length t + 3) ≤ length d
  pub left : stored d at (copies (n - 1) 2 (b ∷ t)) ≡ stored d' o (copies (n + 1 - k) k (b ∷ t))

pub storing_start : (b : ℕ) (t : Text) (n : ℕ) (d : Text) (at : ℕ) → 1 ≤ n → at + (n - 1) * (length t + 3) ≤ length d → Storing b t n d d at 2 at
storing_start b t n d at m h =
    let e : n + 1 - 2 ≡ n - 1 = omega arith in
    record { some = omega arith; few = omega arith; long = refl; room = rw e h; left = rw e refl }

module _ (b : ℕ) (t : Text) (n : ℕ) (d d' : Text) (at k o : ℕ) (v : Storing b t n d d' at k o) where
  pub storing_room : k ≤ n → o + length t + 3 ≤ length d'
  storing_room h =
      let e : n + 1 - k ≡ suc (n - k) = omega arith in
      let r = rw e at v.room in
      omega (arith, v.long)

  pub storing_more : (d'' : Text) (r : ℕ) → k ≤ n → n < 10 → is_sign b ≡ true → d'' ≡ stored d' o (copy k (b ∷ t)) → r ≡ o + length t + 3 → Storing b t n d d'' at (k + 1) r
  storing_more d'' r h l s w q =
      let e : n + 1 - k ≡ suc (n + 1 - (k + 1)) = omega arith in
      let x = rw e at v.room in
      let y : length (copy k (b ∷ t)) ≡ length t + 3 = sym (length_one k) in
      record {
        some = omega (arith, v.some);
        few = omega arith;
        long = ap length w ∙ (length_stored d' o (copy k (b ∷ t)) ∙ v.long);
        room = omega arith;
        left =
            let u = copies (n + 1 - (k + 1)) (k + 1) (b ∷ t) in
            let z : o + (length t + 3) ≡ o + length t + 3 = omega arith in
            let p : stored d' o (copies (n + 1 - k) k (b ∷ t)) ≡ stored (stored d' o (copy k (b ∷ t))) (o + length (copy k (b ∷ t))) u =
            rw (e, copies_cons) (stored_append d' o (copy k (b ∷ t)) u) in
            v.left ∙ (p ∙ rw (y, w, q, z));
      }
    where
      length_one : (j : ℕ) → length t + 3 ≡ length (copy k (b ∷ t))
      length_one j =
          let z = copies_size 1 k b t (omega arith) v.some s in
          let u : length (copies 1 k (b ∷ t)) ≡ length (copy k (b ∷ t)) + 0 = ap length (copies_cons 0 k (b ∷ t)) ∙ (length-append (copy k (b ∷ t)) (copies 0 (k + 1) (b ∷ t)) ∙ rw (copies_none (k + 1) (b ∷ t))) in
          omega arith

  pub storing_end : n < k → d' ≡ stored d at (copies (n - 1) 2 (b ∷ t))
  unfolding stored
  storing_end h =
      let e : n + 1 - k ≡ 0 = omega arith in
      sym (v.left ∙ rw (e, copies_none))

-- the last copy
pub storing_last : (b : ℕ) (t : Text) (n : ℕ) (d d' : Text) (at k o : ℕ) → Storing b t n d d' at k o → (d'' : Text) → k ≤ n → n ≤ k → n < 10 → is_sign b ≡ true →
    d'' ≡ stored d' o (copy k (b ∷ t)) → d'' ≡ stored d at (copies (n - 1) 2 (b ∷ t))
storing_last b t n d d' at k o v d'' h m l s w =
    storing_end b t n d d'' at (k + 1) (o + length t + 3) (storing_more b t n d d' at k o v d'' (o + length t + 3) h l s w refl) (omega arith)

-- nothing stays nothing
pub spread_nil : (n : ℕ) → spread n [] ≡ []
unfolding spread
spread_nil n = rw ends_nil
