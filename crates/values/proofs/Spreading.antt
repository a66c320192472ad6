-- A value written, or counted, from one `:all` that ends a piece to the next.
use Prim.Native.Nat.{ℕ, ◌+◌, ◌*◌, ◌-◌, ◌≤◌, ◌<◌}
use native.Mathlib.Omega.{arith}
use mathlib.Core.Path.{◌≡◌, refl, sym, ap, ◌∙◌}
use mathlib.Core.List.{[], ◌∷◌, ◌++◌, append-nil, append_assoc}
use lib.ListN.{length, take, drop, length-append}
use Rattle.text.specs.Bytes.{Text, part, concat_map}
use Rattle.output.specs.Store.{stored, farthest, past, Wrote}
use Rattle.output.proofs.Stores.{stored_behind, wrote_none}
use Rattle.rules.specs.Headings.{decimal}
use Rattle.profile.proofs.OptionFields.{length_part}
use Rattle.values.specs.Spread.{cuts, copies, spread}
use Rattle.values.specs.Cutting.{FreeOfAll, FirstAll, start_of, sign_of, behind_sign, more_copies}
use Rattle.values.proofs.Writes.{past_near, Writing, writing_start, writing_more, writing_end}
use Rattle.values.proofs.Copying.{copies_zero, copies_by, behind_short, few_copies, copies_counted}
use Rattle.values.proofs.Keeping.{start_low, inside_text, kept_last, long, kept_copies}

-- with one layout there are no more copies than the first
more_none : (n : ℕ) (t : Text) (from c : ℕ) → n < 2 → more_copies n t from c ≡ []
unfolding more_copies
more_none n t from c h = copies_zero (n - 1) 2 (part t (start_of t from c) c) (omega arith)

pub more_nothing : (d : Text) (at n : ℕ) (t : Text) (from c : ℕ) → at ≤ farthest → n < 2 → Wrote d d at (more_copies n t from c) at
more_nothing d at n t from c l h = rw (more_none n t from c h) (wrote_none d at l)

pub more_zero : (n : ℕ) (t : Text) (from c : ℕ) → n < 2 → 0 ≡ length (more_copies n t from c)
more_zero n t from c h = sym (ap length (more_none n t from c h))

-- the copies of the piece u that starts at s, by their sign b and what stands behind it
module _ (t : Text) (from c s n : ℕ) (e : s ≡ start_of t from c) where
  abbrev u : Text
  u = take (c - s) (drop s t)

  piece : more_copies n t from c ≡ copies (n - 1) 2 u
  unfolding more_copies part
  piece = rw e refl

  pub more_wrote : (b : ℕ) (r d d' : Text) (at o : ℕ) → b ≡ sign_of u → r ≡ behind_sign u → Wrote d d' at (copies (n - 1) 2 (b ∷ r)) o →
      Wrote d d' at (more_copies n t from c) o
  more_wrote b r d d' at o x y w = rw piece (rw (copies_by (n - 1) u b r x y) at w)

  module _ (r : Text) (some : 1 ≤ n) (few : n < 10) (y : r ≡ behind_sign u) where
    pub more_counted : (m : ℕ) → m ≡ (n - 1) * (length r + 3) → m ≡ length (more_copies n t from c)
    more_counted m z = z ∙ (copies_counted n u r some few y ∙ ap length (sym piece))

    pub more_written : (b : ℕ) (d d' : Text) (at o m : ℕ) → b ≡ sign_of u → d' ≡ stored d at (copies (n - 1) 2 (b ∷ r)) → m ≡ (n - 1) * (length r + 3) →
        at + m ≤ length d → length d ≤ farthest → o ≡ at + m → Wrote d d' at (more_copies n t from c) o
    more_written b d d' at o m x w z h l v =
        record {
          text = w ∙ rw (copies_by (n - 1) u b r x y, piece) refl;
          next = v ∙ (past_near at m (omega arith) ∙ ap (past at) (more_counted m z));
        }

-- the loop of `put_spread`: the pieces from i on are left

pub record Spreading (t : Text) (n : ℕ) (d d' : Text) (at i o : ℕ) : Type 0 where
  pub high : i ≤ length t
  pub left : Writing d d' at (concat_map (spread n) (cuts t)) o (concat_map (spread n) (cuts (drop i t)))

pub spreading_start : (t : Text) (n : ℕ) (d : Text) (at : ℕ) → length d ≤ farthest → at ≤ farthest → Spreading t n d d at 0 at
spreading_start t n d at l h = record { high = omega arith; left = writing_start d at (concat_map (spread n) (cuts t)) l h }

module _ (t : Text) (n : ℕ) (d d' : Text) (at i o : ℕ) (v : Spreading t n d d' at i o) where
  pub spreading_end : FreeOfAll t i (length t) → (d₁ : Text) (o₁ : ℕ) → Wrote d' d₁ o (part t i (length t)) o₁ → Wrote d d₁ at (concat_map (spread n) (cuts t)) o₁
  spreading_end f d₁ o₁ w =
      let x = part t i (length t) in
      let e : concat_map (spread n) (cuts (drop i t)) ≡ x ++ [] = kept_last t i f n ∙ sym (append-nil x) in
      writing_end d d₁ at (concat_map (spread n) (cuts t)) o₁ (writing_more d d' at (concat_map (spread n) (cuts t)) o x [] d₁ o₁ (rw e at v.left) w)

  module _ (c : ℕ) (f : FirstAll t i c) (some : 1 ≤ n) (d₁ : Text) (o₁ : ℕ) (w : Wrote d' d₁ o (take (c - i) (drop i t) ++ (58 ∷ decimal 1)) o₁) where
    -- what is left behind the first copy: the other copies, and the pieces after them
    pub spreading_copies : Writing d d₁ at (concat_map (spread n) (cuts t)) o₁ (more_copies n t i c ++ concat_map (spread n) (cuts (drop (c + 4) t)))
    unfolding part
    spreading_copies =
        let r = more_copies n t i c ++ concat_map (spread n) (cuts (drop (c + 4) t)) in
        let e : concat_map (spread n) (cuts (drop i t)) ≡ (part t i c ++ (58 ∷ decimal 1)) ++ r =
        kept_copies t i c f n some ∙ sym (append_assoc (part t i c) (58 ∷ decimal 1) r) in
        writing_more d d' at (concat_map (spread n) (cuts t)) o (part t i c ++ (58 ∷ decimal 1)) r d₁ o₁ (rw e at v.left) w

    pub spreading_more : (d₂ : Text) (o₂ : ℕ) → Wrote d₁ d₂ o₁ (more_copies n t i c) o₂ → Spreading t n d d₂ at (c + 4) o₂
    spreading_more d₂ o₂ y =
        record {
          high = long t i c f;
          left = writing_more d d₁ at (concat_map (spread n) (cuts t)) o₁ (more_copies n t i c) _ d₂ o₂ spreading_copies y;
        }

-- behind the buffer's end
pub spread_behind : (d : Text) (t : Text) (n at m r : ℕ) → length d ≤ at → m ≡ length (concat_map (spread n) (cuts t)) → r ≡ past at m →
    Wrote d d at (concat_map (spread n) (cuts t)) r
spread_behind d t n at m r h l q = record { text = sym (stored_behind d at (concat_map (spread n) (cuts t)) h); next = q ∙ ap (past at) l }

-- the loop of `spread_length`: m bytes are counted of what stands before i, ten for one at most

pub record Counting (t : Text) (n i m : ℕ) : Type 0 where
  pub high : i ≤ length t
  pub most : m ≤ 10 * i
  pub left : length (concat_map (spread n) (cuts t)) ≡ m + length (concat_map (spread n) (cuts (drop i t)))

pub counting_start : (t : Text) (n : ℕ) → Counting t n 0 0
counting_start t n = record { high = omega arith; most = omega arith; left = omega arith }

module _ (t : Text) (n i m : ℕ) (v : Counting t n i m) where
  pub counting_end : FreeOfAll t i (length t) → m + (length t - i) ≡ length (concat_map (spread n) (cuts t))
  counting_end f = sym (v.left ∙ ap (λ (x : ℕ). m + x) (ap length (kept_last t i f n) ∙ length_part t i (length t) v.high (omega arith)))

  module _ (c : ℕ) (f : FirstAll t i c) (some : 1 ≤ n) (few : n < 10) (k : ℕ) (e : k ≡ length (more_copies n t i c)) where
    pub counting_few : k ≤ 9 * (c - i + 3)
    unfolding more_copies
    counting_few =
        let s = start_of t i c in
        let a = start_low t i c f.free.low (inside_text t i c f) in
        let r = behind_sign (part t s c) in
        omega (
          arith,
          e,
          copies_counted n (part t s c) r some few refl,
          few_copies n (length r) (c - i) some few
              (omega (arith, behind_short (part t s c) r refl, length_part t s c a.1 f.free.high, a.0)),
        )

    pub counting_more : Counting t n (c + 4) (m + (c - i) + 2 + k)
    unfolding decimal
    counting_more =
        let r = concat_map (spread n) (cuts (drop (c + 4) t)) in
        let x = kept_copies t i c f n some in
        let p : length (part t i c) ≡ c - i = length_part t i c f.free.low f.free.high in
        let y : length (concat_map (spread n) (cuts (drop i t))) ≡ c - i + (2 + (k + length r)) =
        ap length x
        ∙ (length-append (part t i c) ((58 ∷ decimal 1) ++ (more_copies n t i c ++ r))
        ∙ rw (p, length-append (58 ∷ decimal 1) (more_copies n t i c ++ r), length-append (more_copies n t i c) r, ← e) refl) in
        record {
          high = long t i c f;
          most = omega (arith, v.most, counting_few, f.free.low);
          left = v.left ∙ omega (arith, y);
        }
