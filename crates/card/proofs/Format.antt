-- Sections: what is written is read back, what is read is written so, and where each section stands.
use Prim.Native.Nat.{ℕ, zero, suc, ◌+◌, ◌*◌, ◌/◌, ◌%◌, ◌≤◌, ◌<◌}
use native.Mathlib.Omega.{arith}
use mathlib.Core.Path.{◌≡◌, refl, sym, ap, ap₂, ◌∙◌}
use mathlib.Core.List.{List, [], ◌∷◌, ◌++◌, map}
use mathlib.Core.Bool.{false}
use lib.ListN.{length, take, drop, get_or, length-append, length-take, length-drop, take-append-drop}
use lib.Seq.{take-append_seam, drop-append_seam, get_or-drop}
use lib.Dec.{ltb}
use borrow.Author.Tests.{le-ltb, ltb-false}
use Rattle.text.specs.Bytes.{Text, empty, any_of, concat_map}
use Rattle.text.proofs.Lists.{no, neither}
use Rattle.answers.specs.Answer.{sum, total}
use Rattle.card.specs.Card.{longest_section, two_bytes, section, card_of, section_length, cut_short, behind_section, sections_in, broken, Bytes}
use Rattle.card.specs.Writing.{long_section}

-- a section at the start of a text

module _ (t r : Text) (short : length t ≤ longest_section) where
  pub length_back : section_length (section t ++ r) ≡ length t
  unfolding section_length section two_bytes
  length_back = omega arith

  behind_back : behind_section (section t ++ r) ≡ r
  unfolding behind_section section two_bytes
  behind_back =
      let e : section_length (section t ++ r) ≡ length t = length_back in
      let k : 2 + section_length (section t ++ r) ≡ suc (suc (length t)) = omega arith in
      rw k (drop-append_seam t r)

  text_back : take (section_length (section t ++ r)) (drop 2 (section t ++ r)) ≡ t
  unfolding section two_bytes
  text_back = rw length_back (take-append_seam t r)

  whole_back : cut_short (section t ++ r) ≡ false
  unfolding cut_short section two_bytes
  whole_back =
      let e : section_length (section t ++ r) ≡ length t = length_back in
      le-ltb (length (section t ++ r)) (2 + section_length (section t ++ r)) (omega (arith, length-append t r))

-- sections that are written are read back

pub sections_back : (ts : List Text) → any_of long_section (map length ts) ≡ false → sections_in (length ts) (card_of ts) ≡ ts
unfolding sections_in card_of concat_map any_of long_section
sections_back [] h = refl
sections_back (t ∷ ts) h =
    let w = neither (ltb longest_section (length t)) (any_of long_section (map length ts)) h in
    let k : length t ≤ longest_section = ltb-false longest_section (length t) w.0 in
    let b : behind_section (section t ++ card_of ts) ≡ card_of ts = behind_back t (card_of ts) k in
    ap₂ ◌∷◌ (text_back t (card_of ts) k) (ap (sections_in (length ts)) b ∙ sections_back ts w.1)

pub unbroken_back : (ts : List Text) → any_of long_section (map length ts) ≡ false → broken (length ts) (card_of ts) ≡ false
unfolding broken card_of concat_map any_of long_section empty
unbroken_back [] h = refl
unbroken_back (t ∷ ts) h =
    let w = neither (ltb longest_section (length t)) (any_of long_section (map length ts)) h in
    let k : length t ≤ longest_section = ltb-false longest_section (length t) w.0 in
    let b : behind_section (section t ++ card_of ts) ≡ card_of ts = behind_back t (card_of ts) k in
    rw (whole_back t (card_of ts) k) (ap (broken (length ts)) b ∙ unbroken_back ts w.1)

-- how long sections are

pub card_length_lem : (ts : List Text) → length (card_of ts) ≡ 2 * length ts + total ts
unfolding card_of concat_map section two_bytes total sum
card_length_lem [] = refl
card_length_lem (t ∷ ts) = omega (arith, length-append (section t) (concat_map section ts), card_length_lem ts)

-- a text of which the first section is not cut short

module _ (s : Text) (h : cut_short s ≡ false) where
  pub whole_length : 2 + section_length s ≤ length s
  unfolding cut_short
  whole_length = ltb-false (length s) (2 + section_length s) h

  pub text_length : length (take (section_length s) (drop 2 s)) ≡ section_length s
  text_length = simp (length-take, length-drop) (omega (arith, whole_length))

  behind_length : length s ≡ 2 + section_length s + length (behind_section s)
  unfolding behind_section
  behind_length = omega (arith, whole_length, length-drop (2 + section_length s) s)

-- a section that is not cut short is written so
spelled : (s : Text) → cut_short s ≡ false → get_or s 0 0 < 256 → section (take (section_length s) (drop 2 s)) ++ behind_section s ≡ s
unfolding section two_bytes behind_section section_length
spelled [] h k = absurd (omega (arith, whole_length [] h))
spelled (a ∷ []) h k = absurd (omega (arith, whole_length (a ∷ []) h))
spelled (a ∷ b ∷ r) h k =
    let n = a + 256 * b in
    let l : length (take n r) ≡ n = text_length (a ∷ b ∷ r) h in
    let x : length (take n r) % 256 ≡ a = omega arith in
    let y : length (take n r) / 256 ≡ b = omega arith in
    let d : 2 + n ≡ suc (suc n) = omega arith in
    rw (x, y, d) (ap (λ q. a ∷ b ∷ q) (take-append-drop n r))

-- n sections that are not broken

pub unbroken_first : (n : ℕ) (s : Text) → broken (suc n) s ≡ false → (cut_short s ≡ false) × (broken n (behind_section s) ≡ false)
unfolding broken
unbroken_first n s h = neither (cut_short s) (broken n (behind_section s)) h

unbroken_none : (s : Text) → broken zero s ≡ false → s ≡ []
unfolding broken empty
unbroken_none [] h = refl
unbroken_none (b ∷ s) h = absurd (no (sym h))

bytes_behind : (s : Text) → Bytes s → Bytes (behind_section s)
unfolding behind_section
bytes_behind s b i = rw (get_or-drop (2 + section_length s) s i 0) (b (2 + section_length s + i))

pub section_count_lem : (n : ℕ) (s : Text) → length (sections_in n s) ≡ n
unfolding sections_in
section_count_lem zero s = refl
section_count_lem (suc n) s = ap suc (section_count_lem n (behind_section s))

-- they are written so,
pub card_back : (n : ℕ) (s : Text) → Bytes s → broken n s ≡ false → card_of (sections_in n s) ≡ s
unfolding sections_in card_of concat_map
card_back zero s b h = sym (unbroken_none s h)
card_back (suc n) s b h =
    let w = unbroken_first n s h in
    let e : concat_map section (sections_in n (behind_section s)) ≡ behind_section s = card_back n (behind_section s) (bytes_behind s b) w.1 in
    rw e (spelled s w.0 (b 0))

-- each is short enough,
pub sections_short : (n : ℕ) (s : Text) → Bytes s → broken n s ≡ false → any_of long_section (map length (sections_in n s)) ≡ false
unfolding sections_in any_of long_section section_length
sections_short zero s b h = refl
sections_short (suc n) s b h =
    let w = unbroken_first n s h in
    let l = text_length s w.0 in
    let k : length (take (section_length s) (drop 2 s)) ≤ longest_section = omega (arith, b 0, b 1) in
    rw (le-ltb longest_section _ k) (sections_short n (behind_section s) (bytes_behind s b) w.1)

-- and two bytes for each, with the texts, are all
pub sections_length : (n : ℕ) (s : Text) → broken n s ≡ false → length s ≡ 2 * n + total (sections_in n s)
unfolding sections_in total sum
sections_length zero s h = rw (unbroken_none s h)
sections_length (suc n) s h =
    let w = unbroken_first n s h in
    omega (arith, behind_length s w.0, text_length s w.0, sections_length n (behind_section s) w.1)
