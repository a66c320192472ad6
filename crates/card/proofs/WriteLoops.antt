-- Sections written one after the other.
use Prim.Native.Nat.{ℕ, ◌+◌, ◌*◌, ◌-◌, ◌/◌, ◌%◌, ◌≤◌, ◌<◌}
use native.Mathlib.Omega.{arith}
use mathlib.Core.Path.{◌≡◌, refl, sym, ap, ◌∙◌}
use mathlib.Core.List.{List, [], ◌∷◌, ◌++◌, append-nil}
use mathlib.Core.Bool.{false, ◌||◌}
use lib.ListN.{length, take, drop, get_or, length-append, length-drop, drop_of_length-le}
use lib.Dec.{ltb}
use borrow.Author.Tests.{ltb-false}
use Rattle.text.specs.Bytes.{Text, any_of, concat_map}
use Rattle.text.proofs.Lists.{neither, concat_append}
use Rattle.text.proofs.Comparing.{drop_at}
use Rattle.output.specs.Store.{stored}
use Rattle.output.proofs.Stores.{stored_append, stored_none, length_stored}
use Rattle.profile.specs.Profile.{texts_of}
use Rattle.answers.specs.Answer.{sum, total, texts_in}
use Rattle.card.specs.Card.{longest_section, two_bytes, section, card_of, card_texts}
use Rattle.card.specs.Writing.{long_section}
use Rattle.card.proofs.Format.{card_length_lem}

-- `put_section`
pub put_section : (d t a : Text) (at : ℕ) → a ≡ length t % 256 ∷ length t / 256 % 256 ∷ [] → length t ≤ longest_section → stored (stored d at a) (at + 2) t ≡ stored d at (section t)
unfolding section two_bytes
put_section d t a at e short =
    let m : length t / 256 % 256 ≡ length t / 256 = omega arith in
    rw (e, m) (sym (stored_append d at (length t % 256 ∷ length t / 256 ∷ []) t))

card_cons : (t : Text) (ts : List Text) → card_of (t ∷ ts) ≡ section t ++ card_of ts
unfolding card_of concat_map
card_cons t ts = refl

card_one : (t : Text) → card_of (t ∷ []) ≡ section t
unfolding card_of concat_map
card_one t = append-nil (section t)

pub card_append : (ts us : List Text) → card_of (ts ++ us) ≡ card_of ts ++ card_of us
unfolding card_of
card_append ts us = concat_append section ts us

section_length_lem : (t : Text) → length (section t) ≡ 2 + length t
unfolding section two_bytes
section_length_lem t = omega arith

sum_left : (ns : List ℕ) (i n : ℕ) → i < length ns → n ≡ get_or ns i 0 → sum (drop i ns) ≡ n + sum (drop (i + 1) ns)
unfolding sum
sum_left ns i n l e = rw (drop_at ns i l, ← e)

-- `put_components`: what is left of the ten texts, when the first i are written
pub record Putting (x : Text) (ns : List ℕ) (d₀ : Text) (at : ℕ) (d rest : Text) (o i : ℕ) : Type 0 where
  pub size : length d ≡ length d₀
  pub short : any_of long_section (drop i ns) ≡ false
  pub high : sum (drop i ns) ≤ length rest
  pub room : o + (2 * (length ns - i) + sum (drop i ns)) ≤ length d₀
  pub bytes : stored d₀ at (card_of (texts_in x ns)) ≡ stored d o (card_of (texts_in rest (drop i ns)))

module _ (x : Text) (ns : List ℕ) (d₀ : Text) (at : ℕ) where
  pub putting_start : length ns ≡ 10 → any_of long_section ns ≡ false → sum ns ≤ length x → at + (20 + sum ns) ≤ length d₀ → Putting x ns d₀ at d₀ x at 0
  putting_start ten h k l = record { size = refl; short = h; high = k; room = omega arith; bytes = refl }

  module _ (d rest : Text) (o i : ℕ) (v : Putting x ns d₀ at d rest o i) where
    module _ (l : i < length ns) (n : ℕ) (e : n ≡ get_or ns i 0) where
      put_short : (n ≤ longest_section) × (any_of long_section (drop (i + 1) ns) ≡ false)
      unfolding any_of long_section
      put_short =
          let q : ltb longest_section n || any_of long_section (drop (i + 1) ns) ≡ false = rw (drop_at ns i l, ← e) at v.short in
          let w = neither (ltb longest_section n) (any_of long_section (drop (i + 1) ns)) q in
          (ltb-false longest_section n w.0, w.1)

      -- there is a text more, and room for its section
      pub putting_room : (n ≤ length rest) × (n ≤ longest_section) × (o + (2 + n) ≤ length d)
      putting_room =
          (omega (arith, v.high, sum_left ns i n l e), put_short.0, omega (arith, v.room, v.size, sum_left ns i n l e))

      module _ (t more : Text) (front : t ≡ take n rest) (back : more ≡ drop n rest) (k : length t ≡ n) where
        texts_left : texts_in rest (drop i ns) ≡ t ∷ texts_in more (drop (i + 1) ns)
        unfolding texts_in
        texts_left = rw (drop_at ns i l, ← e, ← front, ← back)

        pub putting_more : (d' : Text) (o' : ℕ) → d' ≡ stored d o (section t) → o' ≡ o + (2 + length t) → Putting x ns d₀ at d' more o' (i + 1)
        putting_more d' o' g p =
            let z : o + length (section t) ≡ o' = omega (arith, section_length_lem t) in
            record {
              size = ap length g ∙ length_stored d o (section t) ∙ v.size;
              short = put_short.1;
              high = omega (arith, v.high, sum_left ns i n l e, ap length back, length-drop n rest);
              room = omega (arith, v.room, sum_left ns i n l e);
              bytes = v.bytes ∙ rw (texts_left, card_cons, stored_append, z, ← g) refl;
            }

    pub putting_end : length ns ≤ i → d ≡ stored d₀ at (card_of (texts_in x ns))
    unfolding texts_in card_of concat_map
    putting_end h = sym (v.bytes ∙ rw (drop_of_length-le ns h) (stored_none d o))

-- the sections at the start of a card
pub record Put (d d' : Text) (ts : List Text) (r : ℕ) : Type 0 where
  pub text : d' ≡ stored d 0 (card_of ts)
  pub next : r ≡ length (card_of ts)

module _ (d d' : Text) (ts : List Text) (r : ℕ) (v : Put d d' ts r) where
  -- more sections behind them
  pub put_then : (us : List Text) (d'' : Text) → d'' ≡ stored d' r (card_of us) → d'' ≡ stored d 0 (card_of (ts ++ us))
  put_then us d'' g =
      let z : 0 + length (card_of ts) ≡ r = omega (arith, v.next) in
      g ∙ sym (rw (card_append ts us, stored_append, z, ← v.text) refl)

  -- a whole text as one section more
  pub put_next : (t d'' : Text) (r' : ℕ) → d'' ≡ stored d' r (section t) → r' ≡ r + (2 + length t) → Put d d'' (ts ++ (t ∷ [])) r'
  put_next t d'' r' g e =
      record {
        text = put_then (t ∷ []) d'' (g ∙ rw (card_one t) refl);
        next = rw (card_append ts (t ∷ []), card_one t) (omega (arith, length-append (card_of ts) (section t), section_length_lem t, v.next));
      }

pub put_none : (d : Text) → Put d d [] 0
unfolding card_of concat_map
put_none d = record { text = sym (stored_none d 0); next = refl }

pub four_length : (m l v o : Text) → length (card_of (card_texts (texts_of m l v o) [])) ≡ 8 + (length m + length l + length v + length o)
unfolding card_texts total sum
four_length m l v o = omega (arith, card_length_lem (card_texts (texts_of m l v o) []))
