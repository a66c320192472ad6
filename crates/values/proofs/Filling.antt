-- A word filled piece by piece, and how long it gets.
use Prim.Native.Nat.{ℕ, zero, suc, ◌+◌, ◌-◌, ◌*◌, ◌/◌, ◌%◌, ◌≤◌, ◌<◌}
use native.Mathlib.Omega.{arith}
use mathlib.Core.Path.{◌≡◌, refl, ap, ◌∙◌}
use mathlib.Core.List.{List, [], ◌∷◌, ◌++◌}
use mathlib.Core.Bool.{Bool, true, false, ◌&&◌, ◌||◌, cond}
use lib.ListN.{length, drop, get_or, length-append, length-drop, drop_of_length-le}
use lib.Seq.{drop-drop}
use lib.Dec.{eqb, ltb, leb}
use borrow.Author.Tests.{eqb-false, ltb-false}
use Rattle.std.specs.List.{list_any}
use Rattle.text.specs.Limits.{longest_field}
use Rattle.text.specs.Bytes.{Text, empty, any_of, concat_map}
use Rattle.text.proofs.Comparing.{drop_at}
use Rattle.text.proofs.Lists.{neither}
use Rattle.output.specs.Store.{farthest, past, Wrote}
use Rattle.output.proofs.Stores.{take_stored}
use Rattle.profile.specs.Profile.{Profile, texts_of, fields, profile_of, layout_count}
use Rattle.profile.specs.Refusals.{long_field}
use Rattle.rules.specs.declared.Which.{Which}
use Rattle.rules.specs.declared.Which.TheVariants as which
use Rattle.rules.specs.declared.Variable.{Variable}
use Rattle.rules.specs.declared.Variable.TheVariants as variable
use Rattle.rules.specs.declared.Piece.{Piece}
use Rattle.rules.specs.declared.Piece.TheVariants.{Byte, Number, Bare, Parens, Prefixed, Unclosed}
use Rattle.rules.specs.Headings.{decimal}
use Rattle.rules.specs.Percent.{piece_after, variable_length, piece_length, pieces}
use Rattle.rules.proofs.Pieces.{pieces_none, pieces_byte, pieces_item, piece_fits}
use Rattle.values.specs.Values.{choose, value_of, piece_text, filled}
use Rattle.values.specs.Filling.{most_per_byte, Short, Filled, is_percent}
use Rattle.values.proofs.Writes.{Writing, writing_start, writing_more, writing_end, wrote_long}

-- a word's pieces

concat_cons : (f : Piece → Text) (q : Piece) (l : List Piece) → concat_map f (q ∷ l) ≡ f q ++ concat_map f l
unfolding concat_map
concat_cons f q l = refl

concat_nil : (f : Piece → Text) → concat_map f [] ≡ []
unfolding concat_map
concat_nil f = refl

byte_text : (p : Profile) (k b : ℕ) → piece_text p k (Byte b) ≡ b ∷ []
unfolding piece_text
byte_text p k b = refl

module _ (p : Profile) (k : ℕ) where
  pub filled_none : filled p k [] ≡ []
  unfolding filled
  filled_none = rw (pieces_none, concat_nil)

  pub filled_byte : (b : ℕ) (r : Text) → (b ≡ 37 → ⊥) → filled p k (b ∷ r) ≡ (b ∷ []) ++ filled p k r
  unfolding filled
  filled_byte b r n = rw (pieces_byte b r n, concat_cons, byte_text)

  -- a word without percent signs is its own value
  pub filled_plain : (w : Text) → any_of is_percent w ≡ false → filled p k w ≡ w
  unfolding any_of
  filled_plain [] h = filled_none
  filled_plain (b ∷ w) h =
      let x = neither (eqb b 37) (any_of is_percent w) h in
      filled_byte b w (eqb-false b 37 x.0) ∙ ap (λ (u : Text). b ∷ u) (filled_plain w x.1)

  pub filled_item : (b : ℕ) (r : Text) → b ≡ 37 → filled p k (b ∷ r) ≡ piece_text p k (piece_after r) ++ filled p k (drop (piece_length (piece_after r)) r)
  unfolding filled
  filled_item b r e = rw (pieces_item b r e, concat_cons)

-- the loop of `fill_value`: the bytes from i on are left

pub record Going (p : Profile) (k : ℕ) (w d d' : Text) (i o : ℕ) : Type 0 where
  pub high : i ≤ length w
  pub left : Writing d d' 0 (filled p k w) o (filled p k (drop i w))

pub going_start : (p : Profile) (k : ℕ) (w d : Text) → length d ≤ farthest → Going p k w d d 0 0
going_start p k w d l = record { high = omega arith; left = writing_start d 0 (filled p k w) l (omega arith) }

pub item_high : (w : Text) (i : ℕ) → i < length w → (q : Piece) → q ≡ piece_after (drop (i + 1) w) → (j : ℕ) → j ≡ piece_length q → i + 1 + j ≤ length w
item_high w i h q a j c = omega (arith, c, rw (← a) at (piece_fits (drop (i + 1) w)), length-drop (i + 1) w)

module _ (p : Profile) (k : ℕ) (w d d' : Text) (i o : ℕ) (v : Going p k w d d' i o) where
  module _ (h : i < length w) (d'' : Text) (s : ℕ) where
    pub going_byte : (get_or w i 0 ≡ 37 → ⊥) → Wrote d' d'' o (get_or w i 0 ∷ []) s → Going p k w d d'' (i + 1) s
    going_byte n u =
        record {
          high = omega arith;
          left = writing_more d d' 0 (filled p k w) o (get_or w i 0 ∷ []) (filled p k (drop (i + 1) w)) d'' s
              (rw (drop_at w i h, filled_byte p k _ _ n) at v.left) u;
        }

    pub going_item : get_or w i 0 ≡ 37 → (q : Piece) → q ≡ piece_after (drop (i + 1) w) → Wrote d' d'' o (piece_text p k q) s →
        (j : ℕ) → j ≡ piece_length q → Going p k w d d'' (i + 1 + j) s
    going_item e q a u j c =
        record {
          high = item_high w i h q a j c;
          left = writing_more d d' 0 (filled p k w) o (piece_text p k q) (filled p k (drop (i + 1 + j) w)) d'' s
              (rw (drop_at w i h, filled_item p k _ _ e, ← a, ← c, drop-drop) at v.left) u;
        }

  going_over : length w ≤ i → Wrote d d' 0 (filled p k w) o
  going_over h = writing_end d d' 0 (filled p k w) o (rw (drop_of_length-le w h, filled_none) at v.left)

filled_of : (d d' t : Text) (r : ℕ) → length t ≤ length d → length d ≤ farthest → Wrote d d' 0 t r → Filled d d' t r
unfolding past
filled_of d d' t r h l w =
    let n : r ≡ length t = omega (arith, w.next) in
    let z : 0 + length t ≡ length t = omega arith in
    let k : 0 + length t ≤ length d = omega arith in
    let x = wrote_long d d' 0 t r w in
    record { size = n; text = rw (n, w.text) (rw z at (take_stored d 0 t k)); fits = omega arith; long = x }

-- how long a filled word gets

-- no value of a profile is longer than a field
pub record ShortValues (p : Profile) : Type 0 where
  pub model : length p.model ≤ longest_field
  pub layouts : (i : ℕ) → length (get_or p.layouts i []) ≤ longest_field
  pub variants : (i : ℕ) → length (get_or p.variants i []) ≤ longest_field

short_field : (t : Text) → long_field t ≡ false → length t ≤ longest_field
unfolding long_field
short_field t h = ltb-false longest_field (length t) h

short_one : (ts : List Text) (i : ℕ) → any_of long_field ts ≡ false → length (get_or ts i []) ≤ longest_field
unfolding any_of
short_one [] zero h = omega arith
short_one [] (suc i) h = omega arith
short_one (t ∷ ts) zero h = short_field t (neither (long_field t) (any_of long_field ts) h).0
short_one (t ∷ ts) (suc i) h = short_one ts i (neither (long_field t) (any_of long_field ts) h).1

pub short_texts : (m l v : Text) → Short m l v → ShortValues (profile_of (texts_of m l v []))
unfolding profile_of
short_texts m l v s =
    record {
      model = short_field m s.model;
      layouts = λ i. short_one (fields l) i s.layouts;
      variants = λ i. short_one (fields v) i s.variants;
    }

short_cond : (c : Bool) (t : Text) → length t ≤ longest_field → length (cond c t []) ≤ longest_field
short_cond true t h = h
short_cond false t h = omega arith

short_choice : (n k : ℕ) (ts : List Text) (x : Which) → ((i : ℕ) → length (get_or ts i []) ≤ longest_field) → length (choose n k ts x) ≤ longest_field
unfolding choose
short_choice n k ts which.Alone h = short_cond (eqb n 1) (get_or ts 0 []) (h 0)
short_choice n k ts which.Matched h = h (k - 1)
short_choice n k ts (which.Numbered j) h = short_cond (ltb 1 n && leb j n) (get_or ts (j - 1) []) (h (j - 1))
short_choice n k ts which.Wrong h = omega arith

module _ (p : Profile) (short : ShortValues p) (k : ℕ) where
  short_value : (x : Variable) → length (value_of p k x) ≤ longest_field
  unfolding value_of
  short_value variable.Model = short.model
  short_value (variable.Layout w) = short_choice (layout_count p) k p.layouts w short.layouts
  short_value (variable.Variant w) = short_choice (layout_count p) k p.variants w short.variants
  short_value variable.Unknown = omega arith

  unknown_none : length (value_of p k variable.Unknown) ≡ 0
  unfolding value_of
  unknown_none = refl

  -- nothing for no bytes
  short_item : (x : Variable) → length (value_of p k x) ≤ longest_field * variable_length x
  unfolding variable_length
  short_item variable.Model = short_value variable.Model
  short_item (variable.Layout w) = omega (arith, short_value (variable.Layout w))
  short_item (variable.Variant w) = omega (arith, short_value (variable.Variant w))
  short_item variable.Unknown = omega (arith, unknown_none)

  short_number : length (decimal k) ≤ 2
  unfolding decimal
  short_number = go (ltb k 10)
    where
      go : (c : Bool) → length (cond c ((48 + k) ∷ []) ((48 + k / 10) ∷ (48 + k % 10) ∷ [])) ≤ 2
      go true = omega arith
      go false = omega arith

  short_piece : (q : Piece) → length (piece_text p k q) ≤ most_per_byte * (1 + piece_length q)
  unfolding piece_text piece_length
  short_piece (Byte b) = omega arith
  short_piece Number = omega (arith, short_number)
  short_piece (Bare x) = omega (arith, short_value x, short_item x)
  short_piece (Parens x) = go (empty t) (short_value x)
    where
      t : Text
      t = value_of p k x

      go : (c : Bool) → length t ≤ longest_field → length (cond c [] ((40 ∷ t) ++ (41 ∷ []))) ≤ most_per_byte * (1 + (2 + variable_length x))
      go true h = omega arith
      go false h = omega (arith, length-append t (41 ∷ []))
  short_piece (Prefixed b x) = go (empty t) (short_value x) (short_item x)
    where
      t : Text
      t = value_of p k x

      go : (c : Bool) → length t ≤ longest_field → length t ≤ longest_field * variable_length x →
          length (cond c [] (b ∷ t)) ≤ most_per_byte * (1 + (1 + variable_length x))
      go true h i = omega arith
      go false h i = omega arith
  short_piece Unclosed = omega arith

  short_pieces : (j : ℕ) (t : Text) → length (concat_map (piece_text p k) (pieces j t)) ≤ most_per_byte * (length t - j)
  unfolding pieces concat_map
  short_pieces j [] = omega arith
  short_pieces (suc j) (b ∷ r) = omega (arith, short_pieces j r)
  short_pieces zero (b ∷ r) = go (eqb b 37) (λ j. short_pieces j r)
    where
      f : Piece → Text
      f = piece_text p k

      q : Piece
      q = piece_after r

      short_byte : length (f (Byte b)) ≡ 1
      short_byte = ap length (byte_text p k b)

      go : (c : Bool) → ((j : ℕ) → length (concat_map f (pieces j r)) ≤ most_per_byte * (length r - j)) →
          length (concat_map f (elim c [ true ↦ q ∷ pieces (piece_length q) r | false ↦ Byte b ∷ pieces zero r ])) ≤ most_per_byte * (suc (length r) - 0)
      go true h = omega (arith, length-append (f q) (concat_map f (pieces (piece_length q) r)), short_piece q, piece_fits r, h (piece_length q))
      go false h = omega (arith, ap length (concat_cons f (Byte b) (pieces zero r)) ∙ length-append (f (Byte b)) (concat_map f (pieces zero r)), short_byte, h zero)

  pub filled_short : (t : Text) → length (filled p k t) ≤ most_per_byte * length t
  unfolding filled
  filled_short t = omega (arith, short_pieces zero t)

  pub going_end : (w d d' : Text) (i o : ℕ) → Going p k w d d' i o → length w ≤ i → most_per_byte * length w ≤ length d → length d ≤ farthest →
      Filled d d' (filled p k w) o
  going_end w d d' i o g h a b = filled_of d d' (filled p k w) o (omega (arith, filled_short w)) b (going_over p k w d d' i o g h)

-- `any_of` is std's
pub any_listed : (q : ℕ → Bool) (t : Text) → list_any q t ≡ any_of q t
unfolding any_of
any_listed q [] = refl
any_listed q (b ∷ t) = ap (λ (c : Bool). q b || c) (any_listed q t)
