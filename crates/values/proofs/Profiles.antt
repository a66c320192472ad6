-- What a value takes of a profile: its texts but the options.
use Prim.Native.Nat.{ℕ, ◌-◌}
use mathlib.Core.Path.{◌≡◌, refl}
use mathlib.Core.List.{List, [], ◌∷◌}
use lib.ListN.{get_or}
use Rattle.text.specs.Bytes.{Text, concat_map}
use Rattle.profile.specs.Profile.{Profile, texts_of, profile_of, layout_count}
use Rattle.rules.specs.declared.Which.{Which}
use Rattle.rules.specs.declared.Which.TheVariants as which
use Rattle.rules.specs.declared.Variable.{Variable}
use Rattle.rules.specs.declared.Variable.TheVariants as variable
use Rattle.rules.specs.declared.Piece.{Piece}
use Rattle.rules.specs.declared.Piece.TheVariants.{Byte, Number, Bare, Parens, Prefixed, Unclosed}
use Rattle.rules.specs.Percent.{pieces}
use Rattle.values.specs.Values.{choose, value_of, piece_text, filled}
use Rattle.values.specs.Spread.{cuts, spread, expanded}

concat_same : (f g : Piece → Text) → ((q : Piece) → f q ≡ g q) → (l : List Piece) → concat_map f l ≡ concat_map g l
unfolding concat_map
concat_same f g h [] = refl
concat_same f g h (q ∷ l) = rw (h q, concat_same f g h l)

choice_same : (n k : ℕ) (ts us : List Text) → ((i : ℕ) → get_or ts i [] ≡ get_or us i []) → (x : Which) → choose n k ts x ≡ choose n k us x
unfolding choose
choice_same n k ts us h which.Alone = rw (h 0)
choice_same n k ts us h which.Matched = h (k - 1)
choice_same n k ts us h (which.Numbered j) = rw (h (j - 1))
choice_same n k ts us h which.Wrong = refl

-- two profiles have the same values; missing variants are empty
pub record SameValues (p q : Profile) : Type 0 where
  pub model : p.model ≡ q.model
  pub count : layout_count p ≡ layout_count q
  pub layouts : (i : ℕ) → get_or p.layouts i [] ≡ get_or q.layouts i []
  pub variants : (i : ℕ) → get_or p.variants i [] ≡ get_or q.variants i []

module _ (p q : Profile) (s : SameValues p q) (k : ℕ) where
  value_same : (x : Variable) → value_of p k x ≡ value_of q k x
  unfolding value_of
  value_same variable.Model = s.model
  value_same (variable.Layout w) = rw s.count (choice_same (layout_count q) k p.layouts q.layouts s.layouts w)
  value_same (variable.Variant w) = rw s.count (choice_same (layout_count q) k p.variants q.variants s.variants w)
  value_same variable.Unknown = refl

  piece_same : (x : Piece) → piece_text p k x ≡ piece_text q k x
  unfolding piece_text
  piece_same (Byte b) = refl
  piece_same Number = refl
  piece_same (Bare x) = value_same x
  piece_same (Parens x) = rw (value_same x)
  piece_same (Prefixed b x) = rw (value_same x)
  piece_same Unclosed = refl

  pub filled_same : (t : Text) → filled p k t ≡ filled q k t
  unfolding filled
  filled_same t = concat_same (piece_text p k) (piece_text q k) piece_same (pieces 0 t)

  pub expanded_same : (t : Text) → expanded p k t ≡ expanded q k t
  unfolding expanded
  expanded_same t = rw (s.count, filled_same t)

-- the options matter to no value

module _ (m l v o : Text) (k : ℕ) where
  options_same : SameValues (profile_of (texts_of m l v o)) (profile_of (texts_of m l v []))
  unfolding profile_of layout_count
  options_same = record { model = refl; count = refl; layouts = λ i. refl; variants = λ i. refl }

-- the filled text, spread over the layouts, is the expanded word
pub expanded_by : (p : Profile) (k n : ℕ) (t u : Text) → n ≡ layout_count p → u ≡ filled p k t → concat_map (spread n) (cuts u) ≡ expanded p k t
unfolding expanded
expanded_by p k n t u e q = rw (e, q)
