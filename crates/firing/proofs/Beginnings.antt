-- Whether a value is empty, plain or an addition once its `:all` is spread: told by its length and its first byte before.
use Prim.Native.Nat.{ℕ, ◌≤◌}
use mathlib.Core.Path.{◌≡◌, sym, ◌∙◌}
use mathlib.Core.Bool.{Bool, true, false}
use lib.Dec.{eqb}
use lib.ListN.{length}
use Rattle.text.specs.Bytes.{Text, empty, concat_map}
use Rattle.values.specs.Spread.{signed, cuts, spread}
use Rattle.values.proofs.Begins.{spread_empty, spread_signed}
use Rattle.values.proofs.Choices.{empty_is}

module _ (n : ℕ) (t : Text) (h : 1 ≤ n) where
  pub none_spread : true ≡ eqb (length t) 0 → empty (concat_map (spread n) (cuts t)) ≡ true
  none_spread e = spread_empty n t h ∙ empty_is t true e

  pub some_spread : false ≡ eqb (length t) 0 → empty (concat_map (spread n) (cuts t)) ≡ false
  some_spread e = spread_empty n t h ∙ empty_is t false e

  pub sign_spread : (r b : Bool) → r ≡ signed t → r ≡ b → signed (concat_map (spread n) (cuts t)) ≡ b
  sign_spread r b e g = spread_signed n t h ∙ sym e ∙ g
