-- A text cut before its signs, met piece by piece.
use Rattle.std.specs.Prelude.{ℕ, zero, suc, ◌+◌, ◌-◌, ◌≤◌, ◌<◌, ◌≡◌, [], ◌∷◌, Bool, true, false, ◌||◌, cond, length, drop, get_or, leb, Option, Some, None}
use Rattle.text.specs.Bytes.{Text, bytes, same, first, part}
use Rattle.values.specs.Spread.{is_sign, signed, copies}

-- what stands before the first sign
unfoldable pub upto : Text → Text
upto [] = []
upto (b ∷ r) = let u = upto r in cond (is_sign b) [] (b ∷ u)

-- `:all` stands at a text's start, and no more before the first sign or the end: a piece ends with it
unfoldable pub closes_all : Text → Bool
closes_all t = same (upto t) (bytes ":all")

-- no piece ends with an `:all` that begins from `from` up to i
pub record FreeOfAll (t : Text) (from i : ℕ) : Type 0 where
  pub low : from ≤ i
  pub high : i ≤ length t
  pub free : (k : ℕ) → from ≤ k → k < i → closes_all (drop k t) ≡ false

-- the first place from `from` on where an `:all` begins that a piece ends with
pub record FirstAll (t : Text) (from c : ℕ) : Type 0 where
  pub free : FreeOfAll t from c
  pub here : closes_all (drop c t) ≡ true

abbrev pub NextAll : Text → ℕ → Option ℕ → Type 0
NextAll t from (Some c) = FirstAll t from c
NextAll t from None = FreeOfAll t from (length t)

-- the first colon from `from` on
pub record FirstColon (t : Text) (from i : ℕ) : Type 0 where
  pub low : from ≤ i
  pub high : i < length t
  pub plain : (k : ℕ) → from ≤ k → k < i → get_or t k 0 ≡ 58 → ⊥
  pub here : get_or t i 0 ≡ 58

-- none up to the last three bytes, in which there is no `:all`
abbrev pub ToColon : Text → ℕ → Option ℕ → Type 0
ToColon t from (Some i) = FirstColon t from i
ToColon t from None = (k : ℕ) → from ≤ k → k + 3 < length t → get_or t k 0 ≡ 58 → ⊥

-- where the piece starts that the place c stands in: at a sign, or at `from`
unfoldable pub start_of : Text → ℕ → ℕ → ℕ
start_of t from zero = zero
start_of t from (suc c) = let r = start_of t from c in cond (is_sign (get_or t (suc c) 0) || leb (suc c) from) (suc c) r

-- "each keeps the piece's sign, and where it has none all copies but the first get `+`": the sign of the copies behind the first, and what stands behind it
unfoldable pub sign_of : Text → ℕ
sign_of t = cond (signed t) (first t) 43

unfoldable pub behind_sign : Text → Text
behind_sign t = cond (signed t) (drop 1 t) t

-- the copies 2 to n of the piece whose `:all` begins at c
unfoldable pub more_copies : ℕ → Text → ℕ → ℕ → Text
more_copies n t from c = copies (n - 1) 2 (part t (start_of t from c) c)
