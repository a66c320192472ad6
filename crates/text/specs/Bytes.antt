-- Texts are lists of bytes. What is asked of them and of lists of them, in every crate above.
use Rattle.std.specs.Prelude.{ℕ, ◌-◌, List, [], ◌∷◌, ◌++◌, Bool, true, false, not, ◌||◌, ◌&&◌, eqb, take, drop}
use Prim.Native.Char.{code}
use Prim.Native.String.{String, [] as nil, ◌∷◌ as ◌∷ₛ◌}

abbrev pub Text : Type 0
Text = List ℕ

abbrev pub Words : Type 0
Words = List Text

-- a string of these definitions, as bytes
unfoldable pub bytes : String → Text
bytes nil = []
bytes (c ∷ₛ r) = code c ∷ bytes r

unfoldable pub same : Text → Text → Bool
same [] [] = true
same [] (c ∷ t) = false
same (b ∷ s) [] = false
same (b ∷ s) (c ∷ t) = eqb b c && same s t

-- there is nothing in a list
unfoldable pub empty {ℓ} : {A : Type ℓ} → List A → Bool
empty [] = true
empty (a ∷ r) = false

-- the first byte of a text, or 0; and the text without it
unfoldable pub first : Text → ℕ
first [] = 0
first (b ∷ r) = b

unfoldable pub rest : Text → Text
rest [] = []
rest (b ∷ r) = r

-- the bytes from index a up to, not including, index e
unfoldable pub part : Text → ℕ → ℕ → Text
part s a e = take (e - a) (drop a s)

unfoldable pub all_of {ℓ} : {A : Type ℓ} → (A → Bool) → List A → Bool
all_of p [] = true
all_of p (a ∷ r) = p a && all_of p r

unfoldable pub any_of {ℓ} : {A : Type ℓ} → (A → Bool) → List A → Bool
any_of p [] = false
any_of p (a ∷ r) = p a || any_of p r

unfoldable pub concat_map {ℓ κ} : {A : Type ℓ} {B : Type κ} → (A → List B) → List A → List B
concat_map f [] = []
concat_map f (a ∷ r) = f a ++ concat_map f r

-- each text of the first list is in the second; no text of the first is in the second
unfoldable pub among : List Text → List Text → Bool
among a b = all_of (λ x. any_of (same x) b) a

unfoldable pub apart : List Text → List Text → Bool
apart a b = all_of (λ x. not (any_of (same x) b)) a
