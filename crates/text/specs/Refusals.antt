-- Refusals as lists, of which the first counts: nothing is refused where the list is empty.
use Rattle.std.specs.Prelude.{ℕ, List, [], ◌∷◌, Bool, not, ◌&&◌, cond, eqb, leb}
use Rattle.text.specs.declared.Refusal.{Refusal}

-- a number at a place, where a test holds
unfoldable pub refused_if : Bool → ℕ → ℕ → List Refusal
refused_if t n p = cond t (record { number = n; place = p } ∷ []) []

-- a number at a place, where the number is not 0
unfoldable pub refused_as : ℕ → ℕ → List Refusal
refused_as n p = refused_if (not (eqb n 0)) n p

-- the first of the refusals; number 0 and place 0 where there is none
unfoldable pub first_refusal : List Refusal → Refusal
first_refusal [] = record { number = 0; place = 0 }
first_refusal (r ∷ rs) = r

-- the numbers of document 01
unfoldable pub is_number : ℕ → Bool
is_number n = leb 1 n && leb n 11

unfoldable pub has_number : Refusal → Bool
has_number r = is_number r.number
