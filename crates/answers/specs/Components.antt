-- A component of its fired values. Document 01, "Base and additions".
use Rattle.std.specs.Prelude.{ℕ, List, [], ◌∷◌, ◌++◌, cond, eqb}
use Rattle.text.specs.Bytes.{Text, empty}
use Rattle.values.specs.Spread.{signed}
use Rattle.answers.specs.Firings.{Firing}

-- the values of a component, in firing order
unfoldable pub values_of : ℕ → List Firing → List Text
values_of c [] = []
values_of c (f ∷ fs) = let r = values_of c fs in cond (eqb f.component c) (f.value ∷ r) r

-- "One that begins with `+` or `|` is an addition. Any other is plain." "the first plain value (the base)"
unfoldable pub base : List Text → Text
base [] = []
base (v ∷ vs) = let r = base vs in cond (signed v) r v

-- "then all additions in firing order"
unfoldable pub additions : List Text → Text
additions [] = []
additions (v ∷ vs) = cond (signed v) v [] ++ additions vs

-- "001 updates stepwise: plain onto nothing stands; plain onto a plain start is skipped; plain onto a signed start is put before it; an addition
-- is put after."
unfoldable pub update : Text → Text → Text
update t v = cond (signed v) (t ++ v) (cond (empty t) v (cond (signed t) (v ++ t) t))

unfoldable pub updates : Text → List Text → Text
updates t [] = t
updates t (v ∷ vs) = updates (update t v) vs
