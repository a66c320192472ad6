-- Laws of tests.
use mathlib.Core.Path.{◌≡◌, refl}
use mathlib.Core.Bool.{Bool, true, false, ◌||◌, ◌&&◌}

pub or_none : (a : Bool) → a || false ≡ a
or_none true = refl
or_none false = refl

pub or_assoc : (a b c : Bool) → (a || b) || c ≡ a || (b || c)
or_assoc true b c = refl
or_assoc false b c = refl

pub and_none : (a : Bool) → a && false ≡ false
and_none true = refl
and_none false = refl

pub and_all : (a : Bool) → a && true ≡ a
and_all true = refl
and_all false = refl
