-- The code's faults as the numbers of the definitions.
use Prim.Native.Nat.{◌≤◌, ◌<◌}
use native.Mathlib.Omega.{arith}
use mathlib.Core.Path.{◌≡◌, sym}
use Rattle.std.specs.Prelude.{Option, Some, None}
use Rattle.text.specs.declared.faults.Fault.{Fault}
use Rattle.text.specs.declared.faults.Fault.TheVariants.{BadText, TooMany, LongFile, BadByte, LongWord, BadLine, BadHeading, BadPercent, IncludeLine, BadGroup, NoRoom, BadCard}
use Rattle.text.specs.Told.{number_of, fault_number}
use Rattle.text.specs.Reading.{lower}
use Rattle.text.proofs.Readers.{lower_zero, lower_none, lower_min}

pub number_some : (f : Fault) → number_of f ≡ 0 → ⊥
number_some BadText h = omega arith
number_some TooMany h = omega arith
number_some LongFile h = omega arith
number_some BadByte h = omega arith
number_some LongWord h = omega arith
number_some BadLine h = omega arith
number_some BadHeading h = omega arith
number_some BadPercent h = omega arith
number_some IncludeLine h = omega arith
number_some BadGroup h = omega arith
number_some NoRoom h = omega arith
number_some BadCard h = omega arith

-- the lower of two faults
module _ (f g : Option Fault) where
  pub lower_left : f ≡ None → fault_number g ≡ lower (fault_number f) (fault_number g)
  lower_left e = rw e (sym (lower_zero (fault_number g)))

  pub lower_right : g ≡ None → fault_number f ≡ lower (fault_number f) (fault_number g)
  lower_right e = rw e (sym (lower_none (fault_number f)))

  module _ (a b : Fault) (i : f ≡ Some a) (j : g ≡ Some b) where
    pub lower_second : number_of b < number_of a → fault_number g ≡ lower (fault_number f) (fault_number g)
    lower_second h = rw (i, j, lower_min (number_of a) (number_of b) (number_some a) (number_some b)) (omega arith)

    pub lower_first : number_of a ≤ number_of b → fault_number f ≡ lower (fault_number f) (fault_number g)
    lower_first h = rw (i, j, lower_min (number_of a) (number_of b) (number_some a) (number_some b)) (omega arith)
