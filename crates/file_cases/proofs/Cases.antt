-- The first separator of a text.
use Prim.Native.Nat.{ℕ, ◌≤◌, ◌<◌}
use native.Mathlib.Omega.{arith}
use mathlib.Core.Path.{◌≡◌}
use mathlib.Core.Bool.{true, false}
use lib.ListN.{length}
use Rattle.std.proofs.Common.{Option, Some, None, unwrap_or, MatchOption}
use Rattle.text.specs.Bytes.{Text}
use Rattle.file_cases.specs.Cases.{separates, CaseEnd}

-- a search over all places ends at the first at which a separator stands, or finds none
pub first_separator : (s : Text) (r : Option ℕ) (e : ℕ) →
    MatchOption r ((k : ℕ) → 0 ≤ k → k < length s → separates s k ≡ false)
    (λ i. (0 ≤ i) × (i < length s) × (separates s i ≡ true) × ((k : ℕ) → 0 ≤ k → k < i → separates s k ≡ false)) →
    e ≡ unwrap_or r (length s) → CaseEnd s e
first_separator s None e m q =
    record { before = record { high = omega arith; none = λ j h. m j (omega arith) (omega arith) }; here = λ h. absurd (omega arith) }
first_separator s (Some i) e m q =
    rw q (record { before = record { high = omega arith; none = λ j h. m.3 j (omega arith) h }; here = λ h. m.2 })
