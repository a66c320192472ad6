-- A profile that is not refused, compiled, and a file read for it.
use Prim.Native.Nat.{ℕ, ◌<◌}
use native.Mathlib.Omega.{arith}
use mathlib.Core.Path.{◌≡◌}
use mathlib.Core.List.{List, []}
use Rattle.std.specs.Prelude.{Result}
use Rattle.text.specs.declared.faults.Refusal.{Refusal}
use Rattle.text.specs.Bytes.{Text}
use Rattle.profile.specs.Profile.{Texts}
use Rattle.profile.specs.Refusals.{profile_refusals}
use Rattle.profile.proofs.Counts.{few_layouts, few_variants}
use Rattle.firing.specs.declared.Cursors.{Cursors}
use Rattle.firing.specs.Writing.{starting_at}
use Rattle.names.specs.declared.Names.{Names}
use Rattle.names.specs.Ready.{Ready}
use Rattle.reading.specs.Files.{HoldsProfile, FileReadOf}
use Rattle.reading.specs.Profiled.{ReadFor}

pub one_digit : (x : Texts) → profile_refusals x ≡ [] → (names : Names) → Ready x [] names → names.layouts < 10
one_digit x f names v = omega (arith, v.layouts, few_layouts x f)

module _ (x : Texts) (f : profile_refusals x ≡ []) (names names' : Names) (v : Ready x [] names) (s w w' : Text) (at : List ℕ) (r : Result Cursors Refusal) where
  holds : HoldsProfile names x
  holds = record { ready = v; variants = rw v.layouts (few_variants x f) }

  pub read_told : FileReadOf s names names' w w' (starting_at at) r → ReadFor s x w w' at r
  read_told g = record { long = g.long; refused = g.refused x holds; accepted = g.accepted x holds }
