use Prim.Native.Nat.{◌+◌, ◌-◌}
use native.Mathlib.Omega.{arith}
use mathlib.Core.Path.{◌≡◌, ap, ◌∙◌}
use mathlib.Core.List.{◌++◌}
use lib.ListN.{take, drop}
use lib.Seq.{drop-drop}
use Rattle.xkbrules.specs.Sheet.{little_endian}
use Rattle.xkbrules.proofs.lengths.put_number.Goals as goal

pub returns : goal.returns
unfolding little_endian
returns c =
    let s = c.args.sheet.now in
    let at = c.args.at in
    let n : at + (at + 4 - at) ≡ at + 4 = omega arith in
    ap (λ l. take at s ++ l) (λ i. (c.copy_from_slice.ensures.after ∙ c.to_le_bytes.ensures) i ++ (drop-drop (at + 4 - at) at s ∙ ap (λ m. drop m s) n) i)
