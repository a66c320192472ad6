use Prim.Native.Nat.{min}
use native.Mathlib.Omega.{arith}
use mathlib.Core.Path.{◌≡◌, ap, ◌∙◌}
use lib.ListN.{length}
use Rattle.std.proofs.lemmas.List.{take_min}
use Rattle.answers.specs.Answer.{sum}
use Rattle.answers.proofs.components.sum_first.Goals as goal

pub returns : goal.returns
returns c =
    let e : c.min.result ≡ min c.args.n (length c.args.lengths) = omega arith in
    rw e at c.summed.ensures ∙ ap sum (take_min c.args.n c.args.lengths)
