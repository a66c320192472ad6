use mathlib.Core.Path.{ap, ◌∙◌}
use mathlib.Core.List.{map}
use lib.ListN.{length}
use Rattle.std.proofs.lemmas.Result.{err_from_is_err_and}
use Rattle.card.proofs.Judged.{judge_bad, judge_good}
use Rattle.card.proofs.reading.judge.Goals as goal

pub returns-in_err-judged : goal.returns-in_err-judged
returns-in_err-judged c =
    let p = err_from_is_err_and c.from_residual.result c.from_residual.ensures.1 in
    let e = c.in_err-judged.ensures in
    rw (p.1, p.2, e.0) (judge_bad _ e.1)

pub returns : goal.returns
returns c = let v = c.in_ok-judged.ensures in (judge_good _ _ v, c.lengths.ensures ∙ ap (map length) v.texts)
