use mathlib.Core.Path.{sym, ◌∙◌}
use Rattle.judging.proofs.RuleLines.{opens_plain}
use Rattle.judging.proofs.rule.plain_start.Goals as goal

pub returns : goal.returns
returns c =
    let v = c.skip_blanks-i.ensures in
    opens_plain _ _ _ _ c.args.src.now.fenced v.0 v.1 c.if-b-eq33.false (sym c.is_plain.ensures ∙ c.if-not-is_plain.false)
