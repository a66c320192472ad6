use mathlib.Core.Path.{sym, ◌∙◌}
use Rattle.rules.proofs.RuleFaults.{absent_is}
use Rattle.judging.proofs.RuleLines.{rest_feed, rest_rule}
use Rattle.judging.proofs.rule.rest_end.Goals as goal

pub returns-then-not-is_plain : goal.returns-then-not-is_plain
returns-then-not-is_plain c = rest_feed _ _ _ _ c.feed_end.ensures

pub returns : goal.returns
returns c = rest_rule _ _ _ _ (sym (absent_is c.args.p.form) ∙ (sym c.eq-headless.ensures ∙ c.if-headless.false)) c.rule_end.ensures
