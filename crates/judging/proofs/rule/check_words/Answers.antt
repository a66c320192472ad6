use mathlib.Core.Path.{refl, sym, ◌∙◌}
use Rattle.text.proofs.Told.{number_some}
use Rattle.judging.proofs.RuleLines.{fault_words, fault_none, fault_rule}
use Rattle.judging.proofs.rule.check_words.Goals as goal

pub returns-in-Some : goal.returns-in-Some
returns-in-Some c = fault_words _ _ _ (rw c.in-Some.is at c.requires.0.fault) (number_some c.in-Some.fault)

pub returns-then-line-eq0 : goal.returns-then-line-eq0
returns-then-line-eq0 c = fault_none _ _ _ (rw c.in_default.is at c.requires.0.fault) refl (sym c.args.line.now.counted ∙ c.if-line-eq0.true)

pub returns : goal.returns
returns c = λ ns.
    fault_rule _ _ _ (rw c.in_default.is at c.requires.0.fault) refl (λ z. c.if-line-eq0.false (c.args.line.now.counted ∙ z)) ns ∙ sym c.rule_fault.ensures
