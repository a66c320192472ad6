use native.Mathlib.Omega.{arith}
use mathlib.Core.Path.{sym}
use Rattle.rules.proofs.RuleFaults.{rule_long, fault_left, fault_right}
use Rattle.rules.proofs.judge.rule_fault.Goals as goal

pub returns-then-not-has_left : goal.returns-then-not-has_left
returns-then-not-has_left c = fault_left _ _ (sym c.if-not-has_left.ensures)

pub right_words-requires : goal.right_words-requires
right_words-requires c = let l = rule_long _ _ (sym c.if-not-has_left.ensures) in omega (arith, l)

pub returns : goal.returns
returns c = fault_right _ _ (sym c.if-not-has_left.ensures) _ c.eq.ensures _ c.right_words.ensures
