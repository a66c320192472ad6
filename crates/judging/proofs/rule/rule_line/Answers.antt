use mathlib.Core.Path.{◌≡◌}
use borrow.Author.Rules.{rules}
use Rattle.std.specs.Prelude.{Err}
use Rattle.judging.proofs.RuleLines.{read_rest, read_words, words_refused}
use Rattle.judging.proofs.rule.rule_line.Goals as goal

pub returns-in-Some : goal.returns-in-Some
returns-in-Some c = read_rest _ _ _ _ _ _ _ c.requires.1 c.open_plain-o.ensures c.if-o.false _ c.in-Some.ensures

pub returns-in_err-next : goal.returns-in_err-next
returns-in_err-next c =
    let e : c.from_residual.result ≡ Err c.in_err-next.field-0.0 = search rules in
    rw e (words_refused _ _ _ _ _ _ _ c.requires.1 c.open_plain-o.ensures c.if-o.false _ (rw c.in_err-next.was at c.judge_words.ensures))

pub returns : goal.returns
returns c =
    read_words _ _ _ _ _ _ _ c.requires.1 c.open_plain-o.ensures c.if-o.false _ (rw c.in_ok-next.was at c.judge_words.ensures)
