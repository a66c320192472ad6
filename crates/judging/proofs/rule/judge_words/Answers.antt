use mathlib.Core.Path.{◌≡◌}
use borrow.Author.Rules.{rules}
use Rattle.std.specs.Prelude.{Err}
use Rattle.judging.proofs.RuleLines.{words_pass, words_fail}
use Rattle.judging.proofs.rule.judge_words.Goals as goal

pub returns-in_err-check_words : goal.returns-in_err-check_words
returns-in_err-check_words c =
    let w = c.requires.0 in
    let e : c.from_residual.result ≡ Err c.in_err-check_words.field-0.0 = search rules in
    rw e (words_fail _ _ _ _ _ _ _ c.behind-rest.ensures.0 w.high w.few c.split_line-l.ensures _ _ (rw c.in_err-check_words.was at c.check_words.ensures))

pub returns : goal.returns
returns c =
    let w = c.requires.0 in
    words_pass _ _ _ _ _ _ _ c.behind-rest.ensures.0 w.high w.few c.split_line-l.ensures _ (rw c.in_ok-check_words.was at c.check_words.ensures)
