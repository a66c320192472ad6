use native.Mathlib.Omega.{arith}
use mathlib.Core.Path.{refl, sym, ap, ◌∙◌}
use Rattle.text.specs.Bytes.{Text, bytes, same}
use Rattle.text.proofs.Told.{number_some}
use Rattle.rules.proofs.LineKinds.{line_wrong, line_heading, heading_none, heading_include, heading_set}
use Rattle.judging.proofs.SetLines.{set_as}
use Rattle.judging.proofs.set.judge_heading.Goals as goal

pub returns-in-Some : goal.returns-in-Some
returns-in-Some c = line_wrong _ _ _ _ (rw c.in-Some.is at c.requires.0.fault) (number_some c.in-Some.fault)

pub returns-then-line-eq0 : goal.returns-then-line-eq0
returns-then-line-eq0 c =
    line_heading _ _ _ _ (rw c.in_default.is at c.requires.0.fault) refl refl ∙ heading_none _ (sym c.args.line.now.counted ∙ c.if-line-eq0.true)

pub returns-then-same : goal.returns-then-same
unfolding bytes
returns-then-same c =
    line_heading _ _ _ _ (rw c.in_default.is at c.requires.0.fault) refl refl
    ∙ heading_include _ (omega (arith, c.args.line.now.counted, c.if-line-eq0.false)) c.requires.1
    (ap (λ (x : Text). same x (bytes "include")) (sym c.word.ensures) ∙ (sym c.same.ensures ∙ c.if-same.true))

pub returns : goal.returns
unfolding bytes
returns c =
    set_as _ _ _
    (line_heading _ _ _ _ (rw c.in_default.is at c.requires.0.fault) refl refl
    ∙ heading_set _ (omega (arith, c.args.line.now.counted, c.if-line-eq0.false)) c.requires.1
    (ap (λ (x : Text). same x (bytes "include")) (sym c.word.ensures) ∙ (sym c.same.ensures ∙ c.if-same.false)))
    c.judge_set.ensures
