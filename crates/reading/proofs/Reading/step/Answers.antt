-- `reading::Reading::step`: one law for each way.
use borrow.Author.Rules.{rules}
use mathlib.Core.Path.{◌≡◌}
use Rattle.std.specs.Prelude.{Err}
use Rattle.reading.proofs.Stepping.{step_keep, step_fire, step_end, heading_sound, step_heading, sought_is, fired_as, heading_as}
use Rattle.reading.proofs.Reading.step.Goals as goal

pub returns-then-set : goal.returns-then-set
returns-then-set c =
    let g = sought_is _ _ _ _ _ _ _ _ c.in_ok-place.was c.in-Rule.is c.seek_rule.ensures in
    let f = c.fire_kept-self.ensures in
    step_fire _ _ _ _ _ c.requires _ _ _ g _ c.keep_rule.ensures _ c.without-wanted.ensures c.if-set.true _ _ _ f.1
    (fired_as c.args.names.now c.values.result c.values.ensures _ _ _ _ _ _ _ f.0)

pub returns-else-set : goal.returns-else-set
returns-else-set c =
    let g = sought_is _ _ _ _ _ _ _ _ c.in_ok-place.was c.in-Rule.is c.seek_rule.ensures in
    step_keep _ _ _ _ _ c.requires _ _ _ g _ c.keep_rule.ensures _ c.without-wanted.ensures c.if-set.false

pub returns-in_err-read_heading-in-Heading : goal.returns-in_err-read_heading-in-Heading
returns-in_err-read_heading-in-Heading c =
    let e : c.from_residual-in_err-read_heading-in-Heading.result ≡ Err c.in_err-read_heading-in-Heading.field-0.0 = search rules in
    let g = sought_is _ _ _ _ _ _ _ _ c.in_ok-place.was c.in-Heading.is c.seek_rule.ensures in
    let v = c.close_set.ensures in
    let u = heading_sound _ _ _ _ _ c.requires _ _ g _ _ _ v.scratch v.fired in
    let a = heading_as _ _ _ c.args.self.now c.close_set.new.self _ _ _ v.is (rw c.in_err-read_heading-in-Heading.was at c.read_heading.ensures) in
    rw e (step_heading _ _ _ _ _ c.requires _ _ g _ _ _ v.scratch v.fired _ _ _ (a.steps _ _ u))

pub returns-in_ok-read_heading-in-Heading : goal.returns-in_ok-read_heading-in-Heading
returns-in_ok-read_heading-in-Heading c =
    let g = sought_is _ _ _ _ _ _ _ _ c.in_ok-place.was c.in-Heading.is c.seek_rule.ensures in
    let v = c.close_set.ensures in
    let u = heading_sound _ _ _ _ _ c.requires _ _ g _ _ _ v.scratch v.fired in
    let a = heading_as _ _ _ c.args.self.now c.close_set.new.self _ _ _ v.is (rw c.in_ok-read_heading-in-Heading.was at c.read_heading.ensures) in
    step_heading _ _ _ _ _ c.requires _ _ g _ _ _ v.scratch v.fired _ _ _ (a.steps _ _ u)

pub returns-in-End : goal.returns-in-End
returns-in-End c =
    let g = sought_is _ _ _ _ _ _ _ _ c.in_ok-place.was c.in-End.is c.seek_rule.ensures in
    let v = c.close_set-in-End.ensures in
    rw v.is (step_end _ _ _ _ _ c.requires g _ _ _ v.scratch v.fired _)
