use mathlib.Core.Path.{refl}
use Rattle.values.proofs.Placed.{count_at}
use Rattle.firing.proofs.ValueFires.{value_fired, plain_fired}
use Rattle.firing.proofs.Going.{fire_full}
use Rattle.firing.proofs.rule.fire_value.Goals as goal

pub returns-then-full : goal.returns-then-full
returns-then-full c = (fire_full _ _ _ _ c.if-full.true, refl)

pub returns-then-not-has_percent : goal.returns-then-not-has_percent
returns-then-not-has_percent c = (plain_fired _ _ _ _ _ _ _ _ _ _ (count_at _ _ _) c.has_percent.ensures c.if-not-has_percent.true c.fire.ensures, refl)

pub returns : goal.returns
returns c = (value_fired _ _ _ _ _ _ _ _ _ _ _ _ (count_at _ _ _) c.fill_word-length.ensures c.fire-2.ensures, c.fill_word-length.ensures.long)
