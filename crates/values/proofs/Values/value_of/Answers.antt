use Rattle.profile.specs.Spans.{profile_at}
use Rattle.values.proofs.Choices.{value_model, value_layout, value_variant, value_unknown}
use Rattle.values.proofs.Placed.{count_at}
use Rattle.values.proofs.Values.value_of.Goals as goal

pub returns-in-Model : goal.returns-in-Model
unfolding profile_at
returns-in-Model c = value_model _ _ _ c.in-Model.is _ c.value_at.ensures

pub returns-in-Layout : goal.returns-in-Layout
unfolding profile_at
returns-in-Layout c = value_layout _ _ _ _ _ (count_at _ _ _) _ c.in-Layout.is c.chosen.ensures

pub returns-in-Variant : goal.returns-in-Variant
unfolding profile_at
returns-in-Variant c = value_variant _ _ _ _ _ (count_at _ _ _) _ c.in-Variant.is c.chosen-in-Variant.ensures

pub returns-in-Unknown : goal.returns-in-Unknown
returns-in-Unknown c = value_unknown _ _ _ c.in-Unknown.is
