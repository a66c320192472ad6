use mathlib.Core.Path.{◌∙◌}
use Rattle.values.proofs.Copying.{signed_none, signed_some}
use Rattle.values.proofs.spread.is_signed.Goals as goal

pub returns-in-empty : goal.returns-in-empty
returns-in-empty c = signed_none _ c.in-empty.len_below

pub returns-in-len1-up : goal.returns-in-len1-up
returns-in-len1-up c = c.is_sign.ensures ∙ signed_some _ c.in-len1-up.len_at_least
