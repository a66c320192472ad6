use Rattle.values.proofs.Copying.{sign_plus, sign_other}
use Rattle.values.proofs.spread.is_sign.Goals as goal

pub returns-then-b-eq43 : goal.returns-then-b-eq43
returns-then-b-eq43 c = sign_plus _ c.if-b-eq43.true

pub returns-else-b-eq43 : goal.returns-else-b-eq43
returns-else-b-eq43 c = sign_other _ c.if-b-eq43.false
