use Rattle.values.proofs.Choices.{alone_one, alone_none, matched, wrong_none, numbered_lone, numbered_beyond, numbered_one}
use Rattle.values.proofs.Values.chosen.Goals.{in_default-via-in-Alone+else-self-eq1, in_default-via-in-Numbered+then-self-gt1+else-j-self, in_default-via-in-Numbered+else-self-gt1, in_default-via-in_default}
use Rattle.values.proofs.Values.chosen.Goals as goal

pub returns-in-Alone : goal.returns-in-Alone
returns-in-Alone c = alone_one _ _ _ _ c.in-Alone.is c.if-self-eq1.true _ c.nth.ensures

pub returns-in-Matched : goal.returns-in-Matched
returns-in-Matched c = matched _ _ _ _ c.in-Matched.is _ c.saturating_sub.ensures _ c.nth-in-Matched.ensures

pub returns-in-Numbered : goal.returns-in-Numbered
returns-in-Numbered c = numbered_one _ _ _ _ _ c.in-Numbered.is c.if-self-gt1.true c.if-j-self.true _ c.saturating_sub-in-Numbered.ensures _ c.nth-in-Numbered.ensures

pub returns-in_default : goal.returns-in_default
returns-in_default c =
    elim c.in_default.branch [
      | in_default-via-in-Alone+else-self-eq1 w ↦ alone_none _ _ _ _ w.in-Alone.is w.if-self-eq1.false
      | in_default-via-in-Numbered+then-self-gt1+else-j-self w ↦ numbered_beyond _ _ _ _ _ w.in-Numbered.is w.if-j-self.false
      | in_default-via-in-Numbered+else-self-gt1 w ↦ numbered_lone _ _ _ _ _ w.in-Numbered.is w.if-self-gt1.false
      | in_default-via-in_default w ↦ wrong_none _ _ _ _ w.in_default.is
    ]
