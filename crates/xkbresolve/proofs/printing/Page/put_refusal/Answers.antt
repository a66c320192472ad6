use Rattle.text.specs.Bytes.{bytes}
use Rattle.xkbresolve.proofs.Prints.{refusal_put}
use Rattle.xkbresolve.proofs.printing.Page.put_refusal.Goals as goal

pub returns : goal.returns
unfolding bytes
returns c =
    refusal_put _ _ _ _ _ _ _ _ _ c.number.ensures c.put.ensures c.put_number.ensures c.put-2.ensures c.put_number-2.ensures c.put-3.ensures
