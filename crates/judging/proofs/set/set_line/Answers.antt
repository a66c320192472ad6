use Rattle.judging.proofs.SetLines.{tail_dollar, set_told}
use Rattle.judging.proofs.set.set_line.Goals as goal

pub judge_heading-requires : goal.judge_heading-requires
judge_heading-requires c = (c.split_line-l.ensures, tail_dollar _ _ _ c.behind-rest.ensures.0 c.requires.1)

pub returns : goal.returns
returns c = set_told _ _ _ _ _ _ c.behind-rest.ensures.0 c.requires.0.high c.requires.0.few c.split_line-l.ensures _ c.judge_heading.ensures
