use Rattle.std.proofs.Common.{◌∙◌, rules, tests, leb}
use Rattle.std.proofs.lemmas.Iterator.{YieldsList-from_slice}
use Rattle.std.proofs.lemmas.Iterator.Search.{all_from_yields_List}
use Rattle.firing.specs.Stage.{region_size, in_regions}
use Rattle.firing.proofs.StageLoops.{all_listed}
use Rattle.firing.proofs.stage.in_regions.Goals as goal

pub returns : goal.returns
unfolding in_regions
returns c =
    all_from_yields_List (λ n. leb n region_size) _ _ _ c.all.ensures.ran (YieldsList-from_slice c.args.lengths cc) (λ x b q k. search (rules, tests))
    ∙ all_listed _ _
