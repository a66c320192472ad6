use Rattle.std.proofs.Common.{rules, tests}
use Rattle.rules.specs.Held.{heading_by}
use Rattle.std.proofs.lemmas.Iterator.{YieldsList-from_slice}
use Rattle.std.proofs.lemmas.Iterator.Search.{any_from_yields_List}
use Rattle.answers.specs.Matching.{is_options}
use Rattle.judging.proofs.LayoutRange.{any_of_is}
use Rattle.judging.proofs.ranges.has_options.Goals as goal

pub returns : goal.returns
unfolding heading_by
returns c =
    rw any_of_is
    (any_from_yields_List is_options _ _ _ c.any.ensures.ran (YieldsList-from_slice (heading_by c.args.h.now).columns (search rules)) (λ x b q k. search (rules, tests)))
