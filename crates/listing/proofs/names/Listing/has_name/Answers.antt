use Rattle.std.proofs.Common.{ap, ◌∙◌}
use Rattle.std.specs.Option.{is_some}
use Rattle.listing.proofs.Finding.{number_named}
use Rattle.listing.proofs.names.Listing.has_name.Goals as goal

pub returns : goal.returns
returns c = c.is_some.ensures ∙ (ap is_some c.find.ensures ∙ number_named _ _)
