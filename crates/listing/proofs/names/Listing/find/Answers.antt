use Rattle.std.proofs.Common.{Some, ap, sym, ◌∙◌}
use Rattle.listing.proofs.Finding.{gap_number, found_number}
use Rattle.listing.proofs.names.Listing.find.Goals as goal

pub returns-in-Ok : goal.returns-in-Ok
returns-in-Ok c = ap Some c.from.ensures ∙ sym (found_number _ _ _ _ _ c.args.self.now.named _ _ c.in-Ok.ensures)

pub returns-in-Err : goal.returns-in-Err
returns-in-Err c = sym (gap_number _ _ _ _ _ c.args.self.now.named _ _ c.in-Err.ensures)
