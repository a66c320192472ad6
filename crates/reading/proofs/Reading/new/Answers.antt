use Rattle.reading.proofs.FileReads.{started}
use Rattle.reading.proofs.Reading.new.Goals as goal

pub returns : goal.returns
returns c = rw c.closed.ensures (started _ _ c.no_set.ensures)
