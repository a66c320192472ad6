-- `reading::profiled::read_for`: a profile compiled, and a file read for it.
use Rattle.reading.proofs.ProfileReads.{one_digit, read_told}
use Rattle.reading.proofs.profiled.read_for.Goals as goal

pub read_file-requires : goal.read_file-requires
read_file-requires c = (one_digit _ c.requires.0 _ c.compile.ensures.0, c.compile.ensures.1.room, c.requires.1, c.requires.2)

pub returns : goal.returns
returns c = read_told _ c.requires.0 _ _ c.compile.ensures.0 _ _ _ _ _ (rw c.new.ensures at c.read_file.ensures)
