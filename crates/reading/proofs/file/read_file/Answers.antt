-- `reading::file::read_file`: the steps so far lead on to the rest.
use mathlib.Core.Path.{refl}
use Rattle.reading.proofs.FileReads.{reads_start}
use Rattle.reading.proofs.file.read_file.Goals as goal

pub loop-init : goal.loop-init
loop-init c = reads_start _ _ _ _ c.requires.0 c.requires.1 c.requires.2 c.requires.3 _ refl _ c.new-reading.ensures
