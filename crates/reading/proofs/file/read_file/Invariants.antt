-- `reading::file::read_file`: the steps so far lead on to the rest.
use Prim.Native.Nat.{◌-◌}
use lib.ListN.{length}
use Rattle.reading.proofs.FileReads.{Reads}
use Rattle.reading.proofs.file.read_file.Given as goal

abbrev pub invariant-loop : goal.invariant-loop
invariant-loop l = Reads l.src.bytes.now l.fn.names l.fn.buf l.fn.q l.names l.scratch l.buf l.reading

abbrev pub decreases-loop : goal.decreases-loop
decreases-loop l = length l.src.bytes.now - l.reading.at.at
