-- `reading::keep::fire_kept`: what is fired so far, with what the layouts from k on fire, is the whole.
use mathlib.Core.Path.{◌≡◌}
use lib.ListN.{length}
use Rattle.values.specs.Expanding.{as_profile}
use Rattle.reading.proofs.Keeps.{KeptGoing}
use Rattle.reading.proofs.keep.fire_kept.Given as goal

abbrev pub invariant-loop-k : goal.invariant-loop-k
invariant-loop-k l = record {
  going : KeptGoing (as_profile l.values) l.o l.src.bytes.now l.places l.initial.buf l.initial.cursors l.k l.buf l.cursors;
  scratch : length l.scratch ≡ length l.initial.scratch;
}
