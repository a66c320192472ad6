use Rattle.std.proofs.Common.{◌≡◌, ℕ, ◌+◌, ◌≤◌, ◌<◌, true, false, ltb, get_or}
use Rattle.profile.specs.Spans.{no_span}
use Rattle.bitsets.specs.Sets.{is_in}
use Rattle.names.proofs.places.some_set.Given as goal

abbrev pub invariant-loop-k : goal.invariant-loop-k
invariant-loop-k l =
    record {
      first : is_in 0 l.set ≡ true;
      done : (i : ℕ) → 1 ≤ i → i < l.k → is_in i l.set ≡ ltb (get_or l.bounds (l.before + i) no_span).start (get_or l.bounds (l.before + i) no_span).end;
      left : (i : ℕ) → l.k ≤ i → is_in i l.set ≡ false;
    }
