use Rattle.std.proofs.Common.{◌≡◌, ℕ, ◌≤◌, ◌<◌, length, get_or}
use Rattle.profile.specs.Spans.{no_span}
use Rattle.names.specs.Placing.{EmptyAt}
use Rattle.names.proofs.places.unplace.Given as goal

abbrev pub invariant-loop-j : goal.invariant-loop-j
invariant-loop-j l =
    record {
      size : length l.bounds ≡ length l.fn.bounds;
      here : (i : ℕ) → l.first ≤ i → i < l.j → EmptyAt 0 (get_or l.bounds i no_span);
      before : (i : ℕ) → i < l.first → get_or l.bounds i no_span ≡ get_or l.fn.bounds i no_span;
      beyond : (i : ℕ) → l.j ≤ i → get_or l.bounds i no_span ≡ get_or l.fn.bounds i no_span;
    }
