use mathlib.Core.Path.{◌≡◌}
use lib.ListN.{length}
use Rattle.values.specs.Expanding.{as_profile}
use Rattle.firing.proofs.ValueFires.{WordsGoing}
use Rattle.firing.proofs.rule.fire_words.Given as goal

abbrev pub invariant-loop-component : goal.invariant-loop-component
invariant-loop-component l =
    WordsGoing (as_profile l.values) l.src.bytes.now l.fn.from.at l.fn.from.line l.initial.buf l.initial.next l.right.k l.right.components.now l.buf l.next l.here.at l.here.line l.component-index
    × (length l.scratch ≡ length l.initial.scratch) × (length l.buf ≡ length l.initial.buf)
