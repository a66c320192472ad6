use Rattle.std.proofs.Common.{length}
use Rattle.names.proofs.Asked.{OptionsSo}
use Rattle.names.proofs.table.Table.mark_options.Given as goal

abbrev pub invariant-loop-option : goal.invariant-loop-option
invariant-loop-option l =
    record {
      on : (goal.iterator-loop-option).can_next l.option-iterator;
      ends : (goal.iterator-loop-option).is_finite l.option-iterator;
      so : OptionsSo l.options l.base l.initial.self l.self (length l.yielded) l.start;
    }
