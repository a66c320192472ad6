use Rattle.names.proofs.Asked.{values_start, values_more}
use Rattle.names.proofs.table.Table.mark_values.Goals as goal

pub loop-j-init : goal.loop-j-init
loop-j-init c = values_start _ _

pub loop-j-preserved : goal.loop-j-preserved
loop-j-preserved c = values_more _ _ _ _ _ _ c.loop-j.invariant c.value_row.ensures c.mark_value.ensures
