use Rattle.names.proofs.Asked.{layouts_row, variants_row}
use Rattle.names.proofs.compile.value_row.Goals as goal

pub returns-then-j-lt33 : goal.returns-then-j-lt33
returns-then-j-lt33 c = layouts_row _ _ c.if-j-lt33.true c.with.ensures

pub returns-else-j-lt33 : goal.returns-else-j-lt33
returns-else-j-lt33 c = variants_row _ _ c.if-j-lt33.false c.requires c.with-else-j-lt33.ensures
