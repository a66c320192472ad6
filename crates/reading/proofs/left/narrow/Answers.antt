-- `reading::left::narrow`: a word's row in one column.
use mathlib.Core.Path.{refl, ◌∙◌}
use Rattle.names.specs.Rows.{says}
use Rattle.reading.proofs.left.narrow.Goals as goal

pub returns-in-Model : goal.returns-in-Model
unfolding says
returns-in-Model c = λ k. c.all_or_none.ensures k ∙ rw (c.contains.ensures, c.in-Model.is) refl

pub returns-in-Layout : goal.returns-in-Layout
unfolding says
returns-in-Layout c = λ k. c.both.ensures k ∙ rw c.in-Layout.is refl

pub returns-in-Variant : goal.returns-in-Variant
unfolding says
returns-in-Variant c = λ k. c.both-in-Variant.ensures k ∙ rw c.in-Variant.is refl

pub returns-in-Options : goal.returns-in-Options
unfolding says
returns-in-Options c = λ k. c.all_or_none-in-Options.ensures k ∙ rw (c.contains-in-Options.ensures, c.in-Options.is) refl
