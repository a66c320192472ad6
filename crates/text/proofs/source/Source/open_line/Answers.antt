use mathlib.Core.Path.{sym, ◌∙◌}
use Rattle.text.proofs.Readers.{opens_bang, opens_words}
use Rattle.text.proofs.source.Source.open_line.Goals as goal

pub returns-then-peek-eq33 : goal.returns-then-peek-eq33
returns-then-peek-eq33 c = opens_bang _ _ _ _ _ c.skip_joins-spot.ensures (sym c.peek.ensures ∙ c.if-peek-eq33.true)

pub returns : goal.returns
returns c = opens_words _ _ _ _ _ c.skip_joins-spot.ensures (λ e. c.if-peek-eq33.false (c.peek.ensures ∙ e))
