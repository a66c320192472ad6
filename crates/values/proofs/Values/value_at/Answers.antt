use mathlib.Core.Path.{ap}
use Rattle.text.specs.declared.Span.{Span}
use Rattle.text.specs.Bytes.{part}
use Rattle.profile.specs.Spans.{no_span, value_at}
use Rattle.values.proofs.Placed.{value_beyond}
use Rattle.values.proofs.Values.value_at.Goals as goal

pub returns-in-Some : goal.returns-in-Some
unfolding value_at part
returns-in-Some c = ap (λ (p : Span). part c.args.self.now.text.now p.start p.end) (c.in-Some.ensures.lookup.3.1 no_span)

pub returns-in-None : goal.returns-in-None
returns-in-None c = value_beyond _ _ _ c.in-None.ensures.lookup.3
