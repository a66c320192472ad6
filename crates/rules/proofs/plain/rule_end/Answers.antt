use mathlib.Core.Path.{refl}
use Rattle.text.specs.Words.{bad_byte}
use Rattle.text.specs.Kinds.{kind_of}
use Rattle.rules.proofs.PlainLines.{rule_reads}
use Rattle.rules.proofs.plain.rule_end.Goals as goal

pub byte_word-requires : goal.byte_word-requires
unfolding kind_of bad_byte
byte_word-requires c = (c.in_ok-left.ensures.inside, refl)

pub returns : goal.returns
returns c =
    rule_reads _ _ _ _ _ _ _ _ _ c.eq.ensures c.in_ok-left.ensures c.in_ok-equals.ensures c.in_ok-right.ensures c.skip_blanks.ensures.0.blanks _ c.feed_end.ensures
