use mathlib.Core.Path.{sym, ◌∙◌}
use Rattle.text.specs.Bytes.{part}
use Rattle.text.proofs.Feeds.{feed_some}
use Rattle.text.proofs.Readers.{between_end, between_over, over_note, over_word}
use Rattle.text.proofs.source.Source.next_slow.Goals as goal

pub returns-then-s-start : goal.returns-then-s-start
returns-then-s-start c = between_end _ _ _ _ _ c.skip_joins-spot.ensures.between c.if-s-start.true

pub returns-in-Some : goal.returns-in-Some
returns-in-Some c = between_over _ _ _ _ _ _ c.skip_joins-spot.ensures.between (feed_some _ _ _ (sym c.feed_end.ensures ∙ c.in-Some.is))

pub returns-then-comment : goal.returns-then-comment
returns-then-comment c = over_note _ _ _ _ _ c.skip_joins-spot.ensures _ c.starts_with-comment.ensures.value _ c.if-s-start.false c.if-comment.true c.comment_end.ensures

pub returns : goal.returns
unfolding part
returns c = over_word _ _ _ _ _ c.skip_joins-spot.ensures _ c.starts_with-comment.ensures.value _ _ c.if-s-start.false c.if-comment.false (sym c.feed_end.ensures ∙ c.in_default.is) c.word_end-end.ensures c.word_fault.ensures
