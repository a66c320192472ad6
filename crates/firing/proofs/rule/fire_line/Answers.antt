use Rattle.firing.proofs.ValueFires.{behind_right, behind_rule}
use Rattle.firing.proofs.rule.fire_line.Goals as goal

pub fire_words-requires : goal.fire_words-requires
fire_words-requires c =
    let b = c.behind_first-behind.ensures in
    (record { high = b.high; few = b.few }, behind_right _ _ _ _ _ b _ c.requires.1, c.requires.2)

pub returns : goal.returns
returns c =
    (behind_rule _ _ _ _ _ c.behind_first-behind.ensures _ _ _ _ _ _ _ c.fire_words.ensures.0, c.fire_words.ensures.1)
