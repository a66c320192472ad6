use Rattle.card.specs.Card.{card_texts}
use Rattle.card.proofs.WriteLoops.{put_none, put_next}
use Rattle.card.proofs.writing.put_profile.Goals as goal

pub returns : goal.returns
unfolding card_texts
returns c =
    let l = c.put_section-at.ensures in
    let v = c.put_section-at-2.ensures in
    let o = c.put_section-at-3.ensures in
    let e = c.put_section.ensures in
    let p = put_next _ _ _ _ (put_next _ _ _ _ (put_next _ _ _ _ (put_next _ _ _ _ (put_none _) _ _ _ l.0 l.1) _ _ _ v.0 v.1) _ _ _ o.0 o.1) _ _ _ e.0 e.1 in
    rw (← c.texts.view_is) (p.text, p.next)
