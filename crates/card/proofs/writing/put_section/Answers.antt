use Prim.Native.Nat.{◌+◌}
use mathlib.Core.Path.{refl, ap, ◌∙◌}
use Rattle.output.specs.Store.{stored}
use Rattle.card.proofs.WriteLoops.{put_section}
use Rattle.card.proofs.writing.put_section.Goals as goal

pub returns : goal.returns
returns c =
    (c.store-2.ensures ∙ ap (λ d. stored d (c.args.at + 2) c.args.text.now) c.store.ensures ∙ put_section _ _ _ _ c.to_le_bytes.ensures c.requires.0, refl)
