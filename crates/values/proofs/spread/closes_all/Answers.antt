use mathlib.Core.Path.{◌≡◌, refl, sym, ap, ◌∙◌}
use mathlib.Core.Bool.{true, false}
use mathlib.Core.List.{[], ◌∷◌, ◌++◌}
use Rattle.std.specs.Prelude.{Some, None}
use Rattle.std.proofs.lemmas.Slice.Eq.{strip_prefix_is}
use Rattle.std.proofs.lemmas.Bool.Decides.{Decides-eqb}
use Rattle.text.specs.Bytes.{bytes}
use Rattle.values.specs.Cutting.{closes_all}
use Rattle.values.proofs.Choices.{empty_is}
use Rattle.values.proofs.Keeping.{closes_not, closes_behind}
use Rattle.values.proofs.spread.closes_all.Goals as goal

pub returns-in-None : goal.returns-in-None
unfolding bytes
returns-in-None c = closes_not _ (strip_prefix_is Decides-eqb c.args.t.now (58 ∷ 97 ∷ 108 ∷ 108 ∷ []) None c.in-None.ensures.cases)

pub returns-then-is_empty : goal.returns-then-is_empty
unfolding bytes
returns-then-is_empty c =
    let w : c.args.t.now ≡ bytes ":all" ++ c.in-Some.rest.now =
    strip_prefix_is Decides-eqb c.args.t.now (58 ∷ 97 ∷ 108 ∷ 108 ∷ []) (Some c.in-Some.rest) c.in-Some.ensures.cases in
    c.if-is_empty.true ∙ sym (ap closes_all w ∙ (closes_behind c.in-Some.rest.now ∙ rw (empty_is c.in-Some.rest.now true c.if-is_empty.ensures) refl))

pub returns-else-is_empty : goal.returns-else-is_empty
unfolding bytes
returns-else-is_empty c =
    let w : c.args.t.now ≡ bytes ":all" ++ c.in-Some.rest.now =
    strip_prefix_is Decides-eqb c.args.t.now (58 ∷ 97 ∷ 108 ∷ 108 ∷ []) (Some c.in-Some.rest) c.in-Some.ensures.cases in
    c.is_signed.ensures ∙ sym (ap closes_all w ∙ (closes_behind c.in-Some.rest.now ∙ rw (empty_is c.in-Some.rest.now false c.if-is_empty.ensures) refl))
