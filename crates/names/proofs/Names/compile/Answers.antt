use Rattle.std.proofs.Common.{refl, arith}
use Rattle.profile.specs.Profile.{profile_of, layout_count}
use Rattle.names.proofs.Fields.{some_fields}
use Rattle.names.proofs.Placing.{short_texts, few_fields, length_four, all_values_of}
use Rattle.names.proofs.Asked.{ready_profile}
use Rattle.names.proofs.Names.compile.Goals as goal

pub place_all_values-bounds-requires : goal.place_all_values-bounds-requires
place_all_values-bounds-requires c = let s = short_texts _ c.requires in (s.model, s.layouts, s.variants)

pub invariant_of-self : goal.invariant_of-self
invariant_of-self c =
    let x = c.args.texts.now in
    let s = short_texts x c.requires in
    let u = c.compile.ensures in
    record {
      few = omega (arith, u.few);
      counted = (omega (arith, some_fields x.layouts, c.layout_count-self.ensures), omega (arith, (few_fields x c.requires).0, c.layout_count-self.ensures));
      placed = rw u.text (all_values_of x c.requires _ c.place_all_values-bounds.ensures).placed;
    }

pub returns : goal.returns
unfolding layout_count profile_of
returns c =
    let x = c.args.texts.now in
    let s = short_texts x c.requires in (
      ready_profile _ _ c.requires (all_values_of x c.requires _ c.place_all_values-bounds.ensures) c.compile.ensures refl c.layout_count-self.ensures,
      record {
        room = omega (arith, c.compile.ensures.used, length_four x, s.model, s.layouts, s.variants, s.options);
        limit = omega arith;
        layouts = omega (arith, (few_fields x c.requires).0, c.layout_count-self.ensures);
      },
    )
