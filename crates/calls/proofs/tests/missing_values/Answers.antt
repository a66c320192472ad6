use Rattle.names.proofs.Placing.{short_texts}
use Rattle.resolver.proofs.Resolves.{profile_clear}
use Rattle.calls.proofs.tests.missing_values.Goals as goal

pub place_values-some-requires : goal.place_values-some-requires
place_values-some-requires g c = profile_clear _ c.in_ok-check.ensures

pub place_all_values-all-requires : goal.place_all_values-all-requires
place_all_values-all-requires g c = let s = short_texts _ (profile_clear _ c.in_ok-check.ensures) in (s.model, s.layouts, s.variants)
