-- What a word's expansion takes: the values of a profile, which stand in one text.
use Rattle.profile.specs.Profile.{Profile}
use Rattle.profile.specs.Spans.{profile_at}
use Rattle.values.specs.declared.Values.{Values}

-- the profile that the values are those of
abbrev pub as_profile : Values → Profile
as_profile v = profile_at v.text.now v.bounds.now v.n
