-- The kept rules of a set fired, and the set over.
use Rattle.std.specs.Prelude.{◌≡◌, length}
use Rattle.text.specs.declared.Spot.{Spot}
use Rattle.text.specs.Bytes.{Text}
use Rattle.profile.specs.Profile.{Profile}
use Rattle.profile.specs.Spans.{profile_at}
use Rattle.listing.specs.Lists.{text_of}
use Rattle.firing.specs.declared.Cursors.{Cursors}
use Rattle.names.specs.declared.Names.{Names}
use Rattle.reading.specs.declared.Reading.{Reading}
use Rattle.reading.specs.Opening.{closed_set}
use Rattle.reading.specs.Keeping.{KeptFired}

-- the profile whose values the names hold
abbrev pub held_profile : Names → Profile
held_profile names = profile_at (text_of names.table.list) names.bounds names.layouts

-- the set is over, and a line further on is next
abbrev pub closed_at : Reading → Spot → Cursors → Reading
closed_at r at q = record { at = at; set = closed_set r.set.present r.set.set; places = r.places; cursors = q }

-- the scratch goes from x to x', the buffer from w to w', the reading from r to r'
pub record Closed (s : Text) (names : Names) (x x' w w' : Text) (r r' : Reading) : Type 0 where
  pub is : r' ≡ closed_at r r.at r'.cursors
  pub fired : KeptFired (held_profile names) r.set s r.places w w' r.cursors r'.cursors
  pub scratch : length x' ≡ length x
