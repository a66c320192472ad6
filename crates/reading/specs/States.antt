-- How far a reading has come.
use Rattle.std.specs.Prelude.{ℕ, ◌+◌, ◌≤◌, ◌<◌, ◌≡◌, List, [], map, false, length, get_or, drop}
use Rattle.text.specs.Limits.{most_groups}
use Rattle.text.specs.Bytes.{Text}
use Rattle.text.specs.Reading.{left, follow}
use Rattle.text.specs.Sources.{Within}
use Rattle.profile.specs.Profile.{Texts, profile_of}
use Rattle.rules.specs.Faults.{Group, Groups, right_words, line_faults}
use Rattle.rules.specs.Checking.{check_from}
use Rattle.bitsets.specs.Sets.{is_in}
use Rattle.firing.specs.declared.Cursors.{Cursors}
use Rattle.firing.specs.Writing.{run_buf, run_cur}
use Rattle.firing.specs.Rule.{Fires}
use Rattle.rules.specs.Held.{heading_by}
use Rattle.names.specs.declared.Names.{Names}
use Rattle.names.specs.Ready.{Ready}
use Rattle.names.specs.Defining.{RoomForGroups}
use Rattle.answers.specs.Firings.{file_firings}
use Rattle.reading.specs.declared.Reading.{Reading}
use Rattle.reading.specs.Owed.{Kept, owed}
use Rattle.reading.specs.Seeking.{SetOpen}
use Rattle.reading.specs.Keeping.{KeptPlaces}

-- the names of the groups so far
abbrev pub names_of : Groups → List Text
names_of gs = map (λ (g : Group). g.name) gs

-- The values' places and the layout count stay; where there was room for the groups that may come there still is, and where these were at most 64 they still are.
pub record NamesKept (names names' : Names) : Type 0 where
  pub places : names'.bounds ≡ names.bounds
  pub layouts : names'.layouts ≡ names.layouts
  pub room : RoomForGroups names → RoomForGroups names'
  pub limit : names.groups ≤ most_groups → names'.groups ≤ most_groups

-- A reading can go on from here: the file s, the scratch x and the buffer w.
pub record Sound (s : Text) (names : Names) (x w : Text) (r : Reading) : Type 0 where
  pub within : Within s r.at.at r.at.line
  pub room : RoomForGroups names
  pub set : SetOpen names.layouts r.set
  pub kept : KeptPlaces r.set s r.places
  pub fires : Fires names.layouts 0 x w r.cursors

-- what was written, with what is still to fire, is the whole
pub record Writes (w₀ : Text) (q₀ : Cursors) (x : Texts) (gs : Groups) (kept : Kept) (s w : Text) (r : Reading) : Type 0 where
  pub long : length w ≡ length w₀
  pub bytes : run_buf w₀ q₀ (file_firings s (profile_of x)) ≡ run_buf w r.cursors (owed gs (profile_of x) r.set kept (follow s r.at.at r.at.line))
  pub places : run_cur q₀ (file_firings s (profile_of x)) ≡ run_cur r.cursors (owed gs (profile_of x) r.set kept (follow s r.at.at r.at.line))

-- For the profile x, with the groups and the kept rules so far: the names and the values are held, and what is left to be refused and to fire is all.
pub record ReadTo (w₀ : Text) (q₀ : Cursors) (s : Text) (names : Names) (w : Text) (x : Texts) (r : Reading) : Type 0 where
  pub groups : Groups
  pub rules : Kept
  pub ready : Ready x groups names
  pub variants : length (profile_of x).variants ≤ names.layouts
  pub words : (k : ℕ) → r.set.first ≤ k → k < r.set.first + r.set.count → is_in k r.set.wanted ≡ false →
      drop 1 (left s (get_or r.places k 0)) ≡ right_words (heading_by r.set.set) (rules k).text
  pub faults : line_faults s ≡ check_from (names_of groups) r.set.present (follow s r.at.at r.at.line)
  pub writes : Writes w₀ q₀ x groups rules s w r

-- the file is read to its end: nothing is refused, and all is written
pub record ReadAll (w₀ : Text) (q₀ : Cursors) (s w : Text) (x : Texts) (q : Cursors) : Type 0 where
  pub faults : line_faults s ≡ []
  pub bytes : w ≡ run_buf w₀ q₀ (file_firings s (profile_of x))
  pub places : q ≡ run_cur q₀ (file_firings s (profile_of x))
