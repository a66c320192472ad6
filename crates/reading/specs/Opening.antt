-- A set as its heading opens it.
use Rattle.std.specs.Prelude.{ℕ, ◌+◌, ◌≤◌, ◌<◌, ◌≡◌, List, true, false}
use Rattle.profile.specs.Profile.{Profile, layout_count}
use Rattle.rules.specs.declared.Present.{Present}
use Rattle.rules.specs.declared.SetHeading.{SetHeading}
use Rattle.rules.specs.Sections.{Rule, applies}
use Rattle.rules.specs.Faults.{Groups}
use Rattle.rules.specs.Checking.{present_of}
use Rattle.answers.specs.Matching.{members}
use Rattle.bitsets.specs.Sets.{is_in}
use Rattle.rules.specs.Held.{heading_by}
use Rattle.answers.specs.Firings.{head_fires}
use Rattle.reading.specs.declared.OpenSet.{OpenSet}
use Rattle.reading.specs.Owed.{Kept, set_owes}
use Rattle.reading.specs.Seeking.{SetOpen}
use Rattle.reading.specs.Keeping.{most_places}

-- no layout: of a set that does not apply, or of none
abbrev pub closed_set : Present → SetHeading → OpenSet
closed_set p h = record { present = p; set = h; first = 0; count = 0; every = false; wanted = 0 }

-- the heading h opens the set o, for n layouts: all is owed that it fires
pub record Opened (n : ℕ) (h : SetHeading) (o : OpenSet) : Type 0 where
  pub held : SetOpen n o
  pub range : o.first + o.count ≤ most_places
  pub set : o.set ≡ h
  pub present : o.present ≡ present_of (heading_by h)
  pub owes : (gs : Groups) (p : Profile) → layout_count p ≡ n → (kept : Kept) (rs : List Rule) → set_owes (members gs) p o kept rs ≡ head_fires gs p (applies (heading_by h)) rs
  pub kept : (k : ℕ) → o.first ≤ k → k < o.first + o.count → is_in k o.wanted ≡ true
