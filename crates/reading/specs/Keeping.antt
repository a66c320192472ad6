-- The rule that is kept for each layout, by the place behind its left words; and these rules fired.
use Rattle.std.specs.Prelude.{ℕ, ◌+◌, ◌≤◌, ◌<◌, ◌≡◌, List, [], false, cond, length, get_or, drop}
use Rattle.text.specs.Bytes.{Text, concat_map}
use Rattle.text.specs.Reading.{left}
use Rattle.profile.specs.Profile.{Profile}
use Rattle.answers.specs.Firings.{Firing, rule_fires}
use Rattle.bitsets.specs.Sets.{is_in}
use Rattle.firing.specs.declared.Cursors.{Cursors}
use Rattle.firing.specs.Writing.{ShortWords, run_buf, run_cur}
use Rattle.rules.specs.declared.SetHeading.{SetHeading}
use Rattle.rules.specs.Held.{heading_by}
use Rattle.reading.specs.declared.OpenSet.{OpenSet}
use Rattle.reading.specs.Owed.{layouts_in}

-- a place behind the left words of a rule: what firing its right words asks
pub record PlaceAt (h : SetHeading) (s : Text) (place : ℕ) : Type 0 where
  pub high : place ≤ length s
  pub count : length (left s place) ≡ 1 + length (heading_by h).components
  pub short : ShortWords (left s place)

-- room for the layouts 1 to 32, and for 0
abbrev pub most_places : ℕ
most_places = 33

-- a place kept at the layouts of m
pub record Noted (first count m place : ℕ) (ps ps' : List ℕ) : Type 0 where
  pub at : (k : ℕ) → first ≤ k → k < first + count → get_or ps' k 0 ≡ cond (is_in k m) place (get_or ps k 0)
  pub size : length ps' ≡ most_places

-- each layout of a set that wants no rule any more has one
pub record KeptPlaces (o : OpenSet) (s : Text) (ps : List ℕ) : Type 0 where
  pub size : length ps ≡ most_places
  pub range : o.first + o.count ≤ most_places
  pub place : (k : ℕ) → o.first ≤ k → k < o.first + o.count → is_in k o.wanted ≡ false → PlaceAt o.set s (get_or ps k 0)

-- what the rule at a layout's place fires, if its line has the number that l gives
unfoldable pub place_fires : Profile → OpenSet → Text → List ℕ → (ℕ → ℕ) → ℕ → List Firing
place_fires p o s ps l k = cond (is_in k o.wanted) [] (rule_fires p (l k) k (heading_by o.set).components (drop 1 (left s (get_or ps k 0))))

-- the rules at all places, layout by layout, whatever lines they stand in
pub record KeptFired (p : Profile) (o : OpenSet) (s : Text) (ps : List ℕ) (d d' : Text) (q q' : Cursors) : Type 0 where
  pub bytes : (l : ℕ → ℕ) → d' ≡ run_buf d q (concat_map (place_fires p o s ps l) (layouts_in o))
  pub places : (l : ℕ → ℕ) → q' ≡ run_cur q (concat_map (place_fires p o s ps l) (layouts_in o))
