-- The walk over the rules of a set, up to the first that matches at a layout that wants one.
use Rattle.std.specs.Prelude.{ℕ, ◌+◌, ◌≤◌, ◌<◌, ◌≡◌, List, [], ◌++◌, true, false, not, ◌&&◌, length, drop, Result, Ok, Err}
use Rattle.text.specs.declared.faults.Refusal.{Refusal}
use Rattle.text.specs.Bytes.{Text, any_of}
use Rattle.text.specs.Refusals.{first_refusal}
use Rattle.text.specs.Told.{told_refusal}
use Rattle.text.specs.Reading.{left, follow, Opens}
use Rattle.profile.specs.Profile.{Texts, profile_of, layout_count}
use Rattle.rules.specs.Sections.{Rule}
use Rattle.rules.specs.Faults.{Groups, right_words}
use Rattle.rules.specs.Checking.{present_of, check_from}
use Rattle.answers.specs.Layouts.{per_layout}
use Rattle.bitsets.specs.Sets.{is_in}
use Rattle.rules.specs.Held.{heading_by, SetSized}
use Rattle.names.specs.declared.Names.{Names}
use Rattle.names.specs.Ready.{TableReady}
use Rattle.reading.specs.declared.OpenSet.{OpenSet}
use Rattle.reading.specs.declared.Sought.{Sought}
use Rattle.reading.specs.declared.Sought.TheVariants as sought
use Rattle.reading.specs.Owed.{Kept, AllWanted, wanting, keeping, owed, kept_fires}
use Rattle.reading.specs.Keeping.{PlaceAt}

-- what the walk asks of a set
pub record Seekable (o : OpenSet) : Type 0 where
  pub columns : 1 ≤ length (heading_by o.set).columns
  pub left : o.present.left ≤ 4
  pub right : o.present.right ≤ 5
  pub heading : (o.wanted ≡ 0 → ⊥) → o.present ≡ present_of (heading_by o.set)

-- a set as it is read: what its rules are held to, and its layouts among n
pub record SetOpen (n : ℕ) (o : OpenSet) : Type 0 where
  pub sized : SetSized o.set
  pub seekable : Seekable o
  pub among : any_of per_layout (heading_by o.set).columns ≡ true → (k : ℕ) → o.first ≤ k → k < o.first + o.count → (1 ≤ k) × (k ≤ n)
  pub all : AllWanted o
  pub some : 1 ≤ n

-- what is left of a set of layouts
abbrev pub Without : ℕ → ℕ → ℕ → Type 0
Without w m w' = (k : ℕ) → is_in k w' ≡ (is_in k w && not (is_in k m))

-- the lines from `at` up to i are passed over: nothing of them is refused, and they fire nothing
pub record PassedOver (x : Texts) (gs : Groups) (o : OpenSet) (s : Text) (at n i m : ℕ) : Type 0 where
  pub faults : (ns : List Text) → check_from ns o.present (follow s at n) ≡ check_from ns o.present (follow s i m)
  pub owes : (kept : Kept) → owed gs (profile_of x) o kept (follow s at n) ≡ owed gs (profile_of x) o kept (follow s i m)

-- a rule that matches at the layouts of m, and behind whose left words the line goes on at `place`
pub record RuleFound (x : Texts) (gs : Groups) (o : OpenSet) (s : Text) (at n place m next n' : ℕ) : Type 0 where
  pub rule : Rule
  pub words : drop 1 (left s place) ≡ right_words (heading_by o.set) rule.text
  pub faults : (ns : List Text) → check_from ns o.present (follow s at n) ≡ check_from ns o.present (follow s next n')
  pub keeps : o.every ≡ false → (kept : Kept) (w : ℕ) → Without o.wanted m w →
      owed gs (profile_of x) o kept (follow s at n) ≡ owed gs (profile_of x) (wanting o w) (keeping m rule kept) (follow s next n')
  pub fires : o.every ≡ true → (kept : Kept) (w : ℕ) → Without o.wanted m w →
      owed gs (profile_of x) o kept (follow s at n) ≡ kept_fires (profile_of x) (wanting o w) (keeping m rule kept) ++ owed gs (profile_of x) o kept (follow s next n')

-- where the walk has come to
abbrev pub SoughtAt : OpenSet → Text → ℕ → Result Sought Refusal → Type 0
SoughtAt o s at (Ok (sought.Rule place m next)) = PlaceAt o.set s place × (o.wanted ≡ 0 → ⊥) × (at < next.at) × (next.at ≤ length s) × (next.line ≤ next.at + 1)
SoughtAt o s at (Ok (sought.Heading i words)) = (at ≤ i.at) × (i.at < length s) × (i.line ≤ i.at + 1) × Opens s i.at i.line true words.at words.line
SoughtAt o s at (Ok sought.End) = Unit {0}
SoughtAt o s at (Err e) = Unit {0}

-- and what has been passed over
abbrev pub SoughtOf : Texts → Groups → OpenSet → Text → ℕ → ℕ → Result Sought Refusal → Type 0
SoughtOf x gs o s at n (Ok (sought.Rule place m next)) = RuleFound x gs o s at n place m next.at next.line
SoughtOf x gs o s at n (Ok (sought.Heading i words)) = PassedOver x gs o s at n i.at i.line
SoughtOf x gs o s at n (Ok sought.End) = ((ns : List Text) → check_from ns o.present (follow s at n) ≡ [])
    × ((kept : Kept) → owed gs (profile_of x) o kept (follow s at n) ≡ owed gs (profile_of x) o kept [])
SoughtOf x gs o s at n (Err e) = (ns : List Text) → first_refusal (check_from ns o.present (follow s at n)) ≡ told_refusal e

-- for every profile and all groups that the table is held for
pub record Seeks (names : Names) (o : OpenSet) (s : Text) (at n : ℕ) (r : Result Sought Refusal) : Type 0 where
  pub place : SoughtAt o s at r
  pub means : (x : Texts) (gs : Groups) → TableReady x gs names.table → SetOpen (layout_count (profile_of x)) o → SoughtOf x gs o s at n r
