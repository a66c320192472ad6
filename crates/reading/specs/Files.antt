-- A file read for a profile that is compiled into the names.
use Rattle.std.specs.Prelude.{◌≤◌, ◌≡◌, [], length, replicate, Result, Ok, Err}
use Rattle.text.specs.declared.faults.Refusal.{Refusal}
use Rattle.text.specs.Bytes.{Text}
use Rattle.text.specs.Refusals.{first_refusal}
use Rattle.text.specs.Told.{told_refusal}
use Rattle.profile.specs.Profile.{Texts, profile_of}
use Rattle.rules.specs.declared.SetHeading.{SetHeading}
use Rattle.rules.specs.Faults.{line_faults}
use Rattle.rules.specs.Checking.{no_heading}
use Rattle.firing.specs.declared.Cursors.{Cursors}
use Rattle.firing.specs.Writing.{run_buf, run_cur}
use Rattle.rules.specs.Held.{SetSized}
use Rattle.names.specs.declared.Names.{Names}
use Rattle.names.specs.Ready.{Ready}
use Rattle.answers.specs.Firings.{file_firings}
use Rattle.reading.specs.declared.Reading.{Reading}
use Rattle.reading.specs.Opening.{closed_set}
use Rattle.reading.specs.Keeping.{most_places}
use Rattle.reading.specs.States.{NamesKept}

-- before the first line: no set
pub record Started (q : Cursors) (r : Reading) : Type 0 where
  pub heading : SetHeading
  pub sized : SetSized heading
  pub is : r ≡ record { at = record { at = 0; line = 1 }; set = closed_set no_heading heading; places = replicate most_places 0; cursors = q }

-- the profile x is compiled, and has no more variants than layouts
pub record HoldsProfile (names : Names) (x : Texts) : Type 0 where
  pub ready : Ready x [] names
  pub variants : length (profile_of x).variants ≤ names.layouts

-- For every profile that the names hold: the first refusal of the lines; or there is none, and all that fires is written.
pub record FileReadOf (s : Text) (names names' : Names) (w w' : Text) (q : Cursors) (r : Result Cursors Refusal) : Type 0 where
  pub kept : NamesKept names names'
  pub long : length w' ≡ length w
  pub refused : (x : Texts) → HoldsProfile names x → (e : Refusal) → r ≡ Err e → first_refusal (line_faults s) ≡ told_refusal e
  pub accepted : (x : Texts) → HoldsProfile names x → (q' : Cursors) → r ≡ Ok q' →
      (line_faults s ≡ []) × (w' ≡ run_buf w q (file_firings s (profile_of x))) × (q' ≡ run_cur q (file_firings s (profile_of x)))
