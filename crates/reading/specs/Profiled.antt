-- A file read for a profile that is not refused.
use Rattle.std.specs.Prelude.{ℕ, ◌≡◌, List, [], length, Result, Ok, Err}
use Rattle.text.specs.declared.faults.Refusal.{Refusal}
use Rattle.text.specs.Bytes.{Text}
use Rattle.text.specs.Refusals.{first_refusal}
use Rattle.text.specs.Told.{told_refusal}
use Rattle.profile.specs.Profile.{Texts, profile_of}
use Rattle.rules.specs.Faults.{line_faults}
use Rattle.firing.specs.declared.Cursors.{Cursors}
use Rattle.firing.specs.Writing.{starting_at, run_buf, run_cur}
use Rattle.answers.specs.Firings.{file_firings}

-- the first refusal of the lines; or there is none, and all that fires is written from ten positions on
pub record ReadFor (s : Text) (x : Texts) (w w' : Text) (at : List ℕ) (r : Result Cursors Refusal) : Type 0 where
  pub long : length w' ≡ length w
  pub refused : (e : Refusal) → r ≡ Err e → first_refusal (line_faults s) ≡ told_refusal e
  pub accepted : (q : Cursors) → r ≡ Ok q →
      (line_faults s ≡ []) × (w' ≡ run_buf w (starting_at at) (file_firings s (profile_of x))) × (q ≡ run_cur (starting_at at) (file_firings s (profile_of x)))
