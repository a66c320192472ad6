-- One step of a reading.
use Rattle.std.specs.Prelude.{◌<◌, ◌≡◌, Bool, true, false, length, Result, Ok, Err}
use Rattle.text.specs.declared.faults.Refusal.{Refusal}
use Rattle.text.specs.Bytes.{Text}
use Rattle.text.specs.Refusals.{first_refusal}
use Rattle.text.specs.Told.{told_refusal}
use Rattle.profile.specs.Profile.{Texts}
use Rattle.rules.specs.Faults.{line_faults}
use Rattle.firing.specs.declared.Cursors.{Cursors}
use Rattle.names.specs.declared.Names.{Names}
use Rattle.reading.specs.declared.Reading.{Reading}
use Rattle.reading.specs.States.{NamesKept, Sound, ReadTo, ReadAll}

-- what a step leads to, for a profile: more to read, the end, or the first refusal
abbrev pub Leads : Text → Cursors → Text → Names → Text → Texts → Reading → Result Bool Refusal → Type 0
Leads w₀ q₀ s names w x r (Ok true) = ReadTo w₀ q₀ s names w x r
Leads w₀ q₀ s names w x r (Ok false) = ReadAll w₀ q₀ s w x r.cursors
Leads w₀ q₀ s names w x r (Err e) = first_refusal (line_faults s) ≡ told_refusal e

-- a step from the state r to r', with the outcome o; the names, the scratch x and the buffer w go on with it
pub record Stepped (s : Text) (names names' : Names) (x x' w w' : Text) (r r' : Reading) (o : Result Bool Refusal) : Type 0 where
  pub kept : NamesKept names names'
  pub scratch : length x' ≡ length x
  pub buffer : length w' ≡ length w
  pub sound : o ≡ Ok true → Sound s names' x' w' r'
  pub further : o ≡ Ok true → r.at.at < r'.at.at
  pub means : (w₀ : Text) (q₀ : Cursors) (p : Texts) → ReadTo w₀ q₀ s names w p r → Leads w₀ q₀ s names' w' p r' o
