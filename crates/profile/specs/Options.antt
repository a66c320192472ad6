-- Options that are reordered or repeated. Document 01, "How far the promises go".
use Rattle.std.specs.Prelude.{◌≤◌, ◌≡◌, true, length}
use Rattle.text.specs.Limits.{longest_text, most_options}
use Rattle.text.specs.Bytes.{Text, among}
use Rattle.profile.specs.Profile.{Texts, options_of}

-- "Options are reordered or repeated if each option of either text is also in the other, empty fields dropped"
pub record Alike (o o' : Text) : Type 0 where
  pub there : among (options_of o) (options_of o') ≡ true
  pub back : among (options_of o') (options_of o) ≡ true

-- "within the limits": "at most 1,024 bytes and 64 options"
pub record Within (o : Text) : Type 0 where
  pub short : length o ≤ longest_text
  pub few : length (options_of o) ≤ most_options

-- the four texts, with another text of options
abbrev pub with_options : Texts → Text → Texts
with_options t o = record { model = t.model; layouts = t.layouts; variants = t.variants; options = o }
