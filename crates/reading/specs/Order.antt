-- The rules and the firings from a line on.
use Rattle.std.specs.Prelude.{List}
use Rattle.text.specs.Lines.{Line}
use Rattle.profile.specs.Profile.{Profile}
use Rattle.rules.specs.Sections.{Rule, sections}
use Rattle.rules.specs.Faults.{Groups}
use Rattle.answers.specs.Firings.{Firing, firings}

-- the rules from a line on, up to the next heading; and what fires from a line on
unfoldable pub rules_from : List Line → List Rule
rules_from ls = (sections ls).0

unfoldable pub firings_from : Groups → Profile → List Line → List Firing
firings_from gs p ls = firings gs p (sections ls).1
