-- A group is defined. Document 01: "group defined twice, or a 65th": refusal 10.
use Rattle.std.specs.Prelude.{◌+◌, ◌-◌, ◌*◌, ◌≤◌, ◌<◌, ◌≡◌, ◌∷◌, ◌++◌, true, false, ◌||◌, leb, Result, Err, IsOk, IsErr, length}
use Rattle.std.specs.Result.{is_err}
use Rattle.text.specs.Limits.{most_groups, most_layouts, longest_word}
use Rattle.text.specs.Bytes.{Text, Words, same, rest, all_of, any_of}
use Rattle.text.specs.declared.faults.Fault.{Fault}
use Rattle.text.specs.declared.faults.Fault.TheVariants.{BadGroup}
use Rattle.profile.specs.Profile.{Texts}
use Rattle.rules.specs.Words.{ordinary}
use Rattle.rules.specs.Faults.{Groups, defined}
use Rattle.listing.specs.Names.{text_size}
use Rattle.listing.specs.Lists.{text_of, names_of}
use Rattle.names.specs.declared.Row.{Row}
use Rattle.names.specs.declared.Names.{Names}
use Rattle.names.specs.Compiled.{Joined}
use Rattle.names.specs.Ready.{TableReady, Ready}

-- there is room for a name, if it is not refused
abbrev pub RoomForName : Text → Names → Type 0
RoomForName w names = names.groups < most_groups → any_of (same w) (names_of names.table.list) ≡ false → names.table.list.used + length w ≤ text_size

-- there is room for the longest names of all groups that may still come
abbrev pub RoomForGroups : Names → Type 0
RoomForGroups names = names.table.list.used + (most_groups - names.groups) * longest_word ≤ text_size

-- there is that room, at most 64 groups are defined, and there are at most four layouts
pub record Roomy (names : Names) : Type 0 where
  pub room : RoomForGroups names
  pub limit : names.groups ≤ most_groups
  pub layouts : names.layouts ≤ most_layouts

-- The group of the name w, `$` with it, and of a row: refused, and nothing is changed; or the name is copied behind the text and listed. If the row is that of
-- some words, there is one group more, with these words, for every profile and all groups that the table, or the names, are held for. Where there was room for all
-- groups that may come, a name of a word's length leaves room for the others.
pub record Defines (w : Text) (row : Row) (names names' : Names) (r : Result (Unit {0}) Fault) : Type 0 where
  pub kept : IsErr r → (names' ≡ names) × (r ≡ Err BadGroup)
  pub few : IsOk r → names.groups < most_groups
  pub number : IsOk r → names'.groups ≡ names.groups + 1
  pub count : IsOk r → names'.table.list.count ≡ names.table.list.count + 1
  pub text : IsOk r → text_of names'.table.list ≡ text_of names.table.list ++ w
  pub values : (names'.bounds ≡ names.bounds) × (names'.layouts ≡ names.layouts)
  pub room : length w ≤ longest_word → RoomForGroups names → RoomForGroups names'
  pub refusal : (x : Texts) (gs : Groups) → TableReady x gs names.table → names.groups ≡ length gs → is_err r ≡ defined gs (rest w) || leb most_groups (length gs)
  pub table : IsOk r → (x : Texts) (gs : Groups) (ms : Words) → TableReady x gs names.table → all_of ordinary ms ≡ true → Joined names.table ms row →
      TableReady x (record { name = rest w; members = ms } ∷ gs) names'.table
  pub more : IsOk r → (x : Texts) (gs : Groups) (ms : Words) → Ready x gs names → all_of ordinary ms ≡ true → Joined names.table ms row →
      Ready x (record { name = rest w; members = ms } ∷ gs) names'
