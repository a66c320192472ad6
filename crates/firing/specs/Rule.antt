-- What it takes to fire the right words of a rule.
use Rattle.std.specs.Prelude.{ℕ, ◌*◌, ◌≤◌, ◌<◌, ◌≡◌, List, length}
use Rattle.text.specs.Limits.{longest_word}
use Rattle.text.specs.Bytes.{Text, Words}
use Rattle.output.specs.Store.{farthest}
use Rattle.values.specs.Filling.{most_per_byte}
use Rattle.firing.specs.declared.Cursors.{Cursors}
use Rattle.firing.specs.Writing.{Low, ShortWords}

-- n is the layout count, of one digit, k the matched layout. Any word has room in the scratch x.
pub record Fires (n k : ℕ) (x d : Text) (q : Cursors) : Type 0 where
  pub some : 1 ≤ n
  pub digit : n < 10
  pub layout : k ≤ 32
  pub room : most_per_byte * longest_word ≤ length x
  pub scratch : length x ≤ farthest
  pub buf : length d ≤ farthest
  pub low : Low q.at

-- the right words of a rule: there are as many as components, and none is too long
pub record RightWords (ws : Words) (cs : List ℕ) : Type 0 where
  pub all : length ws ≡ length cs
  pub short : ShortWords ws
