-- Values fired into ten regions of one lent buffer, each with a position of its own: base and additions of component 0, of component 1, ..
-- That this writes the ten texts is a law and not part of the definition.
use Rattle.std.specs.Prelude.{ℕ, ◌+◌, ◌*◌, ◌-◌, ◌≤◌, ◌≡◌, List, [], ◌∷◌, Bool, true, false, cond, length, drop, get_or, set, replicate, ltb}
use Rattle.text.specs.Limits.{longest_total}
use Rattle.text.specs.Bytes.{Text, Words, any_of}
use Rattle.text.specs.Words.{too_long}
use Rattle.text.specs.Reading.{left, ahead}
use Rattle.output.specs.Store.{stored, farthest, past}
use Rattle.values.specs.Spread.{signed}
use Rattle.firing.specs.declared.Cursors.{Cursors}
use Rattle.profile.specs.Profile.{Profile}
use Rattle.answers.specs.Firings.{Firing, fired, rule_fires}

-- the first cursors: no base is set, and no position has moved
abbrev pub starting_at : List ℕ → Cursors
starting_at ps = record { at = ps; based = replicate 5 false; total = 0 }

-- the position of region r moved on by n bytes
unfoldable pub moved_at : Cursors → ℕ → ℕ → Cursors
moved_at q r n =
    let p = get_or q.at r 0 in
    record { at = set q.at r (past p n); based = q.based; total = q.total + (past p n - p) }

unfoldable pub based_at : ℕ → Cursors → Cursors
based_at c q = record { at = q.at; based = set q.based c true; total = q.total }

-- a value written: an addition goes to its component's second region, a plain value to the first, where it has no base yet
unfoldable pub put_cur : Cursors → Firing → Cursors
put_cur q f =
    let c = f.component in
    let n = length f.value in
    cond (ltb c 5) (cond (signed f.value) (moved_at q (2 * c + 1) n) (cond (get_or q.based c false) q (based_at c (moved_at q (2 * c) n)))) q

unfoldable pub put_buf : Text → Cursors → Firing → Text
put_buf d q f =
    let c = f.component in
    cond (ltb c 5)
    (cond (signed f.value) (stored d (get_or q.at (2 * c + 1) 0) f.value)
    (cond (get_or q.based c false) d (stored d (get_or q.at (2 * c) 0) f.value)))
    d

-- all texts together are longer than the longest total: there is no room, whatever else fires
unfoldable pub full : Cursors → Bool
full q = ltb longest_total q.total

-- one firing: its value is written unless there is no room for sure
unfoldable pub fire_cur : Cursors → Firing → Cursors
fire_cur q f = cond (full q) q (put_cur q f)

unfoldable pub fire_buf : Text → Cursors → Firing → Text
fire_buf d q f = cond (full q) d (put_buf d q f)

-- one after the other: the cursors after them, and the buffer
unfoldable pub run_cur : Cursors → List Firing → Cursors
run_cur q [] = q
run_cur q (f ∷ fs) = run_cur (fire_cur q f) fs

unfoldable pub run_buf : Text → Cursors → List Firing → Text
run_buf d q [] = d
run_buf d q (f ∷ fs) = run_buf (fire_buf d q f) (fire_cur q f) fs

-- the value v of component c was fired, at whichever line and layout: buffer and cursors went from d and q to d' and q'
pub record FiredOne (d d' : Text) (q q' : Cursors) (c : ℕ) (v : Text) : Type 0 where
  pub bytes : (l k : ℕ) → d' ≡ run_buf d q (fired l k c v)
  pub places : (l k : ℕ) → q' ≡ run_cur q (fired l k c v)

-- no position is behind the last
unfoldable pub Low : List ℕ → Type 0
Low [] = Unit {0}
Low (p ∷ ps) = (p ≤ farthest) × Low ps

-- where texts of these lengths start that stand one after the other from k on
unfoldable pub starts : ℕ → List ℕ → List ℕ
starts k [] = []
starts k (n ∷ ns) = k ∷ starts (k + n) ns

-- no word is too long
abbrev pub ShortWords : Words → Type 0
ShortWords ws = any_of too_long ws ≡ false

-- the right words ws fired for the components cs at the layout k, whatever line they stand in
pub record FiredRule (p : Profile) (d d' : Text) (q q' : Cursors) (k : ℕ) (cs : List ℕ) (ws : Words) : Type 0 where
  pub bytes : (l : ℕ) → d' ≡ run_buf d q (rule_fires p l k cs ws)
  pub places : (l : ℕ) → q' ≡ run_cur q (rule_fires p l k cs ws)

-- a place between the first word of a line from `from` on, which lies in the physical line n, and its second; or before its end, if it has none
pub record BehindFirst (s : Text) (from n i m : ℕ) : Type 0 where
  pub low : from ≤ i
  pub high : i ≤ length s
  pub few : m ≤ i + 1
  pub text : left s i ≡ drop 1 (left s from)
  pub onto : ahead s from n ≡ ahead s i m
