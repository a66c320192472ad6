-- Ten texts measured by a walk, and written into exactly the room that they take.
use Prim.Native.Nat.{ℕ, suc, ◌+◌, ◌-◌, ◌≤◌, ◌<◌, min}
use native.Mathlib.Omega.{arith}
use mathlib.Core.Path.{◌≡◌, refl, sym, ap, ◌∙◌}
use mathlib.Core.Bool.{Bool, true, false}
use mathlib.Core.List.{List, [], ◌∷◌, ◌++◌, map, append-nil}
use lib.ListN.{length, take, replicate}
use lib.Seq.{length-take-le, drop-length}
use lib.Dec.{ltb}
use borrow.Author.Tests.{lt-ltb, ltb-true, ltb-false}
use borrow.Rule.Slice.PartMut.{mid_of, post_of, Post-is}
use Rattle.text.specs.Limits.{longest_total}
use Rattle.text.specs.Bytes.{Text}
use Rattle.text.proofs.Lists.{or_right, neither}
use Rattle.output.specs.Store.{farthest, past}
use Rattle.answers.specs.Firings.{Firing}
use Rattle.answers.specs.Answer.{texts_from, sum, joined, total, no_room, accepted, buffer_after}
use Rattle.firing.specs.Writing.{starting_at, run_cur, run_buf, Low, starts}
use Rattle.firing.specs.Stage.{between, Reached}
use Rattle.firing.proofs.Regions.{Apart, apart_starts, all_joined, grown}
use Rattle.firing.proofs.Written.{left, written, measured, moved_most, Moved, moved_run, left_all}

-- Lengths are counted as the distance that a position has moved. From a position that is near enough, a text that reaches the farthest one is longer than any
-- total may be, so that counting alone decides whether there is room.
unfoldable pub Near : List ℕ → Type 0
Near [] = Unit {0}
Near (p ∷ ps) = (p + longest_total < farthest) × Near ps

pub near_low : (ps : List ℕ) → Near ps → Low ps
unfolding Near Low
near_low [] h = tt
near_low (p ∷ ps) h = (omega (arith, h.0), near_low ps h.1)

counted : List ℕ → List Text → List ℕ
counted ps ts = between ps (grown ps ts)

counted_fit : (ps : List ℕ) (ts : List Text) → Near ps → length ts ≡ length ps → sum (counted ps ts) ≤ longest_total → counted ps ts ≡ map length ts
unfolding Near counted between grown sum past
counted_fit [] [] n l h = refl
counted_fit [] (t ∷ ts) n l h = absurd (omega arith)
counted_fit (p ∷ ps) [] n l h = absurd (omega arith)
counted_fit (p ∷ ps) (t ∷ ts) n l h =
    let e : min (p + length t) farthest - p ≡ length t = omega (arith, n.0) in
    rw (e, counted_fit ps ts n.1 (omega arith) (omega arith))

pub texts_left : (fs : List Firing) → left 0 (replicate 5 false) fs ≡ texts_from 0 5 fs
texts_left fs = left_all 0 5 fs

pub texts_ten : (fs : List Firing) → length (texts_from 0 5 fs) ≡ 10
unfolding texts_from
texts_ten fs = refl

pub starts_length : (k : ℕ) (ns : List ℕ) → length (starts k ns) ≡ length ns
unfolding starts
starts_length k [] = refl
starts_length k (n ∷ ns) = ap suc (starts_length (k + n) ns)

lengths_length : (ts : List Text) → length (map length ts) ≡ length ts
lengths_length [] = refl
lengths_length (t ∷ ts) = ap suc (lengths_length ts)

pub low_starts : (k : ℕ) (ns : List ℕ) → k + sum ns ≤ farthest → Low (starts k ns)
unfolding Low starts sum
low_starts k [] h = tt
low_starts k (n ∷ ns) h = (omega arith, low_starts (k + n) ns (omega arith))

pub near_starts : (k : ℕ) (ns : List ℕ) → k + sum ns + longest_total < farthest → Near (starts k ns)
unfolding Near starts sum
near_starts k [] h = tt
near_starts k (n ∷ ns) h = (omega arith, near_starts (k + n) ns (omega arith))

module _ (fs : List Firing) (room : Text) (fits : length room ≡ total (texts_from 0 5 fs)) (low : length room ≤ longest_total) where
  pub fill : run_buf room (starting_at (starts 0 (map length (texts_from 0 5 fs)))) fs ≡ joined (texts_from 0 5 fs)
  fill =
      let ts = texts_from 0 5 fs in
      let a : Apart 0 (starts 0 (map length ts)) ts = apart_starts 0 ts (omega arith) in
      let l : length (starts 0 (map length ts)) ≡ 10 = starts_length 0 (map length ts) ∙ lengths_length ts ∙ texts_ten fs in
      let e : 0 + total ts ≡ length room = omega arith in
      written fs room (starting_at (starts 0 (map length ts))) 0 l refl (rw (texts_left fs) (omega arith)) (rw (texts_left fs) a)
      ∙ rw (texts_left fs, all_joined room 0 ts (omega arith), e, drop-length, append-nil)

-- positions that have not moved
none_reached : (ps : List ℕ) → Reached ps ps
unfolding Reached
none_reached [] = tt
none_reached (p ∷ ps) = (omega arith, none_reached ps)

none_moved : (ps : List ℕ) → sum (between ps ps) ≡ 0
unfolding between sum
none_moved [] = refl
none_moved (p ∷ ps) = let e = none_moved ps in omega arith

low_between : (ps es : List ℕ) → Low es → Low (between ps es)
unfolding between Low
low_between [] es h = tt
low_between (p ∷ ps) [] h = tt
low_between (p ∷ ps) (e ∷ es) h = (omega (arith, h.0), low_between ps es h.1)

-- what ten positions tell after a walk, of the ten from which it started
module _ (fs : List Firing) (ps es : List ℕ) (ten : length ps ≡ 10) (near : Near ps) (is : es ≡ (run_cur (starting_at ps) fs).at) where
  walked : Moved ps (run_cur (starting_at ps) fs)
  walked =
      moved_run ps fs (starting_at ps) ten
      (record { ten = ten; five = refl; low = near_low ps near; reached = none_reached ps; told = none_moved ps })

  size : length (texts_from 0 5 fs) ≡ length ps
  size = texts_ten fs ∙ sym ten

  pub ends_reached : Reached ps es
  ends_reached = rw is walked.reached

  module _ (ns : List ℕ) (are : ns ≡ between ps es) where
    told : sum ns ≡ (run_cur (starting_at ps) fs).total
    told = rw (are, is) walked.told

    most : sum ns ≤ total (texts_from 0 5 fs)
    most = omega (arith, told, rw (texts_left fs) at (moved_most fs (starting_at ps) ten refl (near_low ps near)))

    pub low_lengths : Low ns
    low_lengths = rw (are, is) (low_between ps (run_cur (starting_at ps) fs).at walked.low)

    lengths_fit : sum ns ≤ longest_total → ns ≡ map length (texts_from 0 5 fs)
    unfolding counted
    lengths_fit h =
        let e : es ≡ grown ps (texts_from 0 5 fs) = is ∙ measured fs (starting_at ps) ten refl (near_low ps near) (omega (arith, told)) ∙ rw (texts_left fs) refl in
        let c : ns ≡ counted ps (texts_from 0 5 fs) = are ∙ ap (between ps) e in
        c ∙ counted_fit ps (texts_from 0 5 fs) near size (rw c at h)

    room_when : (room : ℕ) (t : Bool) → ltb longest_total (sum ns) ≡ t → no_room room (sum ns) ≡ no_room room (total (texts_from 0 5 fs))
    unfolding no_room total
    room_when room false e = rw (lengths_fit (ltb-false longest_total (sum ns) e))
    room_when room true e =
        let b = lt-ltb longest_total (total (texts_from 0 5 fs)) (omega (arith, ltb-true longest_total (sum ns) e, most)) in
        or_right (ltb room (sum ns)) _ e ∙ sym (or_right (ltb room (total (texts_from 0 5 fs))) _ b)

    -- Counting alone decides whether there is room: no room for the lengths as they are counted is no room for the texts.
    pub room_counted : (room n : ℕ) → n ≡ sum ns → no_room room n ≡ no_room room (total (texts_from 0 5 fs))
    room_counted room n h = rw h (room_when room _ refl)

    pub lengths_counted : (room n : ℕ) → n ≡ sum ns → no_room room n ≡ false → ns ≡ map length (texts_from 0 5 fs)
    unfolding no_room
    lengths_counted room n h k = lengths_fit (omega (arith, h, ltb-false longest_total n (neither (ltb room n) (ltb longest_total n) k).1))

-- The ten texts written at the start of a buffer that has room for them; what is behind them is as it was.
module _ (fs : List Firing) (d : Text) (fits : total (texts_from 0 5 fs) ≤ length d) (low : total (texts_from 0 5 fs) ≤ longest_total) where
  pub written_by : (at : List ℕ) (n : ℕ) (d' : Text) → at ≡ starts 0 (map length (texts_from 0 5 fs)) → n ≡ total (texts_from 0 5 fs) →
      d' ≡ run_buf (mid_of 0 (n - 0) d) (starting_at at) fs → d' ++ post_of 0 (n - 0) d ≡ buffer_after d (accepted (texts_from 0 5 fs))
  unfolding buffer_after
  written_by at n d' a m e =
      let ts = texts_from 0 5 fs in
      let z : n - 0 ≡ n = omega arith in
      let e' : d' ≡ run_buf (take n d) (starting_at (starts 0 (map length ts))) fs = rw (z, a) at e in
      let s : length (take n d) ≡ n = length-take-le n d (omega arith) in
      let w : d' ≡ joined ts = e' ∙ fill fs (take n d) (s ∙ m) (omega arith) in
      rw (Post-is 0 n d (omega arith), w, m) refl
