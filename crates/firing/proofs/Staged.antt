-- Texts written into the regions of a stage, and read back from there.
use Prim.Native.Nat.{ℕ, ◌+◌, ◌-◌, ◌*◌, ◌≤◌}
use native.Mathlib.Omega.{arith}
use mathlib.Core.Path.{◌≡◌, refl, sym, ap, ◌∙◌}
use mathlib.Core.Bool.{true}
use mathlib.Core.List.{List, [], ◌∷◌, ◌++◌, map}
use lib.ListN.{length, take, drop, replicate}
use lib.Seq.{length-take-le, take-add, drop_at}
use lib.Dec.{leb}
use borrow.Author.Tests.{leb-true}
use Rattle.text.specs.Limits.{longest_total}
use Rattle.text.specs.Bytes.{Text, part, all_of}
use Rattle.text.proofs.Lists.{and_both}
use Rattle.output.specs.Store.{stored, farthest}
use Rattle.output.proofs.Stores.{length_stored, take_stored, take_before}
use Rattle.answers.specs.Firings.{Firing}
use Rattle.answers.specs.Answer.{texts_from, sum, total}
use Rattle.firing.specs.Writing.{starting_at, run_buf, Low, starts}
use Rattle.firing.specs.Stage.{region_size, stage_size, regions, in_regions, texts_at}
use Rattle.firing.proofs.Regions.{stored_all, Apart}
use Rattle.firing.proofs.Written.{written}
use Rattle.firing.proofs.Measured.{Near, near_low, near_starts, texts_left, texts_ten, starts_length}

pub in_first : (n : ℕ) (ns : List ℕ) → in_regions (n ∷ ns) ≡ true → (n ≤ region_size) × (in_regions ns ≡ true)
unfolding in_regions all_of
in_first n ns h = let w = and_both (leb n region_size) _ h in (leb-true n region_size w.0, w.1)

apart_lower : (j k : ℕ) (ps : List ℕ) (ts : List Text) → j ≤ k → Apart k ps ts → Apart j ps ts
unfolding Apart
apart_lower j k [] ts l h = omega arith
apart_lower j k (p ∷ ps) [] l h = absurd h
apart_lower j k (p ∷ ps) (t ∷ ts) l h = (omega (arith, h.0), h.1)

apart_regions : (k : ℕ) (ts : List Text) → in_regions (map length ts) ≡ true → k + length ts * region_size ≤ farthest →
    Apart k (starts k (replicate (length ts) region_size)) ts
unfolding Apart starts
apart_regions k [] h l = omega arith
apart_regions k (t ∷ ts) h l =
    let w = in_first (length t) (map length ts) h in
    let qs = starts (k + region_size) (replicate (length ts) region_size) in
    (omega arith, apart_lower (k + length t) (k + region_size) qs ts (omega (arith, w.0)) (apart_regions (k + region_size) ts w.1 (omega arith)))

total_regions : (ts : List Text) → in_regions (map length ts) ≡ true → total ts ≤ length ts * region_size
unfolding total sum
total_regions [] h = omega arith
total_regions (t ∷ ts) h =
    let w = in_first (length t) (map length ts) h in
    let e = total_regions ts w.1 in
    omega (arith, w.0)

-- what stands before the first region
kept_before : (n : ℕ) (d : Text) (k : ℕ) (ws : List ℕ) (ts : List Text) → n ≤ k → take n (stored_all d (starts k ws) ts) ≡ take n d
unfolding stored_all starts
kept_before n d k [] ts h = refl
kept_before n d k (w ∷ ws) [] h = refl
kept_before n d k (w ∷ ws) (t ∷ ts) h = kept_before n (stored d k t) (k + w) ws ts (omega arith) ∙ take_before d k t n h

part_behind : (u y t : Text) (k : ℕ) → k ≤ length y → length u ≡ k → take (k + length t) y ≡ u ++ t → part y k (k + length t) ≡ t
unfolding part
part_behind u y t k h l e =
    let z : k + length t - k ≡ length t = omega arith in
    let s : take k y ++ take (length t) (drop k y) ≡ u ++ t = sym (take-add k (length t) y) ∙ e in
    rw z (sym (drop_at (take k y) (take (length t) (drop k y)) k (length-take-le k y h)) ∙ ap (drop k) s ∙ drop_at u t k l)

length_all : (d : Text) (ps : List ℕ) (ts : List Text) → length (stored_all d ps ts) ≡ length d
unfolding stored_all
length_all d [] ts = refl
length_all d (p ∷ ps) [] = refl
length_all d (p ∷ ps) (t ∷ ts) = length_all (stored d p t) ps ts ∙ length_stored d p t

-- texts that are none of them longer than a region are read back from where they were stored
texts_back : (d : Text) (k : ℕ) (ts : List Text) → in_regions (map length ts) ≡ true → k + length ts * region_size ≤ length d →
    texts_at k (stored_all d (starts k (replicate (length ts) region_size)) ts) (map length ts) ≡ ts
unfolding stored_all starts texts_at
texts_back d k [] h l = refl
texts_back d k (t ∷ ts) h l =
    let w = in_first (length t) (map length ts) h in
    let x = stored d k t in
    let y = stored_all x (starts (k + region_size) (replicate (length ts) region_size)) ts in
    let e : take (k + length t) y ≡ take k d ++ t =
    kept_before (k + length t) x (k + region_size) (replicate (length ts) region_size) ts (omega (arith, w.0)) ∙ take_stored d k t (omega (arith, w.0)) in
    let n : k ≤ length y = rw (length_all x (starts (k + region_size) (replicate (length ts) region_size)) ts, length_stored d k t) (omega arith) in
    let a : part y k (k + length t) ≡ t = part_behind (take k d) y t k n (length-take-le k d (omega arith)) e in
    let b : k + region_size + length ts * region_size ≤ length x = rw (length_stored d k t) (omega arith) in
    rw (a, texts_back x (k + region_size) ts w.1 b)

-- the regions of a stage as positions to start from
pub regions_ten : length regions ≡ 10
unfolding regions
regions_ten = starts_length 0 (replicate 10 region_size)

pub near_regions : Near regions
unfolding regions sum
near_regions = near_starts 0 (replicate 10 region_size) (omega arith)

pub low_regions : Low regions
low_regions = near_low regions near_regions

-- What firings leave in a stage: each text that is left, where it is not longer than its region.
pub stage_texts : (fs : List Firing) (d : Text) → length d ≡ stage_size → in_regions (map length (texts_from 0 5 fs)) ≡ true →
    texts_at 0 (run_buf d (starting_at regions) fs) (map length (texts_from 0 5 fs)) ≡ texts_from 0 5 fs
unfolding regions
stage_texts fs d l h =
    let ts = texts_from 0 5 fs in
    let n : length ts ≡ 10 = texts_ten fs in
    let a : Apart 0 regions ts = rw n at (apart_regions 0 ts h (omega arith)) in
    let b = rw n at (texts_back d 0 ts h (omega arith)) in
    let s : 0 + total ts ≤ longest_total = omega (arith, total_regions ts h) in
    rw (written fs d (starting_at regions) 0 regions_ten refl (rw (texts_left fs) s) (rw (texts_left fs) a), texts_left fs) b
