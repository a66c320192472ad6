-- The loop of `places`: the first i starts are placed.
use Prim.Native.Nat.{ℕ, ◌+◌, ◌*◌, ◌≤◌, ◌<◌}
use native.Mathlib.Omega.{arith}
use native.Mathlib.Numerals.{add-one}
use mathlib.Core.Path.{◌≡◌, refl, sym, ◌∙◌}
use mathlib.Core.List.{List, [], ◌∷◌, ◌++◌, append-nil, append_assoc}
use lib.ListN.{length, take, drop, get_or, set, length-set, drop_of_length-le}
use lib.Seq.{take-suc-set, drop-cons, take_all}
use Rattle.output.specs.Store.{farthest}
use Rattle.answers.specs.Answer.{sum}
use Rattle.firing.specs.Writing.{Low, starts}
use Rattle.firing.proofs.Regions.{low_at}

pub record Placing (ns at : List ℕ) (n i : ℕ) : Type 0 where
  pub size : length at ≡ 10
  pub small : n ≤ i * farthest
  pub placed : starts 0 ns ≡ take i at ++ starts n (drop i ns)
  pub summed : sum ns ≡ n + sum (drop i ns)

module _ (ns : List ℕ) where
  pub placing_none : (at : List ℕ) → length at ≡ 10 → Placing ns at 0 0
  placing_none at h = record { size = h; small = omega arith; placed = refl; summed = omega arith }

  pub placing_more : (at : List ℕ) (n i : ℕ) → length ns ≡ 10 → Low ns → i < 10 → Placing ns at n i → Placing ns (set at i n) (n + get_or ns i 0) (i + 1)
  unfolding starts sum
  placing_more at n i m l h v =
      let e : drop i ns ≡ get_or ns i 0 ∷ drop (i + 1) ns = rw add-one (drop-cons ns i 0 (omega arith)) in
      let s = rw e at v.summed in
      record {
        size = length-set at i n ∙ v.size;
        small = omega (arith, v.small, low_at ns i l);
        placed = (rw e at v.placed) ∙ sym (rw (add-one, take-suc-set at i n (omega (arith, v.size)), append_assoc) refl);
        summed = omega arith;
      }

  pub placing_end : (at : List ℕ) (n i : ℕ) → length ns ≡ 10 → 10 ≤ i → Placing ns at n i → (at ≡ starts 0 ns) × (n ≡ sum ns)
  unfolding starts sum
  placing_end at n i m h v =
      let e : drop i ns ≡ [] = drop_of_length-le ns (let z : length ns ≤ i = omega arith in z) in
      let s = rw e at v.summed in
      (sym ((rw e at v.placed) ∙ rw (append-nil, take_all i at (omega (arith, v.size)))), omega arith)
