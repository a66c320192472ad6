-- The loops over the regions of a stage.
use Prim.Native.Nat.{ℕ, zero, suc, ◌+◌, ◌-◌, ◌*◌, ◌≤◌, ◌<◌}
use native.Mathlib.Omega.{arith}
use native.Mathlib.Numerals.{add-one}
use mathlib.Core.Path.{◌≡◌, refl, sym, ap, ◌∙◌}
use mathlib.Core.Bool.{Bool, true, ◌&&◌}
use Rattle.std.specs.List.{list_all}
use mathlib.Core.List.{List, [], ◌∷◌, ◌++◌, map, append-nil, append_assoc}
use lib.ListN.{length, take, drop, get_or, set, length-set, drop_of_length-le}
use lib.Seq.{take-suc-set, drop-cons, take_all}
use Rattle.text.specs.Bytes.{Text, part, all_of}
use Rattle.text.proofs.Positions.{length_part}
use Rattle.output.specs.Store.{stored}
use Rattle.output.proofs.Stores.{stored_append, stored_none, length_stored, stored_front}
use Rattle.answers.specs.Answer.{sum, joined, total, accepted, buffer_after}
use Rattle.answers.proofs.Stretch.{joined_length}
use Rattle.firing.specs.Stage.{region_size, in_regions, texts_at, between, Reached}
use Rattle.firing.proofs.Staged.{in_first}

-- one more of a list
more : (ns : List ℕ) (i : ℕ) → i < length ns → drop i ns ≡ get_or ns i 0 ∷ drop (i + 1) ns
more ns i h = rw add-one (drop-cons ns i 0 h)

none : (ns : List ℕ) (i : ℕ) → length ns ≤ i → drop i ns ≡ []
none ns i h = drop_of_length-le ns h

-- `lengths_between`: the first i lengths are counted
pub reached_at : (ps es : List ℕ) (i : ℕ) → i < length ps → i < length es → Reached ps es → get_or ps i 0 ≤ get_or es i 0
unfolding Reached
reached_at [] es i l m h = absurd (omega arith)
reached_at (p ∷ ps) [] i l m h = absurd (omega arith)
reached_at (p ∷ ps) (e ∷ es) zero l m h = h.0
reached_at (p ∷ ps) (e ∷ es) (suc i) l m h = reached_at ps es i (omega arith) (omega arith) h.1

pub record Counting (ps es ns : List ℕ) (i : ℕ) : Type 0 where
  pub size : length ns ≡ 10
  pub counted : between ps es ≡ take i ns ++ between (drop i ps) (drop i es)

module _ (ps es : List ℕ) where
  pub counting_none : (ns : List ℕ) → length ns ≡ 10 → Counting ps es ns 0
  counting_none ns h = record { size = h; counted = refl }

  pub counting_more : (ns : List ℕ) (i : ℕ) → length ps ≡ 10 → length es ≡ 10 → i < 10 → Counting ps es ns i →
      Counting ps es (set ns i (get_or es i 0 - get_or ps i 0)) (i + 1)
  unfolding between
  counting_more ns i l m h v =
      let n = get_or es i 0 - get_or ps i 0 in
      record {
        size = length-set ns i n ∙ v.size;
        counted = (rw (more ps i (omega arith), more es i (omega arith)) at v.counted)
            ∙ sym (rw (add-one, take-suc-set ns i n (omega (arith, v.size)), append_assoc) refl);
      }

  pub counting_end : (ns : List ℕ) (i : ℕ) → length ps ≡ 10 → 10 ≤ i → Counting ps es ns i → ns ≡ between ps es
  unfolding between
  counting_end ns i l h v =
      sym ((rw (none ps i (omega arith)) at v.counted) ∙ rw (append-nil, take_all i ns (omega (arith, v.size))))

-- `in_regions`: `all_of` is std's
pub all_listed : {A : Type 0} (q : A → Bool) (xs : List A) → list_all q xs ≡ all_of q xs
unfolding all_of
all_listed q [] = refl
all_listed q (x ∷ xs) = ap (λ (b : Bool). q x && b) (all_listed q xs)

in_at : (ns : List ℕ) (i : ℕ) → in_regions ns ≡ true → i < length ns → get_or ns i 0 ≤ region_size
in_at [] i h l = absurd (omega arith)
in_at (n ∷ ns) zero h l = (in_first n ns h).0
in_at (n ∷ ns) (suc i) h l = in_at ns i (in_first n ns h).1 (omega arith)

-- `copy_texts`: what is copied, with the texts of the regions left copied behind it, is all of them copied
lengths_at : (k : ℕ) (s : Text) (ns : List ℕ) → in_regions ns ≡ true → k + length ns * region_size ≤ length s → map length (texts_at k s ns) ≡ ns
unfolding texts_at
lengths_at k s [] h l = refl
lengths_at k s (n ∷ ns) h l =
    let w = in_first n ns h in
    let e : length (part s k (k + n)) ≡ n = length_part s k (k + n) (omega (arith, w.0)) ∙ omega arith in
    rw (e, lengths_at (k + region_size) s ns w.1 (omega arith))

sum_more : (ns : List ℕ) (i : ℕ) → i < length ns → sum (drop i ns) ≡ get_or ns i 0 + sum (drop (i + 1) ns)
unfolding sum
sum_more ns i h = rw (more ns i h)

texts_more : (k : ℕ) (s : Text) (ns : List ℕ) (i : ℕ) → i < length ns →
    joined (texts_at k s (drop i ns)) ≡ part s k (k + get_or ns i 0) ++ joined (texts_at (k + region_size) s (drop (i + 1) ns))
unfolding texts_at joined
texts_more k s ns i h = rw (more ns i h)

texts_end : (k : ℕ) (s : Text) (ns : List ℕ) (i : ℕ) → length ns ≤ i → joined (texts_at k s (drop i ns)) ≡ []
unfolding texts_at joined
texts_end k s ns i h = rw (none ns i h)

pub record Copying (s : Text) (ns : List ℕ) (d₀ d : Text) (at i : ℕ) : Type 0 where
  pub size : length d ≡ length d₀
  pub room : at + sum (drop i ns) ≡ sum ns
  pub bytes : stored d₀ 0 (joined (texts_at 0 s ns)) ≡ stored d at (joined (texts_at (region_size * i) s (drop i ns)))

module _ (s : Text) (ns : List ℕ) (d₀ : Text) where
  pub copying_none : Copying s ns d₀ d₀ 0 0
  copying_none = record { size = refl; room = omega arith; bytes = refl }

  module _ (d : Text) (at i : ℕ) (v : Copying s ns d₀ d at i) where
    pub copying_inside : in_regions ns ≡ true → length ns * region_size ≤ length s → i < length ns → region_size * i + get_or ns i 0 ≤ length s
    copying_inside h m l = omega (arith, in_at ns i h l)

    pub copying_room : sum ns ≤ length d₀ → i < length ns → get_or ns i 0 ≤ length d - at
    copying_room h l = omega (arith, sum_more ns i l, v.size, v.room)

    pub copying_more : (d' : Text) (n : ℕ) → i < length ns → n ≡ get_or ns i 0 → region_size * i + n ≤ length s →
        d' ≡ stored d at (part s (region_size * i) (region_size * i + n)) → Copying s ns d₀ d' (at + n) (i + 1)
    copying_more d' n l e h g =
        let start = region_size * i in
        let z : region_size * (i + 1) ≡ start + region_size = omega arith in
        let k : length (part s start (start + n)) ≡ n = length_part s start (start + n) h ∙ omega arith in
        record {
          size = ap length g ∙ length_stored d at (part s start (start + n)) ∙ v.size;
          room = omega (arith, sum_more ns i l, v.room);
          bytes = v.bytes ∙ rw (z, texts_more start s ns i l, ← e, stored_append, k, ← g) refl;
        }

    pub copying_end : in_regions ns ≡ true → length ns * region_size ≤ length s → sum ns ≤ length d₀ → length ns ≤ i →
        d ≡ buffer_after d₀ (accepted (texts_at 0 s ns))
    unfolding buffer_after total
    copying_end h l m z =
        let t = joined (texts_at 0 s ns) in
        let e : total (texts_at 0 s ns) ≡ sum ns = ap sum (lengths_at 0 s ns h (omega arith)) in
        let n : length t ≡ total (texts_at 0 s ns) = joined_length (texts_at 0 s ns) in
        let b : stored d₀ 0 t ≡ d = v.bytes ∙ rw (texts_end (region_size * i) s ns i z, stored_none) in
        sym b ∙ stored_front d₀ t (omega arith) ∙ rw n
