-- Loops over the words of a line, by their number.
use Prim.Native.Nat.{ℕ, suc, ◌+◌, ◌-◌, ◌≤◌, ◌<◌}
use native.Mathlib.Omega.{arith}
use native.Mathlib.Numerals.{add-one}
use mathlib.Core.Path.{◌≡◌, refl, sym, ◌∙◌}
use mathlib.Core.List.{[], ◌∷◌}
use mathlib.Core.Bool.{Bool, true, false, ◌||◌, ◌&&◌, or_assoc, or-false}
use lib.ListN.{length, get_or, take, drop, drop_of_length-le}
use lib.Seq.{drop-cons}
use Rattle.text.specs.Bytes.{Text, Words, all_of, any_of}
use Rattle.text.proofs.Lists.{any_nil, any_cons}
use Rattle.rules.specs.Words.{ordinary}
use Rattle.rules.specs.Percent.{malformed}
use Rattle.rules.specs.Checking.{right_fault}

words_at : (ws : Words) (j : ℕ) → j < length ws → drop j ws ≡ get_or ws j [] ∷ drop (j + 1) ws
words_at ws j h = rw add-one (drop-cons ws j [] h)

all_cons : (q : Text → Bool) (w : Text) (ws : Words) → all_of q (w ∷ ws) ≡ (q w && all_of q ws)
unfolding all_of
all_cons q w ws = refl

all_none : (q : Text → Bool) → all_of q [] ≡ true
unfolding all_of
all_none q = refl

-- the words from j up to n are still to be looked at
pub record AllUpTo (q : Text → Bool) (ws : Words) (n j : ℕ) : Type 0 where
  pub high : j ≤ n
  pub rest : all_of q (take n ws) ≡ all_of q (take (n - j) (drop j ws))

module _ (q : Text → Bool) (ws : Words) (n : ℕ) where
  module _ (j : ℕ) (v : AllUpTo q ws n j) where
    upto_step : j < n → n ≤ length ws → all_of q (take (n - j) (drop j ws)) ≡ (q (get_or ws j []) && all_of q (take (n - (j + 1)) (drop (j + 1) ws)))
    upto_step h l =
        let e : n - j ≡ suc (n - (j + 1)) = omega arith in
        let k : j < length ws = omega arith in
        rw (e, words_at ws j k) (all_cons q (get_or ws j []) (take (n - (j + 1)) (drop (j + 1) ws)))

    pub upto_more : j < n → n ≤ length ws → q (get_or ws j []) ≡ true → AllUpTo q ws n (j + 1)
    upto_more h l e = record { high = omega arith; rest = v.rest ∙ (upto_step h l ∙ rw e) }

    pub upto_miss : j < n → n ≤ length ws → q (get_or ws j []) ≡ false → false ≡ all_of q (take n ws)
    upto_miss h l e = sym (v.rest ∙ (upto_step h l ∙ rw e))

    pub upto_end : n ≤ j → true ≡ all_of q (take n ws)
    upto_end h = let e : n - j ≡ 0 = omega arith in sym (v.rest ∙ rw e (all_none q))

-- the right words from j on are still to be looked at; `bad`: one of those before is malformed
pub record RightFrom (i : Bool) (ws : Words) (from j : ℕ) (bad : Bool) : Type 0 where
  pub high : j ≤ length ws
  pub plain : all_of ordinary (drop from ws) ≡ all_of ordinary (drop j ws)
  pub percent : any_of (malformed i) (drop from ws) ≡ (bad || any_of (malformed i) (drop j ws))

module _ (i : Bool) (ws : Words) (from : ℕ) where
  pub right_start : from ≤ length ws → RightFrom i ws from from false
  right_start h = record { high = h; plain = refl; percent = refl }

  module _ (j : ℕ) (bad : Bool) (v : RightFrom i ws from j bad) where
    pub right_odd : j < length ws → ordinary (get_or ws j []) ≡ false → 6 ≡ right_fault i (drop from ws)
    unfolding right_fault
    right_odd h e = let p : all_of ordinary (drop from ws) ≡ false = v.plain ∙ rw (words_at ws j h, all_cons, e) in rw p

    pub right_more : (b : Bool) → j < length ws → ordinary (get_or ws j []) ≡ true → b ≡ (bad || malformed i (get_or ws j [])) → RightFrom i ws from (j + 1) b
    right_more b h e m =
        record {
          high = omega arith;
          plain = v.plain ∙ rw (words_at ws j h, all_cons, e);
          percent = v.percent ∙ rw (words_at ws j h, any_cons, m) (sym (or_assoc bad (malformed i (get_or ws j [])) (any_of (malformed i) (drop (j + 1) ws))));
        }

    module _ (h : length ws ≤ j) where
      all_plain : all_of ordinary (drop from ws) ≡ true
      all_plain = v.plain ∙ rw (drop_of_length-le ws h, all_none)

      any_bad : any_of (malformed i) (drop from ws) ≡ bad
      any_bad = v.percent ∙ rw (drop_of_length-le ws h, any_nil) (or-false bad)

      pub right_bad : bad ≡ true → 8 ≡ right_fault i (drop from ws)
      unfolding right_fault
      right_bad e = rw (all_plain, any_bad, e)

      pub right_fine : bad ≡ false → 0 ≡ right_fault i (drop from ws)
      unfolding right_fault
      right_fine e = rw (all_plain, any_bad, e)
