-- A value made and fired; the values of a rule.
use Prim.Native.Nat.{ℕ, zero, suc, ◌+◌, ◌≤◌, ◌<◌}
use native.Mathlib.Omega.{arith}
use native.Mathlib.Numerals.{add-one}
use mathlib.Core.Path.{◌≡◌, refl, sym, ap, ◌∙◌}
use mathlib.Core.List.{List, [], ◌∷◌, ◌++◌}
use mathlib.Core.Bool.{Bool, false}
use lib.ListN.{length, take, drop, get_or, length-drop, drop_of_length-le}
use lib.Seq.{drop-cons}
use lib.Dec.{ltb}
use borrow.Author.Tests.{ltb-false}
use Rattle.text.specs.Bytes.{Text, Words, part, any_of, concat_map}
use Rattle.text.specs.Words.{too_long}
use Rattle.text.specs.Reading.{left, FoundWord, NoWord}
use Rattle.text.proofs.Lists.{neither, any_drop}
use Rattle.text.proofs.Passing.{Passing, passing_start, passing_word}
use Rattle.profile.specs.Profile.{Profile, layout_count}
use Rattle.values.specs.Values.{filled}
use Rattle.values.specs.Filling.{Filled, is_percent}
use Rattle.values.specs.Spread.{cuts, spread, expanded}
use Rattle.values.proofs.Filling.{filled_plain}
use Rattle.values.proofs.Profiles.{expanded_by}
use Rattle.firing.specs.declared.Cursors.{Cursors}
use Rattle.answers.specs.Firings.{fired, rule_fires}
use Rattle.firing.specs.Writing.{FiredOne, Low, run_buf, run_cur, ShortWords, FiredRule, BehindFirst}
use Rattle.firing.specs.Rule.{Fires, RightWords}
use Rattle.firing.proofs.Going.{Going, going_start, going_more, going_end}

pub value_fired : (p : Profile) (n k : ℕ) (x a b : Text) (r : ℕ) (d d' : Text) (q q' : Cursors) (c : ℕ) → n ≡ layout_count p →
    Filled a b (filled p k x) r → FiredOne d d' q q' c (concat_map (spread n) (cuts (take r b))) → FiredOne d d' q q' c (expanded p k x)
value_fired p n k x a b r d d' q q' c e h f = rw (expanded_by p k n x (take r b) e h.text) at f

fires_cons : (p : Profile) (l k c : ℕ) (cs : List ℕ) (w : Text) (ws : Words) →
    rule_fires p l k (c ∷ cs) (w ∷ ws) ≡ fired l k c (expanded p k w) ++ rule_fires p l k cs ws
unfolding rule_fires
fires_cons p l k c cs w ws = refl

fires_none : (p : Profile) (l k : ℕ) (cs : List ℕ) → rule_fires p l k cs [] ≡ []
unfolding rule_fires
fires_none p l k [] = refl
fires_none p l k (c ∷ cs) = refl

drop_get {ℓ} : {A : Type ℓ} (xs : List A) (a : A) (j : ℕ) → j < length xs → drop j xs ≡ get_or xs j a ∷ drop (j + 1) xs
drop_get xs a j h = rw add-one (drop-cons xs j a h)

-- a word that is not too long has room in the scratch
pub word_room : (ws : Words) (j : ℕ) → ShortWords ws → j < length ws → length (get_or ws j []) ≤ 256
unfolding any_of too_long
word_room [] j h l = absurd (omega arith)
word_room (w ∷ ws) zero h l = ltb-false 256 (length w) (neither (ltb 256 (length w)) (any_of too_long ws) h).0
word_room (w ∷ ws) (suc j) h l = word_room ws j (neither (ltb 256 (length w)) (any_of too_long ws) h).1 (omega arith)

short_rest : (w : Text) (ws : Words) → ShortWords (w ∷ ws) → ShortWords ws
unfolding any_of
short_rest w ws h = (neither (too_long w) (any_of too_long ws) h).1

-- a word without percent signs
pub plain_fired : (p : Profile) (n k : ℕ) (x : Text) (d d' : Text) (q q' : Cursors) (c : ℕ) (b : Bool) → n ≡ layout_count p → b ≡ any_of is_percent x → b ≡ false →
    FiredOne d d' q q' c (concat_map (spread n) (cuts x)) → FiredOne d d' q q' c (expanded p k x)
plain_fired p n k x d d' q q' c b e h z f = rw (expanded_by p k n x x e (sym (filled_plain p k x (sym h ∙ z)))) at f

-- the loop over a line's words, of which j have fired

module _ (p : Profile) (s : Text) (from n : ℕ) (d₀ : Text) (q₀ : Cursors) (k : ℕ) (cs : List ℕ) where
  pub record WordsGoing (d : Text) (q : Cursors) (i m j : ℕ) : Type 0 where
    pub passing : Passing s from n i m
    pub count : j + length (left s i) ≡ length (left s from)
    pub short : ShortWords (left s i)
    pub going : (l : ℕ) → Going d₀ q₀ (rule_fires p l k cs (left s from)) d q (rule_fires p l k (drop j cs) (left s i))

  pub words_start : from ≤ length s → n ≤ from + 1 → ShortWords (left s from) → Low q₀.at → WordsGoing d₀ q₀ from n 0
  words_start a b h low = record { passing = passing_start s from n a b; count = omega arith; short = h; going = λ l. going_start d₀ q₀ _ low }

  module _ (d : Text) (q : Cursors) (i m j : ℕ) (v : WordsGoing d q i m j) where
    module _ (a e l f : ℕ) (w : FoundWord s i m a e l f) where
      word_short : ShortWords (part s a e ∷ left s e)
      word_short = rw w.text at v.short

      pub word_fits : length (part s a e) ≤ 256
      word_fits = word_room (part s a e ∷ left s e) 0 word_short (omega arith)

      pub words_more : j < length cs → (d' : Text) (q' : Cursors) → FiredOne d d' q q' (get_or cs j 0) (expanded p k (part s a e)) → WordsGoing d' q' e l (j + 1)
      words_more h d' q' g =
          record {
            passing = passing_word s from n i m v.passing a e l f w;
            count = omega (arith, v.count, ap length w.text);
            short = short_rest (part s a e) (left s e) word_short;
            going = λ x.
                let y : rule_fires p x k (drop j cs) (left s i) ≡ fired x k (get_or cs j 0) (expanded p k (part s a e)) ++ rule_fires p x k (drop (j + 1) cs) (left s e) =
                rw (drop_get cs 0 j h, w.text, fires_cons) in
                going_more d₀ q₀ _ d q _ _ d' q' (rw y at (v.going x)) (g.bytes x k) (g.places x k);
          }

    fired_all : left s i ≡ [] → FiredRule p d₀ d q₀ q k cs (left s from)
    fired_all none = record { bytes = λ x. (over x).0; places = λ x. (over x).1 }
      where
        over : (x : ℕ) → (d ≡ run_buf d₀ q₀ (rule_fires p x k cs (left s from))) × (q ≡ run_cur q₀ (rule_fires p x k cs (left s from)))
        over x = going_end d₀ q₀ _ d q (rw (none, fires_none p x k (drop j cs)) at (v.going x))

    -- all words have fired
    pub words_fired : length (left s from) ≤ j → FiredRule p d₀ d q₀ q k cs (left s from)
    words_fired h = let z : length (left s i) ≤ 0 = omega (arith, v.count) in fired_all (drop_of_length-le (left s i) z)

    pub words_none : (r l : ℕ) → NoWord s i m r l → FiredRule p d₀ d q₀ q k cs (left s from)
    words_none r l w = fired_all w.none

-- behind the first word of a line

module _ (s : Text) (from n : ℕ) where
  pub behind_word : (a e l f : ℕ) → FoundWord s from n a e l f → BehindFirst s from n e l
  behind_word a e l f w = record { low = omega (arith, w.low, w.some); high = w.high; few = w.few; text = rw w.text refl; onto = w.onto }

  pub behind_none : from ≤ length s → n ≤ from + 1 → (r l : ℕ) → NoWord s from n r l → BehindFirst s from n from n
  behind_none a b r l w = record { low = omega arith; high = a; few = b; text = rw w.none refl; onto = refl }

  module _ (i m : ℕ) (v : BehindFirst s from n i m) where
    pub behind_count : (c : ℕ) → length (left s from) ≡ 1 + c → length (left s i) ≡ c
    behind_count c h = ap length v.text ∙ (length-drop 1 (left s from) ∙ omega arith)

    pub behind_short : ShortWords (left s from) → ShortWords (left s i)
    behind_short h = rw v.text (any_drop too_long 1 (left s from) h)

    pub behind_right : (cs : List ℕ) → RightWords (drop 1 (left s from)) cs → RightWords (left s i) cs
    behind_right cs h = rw v.text h

    pub behind_rule : (p : Profile) (cs : List ℕ) (d d' : Text) (q q' : Cursors) (k : ℕ) → FiredRule p d d' q q' k cs (left s i) →
        FiredRule p d d' q q' k cs (drop 1 (left s from))
    behind_rule p cs d d' q q' k f = rw v.text at f

-- a rule fires the same with any profile that has the same values

module _ (p p' : Profile) (k : ℕ) (same : (w : Text) → expanded p k w ≡ expanded p' k w) where
  fires_same : (l : ℕ) (cs : List ℕ) (ws : Words) → rule_fires p l k cs ws ≡ rule_fires p' l k cs ws
  unfolding rule_fires
  fires_same l [] ws = refl
  fires_same l (c ∷ cs) [] = refl
  fires_same l (c ∷ cs) (w ∷ ws) = rw (same w, fires_same l cs ws)

-- one word after the other, and the right words of a rule

pub fires_again : (n k : ℕ) (x x' d d' : Text) (q q' : Cursors) → Fires n k x d q → length x' ≡ length x → length d' ≡ length d → Low q'.at →
    Fires n k x' d' q'
fires_again n k x x' d d' q q' f e g low =
    record {
      some = f.some;
      digit = f.digit;
      layout = f.layout;
      room = omega (arith, f.room);
      scratch = omega (arith, f.scratch);
      buf = omega (arith, f.buf);
      low = low;
    }
