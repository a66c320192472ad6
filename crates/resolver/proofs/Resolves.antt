-- The ways out of a resolve.
use Prim.Native.Nat.{ℕ, ◌-◌, ◌≤◌, ◌<◌}
use mathlib.Core.Path.{◌≡◌, refl, sym, ap, ◌∙◌}
use mathlib.Core.List.{List, [], ◌∷◌, ◌++◌, map}
use mathlib.Core.Bool.{true, false}
use lib.ListN.{length, take, drop}
use lib.Seq.{length-take-le}
use lib.Dec.{leb, ltb}
use native.Mathlib.Omega.{arith}
use borrow.Author.Tests.{leb-true, lt-ltb, le-ltb}
use Rattle.std.proofs.Common.{Ok, Err}
use Rattle.text.specs.declared.Refusal.{Refusal}
use Rattle.text.specs.declared.faults.Refusal.{Refusal as Refused}
use Rattle.text.specs.declared.faults.Fault.TheVariants.{LongFile, NoRoom}
use Rattle.text.specs.Told.{number_of as number_of_fault, told_refusal}
use Rattle.text.proofs.Told.{number_some}
use Rattle.text.specs.Limits.{longest_file, longest_total}
use Rattle.text.specs.Bytes.{Text, all_of}
use Rattle.text.specs.Refusals.{refused_if, first_refusal, is_number, has_number}
use Rattle.text.proofs.Lists.{and_both, nil_left, nil_right}
use Rattle.output.specs.Store.{farthest}
use Rattle.profile.specs.Profile.{Texts, profile_of}
use Rattle.profile.specs.Refusals.{profile_refusals}
use Rattle.profile.proofs.Numbers.{profile_numbers}
use Rattle.rules.specs.Faults.{line_faults, file_refusals}
use Rattle.answers.specs.declared.Outcome.{Outcome}
use Rattle.answers.specs.Firings.{file_firings}
use Rattle.answers.specs.Answer.{ten_texts, sum, total, no_room, refusals, Answer, refused, accepted, first_of, answer, number_of, place_of, lengths_of, outcome, buffer_after, Answered, Resolved}
use Rattle.firing.specs.Writing.{starting_at, run_buf, Low, starts}
use Rattle.firing.specs.Stage.{stage_size, regions, in_regions, texts_at, Staged}
use Rattle.answers.specs.Told.{outcome_told}
use Rattle.reading.specs.Profiled.{ReadFor}
use Rattle.answers.proofs.Answers.{answered}
use Rattle.answers.proofs.Told.{told_refused}
use Rattle.firing.proofs.Measured.{low_starts, written_by}
use Rattle.firing.proofs.Staged.{stage_texts}

abbrev long_file : Refused
long_file = record { fault = LongFile; place = 0 }

abbrev no_place : Refused
no_place = record { fault = NoRoom; place = 0 }

-- the first of some refusals

clear_first : (rs : List Refusal) → all_of has_number rs ≡ true → (first_refusal rs).number ≡ 0 → rs ≡ []
unfolding first_refusal all_of has_number is_number
clear_first [] h e = refl
clear_first (r ∷ rs) h e =
    let w = and_both (leb 1 r.number) (leb r.number 11) (and_both (has_number r) (all_of has_number rs) h).0 in
    absurd (omega (arith, leb-true 1 r.number w.0))

refused_first : (rs more : List Refusal) (ts : List Text) (e : Refused) → told_refusal e ≡ first_refusal rs → refused (told_refusal e) ≡ first_of (rs ++ more) ts
unfolding first_refusal first_of
refused_first [] more ts e h = absurd (number_some e.fault (ap (λ (r : Refusal). r.number) h))
refused_first (r ∷ rs) more ts e h = ap refused h

-- nothing is refused where the first refusal has number 0

pub profile_clear : (t : Texts) → record { number = 0; place = 0 } ≡ first_refusal (profile_refusals t) → profile_refusals t ≡ []
profile_clear t e = clear_first (profile_refusals t) (profile_numbers t) (sym (ap (λ (x : Refusal). x.number) e))

-- a file that is not too long is refused by its lines alone
pub file_lines : (f : Text) → length f ≤ longest_file → file_refusals f ≡ line_faults f
unfolding file_refusals refused_if
file_lines f h = rw (le-ltb longest_file (length f) h) refl

file_first : (f : Text) (r : Refusal) → length f ≤ longest_file → first_refusal (line_faults f) ≡ r → r ≡ first_refusal (file_refusals f)
file_first f r h e = rw (file_lines f h) (sym e)

file_long : (f : Text) → longest_file < length f → record { number = 3; place = 0 } ≡ first_refusal (file_refusals f)
unfolding file_refusals refused_if first_refusal
file_long f h = rw (lt-ltb longest_file (length f) h) refl

pub lines_clear : (f : Text) → file_refusals f ≡ [] → line_faults f ≡ []
unfolding file_refusals
lines_clear f h = nil_right (refused_if (ltb longest_file (length f)) 3 0) _ h

-- an accepted file is read again without a refusal
pub read_again : (f : Text) (t : Texts) (w w' : Text) (at : List ℕ) (e : Refused) → line_faults f ≡ [] → ReadFor f t w w' at (Err e) → ⊥
unfolding first_refusal
read_again f t w w' at e h v = number_some e.fault (ap (λ (x : Refusal). x.number) (sym (v.refused e refl) ∙ ap first_refusal h))

-- the answer, by what the checks found
module _ (room : ℕ) (f : Text) (t : Texts) where
  profile_refused : (e : Refused) → told_refusal e ≡ first_refusal (profile_refusals t) → refused (told_refusal e) ≡ answer room f t
  unfolding answer refusals
  profile_refused e h = refused_first (profile_refusals t) _ (ten_texts f t) e h

  module _ (clear : profile_refusals t ≡ []) where
    file_refused : (e : Refused) → told_refusal e ≡ first_refusal (file_refusals f) → refused (told_refusal e) ≡ answer room f t
    unfolding answer refusals
    file_refused e h = rw clear (refused_first (file_refusals f) _ (ten_texts f t) e h)

    room_refused : file_refusals f ≡ [] → no_room room (total (ten_texts f t)) ≡ true → refused (record { number = 11; place = 0 }) ≡ answer room f t
    unfolding answer refusals refused_if first_of
    room_refused lines h = rw (clear, lines, h) refl

    all_accepted : (ns : List ℕ) → file_refusals f ≡ [] → no_room room (total (ten_texts f t)) ≡ false → ns ≡ map length (ten_texts f t) →
        outcome_told (Ok ns) ≡ outcome (answer room f t)
    unfolding answer refusals refused_if first_of outcome number_of place_of lengths_of
    all_accepted ns lines h e = rw (clear, lines, h, e) refl

-- A refusal leaves no texts in a stage; an accepted answer leaves each text that is not too long for its region.
module _ (room : ℕ) (f : Text) (t : Texts) (d : Text) where
  refused_so : (e : Refused) → refused (told_refusal e) ≡ answer room f t → Staged room f t d (outcome_told (Err e))
  refused_so e h = record { result = told_refused e ∙ ap outcome h; texts = λ z. absurd (number_some e.fault z) }

  pub staged_profile : (e : Refused) → told_refusal e ≡ first_refusal (profile_refusals t) → Staged room f t d (outcome_told (Err e))
  staged_profile e h = refused_so e (profile_refused room f t e h)

  module _ (clear : profile_refusals t ≡ []) where
    pub staged_long : longest_file < length f → Staged room f t d (outcome_told (Err long_file))
    staged_long h = refused_so long_file (file_refused room f t clear long_file (file_long f h))

    pub staged_lines : (e : Refused) → length f ≤ longest_file → first_refusal (line_faults f) ≡ told_refusal e → Staged room f t d (outcome_told (Err e))
    staged_lines e h g = refused_so e (file_refused room f t clear e (file_first f _ h g))

    pub staged_room : file_refusals f ≡ [] → no_room room (total (ten_texts f t)) ≡ true → Staged room f t d (outcome_told (Err no_place))
    staged_room lines h = refused_so no_place (room_refused room f t clear lines h)

    pub staged_accepted : (d₀ : Text) (ns : List ℕ) → file_refusals f ≡ [] → no_room room (total (ten_texts f t)) ≡ false → ns ≡ map length (ten_texts f t) → length d₀ ≡ stage_size →
        d ≡ run_buf d₀ (starting_at regions) (file_firings f (profile_of t)) → Staged room f t d (outcome_told (Ok ns))
    unfolding ten_texts
    staged_accepted d₀ ns lines h n l w =
        record { result = all_accepted room f t clear ns lines h n; texts = λ z k. rw (n, w) (stage_texts (file_firings f (profile_of t)) d₀ l (rw n at k)) }

-- an answer with number 0 is accepted
pub record Accepts (room : ℕ) (f : Text) (t : Texts) : Type 0 where
  pub is : answer room f t ≡ accepted (ten_texts f t)
  pub profile : profile_refusals t ≡ []
  pub file : file_refusals f ≡ []
  pub fits : total (ten_texts f t) ≤ room
  pub low : total (ten_texts f t) ≤ longest_total

accepts_when : (room : ℕ) (f : Text) (t : Texts) (rs : List Refusal) → refusals room f t ≡ rs → Answered room (first_of rs (ten_texts f t)) →
    number_of (first_of rs (ten_texts f t)) ≡ 0 → Accepts room f t
unfolding answer refusals first_of Answered number_of
accepts_when room f t [] e a h =
    record {
      is = rw e refl;
      profile = nil_left (profile_refusals t) _ e;
      file = nil_left (file_refusals f) _ (nil_right (profile_refusals t) _ e);
      fits = a.1;
      low = a.2;
    }
accepts_when room f t (r ∷ rs) e a h = absurd (omega (arith, a.0))

pub accepts : (room : ℕ) (f : Text) (t : Texts) (x : Outcome) → x ≡ outcome (answer room f t) → x.number ≡ 0 → Accepts room f t
unfolding answer outcome
accepts room f t x e h = accepts_when room f t (refusals room f t) refl (answered room f t) (sym (ap (λ (y : Outcome). y.number) e) ∙ h)

-- and one with a fault is refused
pub refuses : (room : ℕ) (f : Text) (t : Texts) (e : Refused) → outcome_told (Err e) ≡ outcome (answer room f t) → answer room f t ≡ refused (told_refusal e)
unfolding outcome number_of place_of
refuses room f t e h = go (answer room f t) refl
  where
    go : (a : Answer) → answer room f t ≡ a → a ≡ refused (told_refusal e)
    go (refused r) q =
        let n : r.number ≡ number_of_fault e.fault = sym (ap (λ (x : Outcome). x.number) h ∙ rw q) in
        let p : r.place ≡ e.place = sym (ap (λ (x : Outcome). x.place) h ∙ rw q) in
        ap refused (λ i. record { number = n i; place = p i })
    go (accepted ts) q = absurd (number_some e.fault (ap (λ (x : Outcome). x.number) h ∙ rw q))

low_sum : (ns : List ℕ) → sum ns ≤ farthest → Low ns
unfolding Low sum
low_sum [] h = tt
low_sum (n ∷ ns) h = (omega arith, low_sum ns (omega arith))

module _ (room : ℕ) (f : Text) (t : Texts) (x : Outcome) (is : x ≡ outcome (answer room f t)) (a : Accepts room f t) where
  pub lengths_accepted : x.lengths ≡ map length (ten_texts f t)
  unfolding outcome lengths_of
  lengths_accepted = ap (λ (y : Outcome). y.lengths) is ∙ rw a.is refl

  pub sum_accepted : sum x.lengths ≡ total (ten_texts f t)
  unfolding total
  sum_accepted = ap sum lengths_accepted

  pub low_accepted : Low x.lengths
  low_accepted = low_sum x.lengths (omega (arith, sum_accepted, a.low))

  pub low_placed : (at : List ℕ) → at ≡ starts 0 x.lengths → Low at
  low_placed at e = rw e (low_starts 0 x.lengths (omega (arith, sum_accepted, a.low)))

-- the room that they take in the buffer
pub part_low : (d : Text) (n m : ℕ) → n ≡ m → m ≤ length d → m ≤ longest_total → length (take n d) ≤ farthest
part_low d n m e h k = omega (arith, length-take-le n d)

-- a refusal leaves the buffer as it was
pub buffer_kept : (d f : Text) (t : Texts) (e : Refused) → outcome_told (Err e) ≡ outcome (answer (length d) f t) → Resolved f t d d (outcome_told (Err e))
unfolding outcome number_of buffer_after
buffer_kept d f t e h = record { result = h; buffer = go (answer (length d) f t) refl }
  where
    go : (a : Answer) → answer (length d) f t ≡ a → d ≡ buffer_after d (answer (length d) f t)
    go (refused r) q = rw q
    go (accepted ts) q = absurd (number_some e.fault (ap (λ (x : Outcome). x.number) h ∙ rw q))

-- an accepted answer leaves the ten texts: copied from a stage,
pub buffer_copied : (d f : Text) (t : Texts) (ns : List ℕ) (s d' : Text) → Staged (length d) f t s (outcome_told (Ok ns)) → Accepts (length d) f t → in_regions ns ≡ true →
    d' ≡ buffer_after d (accepted (texts_at 0 s ns)) → Resolved f t d d' (outcome_told (Ok ns))
buffer_copied d f t ns s d' v a h w = record { result = v.result; buffer = w ∙ rw (v.texts refl h, a.is) refl }

-- or written where they belong
pub buffer_written : (d f : Text) (t : Texts) (ns : List ℕ) → outcome_told (Ok ns) ≡ outcome (answer (length d) f t) → Accepts (length d) f t →
    (at : List ℕ) (n : ℕ) (d' : Text) → at ≡ starts 0 ns → n ≡ sum ns →
    d' ≡ run_buf (take n d) (starting_at at) (file_firings f (profile_of t)) → Resolved f t d (d' ++ drop n d) (outcome_told (Ok ns))
unfolding ten_texts
buffer_written d f t ns e a at n d' p m w =
    let l : ns ≡ map length (ten_texts f t) = lengths_accepted (length d) f t (outcome_told (Ok ns)) e a in
    let z : n - 0 ≡ n = omega arith in
    record {
      result = e;
      buffer = rw a.is
          (rw z at (written_by (file_firings f (profile_of t)) d a.fits a.low at n d' (p ∙ ap (starts 0) l) (m ∙ sum_accepted (length d) f t (outcome_told (Ok ns)) e a) (w ∙ rw z)));
    }
