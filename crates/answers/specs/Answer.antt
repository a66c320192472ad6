-- The answer of a resolve, and the buffer after it. Document 01, "Base and additions" and "Refusal numbers".
use Rattle.std.specs.Prelude.{ℕ, zero, suc, ◌+◌, ◌*◌, ◌-◌, ◌≤◌, ◌≡◌, List, [], ◌∷◌, ◌++◌, map, Bool, ◌||◌, cond, length, take, drop, replicate, ltb}
use Rattle.text.specs.declared.Refusal.{Refusal}
use Rattle.text.specs.Limits.{longest_total}
use Rattle.text.specs.Bytes.{Text}
use Rattle.text.specs.Refusals.{refused_if}
use Rattle.profile.specs.Profile.{Texts, profile_of}
use Rattle.profile.specs.Refusals.{profile_refusals}
use Rattle.rules.specs.Faults.{file_refusals}
use Rattle.answers.specs.declared.Outcome.{Outcome}
use Rattle.answers.specs.Firings.{Firing, file_firings}
use Rattle.answers.specs.Components.{values_of, base, additions}

-- "base and additions for keycodes, types, compat, symbols, geometry, in that order": those of n components from component c on
unfoldable pub texts_from : ℕ → ℕ → List Firing → List Text
texts_from c zero fs = []
texts_from c (suc n) fs = base (values_of c fs) ∷ additions (values_of c fs) ∷ texts_from (suc c) n fs

unfoldable pub ten_texts : Text → Texts → List Text
ten_texts f t = texts_from 0 5 (file_firings f (profile_of t))

unfoldable pub sum : List ℕ → ℕ
sum [] = 0
sum (n ∷ ns) = n + sum ns

unfoldable pub joined : List Text → Text
joined [] = []
joined (t ∷ ts) = t ++ joined ts

-- the bytes of the ten texts
unfoldable pub total : List Text → ℕ
total ts = sum (map length ts)

-- "total longer than the buffer or than 1,048,576 bytes"; `room` is the length of the buffer
unfoldable pub no_room : ℕ → ℕ → Bool
no_room room n = ltb room n || ltb longest_total n

-- "Order: 1 over all texts in turn, then 2 likewise, 3, then the first bad line .. with its lowest number ..; last 11."
unfoldable pub refusals : ℕ → Text → Texts → List Refusal
refusals room f t = profile_refusals t ++ (file_refusals f ++ refused_if (no_room room (total (ten_texts f t))) 11 0)

pub data Answer : Type 0 where
  refused : Refusal → Answer
  accepted : List Text → Answer

-- the first refusal, or the texts where there is none
unfoldable pub first_of : List Refusal → List Text → Answer
first_of [] ts = accepted ts
first_of (r ∷ rs) ts = refused r

unfoldable pub answer : ℕ → Text → Texts → Answer
answer room f t = first_of (refusals room f t) (ten_texts f t)

-- "The accepted answer is number 0, place 0 and ten lengths". "A refusal has ten zero lengths"
unfoldable pub number_of : Answer → ℕ
number_of (refused r) = r.number
number_of (accepted ts) = 0

unfoldable pub place_of : Answer → ℕ
place_of (refused r) = r.place
place_of (accepted ts) = 0

unfoldable pub lengths_of : Answer → List ℕ
lengths_of (refused r) = replicate 10 0
lengths_of (accepted ts) = map length ts

unfoldable pub outcome : Answer → Outcome
outcome a = record { number = number_of a; place = place_of a; lengths = lengths_of a }

-- "The buffer's first bytes hold the ten texts without gaps; later bytes are untouched." At a refusal "buffer and length sheet stay untouched".
unfoldable pub buffer_after : Text → Answer → Text
buffer_after d (refused r) = d
buffer_after d (accepted ts) = joined ts ++ drop (total ts) d

-- What a resolve is: of a file f, four texts t and a lent buffer, which goes from d to d', it makes the answer r.
pub record Resolved (f : Text) (t : Texts) (d d' : Text) (r : Outcome) : Type 0 where
  pub result : r ≡ outcome (answer (length d) f t)
  pub buffer : d' ≡ buffer_after d (answer (length d) f t)

-- the texts of these lengths that a buffer begins with, "without gaps"
unfoldable pub texts_in : Text → List ℕ → List Text
texts_in d [] = []
texts_in d (n ∷ ns) = take n d ∷ texts_in (drop n d) ns

-- "A caller may ask for one component and gets back that stretch of its own buffer, base and additions together; a component number over 4, or ten
-- lengths whose sum is over the buffer's, get the empty stretch."
unfoldable pub stretch_start : List ℕ → ℕ → ℕ
stretch_start ns c = sum (take (2 * c) ns)

unfoldable pub stretch_length : List ℕ → ℕ → ℕ
stretch_length ns c = stretch_start ns (c + 1) - stretch_start ns c

unfoldable pub stretch : Text → List ℕ → ℕ → Text
stretch d ns c = cond (ltb 4 c || ltb (length d) (sum ns)) [] (take (stretch_length ns c) (drop (stretch_start ns c) d))

-- What every answer is: ten texts that fit, or a refusal with a number of document 01.
unfoldable pub Answered : ℕ → Answer → Type 0
Answered room (accepted ts) = (length ts ≡ 10) × (total ts ≤ room) × (total ts ≤ longest_total)
Answered room (refused r) = (1 ≤ r.number) × (r.number ≤ 11)
