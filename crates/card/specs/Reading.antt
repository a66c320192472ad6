-- A card that is read. Document 02, #102: "Reading puts the texts into the lent output in that order without gaps and returns their lengths".
use Rattle.std.specs.Prelude.{ℕ, ◌≡◌, List, [], ◌++◌, map, Bool, not, ◌||◌, length, ltb, Result, MatchResult}
use Rattle.text.specs.declared.Refusal.{Refusal}
use Rattle.text.specs.declared.faults.Fault.{Fault}
use Rattle.text.specs.Told.{number_of}
use Rattle.text.specs.Bytes.{Text, empty}
use Rattle.text.specs.Refusals.{refused_if}
use Rattle.profile.specs.Refusals.{profile_refusals}
use Rattle.answers.specs.Answer.{total, Answer, refused, accepted, first_of, buffer_after}
use Rattle.card.specs.Card.{section_count, card_profile, sections_in, broken}

-- the fourteen texts of a card
unfoldable pub texts_on : Text → List Text
texts_on s = sections_in section_count s

-- "texts beyond those limits": the first four, by refusals 1 and 2
unfoldable pub beyond : List Text → Bool
beyond ts = not (empty (profile_refusals (card_profile ts)))

-- "on reading, 16 for a broken card or texts beyond those limits"; "From 16 on, numbers have place 0."
unfoldable pub card_refusals : Text → List Refusal
card_refusals s = refused_if (broken section_count s || beyond (texts_on s)) 16 0

-- "then 11 for .. a short buffer"; `room` is its length
unfoldable pub read_refusals : ℕ → Text → List Refusal
read_refusals room s = card_refusals s ++ refused_if (ltb room (total (texts_on s))) 11 0

-- the first refusal of a card by itself, and of a card that is read into a buffer; or the texts
unfoldable pub judged : Text → Answer
judged s = first_of (card_refusals s) (texts_on s)

unfoldable pub read_answer : ℕ → Text → Answer
read_answer room s = first_of (read_refusals room s) (texts_on s)

-- a card that is not refused by itself, and its fourteen texts
pub record Clear (s : Text) (ts : List Text) : Type 0 where
  pub clear : card_refusals s ≡ []
  pub texts : ts ≡ texts_on s

-- What a judgement is: the fourteen lengths of a card that is not refused by itself, or the fault of one that is.
abbrev pub Judges : Text → Result (List ℕ) Fault → Type 0
Judges s r =
    MatchResult r (λ ns. (judged s ≡ accepted (texts_on s)) × (ns ≡ map length (texts_on s)))
    (λ f. judged s ≡ refused (record { number = number_of f; place = 0 }))

-- What a reading is: of a card s it makes the result r, fourteen lengths or a fault, and the buffer goes from d to d'.
pub record Reads (s d d' : Text) (r : Result (List ℕ) Fault) : Type 0 where
  pub result : MatchResult r (λ ns. (read_answer (length d) s ≡ accepted (texts_on s)) × (ns ≡ map length (texts_on s)))
      (λ f. read_answer (length d) s ≡ refused (record { number = number_of f; place = 0 }))
  pub buffer : d' ≡ buffer_after d (read_answer (length d) s)
