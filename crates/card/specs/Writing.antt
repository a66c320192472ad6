-- A card that is written. Document 02, #102. Lent are the four texts t of a profile, a slice x of texts, ten lengths ns of texts in it, and a buffer.
use Rattle.std.specs.Prelude.{ℕ, ◌+◌, ◌≤◌, ◌≡◌, List, ◌++◌, Bool, ◌||◌, length, drop, ltb, Result, MatchResult}
use Rattle.text.specs.declared.Refusal.{Refusal}
use Rattle.text.specs.declared.faults.Refusal.{Refusal as Refused}
use Rattle.text.specs.Told.{told_refusal}
use Rattle.text.specs.Limits.{longest_text}
use Rattle.text.specs.Bytes.{Text, any_of}
use Rattle.text.specs.Refusals.{refused_if}
use Rattle.profile.specs.Profile.{Texts}
use Rattle.profile.specs.Refusals.{profile_refusals}
use Rattle.answers.specs.Answer.{sum, texts_in, Answer, refused, accepted, first_of}
use Rattle.card.specs.Card.{longest_section, card_of, card_texts}

-- the fourteen texts: bytes behind the lengths' sum are ignored
unfoldable pub lent_texts : Texts → Text → List ℕ → List Text
lent_texts t x ns = card_texts t (texts_in x ns)

-- "a section over 65,535 bytes". The four texts of a profile that is not refused are shorter.
unfoldable pub long_section : ℕ → Bool
long_section n = ltb longest_section n

-- "11 for a section over 65,535 bytes, lengths past the lent texts or a short buffer"; `room` is the length of the buffer
unfoldable pub unwritable : ℕ → Texts → Text → List ℕ → Bool
unwritable room t x ns = any_of long_section ns || (ltb (length x) (sum ns) || ltb room (length (card_of (lent_texts t x ns))))

-- "Refusals: on writing, 1 and 2 as in 01; .. then 11"
unfoldable pub write_refusals : ℕ → Texts → Text → List ℕ → List Refusal
write_refusals room t x ns = profile_refusals t ++ refused_if (unwritable room t x ns) 11 0

-- the first refusal, or the texts of the card
unfoldable pub write_answer : ℕ → Texts → Text → List ℕ → Answer
write_answer room t x ns = first_of (write_refusals room t x ns) (lent_texts t x ns)

-- "bytes behind what is written, and on a refusal all, are untouched"
unfoldable pub card_after : Text → Answer → Text
card_after d (refused r) = d
card_after d (accepted ts) = card_of ts ++ drop (length (card_of ts)) d

-- What a writing is: of what it is lent it makes the result r, the length of the card or the first refusal, and the buffer goes from d to d'.
pub record Writes (t : Texts) (x : Text) (ns : List ℕ) (d d' : Text) (r : Result ℕ Refused) : Type 0 where
  pub result : MatchResult r
      (λ n. (write_answer (length d) t x ns ≡ accepted (lent_texts t x ns)) × (n ≡ length (card_of (lent_texts t x ns))))
      (λ e. write_answer (length d) t x ns ≡ refused (told_refusal e))
  pub card : d' ≡ card_after d (write_answer (length d) t x ns)

-- four texts that a card of this room has place for at its start
pub record Short (t : Texts) (room : ℕ) : Type 0 where
  pub model : length t.model ≤ longest_text
  pub layouts : length t.layouts ≤ longest_text
  pub variants : length t.variants ≤ longest_text
  pub options : length t.options ≤ longest_text
  pub fits : 8 + (length t.model + length t.layouts + length t.variants + length t.options) ≤ room
