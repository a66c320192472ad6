-- What C sees of a card. Document 02, #102, with the sheets of lengths that document 01 has: 40 bytes for ten lengths, and 56 for fourteen.
use Rattle.std.specs.Prelude.{ℕ, ◌+◌, ◌*◌, ◌^◌, ◌≡◌, List, ◌++◌, map, ◌||◌, length, drop, ltb, Result, MatchResult}
use Rattle.text.specs.declared.Refusal.{Refusal}
use Rattle.text.specs.declared.faults.Fault.{Fault}
use Rattle.text.specs.declared.faults.Refusal.{Refusal as Refused}
use Rattle.text.specs.Told.{number_of as fault_of, told_refusal}
use Rattle.text.specs.Bytes.{Text, concat_map}
use Rattle.text.specs.Refusals.{refused_if}
use Rattle.profile.specs.Profile.{Texts}
use Rattle.profile.specs.Refusals.{profile_refusals}
use Rattle.answers.specs.Answer.{Answer, refused, accepted, first_of, buffer_after}
use Rattle.card.specs.Card.{card_of}
use Rattle.card.specs.Writing.{lent_texts, unwritable, card_after}
use Rattle.card.specs.Reading.{texts_on, read_refusals}
use Rattle.xkbrules.specs.Sheet.{sheet_length, little_endian, lengths_in, numbers_from, code}

-- "on writing, 1 and 2 as in 01; .. then 11", also for a sheet under 40 bytes; x is the slice of texts and s the sheet of their ten lengths
unfoldable pub entry_write_refusals : ℕ → Texts → Text → Text → List Refusal
entry_write_refusals room t x s = profile_refusals t ++ refused_if (ltb (length s) sheet_length || unwritable room t x (lengths_in s)) 11 0

unfoldable pub entry_writing : ℕ → Texts → Text → Text → Answer
entry_writing room t x s = first_of (entry_write_refusals room t x s) (lent_texts t x (lengths_in s))

-- the card's length, or a refusal's number times 2^48 plus its place
unfoldable pub write_code : Answer → ℕ
write_code (refused r) = r.number * 2 ^ 48 + r.place
write_code (accepted ts) = length (card_of ts)

-- fourteen lengths, as a sheet holds ten: little-endian 32-bit numbers
abbrev pub card_sheet_length : ℕ
card_sheet_length = 56

unfoldable pub card_lengths_in : Text → List ℕ
card_lengths_in s = numbers_from s 0 14

-- "on reading, 16 ..; then 11", also for a sheet under 56 bytes, last
unfoldable pub entry_read_refusals : ℕ → ℕ → Text → List Refusal
entry_read_refusals room sheet s = read_refusals room s ++ refused_if (ltb sheet card_sheet_length) 11 0

unfoldable pub entry_reading : ℕ → ℕ → Text → Answer
entry_reading room sheet s = first_of (entry_read_refusals room sheet s) (texts_on s)

-- "bytes behind what is written, and on a refusal all, are untouched"
unfoldable pub card_sheet_after : Text → Answer → Text
card_sheet_after s (refused r) = s
card_sheet_after s (accepted ts) = concat_map little_endian (map length ts) ++ drop card_sheet_length s

-- The same results as the code has them: the length of a card that is written, or the first refusal; nothing for a card that is read, or a fault.
pub record EntryWrites (t : Texts) (x s d d' : Text) (r : Result ℕ Refused) : Type 0 where
  pub result : MatchResult r
      (λ n. (entry_writing (length d) t x s ≡ accepted (lent_texts t x (lengths_in s))) × (n ≡ length (card_of (lent_texts t x (lengths_in s)))))
      (λ e. entry_writing (length d) t x s ≡ refused (told_refusal e))
  pub card : d' ≡ card_after d (entry_writing (length d) t x s)

pub record EntryReads (c d d' s s' : Text) (r : Result (Unit {0}) Fault) : Type 0 where
  pub result : MatchResult r (λ _. entry_reading (length d) (length s) c ≡ accepted (texts_on c))
      (λ f. entry_reading (length d) (length s) c ≡ refused (record { number = fault_of f; place = 0 }))
  pub texts : d' ≡ buffer_after d (entry_reading (length d) (length s) c)
  pub sheet : s' ≡ card_sheet_after s (entry_reading (length d) (length s) c)

-- What the entry that writes does: of four texts t, a slice x of texts and a sheet s of ten lengths it returns n, and the card's buffer goes from d to d'.
pub record CardWrites (t : Texts) (x s d d' : Text) (n : ℕ) : Type 0 where
  pub returned : n ≡ write_code (entry_writing (length d) t x s)
  pub card : d' ≡ card_after d (entry_writing (length d) t x s)

-- What the entry that reads does: of a card c it returns n, the buffer for the texts goes from d to d', and the sheet from s to s'.
pub record CardReads (c d d' s s' : Text) (n : ℕ) : Type 0 where
  pub returned : n ≡ code (entry_reading (length d) (length s) c)
  pub texts : d' ≡ buffer_after d (entry_reading (length d) (length s) c)
  pub sheet : s' ≡ card_sheet_after s (entry_reading (length d) (length s) c)
