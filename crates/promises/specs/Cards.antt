-- What is promised of every desk card. Document 02, #102. First over the definitions, then over what the running entries for C leave. Each proof cites a law.
-- `write_answer room t x ns` is the answer of a writing that is lent the four texts t of a profile, a slice x of texts, ten lengths ns and a buffer of `room`
-- bytes; `read_answer room s` that of a reading of the card s; an accepted answer has the fourteen texts.
use Rattle.std.specs.Prelude.{ℕ, ◌^◌, ◌≤◌, ◌<◌, ◌≡◌, List, map, length, take, drop}
use Rattle.text.specs.declared.Refusal.{Refusal}
use Rattle.text.specs.Bytes.{Text}
use Rattle.profile.specs.Profile.{Texts}
use Rattle.answers.specs.Answer.{sum, total, texts_in, refused, accepted, buffer_after}
use Rattle.card.specs.Card.{card_of, card_profile, Bytes}
use Rattle.card.specs.Writing.{lent_texts, write_answer, card_after}
use Rattle.card.specs.Reading.{read_answer}
use Rattle.card.proofs.Spelling as spelling
use Rattle.card.proofs.Judged as judged
use Rattle.xkbrules.specs.Sheet.{lengths_in}
use Rattle.xkbrules.specs.Cards.{card_sheet_length, card_lengths_in, CardWrites, CardReads}
use Rattle.xkbrules.proofs.Desk as desk

-- "With room, reading back gives what was written": the texts, and so their fourteen lengths.
pub read_back : (room : ℕ) (t : Texts) (x : Text) (ns : List ℕ) (ts : List Text) → length ns ≡ 10 → write_answer room t x ns ≡ accepted ts →
    (room' : ℕ) → total ts ≤ room' → read_answer room' (card_of ts) ≡ accepted ts
read_back room t x ns ts ten h = spelling.read_back room t x ns ts h ten

-- What was written are the four texts and the ten that were lent, and the card fits the buffer.
pub what_was_written : (room : ℕ) (t : Texts) (x : Text) (ns : List ℕ) (ts : List Text) → write_answer room t x ns ≡ accepted ts →
    (ts ≡ lent_texts t x ns) × (length (card_of ts) ≤ room)
what_was_written room t x ns ts h = (spelling.written_texts room t x ns ts h, spelling.written_room room t x ns ts h)

-- "every accepted card is the one that writing would give": its bytes are those of its texts,
pub spelled_so : (room : ℕ) (s : Text) (ts : List Text) → Bytes s → read_answer room s ≡ accepted ts → card_of ts ≡ s
spelled_so room s ts b h = spelling.spelled_so room s ts h b

-- and writing these texts, from whatever they are lent, is accepted with room for it.
pub written_so : (room : ℕ) (s : Text) (ts : List Text) → Bytes s → read_answer room s ≡ accepted ts →
    (t : Texts) (x : Text) (ns : List ℕ) → lent_texts t x ns ≡ ts → sum ns ≤ length x → (room' : ℕ) → length s ≤ room' → write_answer room' t x ns ≡ accepted ts
written_so room s ts b h = spelling.written_so room s ts h b

-- So each card has one spelling: two cards with the same texts are the same bytes.
pub one_spelling : (room room' : ℕ) (s s' : Text) (ts : List Text) → Bytes s → Bytes s' → read_answer room s ≡ accepted ts → read_answer room' s' ≡ accepted ts → s ≡ s'
one_spelling = spelling.one_spelling

-- "From 16 on, numbers have place 0", and so has 11.
pub place_zero : (room : ℕ) (s : Text) (p : Refusal) → read_answer room s ≡ refused p → p.place ≡ 0
place_zero = judged.place_zero

-- "bytes behind what is written, and on a refusal all, are untouched": on a refusal of either,
pub cards_kept : (d : Text) (p : Refusal) → (card_after d (refused p) ≡ d) × (buffer_after d (refused p) ≡ d)
unfolding card_after buffer_after
cards_kept d p = ((λ i. d), (λ i. d))

-- The same of the running entries. Their contracts are `CardWrites t x s d d' n`: of four texts t, texts x and a sheet s of lengths it returns n, and the card's
-- buffer goes from d to d'; and `CardReads c e e' sh sh' m`: of a card c it returns m, the buffer for texts goes from e to e' and the sheet from sh to sh'.

-- Below 2^48 a writing returns the card's length, the buffer begins with the card, and later bytes are untouched;
pub entry_sent : (t : Texts) (x s d d' : Text) (n : ℕ) → CardWrites t x s d d' n → n < 2 ^ 48 →
    (n ≡ length (card_of (lent_texts t x (lengths_in s)))) × (take n d' ≡ card_of (lent_texts t x (lengths_in s))) × (drop n d' ≡ drop n d)
entry_sent t x s d d' n v h = let w = desk.sent t x s d d' n v h in (w.size, w.card, w.later)

-- any other number is a refusal, and the buffer is as it was.
pub entry_unsent : (t : Texts) (x s d d' : Text) (n : ℕ) → CardWrites t x s d d' n → 2 ^ 48 ≤ n → d' ≡ d
entry_unsent t x s d d' n v h = desk.unsent t x s d d' n v h

-- A number other than 0 is a refusal of a reading, and both buffers are as they were.
pub entry_unread : (c e e' sh sh' : Text) (m : ℕ) → CardReads c e e' sh sh' m → (m ≡ 0 → ⊥) → (e' ≡ e) × (sh' ≡ sh)
entry_unread c e e' sh sh' m v h = desk.unread c e e' sh sh' m v h

-- "With room, reading back gives what was written": a desk that is sent the bytes that the server wrote accepts them; the sheet holds the fourteen lengths, and
-- the buffer begins with the fourteen texts "in that order without gaps". Later bytes of both are untouched.
module _ (t : Texts) (x s d d' : Text) (n : ℕ) (v : CardWrites t x s d d' n) (done : n < 2 ^ 48)
    (e e' sh sh' : Text) (m : ℕ) (w : CardReads (take n d') e e' sh sh' m)
    (long : card_sheet_length ≤ length sh)
    (room : total (lent_texts t x (lengths_in s)) ≤ length e) where
  pub entry_read_back : (m ≡ 0) × (card_lengths_in sh' ≡ map length (lent_texts t x (lengths_in s))) × (texts_in e' (card_lengths_in sh') ≡ lent_texts t x (lengths_in s))
  entry_read_back =
      let h = desk.desk_had t x s d d' n v done e e' sh sh' m w long room in
      (desk.desk_number t x s d d' n v done e e' sh sh' m w long room, h.lengths, h.texts)

  pub entry_later : (drop (total (lent_texts t x (lengths_in s))) e' ≡ drop (total (lent_texts t x (lengths_in s))) e) × (drop card_sheet_length sh' ≡ drop card_sheet_length sh)
  entry_later = let h = desk.desk_had t x s d d' n v done e e' sh sh' m w long room in (h.later, h.sheet)

-- "every accepted card is the one that writing would give": what an accepted card c was read into, lent to a writing (the ten texts begin behind the first four,
-- and their sheet is the last 40 of the 56 bytes), gives c again, with room for it.
module _ (c e e' sh sh' : Text) (v : CardReads c e e' sh sh' 0) (b : Bytes c)
    (d d' : Text) (n : ℕ)
    (w : CardWrites (card_profile (texts_in e' (card_lengths_in sh'))) (drop (sum (take 4 (card_lengths_in sh'))) e') (drop 16 sh') d d' n)
    (room : length c ≤ length d) where
  pub entry_written_so : (n ≡ length c) × (take n d' ≡ c)
  entry_written_so = (desk.server_number c e e' sh sh' v b d d' n w room, desk.server_card c e e' sh sh' v b d d' n w room)
