-- What follows of the entries that write and read a card: a desk reads what the server wrote, and what a desk has read is written so.
use Prim.Native.Nat.{ℕ, zero, suc, ◌+◌, ◌*◌, ◌^◌, ◌≤◌, ◌<◌}
use native.Mathlib.Omega.{arith}
use mathlib.Core.Path.{◌≡◌, refl, sym, ap, ap₂, ◌∙◌}
use mathlib.Core.List.{List, ◌∷◌, ◌++◌, map}
use mathlib.Core.Bool.{◌||◌}
use lib.ListN.{length, take, drop, length-append, length-drop, length-map}
use lib.Seq.{get_or-drop, take-append_seam, drop-append_seam, drop_at}
use lib.Dec.{ltb}
use borrow.Author.Tests.{ltb-false}
use Rattle.text.specs.declared.Refusal.{Refusal}
use Rattle.text.specs.Bytes.{Text, concat_map}
use Rattle.text.specs.Refusals.{refused_if}
use Rattle.text.proofs.Lists.{neither, nil_right, all_append}
use Rattle.text.proofs.Numbers.{clear_if}
use Rattle.profile.specs.Profile.{Texts}
use Rattle.profile.specs.Refusals.{profile_refusals}
use Rattle.answers.specs.Answer.{sum, joined, total, texts_in, Answer, refused, accepted, number_of, place_of, buffer_after}
use Rattle.answers.proofs.Answers.{accepted_first}
use Rattle.answers.proofs.Stretch.{joined_length}
use Rattle.card.specs.Card.{section_count, card_of, card_texts, card_profile, Bytes}
use Rattle.card.specs.Writing.{lent_texts, unwritable, write_answer, card_after}
use Rattle.card.specs.Reading.{texts_on, card_refusals, read_refusals, read_answer}
use Rattle.card.proofs.Limits.{numbered, if_numbered, profile_numbered, Numbered, first_numbered, texts_count}
use Rattle.card.proofs.Format.{card_length_lem}
use Rattle.card.proofs.Spelling.{read_back, read_count, read_short_sum, written_few, spelled_so, written_so, joined_back, texts_behind, sum_behind, texts_cut}
use Rattle.xkbrules.specs.Sheet.{sheet_length, little_endian, number_at, numbers_from, lengths_in, code}
use Rattle.xkbrules.specs.Cards.{entry_write_refusals, entry_writing, write_code, card_sheet_length, card_lengths_in, entry_read_refusals, entry_reading, card_sheet_after, CardWrites, CardReads}
use Rattle.xkbrules.proofs.Sheet.{numbers_back, numbers_length, written_length}
use Rattle.xkbrules.proofs.CardWays.{entry_write, entry_read}

-- a refusal's code is 2^48 or more, so that no length of a card is one
high : (r : Refusal) → Numbered r → 2 ^ 48 ≤ r.number * 2 ^ 48 + r.place
high r v = omega (arith, v.least)

ten : (s : Text) → length (lengths_in s) ≡ 10
unfolding lengths_in
ten s = numbers_length s 0 10

sent_count : (t : Texts) (x : Text) (ns : List ℕ) → length ns ≡ 10 → length (lent_texts t x ns) ≡ section_count
unfolding lent_texts card_texts
sent_count t x ns h = omega (arith, texts_count x ns)

-- the entry that writes

module _ (t : Texts) (x s d : Text) where
  pub write_high : (p : Refusal) → entry_writing (length d) t x s ≡ refused p → Numbered p
  unfolding entry_writing entry_write_refusals
  write_high p h =
      first_numbered (profile_refusals t ++ refused_if (ltb (length s) sheet_length || unwritable (length d) t x (lengths_in s)) 11 0) (lent_texts t x (lengths_in s)) p
      (all_append numbered (profile_refusals t) _ (profile_numbered t) (if_numbered _ 11 0 refl)) h

  sheet_long : (ts : List Text) → entry_writing (length d) t x s ≡ accepted ts → (sheet_length ≤ length s) × (lent_texts t x (lengths_in s) ≡ ts)
  unfolding entry_writing entry_write_refusals
  sheet_long ts h =
      let w = accepted_first (entry_write_refusals (length d) t x s) (lent_texts t x (lengths_in s)) ts h in
      let c = clear_if (ltb (length s) sheet_length || unwritable (length d) t x (lengths_in s)) 11 0 (nil_right (profile_refusals t) _ w.0) in
      (ltb-false (length s) sheet_length (neither (ltb (length s) sheet_length) _ c).0, w.1)

  -- a card that is written
  pub record Sent (d' : Text) (n : ℕ) : Type 0 where
    pub answer : write_answer (length d) t x (lengths_in s) ≡ accepted (lent_texts t x (lengths_in s))
    pub size : n ≡ length (card_of (lent_texts t x (lengths_in s)))
    pub card : take n d' ≡ card_of (lent_texts t x (lengths_in s))
    pub later : drop n d' ≡ drop n d

  sent_so : (d' : Text) (n : ℕ) (ts : List Text) → CardWrites t x s d d' n → entry_writing (length d) t x s ≡ accepted ts → Sent d' n
  unfolding write_code card_after
  sent_so d' n ts v e =
      let w = sheet_long ts e in
      let q : entry_writing (length d) t x s ≡ accepted (lent_texts t x (lengths_in s)) = e ∙ ap accepted (sym w.1) in
      let card = card_of (lent_texts t x (lengths_in s)) in
      let k : n ≡ length card = v.returned ∙ ap write_code q in
      let b : d' ≡ card ++ drop (length card) d = v.card ∙ ap (card_after d) q in
      record {
        answer = sym (entry_write t x s d w.0) ∙ q;
        size = k;
        card = rw (k, b) (take-append_seam card (drop (length card) d));
        later = rw (k, b) (drop-append_seam card (drop (length card) d));
      }

  sent_when : (d' : Text) (n : ℕ) → CardWrites t x s d d' n → n < 2 ^ 48 → (a : Answer) → entry_writing (length d) t x s ≡ a → Sent d' n
  unfolding write_code
  sent_when d' n v h (refused p) e = let k : n ≡ p.number * 2 ^ 48 + p.place = v.returned ∙ ap write_code e in absurd (omega (arith, high p (write_high p e)))
  sent_when d' n v h (accepted ts) e = sent_so d' n ts v e

  pub sent : (d' : Text) (n : ℕ) → CardWrites t x s d d' n → n < 2 ^ 48 → Sent d' n
  sent d' n v h = sent_when d' n v h (entry_writing (length d) t x s) refl

  -- a refusal leaves the buffer as it was
  write_kept : (d' : Text) (n : ℕ) → CardWrites t x s d d' n → 2 ^ 48 ≤ n → (a : Answer) → entry_writing (length d) t x s ≡ a → d' ≡ d
  unfolding write_code card_after
  write_kept d' n v h (refused p) e = v.card ∙ ap (card_after d) e
  write_kept d' n v h (accepted ts) e =
      let w = sent_so d' n ts v e in
      let k = written_few (length d) t x (lengths_in s) (lent_texts t x (lengths_in s)) w.answer (ten s) in
      let l = card_length_lem (lent_texts t x (lengths_in s)) in
      let m = sent_count t x (lengths_in s) (ten s) in
      absurd (omega (arith, w.size))

  pub unsent : (d' : Text) (n : ℕ) → CardWrites t x s d d' n → 2 ^ 48 ≤ n → d' ≡ d
  unsent d' n v h = write_kept d' n v h (entry_writing (length d) t x s) refl

-- the entry that reads

module _ (c e sh : Text) where
  read_high : (p : Refusal) → entry_reading (length e) (length sh) c ≡ refused p → Numbered p
  unfolding entry_reading entry_read_refusals read_refusals card_refusals
  read_high p h =
      first_numbered (read_refusals (length e) c ++ refused_if (ltb (length sh) card_sheet_length) 11 0) (texts_on c) p
      (all_append numbered (read_refusals (length e) c) _
      (all_append numbered (card_refusals c) _ (if_numbered _ 16 0 refl) (if_numbered _ 11 0 refl)) (if_numbered _ 11 0 refl)) h

  read_long : (ts : List Text) → entry_reading (length e) (length sh) c ≡ accepted ts → card_sheet_length ≤ length sh
  unfolding entry_reading entry_read_refusals
  read_long ts h =
      let w = accepted_first (entry_read_refusals (length e) (length sh) c) (texts_on c) ts h in
      ltb-false (length sh) card_sheet_length (clear_if (ltb (length sh) card_sheet_length) 11 0 (nil_right (read_refusals (length e) c) _ w.0))

  -- what a desk has after an accepted card
  pub record Had (e' sh' : Text) (ts : List Text) : Type 0 where
    pub lengths : card_lengths_in sh' ≡ map length ts
    pub texts : texts_in e' (card_lengths_in sh') ≡ ts
    pub room : sum (card_lengths_in sh') ≤ length e'
    pub later : drop (total ts) e' ≡ drop (total ts) e
    pub sheet : drop card_sheet_length sh' ≡ drop card_sheet_length sh
    pub long : card_sheet_length ≤ length sh'

  had : (e' sh' : Text) (ts : List Text) → length ts ≡ section_count → total ts < 2 ^ 32 → card_sheet_length ≤ length sh → e' ≡ buffer_after e (accepted ts) →
      sh' ≡ card_sheet_after sh (accepted ts) → Had e' sh' ts
  unfolding buffer_after card_sheet_after card_lengths_in total
  had e' sh' ts count few long b g =
      let ns = map length ts in
      let m : length ns ≡ 14 = length-map ts length ∙ count in
      let w : length (concat_map little_endian ns) ≡ card_sheet_length = written_length ns ∙ omega arith in
      let l : numbers_from sh' 0 14 ≡ ns = rw (g, ← m) (numbers_back ns (drop card_sheet_length sh) few) in
      let j : length (joined ts) ≡ sum ns = joined_length ts in
      record {
        lengths = l;
        texts = rw (l, b) (joined_back ts (drop (sum ns) e));
        room = rw (l, b) (omega (arith, length-append (joined ts) (drop (sum ns) e)));
        later = ap (drop (sum ns)) b ∙ drop_at (joined ts) (drop (sum ns) e) (sum ns) j;
        sheet = ap (drop card_sheet_length) g ∙ drop_at (concat_map little_endian ns) (drop card_sheet_length sh) card_sheet_length w;
        long = rw g (omega (arith, length-append (concat_map little_endian ns) (drop card_sheet_length sh)));
      }

-- a refusal leaves both buffers as they were
module _ (c e e' sh sh' : Text) (m : ℕ) (v : CardReads c e e' sh sh' m) (h : m ≡ 0 → ⊥) where
  read_kept : (a : Answer) → entry_reading (length e) (length sh) c ≡ a → (e' ≡ e) × (sh' ≡ sh)
  unfolding code number_of place_of buffer_after card_sheet_after
  read_kept (refused p) q = (v.texts ∙ ap (buffer_after e) q, v.sheet ∙ ap (card_sheet_after sh) q)
  read_kept (accepted ts) q = absurd (h (v.returned ∙ ap code q))

  pub unread : (e' ≡ e) × (sh' ≡ sh)
  unread = read_kept (entry_reading (length e) (length sh) c) refl

-- an accepted card
module _ (c e e' sh sh' : Text) (v : CardReads c e e' sh sh' 0) where
  accepts : (a : Answer) → entry_reading (length e) (length sh) c ≡ a → (card_sheet_length ≤ length sh) × (entry_reading (length e) (length sh) c ≡ accepted (texts_on c))
  unfolding code number_of place_of entry_reading
  accepts (refused p) q =
      let k : 0 ≡ p.number * 2 ^ 48 + p.place = v.returned ∙ ap code q in
      absurd (omega (arith, high p (read_high c e sh p q)))
  accepts (accepted ts) q =
      let w = accepted_first (entry_read_refusals (length e) (length sh) c) (texts_on c) ts q in
      (read_long c e sh ts q, q ∙ ap accepted (sym w.1))

  abbrev taken : (card_sheet_length ≤ length sh) × (entry_reading (length e) (length sh) c ≡ accepted (texts_on c))
  taken = accepts (entry_reading (length e) (length sh) c) refl

  pub read_answer_lem : read_answer (length e) c ≡ accepted (texts_on c)
  read_answer_lem = sym (entry_read c e sh taken.0) ∙ taken.1

  -- the texts of a card of bytes are where the lengths say
  pub read_had : Bytes c → Had c e sh e' sh' (texts_on c)
  read_had b =
      had c e sh e' sh' (texts_on c) (read_count (length e) c (texts_on c) read_answer_lem)
      (omega (arith, read_short_sum (length e) c (texts_on c) read_answer_lem b)) taken.0 (v.texts ∙ ap (buffer_after e) taken.1) (v.sheet ∙ ap (card_sheet_after sh) taken.1)

-- a desk reads what the server wrote
module _ (t : Texts) (x s d d' : Text) (n : ℕ) (v : CardWrites t x s d d' n) (done : n < 2 ^ 48) where
  abbrev ts : List Text
  ts = lent_texts t x (lengths_in s)

  module _ (e e' sh sh' : Text) (m : ℕ) (w : CardReads (take n d') e e' sh sh' m) (long : card_sheet_length ≤ length sh) (room : total ts ≤ length e) where
    read_so : read_answer (length e) (card_of ts) ≡ accepted ts
    read_so = read_back (length d) t x (lengths_in s) ts (sent t x s d d' n v done).answer (ten s) (length e) room

    entered : entry_reading (length e) (length sh) (take n d') ≡ accepted ts
    entered = rw (sent t x s d d' n v done).card (entry_read (card_of ts) e sh long ∙ read_so)

    pub desk_number : m ≡ 0
    unfolding code number_of place_of
    desk_number = w.returned ∙ ap code entered

    pub desk_had : Had (take n d') e sh e' sh' ts
    desk_had =
        had (take n d') e sh e' sh' ts (read_count (length e) (card_of ts) ts read_so) (sent_few (sent t x s d d' n v done).answer (ten s)) long
        (w.texts ∙ ap (buffer_after e) entered) (w.sheet ∙ ap (card_sheet_after sh) entered)
      where
        sent_few : write_answer (length d) t x (lengths_in s) ≡ accepted ts → length (lengths_in s) ≡ 10 → total ts < 2 ^ 32
        sent_few q k = omega (arith, written_few (length d) t x (lengths_in s) ts q k)

-- what a desk has read is written as the card that it read

number_drop : (s : Text) (k i : ℕ) → number_at (drop k s) i ≡ number_at s (k + i)
unfolding number_at
number_drop s k i =
    let a : k + (i + 1) ≡ k + i + 1 = omega arith in
    let b : k + (i + 2) ≡ k + i + 2 = omega arith in
    let c : k + (i + 3) ≡ k + i + 3 = omega arith in
    rw (get_or-drop k s (i + 1) 0, get_or-drop k s (i + 2) 0, get_or-drop k s (i + 3) 0, get_or-drop k s i 0, a, b, c)

numbers_drop : (s : Text) (k i n : ℕ) → numbers_from (drop k s) i n ≡ numbers_from s (k + i) n
unfolding numbers_from
numbers_drop s k i zero = refl
numbers_drop s k i (suc n) =
    let e : k + (i + 4) ≡ k + i + 4 = omega arith in
    ap₂ ◌∷◌ (number_drop s k i) (numbers_drop s k (i + 4) n ∙ ap (λ j. numbers_from s j n) e)

numbers_behind : (s : Text) (i k n : ℕ) → drop k (numbers_from s i (k + n)) ≡ numbers_from s (i + 4 * k) n
unfolding numbers_from
numbers_behind s i zero n =
    let a : zero + n ≡ n = omega arith in
    let b : i + 4 * zero ≡ i = omega arith in
    rw (a, b)
numbers_behind s i (suc k) n =
    let a : suc k + n ≡ suc (k + n) = omega arith in
    let b : i + 4 + 4 * k ≡ i + 4 * suc k = omega arith in
    rw a (numbers_behind s (i + 4) k n ∙ ap (λ j. numbers_from s j n) b)

ten_behind : (s : Text) → lengths_in (drop 16 s) ≡ drop 4 (card_lengths_in s)
unfolding lengths_in card_lengths_in
ten_behind s = numbers_drop s 16 0 10 ∙ sym (numbers_behind s 0 4 10)

module _ (c e e' sh sh' : Text) (v : CardReads c e e' sh sh' 0) (b : Bytes c) where
  abbrev ns : List ℕ
  ns = card_lengths_in sh'

  -- the profile, the ten texts and their lengths, where the reading left them
  abbrev pub read_profile : Texts
  read_profile = card_profile (texts_in e' ns)

  abbrev pub read_texts : Text
  read_texts = drop (sum (take 4 ns)) e'

  same_texts : lent_texts read_profile read_texts (lengths_in (drop 16 sh')) ≡ texts_on c
  unfolding lent_texts
  same_texts =
      let h = read_had c e e' sh sh' v b in
      rw (ten_behind sh', texts_behind 4 e' ns, h.texts) (texts_cut (texts_on c) (read_count (length e) c (texts_on c) (read_answer_lem c e e' sh sh' v)))

  same_sum : sum (lengths_in (drop 16 sh')) ≤ length read_texts
  same_sum =
      let h = read_had c e e' sh sh' v b in
      rw (ten_behind sh') (omega (arith, h.room, sum_behind 4 ns, length-drop (sum (take 4 ns)) e'))

  module _ (d d' : Text) (n : ℕ) (w : CardWrites read_profile read_texts (drop 16 sh') d d' n) (room : length c ≤ length d) where
    writes_so : entry_writing (length d) read_profile read_texts (drop 16 sh') ≡ accepted (texts_on c)
    writes_so =
        let h = read_had c e e' sh sh' v b in
        entry_write read_profile read_texts (drop 16 sh') d (omega (arith, h.long, length-drop 16 sh'))
        ∙ written_so (length e) c (texts_on c) (read_answer_lem c e e' sh sh' v) b read_profile read_texts (lengths_in (drop 16 sh')) same_texts same_sum (length d) room

    spelled : card_of (texts_on c) ≡ c
    spelled = spelled_so (length e) c (texts_on c) (read_answer_lem c e e' sh sh' v) b

    pub server_number : n ≡ length c
    unfolding write_code
    server_number = w.returned ∙ ap write_code writes_so ∙ ap length spelled

    pub server_card : take n d' ≡ c
    unfolding card_after
    server_card =
        let k : d' ≡ c ++ drop (length c) d = w.card ∙ ap (card_after d) writes_so ∙ rw spelled in
        rw (server_number, k) (take-append_seam c (drop (length c) d))
