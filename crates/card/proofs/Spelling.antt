-- What a card says: reading gives back what was written, and each card has one spelling.
use Prim.Native.Nat.{ℕ, zero, suc, ◌+◌, ◌*◌, ◌≤◌}
use native.Mathlib.Omega.{arith}
use mathlib.Core.Path.{◌≡◌, refl, sym, ap, ◌∙◌}
use mathlib.Core.List.{List, [], ◌∷◌, ◌++◌, map, append_assoc}
use mathlib.Core.Bool.{false, not}
use lib.ListN.{length, take, drop, length-map}
use lib.Seq.{take-append_seam, drop-append_seam, drop-drop}
use borrow.Author.Tests.{le-ltb}
use Rattle.text.specs.Bytes.{Text, empty, any_of}
use Rattle.text.proofs.Lists.{no, neither, nil_left, nil_right}
use Rattle.text.proofs.Numbers.{clear_if}
use Rattle.profile.specs.Profile.{Texts}
use Rattle.profile.specs.Refusals.{profile_refusals}
use Rattle.answers.specs.Answer.{sum, joined, total, texts_in, accepted}
use Rattle.answers.proofs.Answers.{accepted_first}
use Rattle.card.specs.Card.{longest_section, section_count, card_of, card_texts, card_profile, sections_in, broken, Bytes}
use Rattle.card.specs.Writing.{lent_texts, long_section, unwritable, write_refusals, write_answer}
use Rattle.card.specs.Reading.{texts_on, beyond, card_refusals, read_refusals, read_answer}
use Rattle.card.proofs.Format.{sections_back, unbroken_back, card_back, sections_short, section_count_lem}
use Rattle.card.proofs.Limits.{limited, lengths_in_lem, texts_count, texts_total, sum_short}
use Rattle.card.proofs.Written.{answer_written, able}
use Rattle.card.proofs.Judged.{read_whole}

pub profile_back : (t : Texts) (us : List Text) → card_profile (card_texts t us) ≡ t
unfolding card_profile card_texts
profile_back t us = refl

-- a list of refusals whose emptiness is known
none : {A : Type 0} (rs : List A) → not (empty rs) ≡ false → rs ≡ []
unfolding empty
none [] h = refl
none (r ∷ rs) h = absurd (no (sym h))

-- an accepted writing
module _ (room : ℕ) (t : Texts) (x : Text) (ns : List ℕ) (ts : List Text) (h : write_answer room t x ns ≡ accepted ts) where
  first : (write_refusals room t x ns ≡ []) × (lent_texts t x ns ≡ ts)
  unfolding write_answer
  first = accepted_first (write_refusals room t x ns) (lent_texts t x ns) ts h

  pub written_texts : ts ≡ lent_texts t x ns
  written_texts = sym first.1

  pub written_profile : profile_refusals t ≡ []
  unfolding write_refusals
  written_profile = nil_left (profile_refusals t) _ first.0

  written_able : unwritable room t x ns ≡ false
  unfolding write_refusals
  written_able = clear_if (unwritable room t x ns) 11 0 (nil_right (profile_refusals t) _ first.0)

  pub written_sum : sum ns ≤ length x
  written_sum = (able room t x ns written_able).1

  pub written_room : length (card_of ts) ≤ room
  written_room = rw written_texts (able room t x ns written_able).2

  lent_short : any_of long_section (map length (lent_texts t x ns)) ≡ false
  unfolding lent_texts card_texts any_of long_section
  lent_short =
      let l = limited t written_profile in
      let a : length t.model ≤ longest_section = omega (arith, l.model) in
      let b : length t.layouts ≤ longest_section = omega (arith, l.layouts) in
      let c : length t.variants ≤ longest_section = omega (arith, l.variants) in
      let d : length t.options ≤ longest_section = omega (arith, l.options) in
      rw (le-ltb longest_section _ a, le-ltb longest_section _ b, le-ltb longest_section _ c, le-ltb longest_section _ d, lengths_in_lem x ns written_sum) (able room t x ns written_able).0

  -- ten lengths that fit a card, behind four texts within the limits
  pub written_few : length ns ≡ 10 → total ts ≤ 4096 + longest_section * 10
  unfolding lent_texts card_texts total sum
  written_few ten =
      let l = limited t written_profile in
      let k = sum_short ns (able room t x ns written_able).0 in
      rw written_texts (omega (arith, l.model, l.layouts, l.variants, l.options, texts_total x ns written_sum))

  -- "With room, reading back gives what was written"
  module _ (ten : length ns ≡ 10) where
    count : length ts ≡ section_count
    unfolding lent_texts card_texts
    count = rw (written_texts) (omega (arith, texts_count x ns))

    pub texts_back : texts_on (card_of ts) ≡ ts
    unfolding texts_on
    texts_back = ap (λ n. sections_in n (card_of ts)) (sym count) ∙ sections_back ts (rw written_texts lent_short)

    pub whole_back : broken section_count (card_of ts) ≡ false
    whole_back = ap (λ n. broken n (card_of ts)) (sym count) ∙ unbroken_back ts (rw written_texts lent_short)

    within_back : beyond (texts_on (card_of ts)) ≡ false
    unfolding beyond empty lent_texts
    within_back = rw (texts_back, written_texts, profile_back t (texts_in x ns), written_profile)

    pub read_back : (room' : ℕ) → total ts ≤ room' → read_answer room' (card_of ts) ≡ accepted ts
    read_back room' k =
        read_whole room' (card_of ts) (rw (whole_back, within_back)) (rw texts_back k) ∙ ap accepted texts_back

-- the ten texts behind a profile are short where all are
ten_short : (t : Texts) (us : List Text) → any_of long_section (map length (card_texts t us)) ≡ false → any_of long_section (map length us) ≡ false
unfolding card_texts any_of
ten_short t us h =
    let a = neither (long_section (length t.model)) _ h in
    let b = neither (long_section (length t.layouts)) _ a.1 in
    let c = neither (long_section (length t.variants)) _ b.1 in
    (neither (long_section (length t.options)) _ c.1).1

-- an accepted card
module _ (room : ℕ) (s : Text) (ts : List Text) (h : read_answer room s ≡ accepted ts) where
  read_first : (read_refusals room s ≡ []) × (texts_on s ≡ ts)
  unfolding read_answer
  read_first = accepted_first (read_refusals room s) (texts_on s) ts h

  pub read_texts_lem : ts ≡ texts_on s
  read_texts_lem = sym read_first.1

  sound : (broken section_count s ≡ false) × (beyond (texts_on s) ≡ false)
  unfolding read_refusals card_refusals
  sound = neither (broken section_count s) (beyond (texts_on s)) (clear_if _ 16 0 (nil_left (card_refusals s) _ read_first.0))

  pub read_profile_lem : profile_refusals (card_profile ts) ≡ []
  unfolding beyond
  read_profile_lem = rw read_texts_lem (none (profile_refusals (card_profile (texts_on s))) sound.1)

  module _ (b : Bytes s) where
    -- its bytes are those of its texts
    pub spelled_so : card_of ts ≡ s
    unfolding texts_on
    spelled_so = rw read_texts_lem (card_back section_count s b sound.0)

    sections_so : any_of long_section (map length ts) ≡ false
    unfolding texts_on
    sections_so = rw read_texts_lem (sections_short section_count s b sound.0)

    -- "every accepted card is the one that writing would give"
    module _ (t : Texts) (x : Text) (ns : List ℕ) (e : lent_texts t x ns ≡ ts) (l : sum ns ≤ length x) (room' : ℕ) (k : length s ≤ room') where
      clear : profile_refusals t ≡ []
      unfolding lent_texts
      clear = ap profile_refusals (sym (profile_back t (texts_in x ns)) ∙ ap card_profile e) ∙ read_profile_lem

      able_short : any_of long_section ns ≡ false
      unfolding lent_texts
      able_short = ap (any_of long_section) (sym (lengths_in_lem x ns l)) ∙ ten_short t (texts_in x ns) (ap (λ us. any_of long_section (map length us)) e ∙ sections_so)

      able_room : length (card_of (lent_texts t x ns)) ≤ room'
      able_room = omega (arith, ap (λ us. length (card_of us)) e, ap length spelled_so)

      able_so : unwritable room' t x ns ≡ false
      unfolding unwritable
      able_so = rw (able_short, le-ltb (length x) (sum ns) l, le-ltb room' (length (card_of (lent_texts t x ns))) able_room)

      pub written_so : write_answer room' t x ns ≡ accepted ts
      written_so = answer_written room' t x ns clear able_so ∙ ap accepted e

-- "each card still has one spelling"
pub one_spelling : (room room' : ℕ) (s s' : Text) (ts : List Text) → Bytes s → Bytes s' → read_answer room s ≡ accepted ts → read_answer room' s' ≡ accepted ts → s ≡ s'
one_spelling room room' s s' ts b b' h k = sym (spelled_so room s ts h b) ∙ spelled_so room' s' ts k b'

-- the texts of a buffer

pub joined_back : (ts : List Text) (r : Text) → texts_in (joined ts ++ r) (map length ts) ≡ ts
unfolding texts_in joined
joined_back [] r = refl
joined_back (t ∷ ts) r = rw (append_assoc t (joined ts) r, take-append_seam t (joined ts ++ r), drop-append_seam t (joined ts ++ r), joined_back ts r)

-- those behind the first k begin behind their lengths' sum
pub texts_behind : (k : ℕ) (d : Text) (ns : List ℕ) → texts_in (drop (sum (take k ns)) d) (drop k ns) ≡ drop k (texts_in d ns)
unfolding texts_in sum
texts_behind zero d ns = refl
texts_behind (suc k) d [] = refl
texts_behind (suc k) d (n ∷ ns) = rw (← drop-drop (sum (take k ns)) n d) (texts_behind k (drop n d) ns)

pub sum_behind : (k : ℕ) (ns : List ℕ) → sum (take k ns) + sum (drop k ns) ≡ sum ns
unfolding sum
sum_behind zero ns = omega arith
sum_behind (suc k) [] = refl
sum_behind (suc k) (n ∷ ns) = omega (arith, sum_behind k ns)

-- fourteen texts are a profile and the ten behind it
pub texts_cut : (ts : List Text) → length ts ≡ section_count → card_texts (card_profile ts) (drop 4 ts) ≡ ts
unfolding card_texts card_profile
texts_cut [] h = absurd (omega arith)
texts_cut (a ∷ []) h = absurd (omega arith)
texts_cut (a ∷ b ∷ []) h = absurd (omega arith)
texts_cut (a ∷ b ∷ c ∷ []) h = absurd (omega arith)
texts_cut (a ∷ b ∷ c ∷ d ∷ ts) h = refl

-- how many texts an accepted card has, and how long they are
module _ (room : ℕ) (s : Text) (ts : List Text) (h : read_answer room s ≡ accepted ts) where
  pub read_count : length ts ≡ section_count
  unfolding texts_on
  read_count = rw (read_texts_lem room s ts h) (section_count_lem section_count s)

  pub read_short_sum : Bytes s → total ts ≤ longest_section * section_count
  unfolding total
  read_short_sum b =
      let k : length (map length ts) ≡ section_count = length-map ts length ∙ read_count in
      omega (arith, k, sum_short (map length ts) (sections_so room s ts h b))
