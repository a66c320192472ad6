-- The places of a profile's values in the names' text, which begins with the profile's four texts, one after the other, and `*`.
use Rattle.std.specs.Prelude.{ℕ, zero, suc, ◌+◌, ◌≤◌, ◌<◌, ◌≡◌, List, [], ◌∷◌, ◌++◌, true, ltb, length, get_or, drop}
use Rattle.text.specs.declared.Span.{Span}
use Rattle.text.specs.Limits.{longest_text}
use Rattle.text.specs.Bytes.{Text}
use Rattle.profile.specs.Profile.{Texts, fields}
use Rattle.profile.specs.Spans.{most_values, no_span}
use Rattle.bitsets.specs.Sets.{is_in}
use Rattle.listing.specs.Lists.{text_of, names_of}
use Rattle.names.specs.declared.table.Table.{Table}

unfoldable pub four_texts : Texts → Text
four_texts x = ((x.model ++ x.layouts) ++ x.variants) ++ x.options

-- "Each text is at most 1,024 bytes"
pub record ShortTexts (x : Texts) : Type 0 where
  pub model : length x.model ≤ longest_text
  pub layouts : length x.layouts ≤ longest_text
  pub variants : length x.variants ≤ longest_text
  pub options : length x.options ≤ longest_text

-- the four texts and `*`, which stands at p, are the text, and no name is listed
pub record TextsCopied (x : Texts) (t : Table) (p : Span) : Type 0 where
  pub text : text_of t.list ≡ four_texts x ++ (42 ∷ [])
  pub used : t.list.used ≡ length (four_texts x) + 1
  pub star : p ≡ record { start = length (four_texts x); end = length (four_texts x) + 1 }
  pub names : names_of t.list ≡ []
  pub count : t.list.count ≡ 0

-- a text stands in another from a place on
pub record Lies (s : Text) (base : ℕ) (o : Text) : Type 0 where
  pub after : Text
  pub high : base + length o ≤ length s
  pub text : drop base s ≡ o ++ after

-- where the field of the number j begins, each with a comma behind it
unfoldable pub field_start : List Text → ℕ → ℕ
field_start fs zero = 0
field_start [] (suc j) = 0
field_start (f ∷ fs) (suc j) = length f + 1 + field_start fs j

-- from the place on stands the field of the number j, of a text that stands from `base` on
pub record FieldPlace (fs : List Text) (base j : ℕ) (p : Span) : Type 0 where
  pub starts : p.start ≡ base + field_start fs j
  pub stops : p.end ≡ p.start + length (get_or fs j [])

-- the value of a number is empty, at a place of the text
abbrev pub EmptyAt : ℕ → Span → Type 0
EmptyAt at p = p ≡ record { start = at; end = at }

-- the values from the number `first` up to `end` are empty; the other places are as they were
pub record Emptied (at first end : ℕ) (b b' : List Span) : Type 0 where
  pub size : length b' ≡ length b
  pub here : (j : ℕ) → first ≤ j → j < end → EmptyAt at (get_or b' j no_span)
  pub before : (i : ℕ) → i < first → get_or b' i no_span ≡ get_or b i no_span
  pub beyond : (i : ℕ) → end ≤ i → get_or b' i no_span ≡ get_or b i no_span

-- The first 32 fields have their places, from the value number `first` on; a value that has no field is empty, where
-- the text ends.
pub record FieldsAt (o : Text) (base first : ℕ) (b : List Span) : Type 0 where
  pub here : (j : ℕ) → j < 32 → j < length (fields o) → FieldPlace (fields o) base j (get_or b (first + j) no_span)
  pub none : (j : ℕ) → j < 32 → length (fields o) ≤ j → EmptyAt (base + length o) (get_or b (first + j) no_span)

-- the same, and the places before and behind these are as they were
pub record FieldsPlaced (o : Text) (base first : ℕ) (b b' : List Span) : Type 0 where
  pub size : length b' ≡ length b
  pub placed : FieldsAt o base first b'
  pub before : (i : ℕ) → i < first → get_or b' i no_span ≡ get_or b i no_span
  pub beyond : (i : ℕ) → first + 32 ≤ i → get_or b' i no_span ≡ get_or b i no_span

-- the model, 32 layouts and 32 variants have theirs
pub record AllValuesPlaced (x : Texts) (b : List Span) : Type 0 where
  pub size : length b ≡ most_values
  pub model : get_or b 0 no_span ≡ record { start = 0; end = length x.model }
  pub layouts : FieldsAt x.layouts (length x.model) 1 b
  pub variants : FieldsAt x.variants (length x.model + length x.layouts) 33 b

-- the same, but that a value that has no field is empty at the start of the four texts
pub record ValuesPlaced (x : Texts) (b : List Span) : Type 0 where
  pub size : length b ≡ most_values
  pub model : get_or b 0 no_span ≡ record { start = 0; end = length x.model }
  pub layout : (j : ℕ) → j < length (fields x.layouts) → FieldPlace (fields x.layouts) (length x.model) j (get_or b (1 + j) no_span)
  pub variant : (j : ℕ) → j < length (fields x.variants) → FieldPlace (fields x.variants) (length x.model + length x.layouts) j (get_or b (33 + j) no_span)
  pub no_layout : (j : ℕ) → length (fields x.layouts) ≤ j → j < 32 → get_or b (1 + j) no_span ≡ no_span
  pub no_variant : (j : ℕ) → length (fields x.variants) ≤ j → get_or b (33 + j) no_span ≡ no_span

-- 0 is in the set, and of the numbers 1 to 32 those whose value is not empty
pub record SomeSet (b : List Span) (before r : ℕ) : Type 0 where
  pub first : is_in 0 r ≡ true
  pub at : (k : ℕ) → 1 ≤ k → k ≤ 32 → is_in k r ≡ ltb (get_or b (before + k) no_span).start (get_or b (before + k) no_span).end
