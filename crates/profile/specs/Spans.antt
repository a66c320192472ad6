-- Where a profile's values stand in one text, as 65 spans: number 0 is the model, 1 to 32 are the layouts, 33 to 64
-- the variants. Document 01, "The profile".
use Rattle.std.specs.Prelude.{ℕ, zero, suc, ◌+◌, ◌-◌, ◌≤◌, ◌<◌, ◌≡◌, List, [], ◌∷◌, false, length, get_or}
use Rattle.text.specs.declared.Span.{Span}
use Rattle.text.specs.Limits.{longest_field}
use Rattle.text.specs.Bytes.{Text, part}
use Rattle.profile.specs.Profile.{Texts, Profile, fields}

-- the model, 32 layouts, 32 variants
abbrev pub most_values : ℕ
most_values = 65

-- the numbers before the first layout's, and before the first variant's
abbrev pub before_layouts : ℕ
before_layouts = 0

abbrev pub before_variants : ℕ
before_variants = 32

abbrev pub no_span : Span
no_span = record { start = 0; end = 0 }

-- the value of a number
unfoldable pub value_at : Text → List Span → ℕ → Text
value_at s b j = part s (get_or b j no_span).start (get_or b j no_span).end

-- n values, from a number on
unfoldable pub values_from : Text → List Span → ℕ → ℕ → List Text
values_from s b j zero = []
values_from s b j (suc n) = value_at s b j ∷ values_from s b (suc j) n

-- the profile of these values, with n layouts and without options
unfoldable pub profile_at : Text → List Span → ℕ → Profile
profile_at s b n =
    record {
      model = value_at s b 0;
      layouts = values_from s b (suc before_layouts) n;
      variants = values_from s b (suc before_variants) n;
      any_option = λ q. false;
    }

-- a value's place lies in the text; "No field exceeds 64 bytes."
pub record InText (s : Text) (p : Span) : Type 0 where
  pub low : p.start ≤ p.end
  pub high : p.end ≤ length s
  pub short : p.end ≤ p.start + longest_field

-- every value's place does
pub record Placed (s : Text) (b : List Span) : Type 0 where
  pub size : length b ≡ most_values
  pub place : (j : ℕ) → j < most_values → InText s (get_or b j no_span)

-- the values are those of a profile; beyond its last layout and variant they are empty
pub record ValuesOf (x : Texts) (s : Text) (b : List Span) : Type 0 where
  pub placed : Placed s b
  pub model : value_at s b 0 ≡ x.model
  pub layout : (k : ℕ) → 1 ≤ k → k ≤ 32 → value_at s b (before_layouts + k) ≡ get_or (fields x.layouts) (k - 1) []
  pub variant : (k : ℕ) → 1 ≤ k → k ≤ 32 → value_at s b (before_variants + k) ≡ get_or (fields x.variants) (k - 1) []
