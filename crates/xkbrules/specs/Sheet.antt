-- What C sees of an answer. Document 01, "What the resolver does": the number returned and the sheet of lengths.
use Rattle.std.specs.Prelude.{ℕ, zero, suc, ◌≡◌, Result, MatchResult, ◌+◌, ◌*◌, ◌/◌, ◌%◌, ◌^◌, List, [], ◌∷◌, ◌++◌, map, ◌||◌, cond, length, get_or, drop, leb, ltb}
use Rattle.text.specs.declared.Refusal.{Refusal}
use Rattle.text.specs.declared.faults.Refusal.{Refusal as Refused}
use Rattle.text.specs.Told.{told_refusal}
use Rattle.text.specs.Bytes.{Text, concat_map}
use Rattle.text.specs.Refusals.{refused_if}
use Rattle.profile.specs.Profile.{Texts}
use Rattle.answers.specs.Answer.{ten_texts, refusals, Answer, refused, accepted, first_of, number_of, place_of, buffer_after, sum, stretch_start, stretch_length}

-- "the ten lengths are written as little-endian 32-bit numbers into the first 40 bytes of a lent sheet"
abbrev pub sheet_length : ℕ
sheet_length = 40

unfoldable pub little_endian : ℕ → Text
little_endian x = x % 256 ∷ x / 256 % 256 ∷ x / 65536 % 256 ∷ x / 16777216 % 256 ∷ []

-- 11 also for "a C length sheet under 40 bytes", and last; `sheet` is the sheet's length
unfoldable pub entry_refusals : ℕ → ℕ → Text → Texts → List Refusal
entry_refusals room sheet f t = refusals room f t ++ refused_if (ltb sheet sheet_length) 11 0

unfoldable pub entry_answer : ℕ → ℕ → Text → Texts → Answer
entry_answer room sheet f t = first_of (entry_refusals room sheet f t) (ten_texts f t)

-- "the entry returns the answer's number times 2^48 plus its place"
unfoldable pub code : Answer → ℕ
code a = number_of a * 2 ^ 48 + place_of a

-- "whose later bytes are untouched"; at a refusal "buffer and length sheet stay untouched"
unfoldable pub sheet_after : Text → Answer → Text
sheet_after s (refused r) = s
sheet_after s (accepted ts) = concat_map little_endian (map length ts) ++ drop sheet_length s

-- the ten lengths that a sheet holds, and one component's place within the texts: its start times 2^32 plus its length
unfoldable pub number_at : Text → ℕ → ℕ
number_at s i = get_or s i 0 + 256 * get_or s (i + 1) 0 + 65536 * get_or s (i + 2) 0 + 16777216 * get_or s (i + 3) 0

unfoldable pub numbers_from : Text → ℕ → ℕ → List ℕ
numbers_from s i zero = []
numbers_from s i (suc n) = number_at s i ∷ numbers_from s (i + 4) n

unfoldable pub lengths_in : Text → List ℕ
lengths_in s = numbers_from s 0 10

-- 0 for a component number over 4, a sheet under 40 bytes, or lengths whose sum is over that of the texts. 0 also where that sum is 2^32 or more, so that
-- start and length each fit 32 bits: no answer has such lengths.
unfoldable pub component_code : ℕ → Text → ℕ → ℕ
component_code room s c =
    cond (ltb 4 c || (ltb (length s) sheet_length || (ltb room (sum (lengths_in s)) || leb (2 ^ 32) (sum (lengths_in s))))) 0
    (stretch_start (lengths_in s) c * 2 ^ 32 + stretch_length (lengths_in s) c)

-- What a resolve does with a buffer for the texts, which goes from d to d', and a sheet, which goes from s to s', by its result in the code.
pub record EntryResolves (f : Text) (t : Texts) (d d' s s' : Text) (r : Result (Unit {0}) Refused) : Type 0 where
  pub result : MatchResult r (λ _. entry_answer (length d) (length s) f t ≡ accepted (ten_texts f t)) (λ e. entry_answer (length d) (length s) f t ≡ refused (told_refusal e))
  pub texts : d' ≡ buffer_after d (entry_answer (length d) (length s) f t)
  pub sheet : s' ≡ sheet_after s (entry_answer (length d) (length s) f t)
