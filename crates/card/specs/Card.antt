-- The desk card. Document 02, #102: "Write and read a card: sections in a fixed order (model, layouts, variants, options, then base and additions of the five
-- components, any bytes), each after its two-byte little-endian length, nothing behind the last."
use Rattle.std.specs.Prelude.{ℕ, zero, suc, ◌+◌, ◌*◌, ◌/◌, ◌%◌, ◌<◌, List, [], ◌∷◌, ◌++◌, Bool, not, ◌||◌, length, take, drop, get_or, ltb}
use Rattle.text.specs.Bytes.{Text, empty, concat_map}
use Rattle.profile.specs.Profile.{Texts}

-- "each after its two-byte little-endian length": the longest length that two bytes hold
abbrev pub longest_section : ℕ
longest_section = 65535

unfoldable pub two_bytes : ℕ → Text
two_bytes n = n % 256 ∷ n / 256 ∷ []

unfoldable pub section : Text → Text
section t = two_bytes (length t) ++ t

-- the sections one after the other, "nothing behind the last"
unfoldable pub card_of : List Text → Text
card_of ts = concat_map section ts

-- "model, layouts, variants, options, then base and additions of the five components": fourteen texts, the last ten as an answer has them
abbrev pub section_count : ℕ
section_count = 14

unfoldable pub card_texts : Texts → List Text → List Text
card_texts t ts = t.model ∷ t.layouts ∷ t.variants ∷ t.options ∷ ts

-- the profile that the first four of a card's texts are
unfoldable pub card_profile : List Text → Texts
card_profile ts = record { model = get_or ts 0 []; layouts = get_or ts 1 []; variants = get_or ts 2 []; options = get_or ts 3 [] }

-- The way back: the length that a section begins with,
unfoldable pub section_length : Text → ℕ
section_length s = get_or s 0 0 + 256 * get_or s 1 0

-- whether its two bytes, or as many bytes behind them as it says, are not all there,
unfoldable pub cut_short : Text → Bool
cut_short s = ltb (length s) (2 + section_length s)

-- its text,
abbrev pub section_text : Text → Text
section_text s = take (section_length s) (drop 2 s)

-- what stands behind it,
unfoldable pub behind_section : Text → Text
behind_section s = drop (2 + section_length s) s

-- the texts of n sections,
unfoldable pub sections_in : ℕ → Text → List Text
sections_in zero s = []
sections_in (suc n) s = section_text s ∷ sections_in n (behind_section s)

-- and whether a text is anything else than n sections: one is cut short, or something stands behind the last
unfoldable pub broken : ℕ → Text → Bool
broken zero s = not (empty s)
broken (suc n) s = cut_short s || broken n (behind_section s)

-- Each byte is below 256. The lists of these definitions hold numbers; a lent slice holds bytes.
abbrev pub Bytes : Text → Type 0
Bytes s = (i : ℕ) → get_or s i 0 < 256
