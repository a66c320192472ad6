-- Refusals 1 and 2, each with the number of the text: 1 model, 2 layouts, 3 variants, 4 options.
use Rattle.std.specs.Prelude.{ℕ, List, [], ◌∷◌, ◌++◌, Bool, ◌||◌, ltb, length}
use Rattle.text.specs.declared.Refusal.{Refusal}
use Rattle.text.specs.Limits.{longest_text, longest_field, most_layouts, most_options}
use Rattle.text.specs.Bytes.{Text, any_of}
use Rattle.text.specs.Refusals.{refused_if}
use Rattle.profile.specs.Profile.{Texts, fields, options_of}

-- "all from 0x21 to 0x7E"
unfoldable pub outside : ℕ → Bool
outside b = ltb b 33 || ltb 126 b

unfoldable pub long_field : Text → Bool
long_field f = ltb longest_field (length f)

-- "a text or field too long, or a bad byte": the text, and its fields
unfoldable pub bad_text : Text → List Text → Bool
bad_text t fs = ltb longest_text (length t) || (any_of outside t || any_of long_field fs)

-- "1 over all texts in turn". "The model is one field, commas included."
unfoldable pub text_refusals : Texts → List Refusal
text_refusals t =
    refused_if (bad_text t.model (t.model ∷ [])) 1 1 ++
    (refused_if (bad_text t.layouts (fields t.layouts)) 1 2 ++
    (refused_if (bad_text t.variants (fields t.variants)) 1 3 ++
    refused_if (bad_text t.options (fields t.options)) 1 4))

-- "over 4 layouts, more variants than layouts, or over 64 options". An empty variants text has one field, and there is at least one layout.
unfoldable pub count_refusals : Texts → List Refusal
count_refusals t =
    refused_if (ltb most_layouts (length (fields t.layouts))) 2 2 ++
    (refused_if (ltb (length (fields t.layouts)) (length (fields t.variants))) 2 3 ++
    refused_if (ltb most_options (length (options_of t.options))) 2 4)

-- "1 over all texts in turn, then 2 likewise"
unfoldable pub profile_refusals : Texts → List Refusal
profile_refusals t = text_refusals t ++ count_refusals t
