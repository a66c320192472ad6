-- The limits of document 01, one definition each.
use Rattle.std.specs.Prelude.{ℕ}

-- "A file is at most 65,536 bytes."
abbrev pub longest_file : ℕ
longest_file = 65536

-- "A word is a longest run of other bytes, at most 256."
abbrev pub longest_word : ℕ
longest_word = 256

-- "Each text is at most 1,024 bytes": a text of the profile.
abbrev pub longest_text : ℕ
longest_text = 1024

-- "No field exceeds 64 bytes."
abbrev pub longest_field : ℕ
longest_field = 64

-- "so the layout count n is 1 to 4"
abbrev pub most_layouts : ℕ
most_layouts = 4

-- "at most 64 options remain"
abbrev pub most_options : ℕ
most_options = 64

-- "At most 64 groups."
abbrev pub most_groups : ℕ
most_groups = 64

-- "total longer than the buffer or than 1,048,576 bytes"
abbrev pub longest_total : ℕ
longest_total = 1048576
