-- Refusals 4 and 5 of a line, by its words: "A bad byte counts as part of a word."
use Rattle.std.specs.Prelude.{ℕ, Bool, ◌||◌, cond, eqb, ltb, length}
use Rattle.text.specs.Limits.{longest_word}
use Rattle.text.specs.Bytes.{Text, Words, any_of}

-- "a byte other than blank, LF, 0x21 to 0x7E, or a backslash not before LF": as a byte of a word
unfoldable pub bad_byte : ℕ → Bool
bad_byte b = ltb b 33 || (ltb 126 b || eqb b 92)

unfoldable pub too_long : Text → Bool
too_long w = ltb longest_word (length w)

-- 4, 5, or 0 where the words have neither
unfoldable pub words_fault : Words → ℕ
words_fault ws = cond (any_of (any_of bad_byte) ws) 4 (cond (any_of too_long ws) 5 0)
