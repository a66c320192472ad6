-- What single bytes are to the readers of words.
use Rattle.std.specs.Prelude.{ℕ, Bool, true, false, not, ◌||◌, cond, eqb}
use Rattle.text.specs.declared.kinds.Kind.{Kind}
use Rattle.text.specs.declared.kinds.Kind.TheVariants.{Plain, Slash, Percent, Other}
use Rattle.text.specs.Marks.{ends_line}
use Rattle.text.specs.Words.{bad_byte}

unfoldable pub kind_of : ℕ → Kind
kind_of b = cond (bad_byte b) Other (cond (eqb b 47) Slash (cond (eqb b 37) Percent Plain))

-- the order of the kinds: the bytes of plain words come first
abbrev pub rank : Kind → ℕ
rank Plain = 0
rank Slash = 1
rank Percent = 2
rank Other = 3

-- "Blanks are space and tab."
unfoldable pub blank : ℕ → Bool
blank b = eqb b 32 || eqb b 9

-- A plain word begins with a byte of its kinds, but with no slash that begins a comment; the flag: a slash stands behind the byte.
abbrev pub begins_kind : Kind → Bool → Bool
begins_kind Plain f = true
begins_kind Slash f = not f
begins_kind Percent f = true
begins_kind Other f = false

-- the byte b with c behind it begins a plain word
unfoldable pub begins_plain : ℕ → ℕ → Bool
begins_plain b c = begins_kind (kind_of b) (eqb c 47)

-- and ends one: a blank, or a line end
unfoldable pub ends_plain : ℕ → ℕ → Bool
ends_plain b c = blank b || ends_line b c
