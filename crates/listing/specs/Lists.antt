-- What is seen of a list of names.
use Rattle.std.specs.Prelude.{ℕ, ◌+◌, ◌≡◌, List, [], ◌∷◌, Bool, false, cond, ltb, Option, Some, None, ◌++◌, length, take, set}
use Rattle.text.specs.Bytes.{Text, same, part, any_of}
use Rattle.text.specs.declared.Span.{Span}
use Rattle.output.specs.Store.{stored}
use Rattle.listing.specs.Names.{most_names, key_of, names_at, rank_of, with_rank}
use Rattle.listing.specs.declared.names.Listing.{Listing}

-- the bytes that are used
abbrev pub text_of : Listing → Text
text_of l = take l.used l.text

-- the names, the last first
abbrev pub names_of : Listing → List Text
names_of l = names_at (text_of l) l.spans l.count

-- no name, and no text
pub record Empty (l : Listing) : Type 0 where
  pub text : text_of l ≡ []
  pub used : l.used ≡ 0
  pub names : names_of l ≡ []
  pub count : l.count ≡ 0

-- the bytes w are put behind the text, at p; the names stay
pub record Appended (l l' : Listing) (w : Text) (p : Span) : Type 0 where
  pub place : p ≡ record { start = l.used; end = l'.used }
  pub used : l'.used ≡ l.used + length w
  pub text : text_of l' ≡ text_of l ++ w
  pub room : l'.text ≡ stored l.text l.used w
  pub names : names_of l' ≡ names_of l
  pub spans : l'.spans ≡ l.spans
  pub keys : l'.keys ≡ l.keys
  pub ranks : l'.ranks ≡ l.ranks
  pub count : l'.count ≡ l.count

-- w is no name of the list, and there is room for it
unfoldable pub is_new : Listing → Text → Bool
is_new l w = cond (any_of (same w) (names_of l)) false (ltb l.count most_names)

-- the bytes at a place
abbrev pub bytes_at : Listing → Span → Text
bytes_at l p = part (text_of l) p.start p.end

-- the rank that w has in the list, or would have
abbrev pub rank_in : Listing → Text → ℕ
rank_in l w = rank_of (text_of l) l.spans l.ranks l.count w

-- the name at p, listed if it is new, and then its number
pub record Added (l l' : Listing) (p : Span) (r : Option ℕ) : Type 0 where
  pub result : r ≡ cond (is_new l (bytes_at l p)) (Some l.count) None
  pub count : l'.count ≡ cond (is_new l (bytes_at l p)) (l.count + 1) l.count
  pub spans : l'.spans ≡ cond (is_new l (bytes_at l p)) (set l.spans l.count p) l.spans
  pub keys : l'.keys ≡ cond (is_new l (bytes_at l p)) (set l.keys l.count (key_of (bytes_at l p))) l.keys
  pub ranks : l'.ranks ≡ cond (is_new l (bytes_at l p)) (with_rank l.ranks (rank_in l (bytes_at l p)) l.count) l.ranks
  pub names : names_of l' ≡ cond (is_new l (bytes_at l p)) (bytes_at l p ∷ names_of l) (names_of l)
  pub text : (l'.text ≡ l.text) × (l'.used ≡ l.used)
