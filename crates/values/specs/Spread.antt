-- `:all`. Document 01, "Right-hand values", its third paragraph.
use Rattle.std.specs.Prelude.{ℕ, zero, suc, ◌+◌, ◌-◌, List, [], ◌∷◌, ◌++◌, Bool, ◌||◌, cond, length, take, drop, eqb}
use Rattle.text.specs.Bytes.{Text, bytes, same, first, concat_map}
use Rattle.profile.specs.Profile.{Profile, layout_count, push}
use Rattle.rules.specs.Headings.{decimal}
use Rattle.values.specs.Values.{filled}

-- "One that begins with `+` or `|`"
unfoldable pub is_sign : ℕ → Bool
is_sign b = eqb b 43 || eqb b 124

unfoldable pub signed : Text → Bool
signed t = is_sign (first t)

-- "The expanded text is then cut before every `+` and `|`."
unfoldable pub cuts : Text → List Text
cuts [] = [] ∷ []
cuts (b ∷ r) = let cs = push b (cuts r) in cond (is_sign b) ([] ∷ cs) cs

-- "A piece that ends with `:all`", and what stands before it
unfoldable pub ends_all : Text → Bool
ends_all t = same (drop (length t - 4) t) (bytes ":all")

unfoldable pub stem : Text → Text
stem t = take (length t - 4) t

-- "each keeps the piece's sign, and where it has none all copies but the first get `+`": the k-th copy, and the copies k to k + j - 1
unfoldable pub copy : ℕ → Text → Text
copy k t = cond (signed t || eqb k 1) t (43 ∷ t) ++ (58 ∷ decimal k)

unfoldable pub copies : ℕ → ℕ → Text → Text
copies zero k t = []
copies (suc j) k t = copy k t ++ copies j (k + 1) t

-- "becomes n copies ending `:1` to `:n`"
unfoldable pub spread : ℕ → Text → Text
spread n t = cond (ends_all t) (copies n 1 (stem t)) t

-- a right-hand word at the matched layout k
unfoldable pub expanded : Profile → ℕ → Text → Text
expanded p k t = concat_map (spread (layout_count p)) (cuts (filled p k t))
