-- A stage: ten regions of one array, each with a text at its start that was written there before its length was known.
use Rattle.std.specs.Prelude.{ℕ, ◌+◌, ◌-◌, ◌≤◌, ◌≡◌, Bool, true, List, [], ◌∷◌, replicate, leb}
use Rattle.text.specs.Bytes.{Text, part, all_of}
use Rattle.profile.specs.Profile.{Texts}
use Rattle.answers.specs.declared.Outcome.{Outcome}
use Rattle.answers.specs.Answer.{ten_texts, answer, outcome}
use Rattle.firing.specs.Writing.{starts}

abbrev pub region_size : ℕ
region_size = 512

abbrev pub stage_size : ℕ
stage_size = 5120

-- where the ten regions start
unfoldable pub regions : List ℕ
regions = starts 0 (replicate 10 region_size)

-- texts of these lengths are none of them longer than a region
unfoldable pub in_regions : List ℕ → Bool
in_regions ns = all_of (λ n. leb n region_size) ns

-- the texts of these lengths, each at the start of a region; the first region starts at k
unfoldable pub texts_at : ℕ → Text → List ℕ → List Text
texts_at k d [] = []
texts_at k d (n ∷ ns) = part d k (k + n) ∷ texts_at (k + region_size) d ns

-- What a resolve of a file f for the texts t that is lent `room` bytes leaves in a stage d, with its answer r: the ten texts, unless one is longer than its
-- region and has run into the next.
pub record Staged (room : ℕ) (f : Text) (t : Texts) (d : Text) (r : Outcome) : Type 0 where
  pub result : r ≡ outcome (answer room f t)
  pub texts : r.number ≡ 0 → in_regions r.lengths ≡ true → texts_at 0 d r.lengths ≡ ten_texts f t

-- how far each position is from its start, and that none is before it
unfoldable pub between : List ℕ → List ℕ → List ℕ
between [] es = []
between (p ∷ ps) [] = []
between (p ∷ ps) (e ∷ es) = (e - p) ∷ between ps es

unfoldable pub Reached : List ℕ → List ℕ → Type 0
Reached [] es = Unit {0}
Reached (p ∷ ps) [] = Unit {0}
Reached (p ∷ ps) (e ∷ es) = (p ≤ e) × Reached ps es
