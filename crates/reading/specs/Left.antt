-- A rule's left words, each held against its column, at all layouts at once.
use Rattle.std.specs.Prelude.{ℕ, ◌+◌, ◌≤◌, ◌<◌, ◌≡◌, List, [], ◌∷◌, Bool, true, false, ◌&&◌, length, drop}
use Rattle.text.specs.Bytes.{Text, Words}
use Rattle.text.specs.Reading.{left, ahead}
use Rattle.rules.specs.declared.Column.{Column}
use Rattle.answers.specs.Layouts.{per_layout}
use Rattle.bitsets.specs.Sets.{is_in}
use Rattle.names.specs.declared.table.Table.{Table}
use Rattle.names.specs.Rows.{Question, Level}
use Rattle.names.specs.Compiled.{Compiled}
use Rattle.reading.specs.declared.LeftWords.{LeftWords}

-- each column has its word, and the word matches
unfoldable pub asked : Question → ℕ → List Column → Words → Bool
asked q k [] ws = true
asked q k (c ∷ cs) [] = false
asked q k (c ∷ cs) (w ∷ ws) = q k c w && asked q k cs ws

-- the names answer a question at the layouts 1 to n
pub record Answers (q : Question) (n : ℕ) (t : Table) : Type 0 where
  pub held : Compiled q n t
  pub level : Level q
  pub some : 1 ≤ n

-- a column can be asked at a layout: one of layouts or variants only at 1 to n
abbrev pub AskedAt : ℕ → ℕ → Column → Type 0
AskedAt n k c = per_layout c ≡ true → (1 ≤ k) × (k ≤ n)

-- the next word behind x, held against a column: the layouts that are left, and where the line goes on
pub record LeftHeld (t : Table) (c : Column) (s : Text) (x r : LeftWords) : Type 0 where
  pub tells : (q : Question) (n : ℕ) → Answers q n t → (k : ℕ) → AskedAt n k c → (cs : List Column) →
      (is_in k x.layouts && asked q k (c ∷ cs) (left s x.end.at)) ≡ (is_in k r.layouts && asked q k cs (left s r.end.at))
  pub rest : (r.layouts ≡ 0 → ⊥) → left s r.end.at ≡ drop 1 (left s x.end.at)
  pub some : (r.layouts ≡ 0 → ⊥) → 0 < length (left s x.end.at)
  pub low : x.end.at ≤ r.end.at
  pub high : r.end.at ≤ length s
  pub few : r.end.line ≤ r.end.at + 1
  pub onto : ahead s x.end.at x.end.line ≡ ahead s r.end.at r.end.line
