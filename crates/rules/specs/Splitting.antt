-- A line split into words once: what is kept of them, and where the first ten stand.
use Rattle.std.specs.Prelude.{ℕ, min, ◌+◌, ◌≤◌, ◌<◌, ◌≡◌, List, [], Bool, true, ◌||◌, ◌&&◌, cond, length, get_or, drop, set, ltb, Option, Some, None, is_some}
use Rattle.text.specs.declared.Span.{Span}
use Rattle.text.specs.Bytes.{Text, Words, any_of, all_of, part}
use Rattle.text.specs.Words.{words_fault}
use Rattle.text.specs.Reading.{left, ahead, follow}
use Rattle.text.specs.Told.{fault_number}
use Rattle.rules.specs.declared.Tally.{Tally}
use Rattle.rules.specs.declared.Split.{Split}
use Rattle.rules.specs.Words.{is_equals, ordinary}
use Rattle.rules.specs.Entries.{before, after}

-- The words of a line, which is lent from where its first word may begin.
unfoldable pub words_of : Text → Words
words_of w = left w 0

-- Most words that a set heading or a rule can have: four columns, `=`, five components.
abbrev pub most_placed : ℕ
most_placed = 10

-- the place of the first `=`, with a word more
unfoldable pub equals_after : Option ℕ → ℕ → Bool → Option ℕ
equals_after None n b = cond b (Some n) None
equals_after (Some k) n b = Some k

-- one word more of a heading: the words so far, those before the first `=`, whether another was met after it, and whether
-- all words from the third on are ordinary
unfoldable pub tallied : Tally → Text → Tally
tallied t w =
    record {
      count = t.count + 1;
      equals = equals_after t.equals t.count (is_equals w);
      again = t.again || (is_some t.equals && is_equals w);
      plain = cond (ltb t.count 2) t.plain (t.plain && ordinary w);
    }

-- of any other line the words are only counted
unfoldable pub counted : Bool → Tally → Text → Tally
counted h t w = cond h (tallied t w) (record { count = t.count + 1; equals = t.equals; again = t.again; plain = t.plain })

-- the tally of a heading
pub record Tallied (ws : Words) (t : Tally) : Type 0 where
  pub count : t.count ≡ length ws
  pub none : t.equals ≡ None → before ws ≡ ws
  pub first : (n : ℕ) → t.equals ≡ Some n → n ≡ length (before ws)
  pub again : t.again ≡ any_of is_equals (after ws)
  pub plain : t.plain ≡ all_of ordinary (drop 2 ws)

abbrev pub no_span : Span
no_span = record { start = 0; end = 0 }

-- where a word is stored
unfoldable pub stored : List Span → ℕ → Span → List Span
stored t k a = cond (ltb k most_placed) (set t k a) t

-- the part from a to e is the word x
pub record IsWord (w : Text) (a e : ℕ) (x : Text) : Type 0 where
  pub low : a ≤ e
  pub high : e ≤ length w
  pub text : part w a e ≡ x

-- the places t of the first n words, of which at most ten are placed, and what stands behind each
pub record Placed (w : Text) (t : List Span) (ws : Words) (n : ℕ) : Type 0 where
  pub size : length t ≡ most_placed
  pub word : (j : ℕ) → j < most_placed → j < n → IsWord w (get_or t j no_span).start (get_or t j no_span).end (get_or ws j [])
  pub behind : (j : ℕ) → j < most_placed → j < n → left w (get_or t j no_span).end ≡ drop (j + 1) ws

-- what is known of a line once it is split, a heading or any other; physical lines are counted from 0
pub record IsSplit (h : Bool) (w : Text) (t : List Span) (r : Split) : Type 0 where
  pub count : r.tally.count ≡ length (words_of w)
  pub tally : h ≡ true → Tallied (words_of w) r.tally
  pub placed : Placed w t (words_of w) (length (words_of w))
  pub fault : fault_number r.fault ≡ words_fault (words_of w)
  pub onwards : min 1 (length w) ≤ r.next.at
  pub high : r.next.at ≤ length w
  pub few : r.next.line ≤ r.next.at
  pub onto : ahead w 0 0 ≡ follow w r.next.at r.next.line
