-- A rule's left words: one law for each way through the loop over them.
use Prim.Native.Nat.{ℕ, ◌+◌, ◌≤◌}
use native.Mathlib.Omega.{arith}
use mathlib.Core.Path.{◌≡◌, refl, sym, ap, ◌∙◌}
use mathlib.Core.List.{List, [], ◌∷◌}
use mathlib.Core.Bool.{Bool, true, false, ◌&&◌, and-true, and-false}
use lib.ListN.{length, drop}
use Rattle.text.specs.Bytes.{Text, Words, empty, part}
use Rattle.text.specs.Reading.{left, FoundWord, NoWord}
use Rattle.text.proofs.Lists.{empty_some}
use Rattle.text.proofs.Positions.{length_part}
use Rattle.rules.specs.declared.Column.{Column}
use Rattle.rules.specs.declared.Column.TheVariants as column
use Rattle.answers.specs.Layouts.{per_layout}
use Rattle.bitsets.specs.Sets.{is_in}
use Rattle.bitsets.proofs.Bits.{in_none}
use Rattle.names.specs.declared.table.Table.{Table}
use Rattle.names.specs.declared.Row.{Row}
use Rattle.names.specs.Rows.{Question, Level, says, Tells}
use Rattle.names.specs.Compiled.{Rowed}
use Rattle.reading.specs.declared.LeftWords.{LeftWords}
use Rattle.reading.specs.Left.{asked, AskedAt, LeftHeld}

-- a row tells what is asked, also where the layout plays no part
told_at : (q : Question) (n : ℕ) (w : Text) (r : Row) → Level q → 1 ≤ n → Tells q n w r → (k : ℕ) (c : Column) → AskedAt n k c → says r k c ≡ q k c w
unfolding says per_layout
told_at q n w r l s v k column.Model a = v.at 1 column.Model (omega arith) s ∙ (l.model 1 w ∙ sym (l.model k w))
told_at q n w r l s v k column.Layout a = v.at k column.Layout (a refl).0 (a refl).1
told_at q n w r l s v k column.Variant a = v.at k column.Variant (a refl).0 (a refl).1
told_at q n w r l s v k column.Options a = v.at 1 column.Options (omega arith) s ∙ (l.options 1 w ∙ sym (l.options k w))

asked_cons : (q : Question) (k : ℕ) (c : Column) (cs : List Column) (w : Text) (ws : Words) → asked q k (c ∷ cs) (w ∷ ws) ≡ (q k c w && asked q k cs ws)
unfolding asked
asked_cons q k c cs w ws = refl

asked_lacking : (q : Question) (k : ℕ) (c : Column) (cs : List Column) → asked q k (c ∷ cs) [] ≡ false
unfolding asked
asked_lacking q k c cs = refl

and_assoc : (a b c : Bool) → (a && b) && c ≡ a && (b && c)
and_assoc true b c = refl
and_assoc false b c = refl

module _ (t : Table) (c : Column) (s : Text) (x : LeftWords) where
  pub held_word : (a e l f : ℕ) (row : Row) (m : ℕ) → FoundWord s x.end.at x.end.line a e l f → Rowed t (part s a e) row →
      ((k : ℕ) → is_in k m ≡ (is_in k x.layouts && says row k c)) → LeftHeld t c s x (record { layouts = m; end = record { at = e; line = l } })
  held_word a e l f row m w v u =
      record {
        tells = λ q n h k g cs.
            let some : empty (part s a e) ≡ false = empty_some (part s a e) (λ (z : length (part s a e) ≡ 0). omega (arith, length_part s a e w.high, w.some)) in
            let y : says row k c ≡ q k c (part s a e) = told_at q n (part s a e) row h.level h.some (v.means q n h.held some) k c g in
            rw (w.text, asked_cons q k c cs (part s a e) (left s e), u k, y) (sym (and_assoc (is_in k x.layouts) (q k c (part s a e)) (asked q k cs (left s e))));
        rest = λ z. sym (ap (drop 1) w.text);
        some = λ z. rw w.text (omega arith);
        low = omega (arith, w.low, w.some);
        high = w.high;
        few = w.few;
        onto = w.onto;
      }

  pub held_none : (p l : ℕ) → x.end.at ≤ length s → x.end.line ≤ x.end.at + 1 → NoWord s x.end.at x.end.line p l →
      LeftHeld t c s x (record { layouts = 0; end = x.end })
  held_none p l h few w =
      record {
        tells = λ q n v k g cs. rw (w.none, asked_lacking q k c cs, in_none k) (and-false (is_in k x.layouts));
        rest = λ z. absurd (z refl);
        some = λ z. absurd (z refl);
        low = omega arith;
        high = h;
        few = few;
        onto = refl;
      }

-- one word, by its row

pub all_of : (m k : ℕ) (b : Bool) → b ≡ true → is_in k m ≡ (is_in k m && b)
all_of m k b e = rw e (sym (and-true (is_in k m)))

pub none_of : (m k : ℕ) (b : Bool) → b ≡ false → is_in k 0 ≡ (is_in k m && b)
none_of m k b e = rw (e, in_none k) (sym (and-false (is_in k m)))
