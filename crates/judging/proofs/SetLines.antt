-- The heading of a set: one law for each way it is judged.
use Prim.Native.Nat.{ℕ, ◌+◌, ◌≤◌}
use native.Mathlib.Omega.{arith}
use mathlib.Core.Path.{◌≡◌, refl, sym, ◌∙◌}
use mathlib.Core.List.{List, [], ◌∷◌, map}
use mathlib.Core.Bool.{true, false, not}
use lib.ListN.{length, get_or, drop, length-append}
use borrow.Author.Tests.{not-true}
use Rattle.std.specs.Prelude.{Option, Some, None, Result}
use Rattle.std.specs.Option.{ok_or}
use Rattle.text.specs.declared.Span.{Span}
use Rattle.text.specs.declared.faults.Fault.{Fault}
use Rattle.text.specs.declared.faults.Fault.TheVariants.{BadHeading}
use Rattle.text.specs.Bytes.{Text, Words, empty, all_of, concat_map}
use Rattle.text.specs.Reading.{left}
use Rattle.text.proofs.Lists.{no, and_both}
use Rattle.rules.specs.declared.Item.{Item}
use Rattle.rules.specs.declared.Item.TheVariants as item
use Rattle.rules.specs.declared.SetHeading.{SetHeading}
use Rattle.rules.specs.declared.Split.{Split}
use Rattle.rules.specs.Words.{has_dollar}
use Rattle.rules.specs.Headings.{Heading, left_item, component_of, known_item, columns_in, indexes_in, first_index, heading_of, good_items}
use Rattle.rules.specs.Entries.{Entry, before, after, set_shape, set_entry, entry_of}
use Rattle.rules.specs.Splitting.{words_of, IsSplit}
use Rattle.rules.specs.Sets.{IsSet}
use Rattle.rules.specs.Checking.{line_of}
use Rattle.rules.proofs.LineKinds.{set_good, set_bad}
use Rattle.rules.proofs.HeldHeadings.{heading_held, sized_held}
use Rattle.judging.specs.Sets.{SetOf, SetLineOf}
use Rattle.judging.proofs.Indexed.{index_from_one}
use Rattle.judging.proofs.RuleLines.{split_words, split_passed}

-- another way to write the same line
pub set_as : (e e' : Entry) (r : Result SetHeading Fault) → e ≡ e' → SetOf e' r → SetOf e r
set_as e e' r h v = rw h v

-- a heading has a column

known_column : (i : Option Item) → known_item i ≡ true → length (columns_in i) ≡ 1
unfolding known_item columns_in
known_column (Some item.Model) h = refl
known_column (Some (item.Layout k)) h = refl
known_column (Some (item.Variant k)) h = refl
known_column (Some item.Options) h = refl
known_column None h = absurd (no h)

some_column : (is : List (Option Item)) → empty is ≡ false → all_of known_item is ≡ true → 1 ≤ length (concat_map columns_in is)
unfolding concat_map all_of empty
some_column [] e h = absurd (no (sym e))
some_column (i ∷ is) e h =
    let k = known_column i (and_both (known_item i) (all_of known_item is) h).0 in
    omega (arith, k, length-append (columns_in i) (concat_map columns_in is))

some_items : (ws : Words) → empty ws ≡ false → empty (map left_item ws) ≡ false
unfolding empty
some_items [] e = e
some_items (w ∷ ws) e = refl

module _ (ws : Words) (shape : set_shape ws ≡ true) where
  abbrev own : Heading
  own = heading_of (map left_item (before ws)) (map component_of (after ws))

  own_columns : good_items (map left_item (before ws)) (map component_of (after ws)) ≡ true → 1 ≤ length own.columns
  unfolding good_items heading_of set_shape
  own_columns g =
      let n = (and_both (not (empty (before ws))) _ shape).0 in
      let k = (and_both (all_of known_item (map left_item (before ws))) _ g).0 in
      some_column (map left_item (before ws)) (some_items (before ws) (not-true _ n)) k

  own_index : own.index ≡ first_index (concat_map indexes_in (map left_item (before ws)))
  unfolding heading_of
  own_index = refl

  pub set_judged : (o : Option SetHeading) → IsSet ws o → SetOf (set_entry ws) (ok_or o BadHeading)
  set_judged None v = set_bad ws shape (sym v.good)
  set_judged (Some h) v =
      let k = sym v.good in
      let w = v.holds h refl in
      record { is = set_good ws shape k ∙ rw (heading_held own h w) refl; sized = sized_held own h w (own_columns k); index = rw (w.index, own_index) (index_from_one (before ws)) }

-- the first word of a part of the file
pub tail_dollar : (s : Text) (from : ℕ) (x : Text) → x ≡ drop from s → has_dollar (get_or (left s from) 0 []) ≡ false → has_dollar (get_or (words_of x) 0 []) ≡ false
unfolding words_of left
tail_dollar s from x e h = rw e h

-- within the file
pub set_told : (s : Text) (t : List Span) (from m : ℕ) (x : Text) (r : Split) → x ≡ drop from s → from ≤ length s → m ≤ from + 1 → IsSplit true x t r → (j : Result SetHeading Fault) →
    SetOf (entry_of (line_of 0 true (words_of x))) j → SetLineOf s from m (record { set = j; next = record { at = from + r.next.at; line = m + r.next.line } })
set_told s t from m x r xe le few v j w =
    record { set = rw (split_words s t true from m x r xe le few v) at w; on = omega arith; passed = split_passed s t true from m x r xe le few v }
