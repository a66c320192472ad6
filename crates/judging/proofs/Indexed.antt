-- The index of a heading counts from 1.
use Prim.Native.Nat.{ℕ}
use mathlib.Core.Path.{◌≡◌, refl}
use mathlib.Core.List.{List, [], ◌∷◌, ◌++◌, map}
use mathlib.Core.Bool.{Bool, true, false, cond}
use lib.ListN.{take, drop}
use Rattle.std.specs.Prelude.{Option, Some, None, option_map}
use lib.Dec.{leb}
use borrow.Author.Tests.{leb-true}
use Rattle.text.specs.Limits.{most_layouts}
use Rattle.text.specs.Bytes.{Text, Words, same, bytes, all_of, concat_map}
use Rattle.text.proofs.Lists.{and_both}
use Rattle.rules.specs.Headings.{decimal}
use Rattle.rules.specs.declared.Index.{Index}
use Rattle.rules.specs.declared.Index.TheVariants as index
use Rattle.rules.specs.declared.Item.TheVariants as item
use Rattle.rules.specs.Headings.{up_from, numbered_in, index_of, left_item, indexes_in, first_index}
use Rattle.rules.specs.Held.{FromOne}

unfoldable one_up : Index → Bool
one_up index.Absent = true
one_up index.Single = true
one_up index.First = true
one_up index.Later = true
one_up index.Any = true
one_up (index.Numbered k) = leb 1 k

-- an index, if there is one
unfoldable may_up : Option Index → Bool
may_up None = true
may_up (Some i) = one_up i

up_cond : (b : Bool) (k : ℕ) (r : Option Index) → leb 1 k ≡ true → may_up r ≡ true → may_up (cond b (Some (index.Numbered k)) r) ≡ true
unfolding may_up one_up
up_cond true k r h u = h
up_cond false k r h u = u

up_among : (w : Text) (ks : List ℕ) → all_of (leb 1) ks ≡ true → may_up (numbered_in w ks) ≡ true
unfolding numbered_in all_of may_up
up_among w [] h = refl
up_among w (k ∷ ks) h =
    let x = and_both (leb 1 k) (all_of (leb 1) ks) h in
    up_cond (same w ((91 ∷ decimal k) ++ (93 ∷ []))) k (numbered_in w ks) x.0 (up_among w ks x.1)

up_numbered : (w : Text) → may_up (numbered_in w (up_from most_layouts 1)) ≡ true
unfolding up_from all_of
up_numbered w = up_among w (up_from most_layouts 1) four
  where
    four : all_of (leb 1) (up_from most_layouts 1) ≡ true
    four = refl

up_index : (w : Text) → may_up (index_of w) ≡ true
unfolding index_of may_up one_up
up_index w =
    go (same w []) (same w (bytes "[single]")) (same w (bytes "[first]")) (same w (bytes "[later]")) (same w (bytes "[any]")) (numbered_in w (up_from most_layouts 1)) (up_numbered w)
  where
    go : (a b c d e : Bool) (r : Option Index) → may_up r ≡ true →
        may_up (cond a (Some index.Absent) (cond b (Some index.Single) (cond c (Some index.First) (cond d (Some index.Later) (cond e (Some index.Any) r))))) ≡ true
    go true b c d e r h = refl
    go false true c d e r h = refl
    go false false true d e r h = refl
    go false false false true e r h = refl
    go false false false false true r h = refl
    go false false false false false r h = h

up_item : (a b c d : Bool) (i j : Option Index) → may_up i ≡ true → may_up j ≡ true → (is : List Index) → one_up (first_index is) ≡ true →
    one_up (first_index (indexes_in (cond a (Some item.Model) (cond b (Some item.Options) (cond c (option_map item.Layout i) (cond d (option_map item.Variant j) None)))) ++ is)) ≡ true
unfolding first_index indexes_in may_up
up_item true b c d i j u v is h = h
up_item false true c d i j u v is h = h
up_item false false true d None j u v is h = h
up_item false false true d (Some i) j u v is h = u
up_item false false false true i None u v is h = h
up_item false false false true i (Some j) u v is h = v
up_item false false false false i j u v is h = h

up_items : (ws : Words) → one_up (first_index (concat_map indexes_in (map left_item ws))) ≡ true
unfolding one_up first_index concat_map left_item
up_items [] = refl
up_items (w ∷ ws) = up_item (same w (bytes "model")) (same w (bytes "option")) (same (take 6 w) (bytes "layout")) (same (take 7 w) (bytes "variant")) (index_of (drop 6 w)) (index_of (drop 7 w)) (up_index (drop 6 w)) (up_index (drop 7 w)) _ (up_items ws)

from_one : (i : Index) → one_up i ≡ true → FromOne i
unfolding one_up
from_one i h k e = leb-true 1 k (rw e at h)

pub index_from_one : (ws : Words) → FromOne (first_index (concat_map indexes_in (map left_item ws)))
index_from_one ws = from_one _ (up_items ws)
