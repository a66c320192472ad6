-- Words that are a keyword, or begin with one, by their length and bytes.
use Prim.Native.Nat.{ℕ, suc, ◌-◌, ◌<◌}
use native.Mathlib.Omega.{arith}
use mathlib.Core.Path.{◌≡◌, refl, ap}
use mathlib.Core.List.{[], ◌∷◌}
use mathlib.Core.Bool.{Bool, true, false, ◌&&◌, cond, and-true, and-false}
use lib.ListN.{length, get_or, take, drop, length-take}
use lib.Dec.{eqb, leb}
use borrow.Author.Tests.{ne_eqb}
use Rattle.std.specs.Prelude.{Some, None, option_map}
use Rattle.std.proofs.lemmas.Bool.Decides.{nat_tests}
use Rattle.text.specs.Bytes.{Text, bytes, same}
use Rattle.text.specs.Limits.{most_layouts}
use Rattle.text.proofs.Comparing.{same_length}
use Rattle.rules.specs.declared.Index.TheVariants as index
use Rattle.rules.specs.declared.Item.TheVariants as item
use Rattle.rules.specs.Headings.{decimal, up_from, numbered_in, index_of, left_item, component_of}
use Rattle.rules.specs.Sets.{known_component}

-- the bytes of k stand in w from i on
abbrev reads : Text → Text → ℕ → Bool
reads w [] i = true
reads w (b ∷ k) i = eqb (get_or w i 0) b && reads w k (suc i)

reads_suc : (x : ℕ) (w k : Text) (i : ℕ) → reads (x ∷ w) k (suc i) ≡ reads w k i
reads_suc x w [] i = refl
reads_suc x w (b ∷ k) i = ap (λ (t : Bool). eqb (get_or w i 0) b && t) (reads_suc x w k (suc i))

eqb_suc : (a b : ℕ) → eqb (suc a) (suc b) ≡ eqb a b
eqb_suc a b = grind (arith, nat_tests)

swap : (a b c : Bool) → (a && (b && c)) ≡ (b && (a && c))
swap true b c = refl
swap false true c = refl
swap false false c = refl

same_reads : (w k : Text) → same w k ≡ (eqb (length w) (length k) && reads w k 0)
unfolding same
same_reads [] [] = refl
same_reads [] (b ∷ k) = rw (ne_eqb 0 (length (b ∷ k)) (λ e. omega arith)) refl
same_reads (x ∷ w) [] = rw (ne_eqb (length (x ∷ w)) 0 (λ e. omega arith)) refl
same_reads (x ∷ w) (b ∷ k) =
    rw (same_reads w k, eqb_suc (length w) (length k), reads_suc x w k 0) (swap (eqb x b) (eqb (length w) (length k)) (reads w k 0))

five_ways : (a b c d e : Bool) → known_component (cond a 0 (cond b 1 (cond c 2 (cond d 3 (cond e 4 5))))) ≡
    cond a (Some 0) (cond b (Some 1) (cond c (Some 2) (cond d (Some 3) (cond e (Some 4) None))))
unfolding known_component
five_ways true b c d e = refl
five_ways false true c d e = refl
five_ways false false true d e = refl
five_ways false false false true e = refl
five_ways false false false false true = refl
five_ways false false false false false = refl

-- the tests of the words, in their order
pub component_reads : (w : Text) → known_component (component_of w) ≡
    cond (same w (107 ∷ 101 ∷ 121 ∷ 99 ∷ 111 ∷ 100 ∷ 101 ∷ 115 ∷ [])) (Some 0)
    (cond (same w (116 ∷ 121 ∷ 112 ∷ 101 ∷ 115 ∷ [])) (Some 1)
    (cond (same w (99 ∷ 111 ∷ 109 ∷ 112 ∷ 97 ∷ 116 ∷ [])) (Some 2)
    (cond (same w (115 ∷ 121 ∷ 109 ∷ 98 ∷ 111 ∷ 108 ∷ 115 ∷ [])) (Some 3)
    (cond (same w (103 ∷ 101 ∷ 111 ∷ 109 ∷ 101 ∷ 116 ∷ 114 ∷ 121 ∷ [])) (Some 4)
    None))))
unfolding known_component component_of bytes
component_reads w = five_ways _ _ _ _ _

-- `[1]` to `[4]`

digit : (d : ℕ) (l a b : Bool) →
    cond (l && (a && (eqb d 49 && (b && true)))) (Some (index.Numbered 1))
    (cond (l && (a && (eqb d 50 && (b && true)))) (Some (index.Numbered 2))
    (cond (l && (a && (eqb d 51 && (b && true)))) (Some (index.Numbered 3))
    (cond (l && (a && (eqb d 52 && (b && true)))) (Some (index.Numbered 4)) None)))
    ≡ cond (l && (a && (leb 49 d && (leb d 52 && b)))) (Some (index.Numbered (d - 48))) None
digit d false a b = refl
digit d true false b = refl
digit d true true false = simp and-false
digit d true true true = grind (arith, nat_tests)

pub numbered_reads : (w : Text) → numbered_in w (up_from most_layouts 1) ≡
    cond (eqb (length w) 3 && (eqb (get_or w 0 0) 91 && (leb 49 (get_or w 1 0) && (leb (get_or w 1 0) 52 && eqb (get_or w 2 0) 93))))
    (Some (index.Numbered (get_or w 1 0 - 48))) None
unfolding numbered_in up_from decimal
numbered_reads w =
    rw (same_reads w (91 ∷ 49 ∷ 93 ∷ []), same_reads w (91 ∷ 50 ∷ 93 ∷ []), same_reads w (91 ∷ 51 ∷ 93 ∷ []), same_reads w (91 ∷ 52 ∷ 93 ∷ []))
    (digit (get_or w 1 0) (eqb (length w) 3) (eqb (get_or w 0 0) 91) (eqb (get_or w 2 0) 93))

pub index_reads : (w : Text) → index_of w ≡
    cond (eqb (length w) 0) (Some index.Absent)
    (cond (same w (91 ∷ 115 ∷ 105 ∷ 110 ∷ 103 ∷ 108 ∷ 101 ∷ 93 ∷ [])) (Some index.Single)
    (cond (same w (91 ∷ 102 ∷ 105 ∷ 114 ∷ 115 ∷ 116 ∷ 93 ∷ [])) (Some index.First)
    (cond (same w (91 ∷ 108 ∷ 97 ∷ 116 ∷ 101 ∷ 114 ∷ 93 ∷ [])) (Some index.Later)
    (cond (same w (91 ∷ 97 ∷ 110 ∷ 121 ∷ 93 ∷ [])) (Some index.Any)
    (numbered_in w (up_from most_layouts 1))))))
unfolding index_of bytes
index_reads w = rw (same_reads w [], and-true (eqb (length w) 0)) refl

-- a left item

pub begins_short : (w k : Text) → length w < length k → same (take (length k) w) k ≡ false
begins_short w k h = same_length (take (length k) w) k (λ e. omega (arith, e, length-take (length k) w))

pub left_reads : (w : Text) → left_item w ≡
    cond (same w (109 ∷ 111 ∷ 100 ∷ 101 ∷ 108 ∷ [])) (Some item.Model)
    (cond (same w (111 ∷ 112 ∷ 116 ∷ 105 ∷ 111 ∷ 110 ∷ [])) (Some item.Options)
    (cond (same (take 6 w) (108 ∷ 97 ∷ 121 ∷ 111 ∷ 117 ∷ 116 ∷ [])) (option_map item.Layout (index_of (drop 6 w)))
    (cond (same (take 7 w) (118 ∷ 97 ∷ 114 ∷ 105 ∷ 97 ∷ 110 ∷ 116 ∷ [])) (option_map item.Variant (index_of (drop 7 w)))
    None)))
unfolding left_item bytes
left_reads w = refl
