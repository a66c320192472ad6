-- What a split line is: one law for each way.
use Prim.Native.Nat.{ℕ, ◌+◌, ◌-◌, ◌≤◌, ◌<◌}
use native.Mathlib.Omega.{arith}
use mathlib.Core.Path.{◌≡◌, refl, sym, ap, ◌∙◌}
use mathlib.Core.List.{[], ◌∷◌, map}
use mathlib.Core.Bool.{Bool, true, false, not, ◌&&◌, cond, and-false}
use lib.ListN.{length, get_or, drop}
use lib.Dec.{eqb}
use Rattle.std.specs.Prelude.{Some, None}
use borrow.Author.Tests.{eq-eqb, ne_eqb}
use Rattle.text.specs.Bytes.{Words, bytes, same, empty, any_of}
use Rattle.text.specs.Words.{words_fault}
use Rattle.rules.specs.declared.Tally.{Tally}
use Rattle.rules.specs.Words.{is_equals, has_dollar}
use Rattle.rules.specs.Headings.{left_item, component_of, good_items, heading_of}
use Rattle.rules.specs.Entries.{ignored, wrong, set, rule, before, after, set_shape, set_entry, group_entry, heading_entry, rule_entry, entry_of}
use Rattle.rules.specs.Splitting.{Tallied}
use Rattle.rules.specs.Checking.{line_of}
use Rattle.rules.proofs.Sides.{before_low}

-- group lines

empty_length : (ws : Words) → empty ws ≡ eqb (length ws) 0
unfolding empty
empty_length [] = refl
empty_length (w ∷ ws) = sym (ne_eqb (length (w ∷ ws)) 0 (λ (z : length (w ∷ ws) ≡ 0). omega arith))

pub after_length : (ws : Words) → length (after ws) ≡ length ws - (length (before ws) + 1)
unfolding after before
after_length [] = omega arith
after_length (w ∷ ws) = go (is_equals w) (after_length ws)
  where
    go : (t : Bool) → length (after ws) ≡ length ws - (length (before ws) + 1) →
        length (cond t ws (after ws)) ≡ length (w ∷ ws) - (length (cond t [] (w ∷ before ws)) + 1)
    go true ih = omega arith
    go false ih = omega arith

shape_by : (ws : Words) → set_shape ws ≡
    (not (eqb (length (before ws)) 0) && (not (eqb (length ws - (length (before ws) + 1)) 0) && not (any_of is_equals (after ws))))
unfolding set_shape
shape_by ws = rw (empty_length (before ws), empty_length (after ws), after_length ws)

set_shapeless : (ws : Words) → set_shape ws ≡ false → set_entry ws ≡ wrong 6
unfolding set_entry
set_shapeless ws h = rw h

pub set_bad : (ws : Words) → set_shape ws ≡ true → good_items (map left_item (before ws)) (map component_of (after ws)) ≡ false → set_entry ws ≡ wrong 7
unfolding set_entry
set_bad ws h g = rw (h, g)

pub set_good : (ws : Words) → set_shape ws ≡ true → good_items (map left_item (before ws)) (map component_of (after ws)) ≡ true →
    set_entry ws ≡ set (heading_of (map left_item (before ws)) (map component_of (after ws)))
unfolding set_entry
set_good ws h g = rw (h, g)

module _ (ws : Words) (t : Tally) (v : Tallied ws t) where
  pub set_none : t.equals ≡ None → set_entry ws ≡ wrong 6
  set_none h =
      let e : length ws - (length (before ws) + 1) ≡ 0 = omega (arith, ap length (v.none h)) in
      set_shapeless ws (shape_by ws ∙ rw (eq-eqb _ _ e) (and-false (not (eqb (length (before ws)) 0))))

  module _ (n : ℕ) (f : t.equals ≡ Some n) where
    pub first_count : n ≤ t.count
    first_count = omega (arith, v.first n f, v.count, before_low ws)

    pub set_nothing : n ≡ 0 → set_entry ws ≡ wrong 6
    set_nothing h = set_shapeless ws (shape_by ws ∙ rw (eq-eqb _ _ (sym (v.first n f) ∙ h)))

    module _ (z : n ≡ 0 → ⊥) where
      some_before : eqb (length (before ws)) 0 ≡ false
      some_before = ne_eqb (length (before ws)) 0 (λ q. z (v.first n f ∙ q))

      pub set_ends : t.count ≤ n + 1 → set_entry ws ≡ wrong 6
      set_ends h =
          let e : length ws - (length (before ws) + 1) ≡ 0 = omega (arith, v.first n f, v.count) in
          set_shapeless ws (shape_by ws ∙ rw (some_before, eq-eqb _ _ e))

      module _ (l : n + 1 < t.count) where
        shape_again : (b : Bool) → t.again ≡ b → set_shape ws ≡ not b
        shape_again b h =
            shape_by ws
            ∙ rw (some_before, ne_eqb (length ws - (length (before ws) + 1)) 0 (λ z. omega (arith, v.first n f, v.count, z)), sym v.again ∙ h)

        pub set_again : t.again ≡ true → set_entry ws ≡ wrong 6
        set_again h = set_shapeless ws (shape_again true h)

        pub set_shaped : t.again ≡ false → set_shape ws ≡ true
        set_shaped h = shape_again false h

-- headings

pub heading_none : (ws : Words) → length ws ≡ 0 → heading_entry ws ≡ wrong 6
unfolding heading_entry
heading_none [] h = refl
heading_none (w ∷ ws) h = absurd (omega arith)

heading_words : (ws : Words) → 0 < length ws → heading_entry ws ≡
    cond (has_dollar (get_or ws 0 [])) (group_entry (get_or ws 0 []) (drop 1 ws)) (cond (same (get_or ws 0 []) (bytes "include")) (wrong 9) (set_entry ws))
unfolding heading_entry
heading_words [] h = absurd (omega arith)
heading_words (w ∷ ws) h = refl

module _ (ws : Words) (h : 0 < length ws) where
  pub heading_include : has_dollar (get_or ws 0 []) ≡ false → same (get_or ws 0 []) (bytes "include") ≡ true → heading_entry ws ≡ wrong 9
  heading_include d i = heading_words ws h ∙ rw (d, i)

  pub heading_set : has_dollar (get_or ws 0 []) ≡ false → same (get_or ws 0 []) (bytes "include") ≡ false → heading_entry ws ≡ set_entry ws
  heading_set d i = heading_words ws h ∙ rw (d, i)

-- lines

pub no_words : (ws : Words) → length ws ≡ 0 → rule_entry ws ≡ ignored
unfolding rule_entry
no_words [] h = refl
no_words (w ∷ ws) h = absurd (omega arith)

pub some_words : (ws : Words) → (length ws ≡ 0 → ⊥) → rule_entry ws ≡ rule ws
unfolding rule_entry
some_words [] h = absurd (h refl)
some_words (w ∷ ws) h = refl

module _ (n : ℕ) (h : Bool) (ws : Words) where
  pub line_wrong : (f : ℕ) → f ≡ words_fault ws → (f ≡ 0 → ⊥) → entry_of (line_of n h ws) ≡ wrong f
  unfolding entry_of
  line_wrong f e z = rw (← e, ne_eqb f 0 z)

  line_fine : (f : ℕ) → f ≡ words_fault ws → f ≡ 0 → entry_of (line_of n h ws) ≡ cond h (heading_entry ws) (rule_entry ws)
  unfolding entry_of
  line_fine f e z = rw (← e, eq-eqb f 0 z)

  module _ (f : ℕ) (e : f ≡ words_fault ws) (z : f ≡ 0) where
    pub line_heading : h ≡ true → entry_of (line_of n h ws) ≡ heading_entry ws
    line_heading k = line_fine f e z ∙ rw k

    pub line_ignored : h ≡ false → length ws ≡ 0 → entry_of (line_of n h ws) ≡ ignored
    line_ignored k l = line_fine f e z ∙ (rw k (no_words ws l))

    pub line_rule : h ≡ false → (length ws ≡ 0 → ⊥) → entry_of (line_of n h ws) ≡ rule ws
    line_rule k l = line_fine f e z ∙ (rw k (some_words ws l))
