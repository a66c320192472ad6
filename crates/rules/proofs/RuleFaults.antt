-- The refusal of a rule under the present heading.
use Prim.Native.Nat.{ℕ, ◌+◌}
use mathlib.Core.Path.{◌≡◌, refl, sym, ◌∙◌}
use mathlib.Core.List.{[]}
use mathlib.Core.Bool.{Bool, true, false, not, ◌&&◌, cond}
use lib.ListN.{length, get_or, take, drop}
use lib.Dec.{eqb}
use borrow.Author.Tests.{eqb-true}
use Rattle.text.specs.Bytes.{Words, all_of, any_of}
use Rattle.text.proofs.Lists.{and_both}
use Rattle.rules.specs.declared.Form.{Form}
use Rattle.rules.specs.declared.Form.TheVariants as form
use Rattle.rules.specs.declared.Present.{Present}
use Rattle.rules.specs.contracts.FormPartialEq.TheImpl as forms
use Rattle.rules.specs.Words.{is_equals, ordinary, left_word}
use Rattle.rules.specs.Percent.{malformed}
use Rattle.rules.specs.Faults.{rule_shape, shape_fault}
use Rattle.rules.specs.Checking.{is_absent, is_indexed, has_left, right_fault, present_fault}

-- forms as the code compares them

pub absent_is : (f : Form) → forms.ghosts.eq f form.Absent ≡ is_absent f
unfolding is_absent
absent_is form.Absent = refl
absent_is form.Plain = refl
absent_is form.Indexed = refl

pub indexed_is : (f : Form) → forms.ghosts.eq f form.Indexed ≡ is_indexed f
unfolding is_indexed
indexed_is form.Absent = refl
indexed_is form.Plain = refl
indexed_is form.Indexed = refl

-- the left side first, then the right words

in_turn : (a c l e o : Bool) (m : ℕ) → cond a 6 (cond (c && (l && (e && o))) m 6) ≡ cond (not a && (c && (l && e))) (cond o m 6) 6
in_turn true c l e o m = refl
in_turn false false l e o m = refl
in_turn false true false e o m = refl
in_turn false true true false o m = refl
in_turn false true true true o m = refl

module _ (p : Present) (ws : Words) where
  present_is : present_fault p ws ≡ cond (has_left p ws) (right_fault (is_indexed p.form) (drop (p.left + 1) ws)) 6
  unfolding present_fault shape_fault rule_shape has_left right_fault
  present_is =
      in_turn (is_absent p.form) (eqb (length ws) (p.left + 1 + p.right)) (all_of left_word (take p.left ws)) (is_equals (get_or ws p.left []))
      (all_of ordinary (drop (p.left + 1) ws)) (cond (any_of (malformed (is_indexed p.form)) (drop (p.left + 1) ws)) 8 0)

  pub rule_long : has_left p ws ≡ true → length ws ≡ p.left + 1 + p.right
  unfolding has_left
  rule_long h = eqb-true _ _ (and_both (eqb (length ws) (p.left + 1 + p.right)) _ (and_both (not (is_absent p.form)) _ h).1).0

  pub fault_left : has_left p ws ≡ false → 6 ≡ present_fault p ws
  fault_left h = sym (present_is ∙ rw h refl)

  pub fault_right : has_left p ws ≡ true → (i : Bool) → i ≡ forms.ghosts.eq p.form form.Indexed → (r : ℕ) → r ≡ right_fault i (drop (p.left + 1) ws) → r ≡ present_fault p ws
  fault_right h i d r e = e ∙ rw (d, indexed_is p.form) (sym (present_is ∙ rw h refl))
