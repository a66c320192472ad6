-- A line that is no heading and is not refused: what it is, and what it leaves to be refused and to fire.
use Prim.Native.Nat.{ℕ, ◌+◌, ◌≤◌, ◌<◌}
use native.Mathlib.Omega.{arith}
use mathlib.Core.Path.{◌≡◌, refl, sym, ◌∙◌}
use mathlib.Core.List.{List, [], ◌∷◌, ◌++◌, append_assoc}
use mathlib.Core.Bool.{Bool, true, false, not, ◌&&◌, cond}
use lib.ListN.{length}
use lib.Dec.{eqb}
use borrow.Author.Tests.{eqb-true, eqb-false, eq-eqb, ne_eqb}
use Rattle.text.specs.declared.Refusal.{Refusal}
use Rattle.text.specs.Bytes.{Text, Words, any_of}
use Rattle.text.specs.Lines.{Line}
use Rattle.text.specs.Words.{bad_byte, too_long, words_fault}
use Rattle.text.specs.Refusals.{refused_if, refused_as}
use Rattle.text.proofs.Lists.{and_both}
use Rattle.profile.specs.Profile.{Profile}
use Rattle.rules.specs.Headings.{Heading}
use Rattle.rules.specs.Entries.{ignored, wrong, rule, rule_entry, entry_of}
use Rattle.rules.specs.Faults.{Groups, rule_shape, shape_fault}
use Rattle.rules.specs.declared.Present.{Present}
use Rattle.rules.specs.Checking.{line_of, is_indexed, present_of, present_fault, line_fault, present_after, names_after, check_from}
use Rattle.rules.proofs.CheckSteps.{check_cons}
use Rattle.rules.proofs.LineChecks.{form_is}
use Rattle.answers.specs.Matching.{members, rule_matches}
use Rattle.bitsets.specs.Sets.{is_in}
use Rattle.rules.specs.Held.{heading_by}
use Rattle.reading.specs.declared.OpenSet.{OpenSet}
use Rattle.reading.specs.Order.{rules_from, firings_from}
use Rattle.reading.specs.Owed.{Kept, AllWanted, wanting, keeping, set_owes, owed, kept_fires}
use Rattle.reading.proofs.LineFires.{next_rules, rules_line, next_firings, firings_line}
use Rattle.reading.proofs.Owing.{owes_miss, owes_keep, owes_fire}

-- what is refused of the line

fault_wrong : (ns : List Text) (p : Present) (k : ℕ) → line_fault ns p (wrong k) ≡ k
unfolding line_fault
fault_wrong ns p k = refl

fault_rule : (ns : List Text) (p : Present) (ws : Words) → line_fault ns p (rule ws) ≡ present_fault p ws
unfolding line_fault
fault_rule ns p ws = refl

entry_clean : (n : ℕ) (ws : Words) → words_fault ws ≡ 0 → entry_of (line_of n false ws) ≡ rule_entry ws
unfolding entry_of
entry_clean n ws e = rw (eq-eqb (words_fault ws) 0 e)

entry_faulty : (n : ℕ) (ws : Words) → (words_fault ws ≡ 0 → ⊥) → entry_of (line_of n false ws) ≡ wrong (words_fault ws)
unfolding entry_of
entry_faulty n ws e = rw (ne_eqb (words_fault ws) 0 e)

faultless : (ws : Words) → words_fault ws ≡ 0 → any_of too_long ws ≡ false
unfolding words_fault
faultless ws h = go (any_of (any_of bad_byte) ws) (any_of too_long ws) h
  where
    go : (a b : Bool) → ◌≡◌ {A = ℕ} (cond a 4 (cond b 5 0)) 0 → b ≡ false
    go true b e = absurd (eqb-false 4 0 refl e)
    go false true e = absurd (eqb-false 5 0 refl e)
    go false false e = refl

shape_six : (l r : ℕ) (i : Bool) (ws : Words) → rule_shape l r ws ≡ false → shape_fault l r i ws ≡ 0 → ⊥
unfolding shape_fault
shape_six l r i ws h e = let z : ◌≡◌ {A = ℕ} 6 0 = rw h at e in eqb-false 6 0 refl z

shape_count : (l r : ℕ) (ws : Words) → rule_shape l r ws ≡ true → length ws ≡ l + 1 + r
unfolding rule_shape
shape_count l r ws h = eqb-true (length ws) (l + 1 + r) (and_both (eqb (length ws) (l + 1 + r)) _ h).0

shape_fine : (l r : ℕ) (i : Bool) (ws : Words) → shape_fault l r i ws ≡ 0 → length ws ≡ l + 1 + r
shape_fine l r i ws e = go (rule_shape l r ws) refl
  where
    go : (t : Bool) → rule_shape l r ws ≡ t → length ws ≡ l + 1 + r
    go true q = shape_count l r ws q
    go false q = absurd (shape_six l r i ws q e)

present_shape : (h : Heading) (ws : Words) → present_fault (present_of h) ws ≡ shape_fault (length h.columns) (length h.components) (is_indexed (present_of h).form) ws
unfolding present_fault present_of
present_shape h ws = rw (form_is h.index).0

carry_rule : (ns : List Text) (p : Present) (ws : Words) → (names_after ns (rule_entry ws) ≡ ns) × (present_after p (rule_entry ws) ≡ p)
unfolding names_after present_after rule_entry
carry_rule ns p [] = (refl, refl)
carry_rule ns p (w ∷ ws) = (refl, refl)

refused_none : (f n : ℕ) (rs : List Refusal) → f ≡ 0 → refused_as f n ++ rs ≡ rs
unfolding refused_as refused_if
refused_none f n rs h = rw h

blank_is : (ws : Words) → length ws ≡ 0 → rule_entry ws ≡ ignored
unfolding rule_entry
blank_is [] e = refl
blank_is (w ∷ ws) e = absurd (omega arith)

rule_is : (ws : Words) → (length ws ≡ 0 → ⊥) → rule_entry ws ≡ rule ws
unfolding rule_entry
rule_is [] e = absurd (e refl)
rule_is (w ∷ ws) e = refl

next_plain : (gs : Groups) (p : Profile) (ls : List Line) (us : Words) → next_firings gs p (rule_entry us) ls ≡ firings_from gs p ls
unfolding next_firings rule_entry
next_plain gs p ls [] = refl
next_plain gs p ls (u ∷ us) = refl

-- a line of which nothing is refused under the heading p
module _ (p : Present) (n : ℕ) (ws : Words) (fine : (ns : List Text) → line_fault ns p (entry_of (line_of n false ws)) ≡ 0) where
  no_fault : words_fault ws ≡ 0
  no_fault = go (eqb (words_fault ws) 0) refl
    where
      go : (t : Bool) → eqb (words_fault ws) 0 ≡ t → words_fault ws ≡ 0
      go true q = eqb-true _ 0 q
      go false q = sym (fault_wrong [] p (words_fault ws)) ∙ (rw (entry_faulty n ws (eqb-false _ 0 q)) at (fine []))

  pub line_is : entry_of (line_of n false ws) ≡ rule_entry ws
  line_is = entry_clean n ws no_fault

  pub line_short : any_of too_long ws ≡ false
  line_short = faultless ws no_fault

  pub line_faults_lem : (ns : List Text) (ls : List Line) → check_from ns p (line_of n false ws ∷ ls) ≡ check_from ns p ls
  line_faults_lem ns ls =
      check_cons ns p (line_of n false ws) ls
      ∙ (refused_none (line_fault ns p (entry_of (line_of n false ws))) n _ (fine ns)
      ∙ rw (line_is, (carry_rule ns p ws).0, (carry_rule ns p ws).1) refl)

  pub line_count : (h : Heading) → p ≡ present_of h → (length ws ≡ 0 → ⊥) → length ws ≡ length h.columns + 1 + length h.components
  line_count h e z =
      let a : present_fault p ws ≡ 0 = sym (fault_rule [] p ws) ∙ (rw (line_is, rule_is ws z) at (fine [])) in
      let b : present_fault (present_of h) ws ≡ 0 = rw e at a in
      shape_fine _ _ _ ws (sym (present_shape h ws) ∙ b)

  module _ (gs : Groups) (pr : Profile) (o : OpenSet) (kept : Kept) (ls : List Line) where
    next_fires : firings_from gs pr (line_of n false ws ∷ ls) ≡ firings_from gs pr ls
    next_fires = firings_line gs pr (line_of n false ws) ls ∙ rw line_is (next_plain gs pr ls ws)

    blank_rules : length ws ≡ 0 → rules_from (line_of n false ws ∷ ls) ≡ rules_from ls
    unfolding next_rules
    blank_rules e = rules_line (line_of n false ws) ls ∙ rw (line_is, blank_is ws e) refl

    more_rules : (length ws ≡ 0 → ⊥) → rules_from (line_of n false ws ∷ ls) ≡ record { number = n; text = ws } ∷ rules_from ls
    unfolding next_rules
    more_rules e = rules_line (line_of n false ws) ls ∙ rw (line_is, rule_is ws e) refl

    -- no rule
    pub owed_blank : length ws ≡ 0 → owed gs pr o kept (line_of n false ws ∷ ls) ≡ owed gs pr o kept ls
    unfolding owed
    owed_blank e = rw (blank_rules e, next_fires) refl

    module _ (some : length ws ≡ 0 → ⊥) (all : AllWanted o) where
      -- a rule that matches at no layout that wants one
      pub owed_miss : ((k : ℕ) → o.first ≤ k → k < o.first + o.count → (is_in k o.wanted && rule_matches (members gs) pr k (heading_by o.set).columns ws) ≡ false) →
          owed gs pr o kept (line_of n false ws ∷ ls) ≡ owed gs pr o kept ls
      unfolding owed
      owed_miss m = rw (more_rules some, next_fires, owes_miss (members gs) pr o kept (record { number = n; text = ws }) (rules_from ls) all m) refl

      module _ (m w : ℕ) (is : (k : ℕ) → o.first ≤ k → k < o.first + o.count →
          is_in k m ≡ (is_in k o.wanted && rule_matches (members gs) pr k (heading_by o.set).columns ws))
          (out : (k : ℕ) → is_in k w ≡ (is_in k o.wanted && not (is_in k m))) where
        -- the first matching rule of a layout is kept
        pub owed_keep : o.every ≡ false → owed gs pr o kept (line_of n false ws ∷ ls) ≡ owed gs pr (wanting o w) (keeping m (record { number = n; text = ws }) kept) ls
        unfolding owed
        owed_keep e = rw (more_rules some, next_fires, owes_keep (members gs) pr o kept (record { number = n; text = ws }) (rules_from ls) m w is out e) refl

        -- each matching rule fires
        pub owed_fire : o.every ≡ true → owed gs pr o kept (line_of n false ws ∷ ls) ≡
            kept_fires pr (wanting o w) (keeping m (record { number = n; text = ws }) kept) ++ owed gs pr o kept ls
        unfolding owed
        owed_fire e =
            rw (more_rules some, next_fires, owes_fire (members gs) pr o kept (record { number = n; text = ws }) (rules_from ls) m w is out e all)
            (append_assoc (kept_fires pr (wanting o w) (keeping m (record { number = n; text = ws }) kept)) (set_owes (members gs) pr o kept (rules_from ls)) (firings_from gs pr ls))
