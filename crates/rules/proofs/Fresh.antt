-- Groups that sections do not name change none of their faults.
use Prim.Native.Nat.{ℕ, ◌+◌, ◌≤◌, ◌<◌}
use native.Mathlib.Omega.{arith}
use mathlib.Core.Path.{◌≡◌, refl, sym, ◌∙◌}
use mathlib.Core.List.{List, [], ◌∷◌, ◌++◌, map}
use mathlib.Core.Bool.{Bool, true, false, not, ◌||◌, cond}
use lib.ListN.{length, take, drop, length-append}
use lib.Dec.{eqb}
use borrow.Author.Tests.{lt-leb, eqb-true, not-true}
use Rattle.text.specs.Limits.{most_groups}
use Rattle.text.specs.declared.Refusal.{Refusal}
use Rattle.text.specs.Bytes.{Text, Words, same, first, rest, all_of, any_of, concat_map, apart}
use Rattle.text.specs.Refusals.{refused_if, refused_as}
use Rattle.text.proofs.Lists.{no, and_both, both_and, nil_left, nil_right}
use Rattle.rules.specs.Words.{is_equals, is_star, has_dollar, ordinary, is_group_name, left_word}
use Rattle.rules.specs.Percent.{malformed}
use Rattle.rules.specs.Headings.{Heading, has_word}
use Rattle.rules.specs.Sections.{Rule, Head, bad, defines, applies, Section}
use Rattle.rules.specs.Faults.{Groups, defined, with_group, groups_after, left_words, rule_shape, shape_fault, rule_fault, head_faults, faults}
use Rattle.rules.specs.Names.{names_in, head_names}

-- the word, the section, the sections name none of the groups g

unfoldable pub fresh_word : Groups → Text → Bool
fresh_word g w = not (has_dollar w) || not (defined g (rest w))

unfoldable pub fresh_head : Groups → Head → List Rule → Bool
fresh_head g (bad k) rs = true
fresh_head g (defines n ms) rs = not (defined g n)
fresh_head g (applies h) rs = all_of (λ r. all_of (fresh_word g) (left_words h r.text)) rs

unfoldable pub fresh : Groups → List Section → Bool
fresh g ss = all_of (λ s. fresh_head g s.head s.rules) ss

-- groups beside those that were there

pub defined_beside : (gs g : Groups) (n : Text) → defined g n ≡ false → defined (gs ++ g) n ≡ defined gs n
unfolding defined any_of
defined_beside [] g n h = h
defined_beside (e ∷ gs) g n h = rw (defined_beside gs g n h)

pub with_beside : (h : Head) (gs g : Groups) → with_group h (gs ++ g) ≡ with_group h gs ++ g
unfolding with_group
with_beside (bad k) gs g = refl
with_beside (defines n ms) gs g = refl
with_beside (applies h) gs g = refl

with_length : (h : Head) (gs : Groups) → length gs ≤ length (with_group h gs)
unfolding with_group
with_length (bad k) gs = omega arith
with_length (defines n ms) gs = omega arith
with_length (applies h) gs = omega arith

after_length : (gs : Groups) (ss : List Section) → length gs ≤ length (groups_after gs ss)
unfolding groups_after
after_length gs [] = omega arith
after_length gs (s ∷ ss) = omega (arith, with_length s.head gs, after_length (with_group s.head gs) ss)

head_faults_beside : (gs g : Groups) (n : ℕ) (h : Head) (rs : List Rule) → fresh_head g h rs ≡ true → length (with_group h gs) + length g ≤ most_groups →
    head_faults (gs ++ g) n h rs ≡ head_faults gs n h rs
unfolding head_faults fresh_head with_group
head_faults_beside gs g n (bad k) rs f l = refl
head_faults_beside gs g n (defines m ms) rs f l =
    let a : length (gs ++ g) < most_groups = simp length-append (omega arith) in
    let b : length gs < most_groups = omega arith in
    rw (defined_beside gs g m (not-true _ f), lt-leb most_groups _ a, lt-leb most_groups _ b)
head_faults_beside gs g n (applies h) rs f l = refl

pub faults_beside : (gs g : Groups) (ss : List Section) → fresh g ss ≡ true → length (groups_after gs ss) + length g ≤ most_groups →
    faults (gs ++ g) ss ≡ faults gs ss
unfolding faults fresh all_of groups_after
faults_beside gs g [] f l = refl
faults_beside gs g (s ∷ ss) f l =
    let b = and_both (fresh_head g s.head s.rules) (fresh g ss) f in
    let w : length (with_group s.head gs) + length g ≤ most_groups = omega (arith, after_length (with_group s.head gs) ss) in
    rw (head_faults_beside gs g s.number s.head s.rules b.0 w, with_beside, faults_beside (with_group s.head gs) g ss b.1 l)

-- For accepted sections, naming none of the groups is what document 01 says: no group line and no left word `$name` has one of their names.

-- in a rule that is accepted a left word that begins with `$` is a `$name`
dollar_left : (w : Text) → left_word w ≡ true → has_dollar w ≡ true → is_group_name w ≡ true
unfolding left_word ordinary is_equals is_star is_group_name has_dollar first same
dollar_left [] h d = absurd (no d)
dollar_left (b ∷ r) h d = let e : b ≡ 36 = eqb-true b 36 d in rw e (rw e at h)

defined_named : (g : Groups) (n : Text) → any_of (same n) (map (λ e. e.name) g) ≡ defined g n
unfolding defined any_of
defined_named [] n = refl
defined_named (e ∷ g) n = rw (defined_named g n)

-- a test that holds of the elements of joined lists
all_left {ℓ} : {A : Type ℓ} (q : A → Bool) (a b : List A) → all_of q (a ++ b) ≡ true → (all_of q a ≡ true) × (all_of q b ≡ true)
unfolding all_of
all_left q [] b h = (refl, h)
all_left q (x ∷ a) b h =
    let w = and_both (q x) (all_of q (a ++ b)) h in
    let v = all_left q a b w.1 in
    (both_and (q x) (all_of q a) w.0 v.0, v.1)

-- no name of the list is defined
abbrev unnamed : Groups → List Text → Bool
unnamed g ns = all_of (λ n. not (any_of (same n) (map (λ e. e.name) g))) ns

fresh_word_lem : (g : Groups) (w : Text) → left_word w ≡ true → unnamed g (cond (is_group_name w) (rest w ∷ []) []) ≡ true → fresh_word g w ≡ true
unfolding fresh_word all_of
fresh_word_lem g w l h = go (has_dollar w) refl
  where
    go : (t : Bool) → has_dollar w ≡ t → not (has_dollar w) || not (defined g (rest w)) ≡ true
    go true e =
        let k : unnamed g (rest w ∷ []) ≡ true = rw (dollar_left w l e) at h in
        let d = not-true _ (and_both (not (any_of (same (rest w)) (map (λ e. e.name) g))) true k).0 in
        rw (e, sym (defined_named g (rest w)) ∙ d)
    go false e = rw e

fresh_words : (g : Groups) (ws : Words) → all_of left_word ws ≡ true → unnamed g (names_in ws) ≡ true → all_of (fresh_word g) ws ≡ true
unfolding all_of names_in concat_map
fresh_words g [] l h = refl
fresh_words g (w ∷ ws) l h =
    let a = and_both (left_word w) (all_of left_word ws) l in
    let b = all_left (λ n. not (any_of (same n) (map (λ e. e.name) g))) (cond (is_group_name w) (rest w ∷ []) []) (names_in ws) h in
    both_and (fresh_word g w) (all_of (fresh_word g) ws) (fresh_word_lem g w a.0 b.0) (fresh_words g ws a.1 b.1)

-- a rule without a fault has left words on its left side
pub as_none : (n p : ℕ) → refused_as n p ≡ [] → eqb n 0 ≡ true
unfolding refused_as refused_if
as_none n p h = go (eqb n 0) (record { number = n; place = p }) h
  where
    go : (t : Bool) (x : Refusal) → cond (not t) (x ∷ []) [] ≡ [] → t ≡ true
    go true x k = refl
    go false x k = cc

shape_left : (l r : ℕ) (i : Bool) (ws : Words) → eqb (shape_fault l r i ws) 0 ≡ true → all_of left_word (take l ws) ≡ true
unfolding shape_fault rule_shape
shape_left l r i ws f = go (rule_shape l r ws) refl f
  where
    go : (t : Bool) → rule_shape l r ws ≡ t → eqb (cond t (cond (any_of (malformed i) (drop (l + 1) ws)) 8 0) 6) 0 ≡ true → all_of left_word (take l ws) ≡ true
    go true e k = (and_both (all_of left_word (take l ws)) _ (and_both (eqb (length ws) (l + 1 + r)) _ e).1).0
    go false e k = absurd (no k)

rule_left : (h : Heading) (ws : Words) → eqb (rule_fault h ws) 0 ≡ true → all_of left_word (left_words h ws) ≡ true
unfolding rule_fault left_words
rule_left h ws f = shape_left (length h.columns) (length h.components) (has_word h.index) ws f

fresh_rules : (g : Groups) (h : Heading) (rs : List Rule) → concat_map (λ r. refused_as (rule_fault h r.text) r.number) rs ≡ [] →
    unnamed g (concat_map (λ r. names_in (left_words h r.text)) rs) ≡ true → all_of (λ r. all_of (fresh_word g) (left_words h r.text)) rs ≡ true
unfolding all_of concat_map
fresh_rules g h [] f n = refl
fresh_rules g h (r ∷ rs) f n =
    let b = all_left (λ n. not (any_of (same n) (map (λ e. e.name) g))) (names_in (left_words h r.text)) (concat_map (λ r. names_in (left_words h r.text)) rs) n in
    let a = as_none (rule_fault h r.text) r.number (nil_left _ _ f) in
    both_and (all_of (fresh_word g) (left_words h r.text)) _
    (fresh_words g (left_words h r.text) (rule_left h r.text a) b.0)
    (fresh_rules g h rs (nil_right (refused_as (rule_fault h r.text) r.number) _ f) b.1)

fresh_head_lem : (gs g : Groups) (n : ℕ) (h : Head) (rs : List Rule) → head_faults gs n h rs ≡ [] → unnamed g (head_names h rs) ≡ true → fresh_head g h rs ≡ true
unfolding head_faults head_names fresh_head all_of
fresh_head_lem gs g n (bad k) rs f u = refl
fresh_head_lem gs g n (defines m ms) rs f u = go u
  where
    go : unnamed g (m ∷ []) ≡ true → not (defined g m) ≡ true
    go k = rw (sym (defined_named g m)) (and_both (not (any_of (same m) (map (λ e. e.name) g))) true k).0
fresh_head_lem gs g n (applies h) rs f u = fresh_rules g h rs f u

pub fresh_named : (gs g : Groups) (ss : List Section) → faults gs ss ≡ [] →
    apart (concat_map (λ s. head_names s.head s.rules) ss) (map (λ e. e.name) g) ≡ true → fresh g ss ≡ true
unfolding faults fresh all_of concat_map apart
fresh_named gs g [] f u = refl
fresh_named gs g (s ∷ ss) f u =
    let b = all_left (λ n. not (any_of (same n) (map (λ e. e.name) g))) (head_names s.head s.rules) (concat_map (λ s. head_names s.head s.rules) ss) u in
    both_and (fresh_head g s.head s.rules) (fresh g ss)
    (fresh_head_lem gs g s.number s.head s.rules (nil_left _ _ f) b.0)
    (fresh_named (with_group s.head gs) g ss (nil_right (head_faults gs s.number s.head s.rules) _ f) b.1)
