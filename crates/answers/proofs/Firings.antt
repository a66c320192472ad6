-- Firings of appended and of shifted sections, beside groups that are not named; and that every fired value has a byte.
use Prim.Native.Nat.{ℕ, ◌+◌}
use mathlib.Core.Path.{◌≡◌, refl, sym, ap, fun_ext, ◌∙◌}
use mathlib.Core.List.{List, [], ◌∷◌, ◌++◌, map, append_assoc}
use mathlib.Core.Bool.{Bool, true, false, not, ◌||◌, cond}
use lib.ListN.{length, take}
use lib.Dec.{eqb}
use Rattle.text.specs.Bytes.{Text, Words, same, empty, rest, all_of, any_of, concat_map}
use Rattle.text.specs.Lines.{lines}
use Rattle.text.proofs.Lists.{no, and_both, map_append, map_concat, all_append, all_concat, all_cond}
use Rattle.profile.specs.Profile.{Profile, layout_count}
use Rattle.rules.specs.declared.Column.{Column}
use Rattle.rules.specs.declared.Column.TheVariants as column
use Rattle.rules.specs.Words.{has_dollar}
use Rattle.rules.specs.Headings.{Heading}
use Rattle.rules.specs.Sections.{Rule, Head, bad, defines, applies, Section, sections}
use Rattle.rules.specs.Faults.{Groups, defined, with_group, groups_after, left_words, right_words}
use Rattle.rules.proofs.Shifted.{shift_rule, shift_section}
use Rattle.rules.proofs.Fresh.{fresh_word, fresh_head, fresh, with_beside}
use Rattle.values.specs.Spread.{expanded}
use Rattle.answers.specs.Matching.{members, word_matches, value_matches, column_matches, rule_matches, is_options}
use Rattle.answers.specs.Layouts.{layouts_of}
use Rattle.answers.specs.Firings.{Firing, fired, rule_fires, fires_at, set_fires, rule_by_rule, head_fires, firings, file_firings}
use Rattle.answers.specs.Components.{values_of}
use Rattle.answers.proofs.Updates.{non_empty}

-- appended

pub firings_append : (gs : Groups) (p : Profile) (a b : List Section) → firings gs p (a ++ b) ≡ firings gs p a ++ firings (groups_after gs a) p b
unfolding firings groups_after
firings_append gs p [] b = refl
firings_append gs p (s ∷ a) b = rw (firings_append (with_group s.head gs) p a b, append_assoc)

-- shifted

unfoldable pub shift_firing : ℕ → Firing → Firing
shift_firing k f = record { line = f.line + k; layout = f.layout; component = f.component; value = f.value }

fired_shift : (j n k c : ℕ) (v : Text) → fired (n + j) k c v ≡ map (shift_firing j) (fired n k c v)
unfolding fired shift_firing empty
fired_shift j n k c [] = refl
fired_shift j n k c (b ∷ v) = refl

rule_fires_shift : (p : Profile) (j n k : ℕ) (cs : List ℕ) (ws : Words) → rule_fires p (n + j) k cs ws ≡ map (shift_firing j) (rule_fires p n k cs ws)
unfolding rule_fires
rule_fires_shift p j n k [] ws = refl
rule_fires_shift p j n k (c ∷ cs) [] = refl
rule_fires_shift p j n k (c ∷ cs) (w ∷ ws) = rw (fired_shift, rule_fires_shift p j n k cs ws, map_append)

at_shift : (p : Profile) (h : Heading) (j : ℕ) (r : Rule) (k : ℕ) → fires_at p h (shift_rule j r) k ≡ map (shift_firing j) (fires_at p h r k)
unfolding fires_at shift_rule
at_shift p h j r k = rule_fires_shift p j r.number k h.components (right_words h r.text)

arms_shift : (j : ℕ) (t : Bool) (a b : List Firing) → cond t (map (shift_firing j) a) (map (shift_firing j) b) ≡ map (shift_firing j) (cond t a b)
arms_shift j true a b = refl
arms_shift j false a b = refl

set_fires_shift : (look : Text → Words) (p : Profile) (h : Heading) (j k : ℕ) (rs : List Rule) →
    set_fires look p h k (map (shift_rule j) rs) ≡ map (shift_firing j) (set_fires look p h k rs)
unfolding set_fires shift_rule
set_fires_shift look p h j k [] = refl
set_fires_shift look p h j k (r ∷ rs) =
    rw (at_shift p h j r k, set_fires_shift look p h j k rs)
    (arms_shift j (rule_matches look p k h.columns r.text) (fires_at p h r k) (set_fires look p h k rs))

by_rule_shift : (look : Text → Words) (p : Profile) (h : Heading) (ks : List ℕ) (j : ℕ) (rs : List Rule) →
    rule_by_rule look p h ks (map (shift_rule j) rs) ≡ map (shift_firing j) (rule_by_rule look p h ks rs)
unfolding rule_by_rule shift_rule
by_rule_shift look p h ks j [] = refl
by_rule_shift look p h ks j (r ∷ rs) =
    rw (
      map_concat (shift_firing j) (λ k. cond (rule_matches look p k h.columns r.text) (fires_at p h r k) [])
          (λ k. cond (rule_matches look p k h.columns r.text) (fires_at p h (shift_rule j r) k) []) ks
          (λ k. rw (at_shift p h j r k) (arms_shift j (rule_matches look p k h.columns r.text) (fires_at p h r k) [])),
      by_rule_shift look p h ks j rs,
    )
    (sym (map_append (shift_firing j) (concat_map (λ k. cond (rule_matches look p k h.columns r.text) (fires_at p h r k) []) ks) (rule_by_rule look p h ks rs)))

head_fires_shift : (gs : Groups) (p : Profile) (k : ℕ) (h : Head) (rs : List Rule) →
    head_fires gs p h (map (shift_rule k) rs) ≡ map (shift_firing k) (head_fires gs p h rs)
unfolding head_fires
head_fires_shift gs p k (bad j) rs = refl
head_fires_shift gs p k (defines g ms) rs = refl
head_fires_shift gs p k (applies h) rs =
    rw (
      by_rule_shift (members gs) p h (layouts_of (layout_count p) h) k rs,
      map_concat (shift_firing k) (λ i. set_fires (members gs) p h i rs) (λ i. set_fires (members gs) p h i (map (shift_rule k) rs)) (layouts_of (layout_count p) h)
          (λ i. set_fires_shift (members gs) p h k i rs),
    )
    (arms_shift k (any_of is_options h.columns) (rule_by_rule (members gs) p h (layouts_of (layout_count p) h) rs)
    (concat_map (λ i. set_fires (members gs) p h i rs) (layouts_of (layout_count p) h)))

pub firings_shift : (gs : Groups) (p : Profile) (k : ℕ) (ss : List Section) →
    firings gs p (map (shift_section k) ss) ≡ map (shift_firing k) (firings gs p ss)
unfolding firings shift_section
firings_shift gs p k [] = refl
firings_shift gs p k (s ∷ ss) =
    rw (head_fires_shift gs p k s.head s.rules, firings_shift (with_group s.head gs) p k ss, map_append)

-- beside groups that are not named

members_none : (g : Groups) (n : Text) → defined g n ≡ false → members g n ≡ []
unfolding defined any_of members
members_none [] n h = refl
members_none (e ∷ g) n h = go (same n e.name) (members_none g n) h
  where
    go : (t : Bool) → (defined g n ≡ false → members g n ≡ []) → t || defined g n ≡ false → cond t e.members (members g n) ≡ []
    go true ih h' = absurd (no (sym h'))
    go false ih h' = ih h'

members_beside : (gs g : Groups) (n : Text) → defined g n ≡ false → members (gs ++ g) n ≡ members gs n
unfolding members
members_beside [] g n h = members_none g n h
members_beside (e ∷ gs) g n h = rw (members_beside gs g n h)

or_not : (a b : Bool) → not a || not b ≡ true → a ≡ true → b ≡ false
or_not true true h e = absurd (no h)
or_not true false h e = refl
or_not false b h e = absurd (no e)

word_beside : (gs g : Groups) (w : Text) → fresh_word g w ≡ true → word_matches (members (gs ++ g)) w ≡ word_matches (members gs) w
unfolding fresh_word word_matches
word_beside gs g w h = fun_ext (λ v. go v (has_dollar w) refl)
  where
    go : (v : Text) (t : Bool) → has_dollar w ≡ t → word_matches (members (gs ++ g)) w v ≡ word_matches (members gs) w v
    go v true e = rw (e, members_beside gs g (rest w) (or_not (has_dollar w) (defined g (rest w)) h e))
    go v false e = rw e

column_beside : (gs g : Groups) (p : Profile) (k : ℕ) (c : Column) (w : Text) → fresh_word g w ≡ true →
    column_matches (members (gs ++ g)) p k c w ≡ column_matches (members gs) p k c w
unfolding column_matches value_matches
column_beside gs g p k column.Model w h = rw (word_beside gs g w h)
column_beside gs g p k column.Layout w h = rw (word_beside gs g w h)
column_beside gs g p k column.Variant w h = rw (word_beside gs g w h)
column_beside gs g p k column.Options w h = rw (word_beside gs g w h)

rule_beside : (gs g : Groups) (p : Profile) (k : ℕ) (cs : List Column) (ws : Words) → all_of (fresh_word g) (take (length cs) ws) ≡ true →
    rule_matches (members (gs ++ g)) p k cs ws ≡ rule_matches (members gs) p k cs ws
unfolding rule_matches all_of
rule_beside gs g p k [] ws h = refl
rule_beside gs g p k (c ∷ cs) [] h = refl
rule_beside gs g p k (c ∷ cs) (w ∷ ws) h =
    let b = and_both (fresh_word g w) (all_of (fresh_word g) (take (length cs) ws)) h in
    rw (column_beside gs g p k c w b.0, rule_beside gs g p k cs ws b.1)

set_beside : (gs g : Groups) (p : Profile) (h : Heading) (k : ℕ) (rs : List Rule) →
    all_of (λ r. all_of (fresh_word g) (left_words h r.text)) rs ≡ true → set_fires (members (gs ++ g)) p h k rs ≡ set_fires (members gs) p h k rs
unfolding set_fires all_of left_words
set_beside gs g p h k [] f = refl
set_beside gs g p h k (r ∷ rs) f =
    let b = and_both (all_of (fresh_word g) (left_words h r.text)) (all_of (λ r. all_of (fresh_word g) (left_words h r.text)) rs) f in
    rw (rule_beside gs g p k h.columns r.text b.0, set_beside gs g p h k rs b.1)

by_rule_beside : (gs g : Groups) (p : Profile) (h : Heading) (ks : List ℕ) (rs : List Rule) →
    all_of (λ r. all_of (fresh_word g) (left_words h r.text)) rs ≡ true → rule_by_rule (members (gs ++ g)) p h ks rs ≡ rule_by_rule (members gs) p h ks rs
unfolding rule_by_rule all_of left_words
by_rule_beside gs g p h ks [] f = refl
by_rule_beside gs g p h ks (r ∷ rs) f =
    let b = and_both (all_of (fresh_word g) (left_words h r.text)) (all_of (λ r. all_of (fresh_word g) (left_words h r.text)) rs) f in
    ap (λ (m : ℕ → Bool). concat_map (λ k. cond (m k) (fires_at p h r k) []) ks ++ rule_by_rule (members (gs ++ g)) p h ks rs)
    (fun_ext (λ k. rule_beside gs g p k h.columns r.text b.0))
    ∙ rw (by_rule_beside gs g p h ks rs b.1) refl

head_fires_beside : (gs g : Groups) (p : Profile) (h : Head) (rs : List Rule) → fresh_head g h rs ≡ true → head_fires (gs ++ g) p h rs ≡ head_fires gs p h rs
unfolding head_fires fresh_head
head_fires_beside gs g p (bad k) rs f = refl
head_fires_beside gs g p (defines n ms) rs f = refl
head_fires_beside gs g p (applies h) rs f =
    rw (by_rule_beside gs g p h (layouts_of (layout_count p) h) rs f)
    (ap (λ (q : ℕ → List Firing). cond (any_of is_options h.columns) (rule_by_rule (members gs) p h (layouts_of (layout_count p) h) rs)
    (concat_map q (layouts_of (layout_count p) h)))
    (fun_ext (λ k. set_beside gs g p h k rs f)))

pub firings_beside : (gs g : Groups) (p : Profile) (ss : List Section) → fresh g ss ≡ true → firings (gs ++ g) p ss ≡ firings gs p ss
unfolding firings fresh all_of
firings_beside gs g p [] f = refl
firings_beside gs g p (s ∷ ss) f =
    let b = and_both (fresh_head g s.head s.rules) (fresh g ss) f in
    rw (head_fires_beside gs g p s.head s.rules b.0, with_beside, firings_beside (with_group s.head gs) g p ss b.1)

-- every fired value has a byte

abbrev full : Firing → Bool
full f = not (empty f.value)

fired_full : (n k c : ℕ) (v : Text) → all_of full (fired n k c v) ≡ true
unfolding fired all_of empty
fired_full n k c [] = refl
fired_full n k c (b ∷ v) = refl

rule_full : (p : Profile) (n k : ℕ) (cs : List ℕ) (ws : Words) → all_of full (rule_fires p n k cs ws) ≡ true
unfolding rule_fires all_of
rule_full p n k [] ws = refl
rule_full p n k (c ∷ cs) [] = refl
rule_full p n k (c ∷ cs) (w ∷ ws) =
    all_append full (fired n k c (expanded p k w)) (rule_fires p n k cs ws) (fired_full n k c (expanded p k w)) (rule_full p n k cs ws)

at_full : (p : Profile) (h : Heading) (r : Rule) (k : ℕ) → all_of full (fires_at p h r k) ≡ true
unfolding fires_at
at_full p h r k = rule_full p r.number k h.components (right_words h r.text)

set_full : (look : Text → Words) (p : Profile) (h : Heading) (k : ℕ) (rs : List Rule) → all_of full (set_fires look p h k rs) ≡ true
unfolding set_fires all_of
set_full look p h k [] = refl
set_full look p h k (r ∷ rs) =
    all_cond full (rule_matches look p k h.columns r.text) (fires_at p h r k) (set_fires look p h k rs) (at_full p h r k) (set_full look p h k rs)

by_rule_full : (look : Text → Words) (p : Profile) (h : Heading) (ks : List ℕ) (rs : List Rule) → all_of full (rule_by_rule look p h ks rs) ≡ true
unfolding rule_by_rule all_of
by_rule_full look p h ks [] = refl
by_rule_full look p h ks (r ∷ rs) =
    all_append full (concat_map (λ k. cond (rule_matches look p k h.columns r.text) (fires_at p h r k) []) ks)
    (rule_by_rule look p h ks rs)
    (all_concat full _ ks (λ k. all_cond full (rule_matches look p k h.columns r.text) _ [] (at_full p h r k) refl))
    (by_rule_full look p h ks rs)

head_full : (gs : Groups) (p : Profile) (h : Head) (rs : List Rule) → all_of full (head_fires gs p h rs) ≡ true
unfolding head_fires all_of
head_full gs p (bad k) rs = refl
head_full gs p (defines g ms) rs = refl
head_full gs p (applies h) rs =
    all_cond full (any_of is_options h.columns) _ _ (by_rule_full (members gs) p h (layouts_of (layout_count p) h) rs)
    (all_concat full _ (layouts_of (layout_count p) h) (λ k. set_full (members gs) p h k rs))

firings_full : (gs : Groups) (p : Profile) (ss : List Section) → all_of full (firings gs p ss) ≡ true
unfolding firings all_of
firings_full gs p [] = refl
firings_full gs p (s ∷ ss) =
    all_append full (head_fires gs p s.head s.rules) _ (head_full gs p s.head s.rules) (firings_full (with_group s.head gs) p ss)

values_full : (c : ℕ) (fs : List Firing) → all_of full fs ≡ true → all_of non_empty (values_of c fs) ≡ true
unfolding values_of all_of
values_full c [] h = refl
values_full c (f ∷ fs) h = go (eqb f.component c) (and_both (full f) (all_of full fs) h).0 (values_full c fs (and_both (full f) (all_of full fs) h).1)
  where
    go : (t : Bool) → full f ≡ true → all_of non_empty (values_of c fs) ≡ true → all_of non_empty (cond t (f.value ∷ values_of c fs) (values_of c fs)) ≡ true
    go true e ih = rw (e, ih)
    go false e ih = ih

pub file_values : (f : Text) (p : Profile) (c : ℕ) → all_of non_empty (values_of c (file_firings f p)) ≡ true
unfolding file_firings
file_values f p c = values_full c (firings [] p (sections (lines f)).1) (firings_full [] p (sections (lines f)).1)

pub values_shift : (c k : ℕ) (fs : List Firing) → values_of c (map (shift_firing k) fs) ≡ values_of c fs
unfolding values_of shift_firing
values_shift c k [] = refl
values_shift c k (f ∷ fs) = rw (values_shift c k fs)
