-- What is still to fire, one line further.
use Prim.Native.Nat.{ℕ, zero, suc, ◌+◌, ◌≤◌, ◌<◌}
use native.Mathlib.Omega.{arith}
use mathlib.Core.Path.{◌≡◌, refl, sym, ap, ◌∙◌}
use mathlib.Core.List.{List, [], ◌∷◌, ◌++◌}
use mathlib.Core.Bool.{Bool, true, false, not, ◌&&◌, cond}
use Rattle.text.specs.Bytes.{Text, Words, concat_map}
use Rattle.profile.specs.Profile.{Profile}
use Rattle.rules.specs.Headings.{Heading, up_from}
use Rattle.rules.specs.Sections.{Rule}
use Rattle.answers.specs.Matching.{rule_matches}
use Rattle.answers.specs.Firings.{Firing, set_fires, rule_by_rule, fires_at}
use Rattle.bitsets.specs.Sets.{is_in}
use Rattle.rules.specs.Held.{heading_by}
use Rattle.reading.specs.declared.OpenSet.{OpenSet}
use Rattle.reading.specs.Owed.{Kept, AllWanted, wanting, keeping, layouts_in, owed_at, set_owes, kept_fires}

-- two functions that are equal at each number of a range
pub each_same : (f g : ℕ → List Firing) (n k : ℕ) → ((j : ℕ) → k ≤ j → j < k + n → f j ≡ g j) → concat_map f (up_from n k) ≡ concat_map g (up_from n k)
unfolding concat_map up_from
each_same f g zero k h = refl
each_same f g (suc n) k h = rw (h k (omega arith) (omega arith), each_same f g n (k + 1) (λ j a b. h j (omega arith) (omega arith))) refl

-- nothing at each number
pub each_none : (f : ℕ → List Firing) (n k : ℕ) → ((j : ℕ) → k ≤ j → j < k + n → f j ≡ []) → concat_map f (up_from n k) ≡ []
unfolding concat_map up_from
each_none f zero k h = refl
each_none f (suc n) k h = rw (h k (omega arith) (omega arith), each_none f n (k + 1) (λ j a b. h j (omega arith) (omega arith))) refl

fires_none : (look : Text → Words) (p : Profile) (h : Heading) (k : ℕ) → set_fires look p h k [] ≡ []
unfolding set_fires
fires_none look p h k = refl

fires_cons : (look : Text → Words) (p : Profile) (h : Heading) (k : ℕ) (r : Rule) (rs : List Rule) → set_fires look p h k (r ∷ rs) ≡
    cond (rule_matches look p k h.columns r.text) (fires_at p h r k) (set_fires look p h k rs)
unfolding set_fires
fires_cons look p h k r rs = refl

every_none : (look : Text → Words) (p : Profile) (h : Heading) (ks : List ℕ) → rule_by_rule look p h ks [] ≡ []
unfolding rule_by_rule
every_none look p h ks = refl

every_cons : (look : Text → Words) (p : Profile) (h : Heading) (ks : List ℕ) (r : Rule) (rs : List Rule) → rule_by_rule look p h ks (r ∷ rs) ≡
    concat_map (λ k. cond (rule_matches look p k h.columns r.text) (fires_at p h r k) []) ks ++ rule_by_rule look p h ks rs
unfolding rule_by_rule
every_cons look p h ks r rs = refl

-- one layout: x whether it wants a rule, t whether the rule matches
step_hit : {A : Type 0} (a b c : A) (x t : Bool) → cond x (cond t a b) c ≡ cond (x && not (x && t)) b (cond (x && t) a c)
step_hit a b c true true = refl
step_hit a b c true false = refl
step_hit a b c false t = refl

step_miss : {A : Type 0} (a b c : A) (x t : Bool) → (x && t) ≡ false → cond x (cond t a b) c ≡ cond x b c
step_miss a b c true true h = absurd (Rattle.text.proofs.Lists.no (sym h))
step_miss a b c true false h = refl
step_miss a b c false t h = refl

at_cond : (p : Profile) (h : Heading) (y : Bool) (r r' : Rule) (k : ℕ) → fires_at p h (cond y r r') k ≡ cond y (fires_at p h r k) (fires_at p h r' k)
at_cond p h true r r' k = refl
at_cond p h false r r' k = refl

module _ (look : Text → Words) (p : Profile) (o : OpenSet) (kept : Kept) where
  abbrev h : Heading
  h = heading_by o.set

  abbrev matches_at : Rule → ℕ → Bool
  matches_at r k = rule_matches look p k (heading_by o.set).columns r.text

  -- no rule is left
  pub owes_end : AllWanted o → set_owes look p o kept [] ≡ kept_fires p o kept
  unfolding set_owes kept_fires owed_at
  owes_end w = go o.every refl
    where
      go : (t : Bool) → o.every ≡ t → cond t (rule_by_rule look p h (layouts_in o) []) (concat_map (owed_at look p h o.wanted kept []) (layouts_in o)) ≡
          concat_map (λ k. cond (is_in k o.wanted) [] (fires_at p h (kept k) k)) (layouts_in o)
      go true e =
          every_none look p h (layouts_in o)
          ∙ sym (each_none _ o.count o.first (λ k a b. rw (w.all e k a b) refl))
      go false e = each_same _ _ o.count o.first (λ k a b. rw (fires_none look p h k) refl)

  -- a rule that matches at no layout that wants one
  pub owes_miss : (r : Rule) (rs : List Rule) → AllWanted o →
      ((k : ℕ) → o.first ≤ k → k < o.first + o.count → (is_in k o.wanted && matches_at r k) ≡ false) → set_owes look p o kept (r ∷ rs) ≡ set_owes look p o kept rs
  unfolding set_owes owed_at
  owes_miss r rs w m = go o.every refl
    where
      go : (t : Bool) → o.every ≡ t →
          cond t (rule_by_rule look p h (layouts_in o) (r ∷ rs)) (concat_map (owed_at look p h o.wanted kept (r ∷ rs)) (layouts_in o)) ≡
          cond t (rule_by_rule look p h (layouts_in o) rs) (concat_map (owed_at look p h o.wanted kept rs) (layouts_in o))
      go true e =
          every_cons look p h (layouts_in o) r rs
          ∙ rw (each_none (λ k. cond (matches_at r k) (fires_at p h r k) []) o.count o.first (λ k a b.
          let z : matches_at r k ≡ false = rw (w.all e k a b) at (m k a b) in rw z refl)) refl
      go false e =
          each_same _ _ o.count o.first (λ k a b.
          rw (fires_cons look p h k r rs) (step_miss (fires_at p h r k) (set_fires look p h k rs) (fires_at p h (kept k) k) (is_in k o.wanted) (matches_at r k) (m k a b)))

  module _ (r : Rule) (rs : List Rule) (m w : ℕ)
      (is : (k : ℕ) → o.first ≤ k → k < o.first + o.count → is_in k m ≡ (is_in k o.wanted && matches_at r k))
      (out : (k : ℕ) → is_in k w ≡ (is_in k o.wanted && not (is_in k m))) where
    -- the first matching rule is kept
    pub owes_keep : o.every ≡ false → set_owes look p o kept (r ∷ rs) ≡ set_owes look p (wanting o w) (keeping m r kept) rs
    unfolding set_owes owed_at keeping
    owes_keep e =
        rw e
        (each_same _ _ o.count o.first (λ k a b.
        rw (fires_cons look p h k r rs, out k, is k a b, at_cond p h (is_in k o.wanted && matches_at r k) r (kept k) k)
        (step_hit (fires_at p h r k) (set_fires look p h k rs) (fires_at p h (kept k) k) (is_in k o.wanted) (matches_at r k))))

    -- each matching rule fires at once
    pub owes_fire : o.every ≡ true → AllWanted o → set_owes look p o kept (r ∷ rs) ≡ kept_fires p (wanting o w) (keeping m r kept) ++ set_owes look p o kept rs
    unfolding set_owes kept_fires keeping
    owes_fire e v =
        rw e
        (every_cons look p h (layouts_in o) r rs
        ∙ ap (λ (x : List Firing). x ++ rule_by_rule look p h (layouts_in o) rs)
        (each_same _ _ o.count o.first (λ k a b.
        let y : is_in k m ≡ matches_at r k = rw (v.all e k a b) at (is k a b) in
        rw (out k, v.all e k a b, y, at_cond p h (matches_at r k) r (kept k) k) (turned (matches_at r k) (fires_at p h r k) (fires_at p h (kept k) k)))))
      where
        turned : (t : Bool) (a b : List Firing) → cond t a [] ≡ cond (not t) [] (cond t a b)
        turned true a b = refl
        turned false a b = refl
