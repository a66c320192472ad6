-- A set as its heading opens it: all is owed that the heading fires.
use Prim.Native.Nat.{ℕ, ◌+◌, ◌≤◌, ◌<◌}
use native.Mathlib.Omega.{arith}
use mathlib.Core.Path.{◌≡◌, refl, sym, ap, ◌∙◌}
use mathlib.Core.List.{List, [], ◌∷◌}
use mathlib.Core.Bool.{Bool, true, false, cond}
use Rattle.text.specs.Bytes.{Text, Words, any_of, concat_map}
use Rattle.text.proofs.Lists.{no}
use Rattle.profile.specs.Profile.{Profile, layout_count}
use Rattle.rules.specs.declared.Present.{Present}
use Rattle.rules.specs.declared.SetHeading.{SetHeading}
use Rattle.rules.specs.Headings.{Heading, up_from}
use Rattle.rules.specs.Sections.{Rule, applies}
use Rattle.rules.specs.Faults.{Groups}
use Rattle.rules.specs.Checking.{present_of, present_by}
use Rattle.answers.specs.Matching.{members, is_options}
use Rattle.answers.specs.Layouts.{layouts_of, per_layout}
use Rattle.answers.specs.Firings.{Firing, set_fires, rule_by_rule, head_fires}
use Rattle.bitsets.specs.Sets.{Spans}
use Rattle.judging.specs.declared.Range.{Range}
use Rattle.rules.specs.Held.{heading_by, SetSized, FromOne}
use Rattle.rules.proofs.HeldHeadings.{columns_length, components_length}
use Rattle.judging.proofs.LayoutRange.{range_within, range_single}
use Rattle.reading.specs.declared.OpenSet.{OpenSet}
use Rattle.reading.specs.Owed.{Kept, owed_at, set_owes}
use Rattle.reading.specs.Keeping.{most_places}
use Rattle.reading.specs.Opening.{closed_set, Opened}
use Rattle.reading.proofs.Owing.{each_same}

present_is : (h : SetHeading) → present_by h ≡ present_of (heading_by h)
unfolding present_of heading_by
present_is h = sym (rw (columns_length h, components_length h) refl)

-- at no layout nothing fires
nowhere : (look : Text → Words) (p : Profile) (h : Heading) (rs : List Rule) → rule_by_rule look p h [] rs ≡ []
unfolding rule_by_rule concat_map
nowhere look p h [] = refl
nowhere look p h (r ∷ rs) = nowhere look p h rs

pub owes_nothing : (look : Text → Words) (p : Profile) (pr : Present) (h : SetHeading) (kept : Kept) (rs : List Rule) → set_owes look p (closed_set pr h) kept rs ≡ []
unfolding set_owes concat_map up_from
owes_nothing look p pr h kept rs = refl

head_is : (gs : Groups) (p : Profile) (h : Heading) (rs : List Rule) → head_fires gs p (applies h) rs ≡
    cond (any_of is_options h.columns) (rule_by_rule (members gs) p h (layouts_of (layout_count p) h) rs)
    (concat_map (λ k. set_fires (members gs) p h k rs) (layouts_of (layout_count p) h))
unfolding head_fires
head_is gs p h rs = refl

head_nowhere : (gs : Groups) (p : Profile) (h : Heading) (rs : List Rule) → layouts_of (layout_count p) h ≡ [] → head_fires gs p (applies h) rs ≡ []
unfolding concat_map
head_nowhere gs p h rs e = head_is gs p h rs ∙ rw (e, nowhere (members gs) p h rs) (either (any_of is_options h.columns))
  where
    either : (b : Bool) → ◌≡◌ {A = List Firing} (cond b [] []) []
    either true = refl
    either false = refl

up_none : (c f : ℕ) → c ≡ 0 → up_from c f ≡ []
unfolding up_from
up_none c f e = rw e refl

module _ (h : SetHeading) (n : ℕ) (sized : SetSized h) (one : FromOne h.index) (some : 1 ≤ n) (few : n ≤ 32) (r : Range)
    (is : up_from r.count r.first ≡ layouts_of n (heading_by h)) where
  -- a set that does not apply
  pub opened_closed : (p : Present) (o : OpenSet) → p ≡ present_by h → r.count ≡ 0 → o ≡ closed_set p h → Opened n h o
  opened_closed p o e z w =
      rw w
      (record {
        held =
            record {
              sized = sized;
              seekable = record { columns = rw (columns_length h) sized.some; left = rw e sized.left; right = rw e h.components.few; heading = λ y. absurd (y refl) };
              among = λ j k a b. absurd (omega arith);
              all = record { all = λ y. absurd (no y) };
              some = some;
            };
        range = omega arith;
        set = refl;
        present = e ∙ present_is h;
        owes = λ gs q c kept rs.
            owes_nothing (members gs) q p h kept rs
            ∙ sym (head_nowhere gs q (heading_by h) rs (ap (λ (i : ℕ). layouts_of i (heading_by h)) c ∙ (sym is ∙ up_none r.count r.first z)));
        kept = λ k a b. absurd (omega arith);
      })

  module _ (c : 0 < r.count) where
    within : any_of per_layout (heading_by h).columns ≡ true → (1 ≤ r.first) × (r.first + r.count ≤ n + 1)
    within e = range_within h n r is e one some c

    range_low : r.first + r.count ≤ most_places
    range_low = go (any_of per_layout (heading_by h).columns) refl
      where
        go : (b : Bool) → any_of per_layout (heading_by h).columns ≡ b → r.first + r.count ≤ most_places
        go true e = omega (arith, (within e).1)
        go false e = let w = range_single h n r is e in omega (arith, w.0, w.1)

    pub range_room : r.first + r.count ≤ 64
    range_room = omega (arith, range_low)

    pub opened_set : (p : Present) (every : Bool) (w : ℕ) → p ≡ present_by h → every ≡ any_of is_options (heading_by h).columns → Spans r.first r.count w →
        Opened n h (record { present = p; set = h; first = r.first; count = r.count; every = every; wanted = w })
    unfolding set_owes owed_at
    opened_set p every w e v u =
        record {
          held =
              record {
                sized = sized;
                seekable =
                    record {
                      columns = rw (columns_length h) sized.some;
                      left = rw e sized.left;
                      right = rw e h.components.few;
                      heading = λ y. e ∙ present_is h;
                    };
                among = λ j k a b. let x = within j in (omega (arith, x.0), omega (arith, x.1));
                all = record { all = λ y k a b. u.inside k a b };
                some = some;
              };
          range = range_low;
          set = refl;
          present = e ∙ present_is h;
          owes = λ gs q c kept rs.
              let s : up_from r.count r.first ≡ layouts_of (layout_count q) (heading_by h) = is ∙ ap (λ (i : ℕ). layouts_of i (heading_by h)) (sym c) in
              rw (
                v,
                each_same (owed_at (members gs) q (heading_by h) w kept rs) (λ k. set_fires (members gs) q (heading_by h) k rs) r.count r.first
                    (λ k a b. rw (u.inside k a b) refl),
                s,
              )
              (sym (head_is gs q (heading_by h) rs));
          kept = u.inside;
        }
