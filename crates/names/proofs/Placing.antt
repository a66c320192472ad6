-- The four texts, the places of their fields, and which values are not empty.
use Rattle.std.proofs.Common.{◌≡◌, ℕ, zero, suc, ◌+◌, ◌-◌, ◌≤◌, ◌<◌, Bool, true, false, ◌||◌, eqb, ltb, List, [], ◌∷◌, ◌++◌, length, get_or, set, replicate, length-set, length-append, get_or-set_same, get_or-set_other, append_assoc, append-nil, refl, sym, ap, ◌∙◌, arith}
use Rattle.std.proofs.lemmas.List.{drop-append-le, take_all, get_or_past}
use Rattle.std.proofs.Math.Seq.{drop-append_seam}
use borrow.Author.Tests.{eqb-true, eqb-false, ltb-true, ltb-false}
use Rattle.text.specs.declared.Span.{Span}
use Rattle.text.specs.Limits.{longest_text, longest_field, most_layouts}
use Rattle.text.specs.Bytes.{Text, part, any_of}
use Rattle.text.specs.Refusals.{refused_if}
use Rattle.text.proofs.Lists.{nil_left, nil_right, neither}
use Rattle.text.proofs.Positions.{part_of_part, part_empty}
use Rattle.profile.specs.Profile.{Texts, fields, profile_of, layout_count}
use Rattle.profile.specs.Refusals.{outside, long_field, bad_text, text_refusals, count_refusals, profile_refusals}
use Rattle.profile.specs.Spans.{most_values, no_span, value_at, InText, Placed, ValuesOf}
use Rattle.profile.proofs.Counts.{few_layouts, few_variants}
use Rattle.profile.proofs.Splitting.{get_d_nil}
use Rattle.listing.specs.declared.names.Listing.{Listing}
use Rattle.listing.specs.Lists.{text_of, Empty, Appended}
use Rattle.listing.proofs.Finding.{part_longer}
use Rattle.names.specs.declared.table.Table.{Table}
use Rattle.names.specs.Placing.{four_texts, ShortTexts, TextsCopied, Lies, field_start, EmptyAt, FieldPlace, Emptied, FieldsPlaced, AllValuesPlaced, ValuesPlaced}
use Rattle.names.proofs.Fields.{field_in, start_first, start_next}

pub whole_part : (w : Text) → part w 0 (length w) ≡ w
unfolding part
whole_part w = take_all (length w - 0) w (omega arith)

-- the four texts copied, one after the other

pub texts_copied : (x : Texts) (l₀ l₁ l₂ l₃ l₄ : Listing) (t : Table) (p₁ p₂ p₃ p₄ p : Span) → Empty l₀ → Appended l₀ l₁ x.model p₁ → Appended l₁ l₂ x.layouts p₂ →
    Appended l₂ l₃ x.variants p₃ → Appended l₃ l₄ x.options p₄ → Appended l₄ t.list (42 ∷ []) p → TextsCopied x t p
unfolding four_texts
texts_copied x l₀ l₁ l₂ l₃ l₄ t p₁ p₂ p₃ p₄ p e a b c d f =
    let text : text_of l₄ ≡ ((x.model ++ x.layouts) ++ x.variants) ++ x.options = d.text ∙ rw (c.text, b.text, a.text, e.text) refl in
    let used : l₄.used ≡ length (four_texts x) = sym l₄.long ∙ ap length text in
    record {
      text = f.text ∙ ap (λ (y : Text). y ++ (42 ∷ [])) text;
      used = f.used ∙ ap (λ (n : ℕ). n + 1) used;
      star = f.place ∙ rw (f.used, used) refl;
      names = f.names ∙ (d.names ∙ (c.names ∙ (b.names ∙ (a.names ∙ e.names))));
      count = f.count ∙ (d.count ∙ (c.count ∙ (b.count ∙ (a.count ∙ e.count))));
    }

-- a text in another

lies_first : (o : Text) → Lies o 0 o
lies_first o = record { after = []; high = omega arith; text = sym (append-nil o) }

lies_behind : (p o : Text) → Lies (p ++ o) (length p) o
lies_behind p o = record { after = []; high = omega (arith, length-append p o); text = drop-append_seam p o ∙ sym (append-nil o) }

lies_longer : (s r : Text) (base : ℕ) (o : Text) → Lies s base o → Lies (s ++ r) base o
lies_longer s r base o v =
    record {
      after = v.after ++ r;
      high = omega (arith, length-append s r, v.high);
      text = drop-append-le base s r (omega (arith, v.high)) ∙ (ap (λ (y : Text). y ++ r) v.text ∙ append_assoc o v.after r);
    }

lies_moved : (s : Text) (base base' : ℕ) (o : Text) → base ≡ base' → Lies s base o → Lies s base' o
lies_moved s base base' o e v = rw e at v

pub lies_part : (s : Text) (base : ℕ) (o : Text) (a e : ℕ) → Lies s base o → a ≤ e → e ≤ length o → part s (base + a) (base + e) ≡ part o a e
lies_part s base o a e v h k = sym (part_of_part s base a e) ∙ (ap (λ (y : Text). part y a e) v.text ∙ part_longer o v.after a e h k)

module _ (x : Texts) where
  length_two : length (x.model ++ x.layouts) ≡ length x.model + length x.layouts
  length_two = length-append x.model x.layouts

  length_three : length ((x.model ++ x.layouts) ++ x.variants) ≡ length x.model + length x.layouts + length x.variants
  length_three = omega (arith, length-append (x.model ++ x.layouts) x.variants, length_two)

  pub length_four : length (four_texts x) ≡ length x.model + length x.layouts + length x.variants + length x.options
  unfolding four_texts
  length_four = omega (arith, length-append ((x.model ++ x.layouts) ++ x.variants) x.options, length_three)

  pub lies_model : Lies (four_texts x ++ (42 ∷ [])) 0 x.model
  unfolding four_texts
  lies_model = lies_longer _ _ 0 x.model (lies_longer _ _ 0 x.model (lies_longer _ _ 0 x.model (lies_longer _ _ 0 x.model (lies_first x.model))))

  pub lies_layouts : Lies (four_texts x ++ (42 ∷ [])) (length x.model) x.layouts
  unfolding four_texts
  lies_layouts = lies_longer _ _ _ x.layouts (lies_longer _ _ _ x.layouts (lies_longer _ _ _ x.layouts (lies_behind x.model x.layouts)))

  pub lies_variants : Lies (four_texts x ++ (42 ∷ [])) (length x.model + length x.layouts) x.variants
  unfolding four_texts
  lies_variants = lies_moved _ _ _ x.variants length_two (lies_longer _ _ _ x.variants (lies_longer _ _ _ x.variants (lies_behind (x.model ++ x.layouts) x.variants)))

  pub lies_options : Lies (four_texts x ++ (42 ∷ [])) (length x.model + length x.layouts + length x.variants) x.options
  unfolding four_texts
  lies_options = lies_moved _ _ _ x.options length_three (lies_longer _ _ _ x.options (lies_behind ((x.model ++ x.layouts) ++ x.variants) x.options))

-- the loop of `place_fields`: the places of n fields are in the list
pub record Placing (o : Text) (base first : ℕ) (b₀ b : List Span) (n start : ℕ) : Type 0 where
  pub few : n ≤ length (fields o)
  pub low : n ≤ 32
  pub size : length b ≡ length b₀
  pub next : start ≡ base + field_start (fields o) n
  pub done : (j : ℕ) → j < n → FieldPlace (fields o) base j (get_or b (first + j) no_span)
  pub before : (i : ℕ) → i < first → get_or b i no_span ≡ get_or b₀ i no_span
  pub rest : (i : ℕ) → first + n ≤ i → get_or b i no_span ≡ get_or b₀ i no_span

module _ (o : Text) (base first : ℕ) (b₀ : List Span) where
  pub placing_start : Placing o base first b₀ b₀ 0 base
  placing_start =
      record {
        few = omega arith;
        low = omega arith;
        size = refl;
        next = omega (arith, start_first (fields o));
        done = λ j h. absurd (omega arith);
        before = λ i h. refl;
        rest = λ i h. refl;
      }

  module _ (b : List Span) (n start : ℕ) (g : Placing o base first b₀ b n start) where
    pub placing_low : n < length (fields o) → start + length (get_or (fields o) n []) ≤ base + length o
    placing_low l = omega (arith, g.next, (field_in o n l).high)

    pub placing_more : n < length (fields o) → n < 32 → first + 32 ≤ length b₀ → (f : Text) → f ≡ get_or (fields o) n [] → (m : ℕ) → m ≡ n + 1 →
        Placing o base first b₀ (set b (first + n) (record { start = start; end = start + length f })) m (start + length f + 1)
    placing_more l low k f e m y =
        record {
          few = omega arith;
          low = omega arith;
          size = length-set b (first + n) (record { start = start; end = start + length f }) ∙ g.size;
          next = rw y (let z = start_next (fields o) n l in let w : length f ≡ length (get_or (fields o) n []) = ap length e in omega (arith, g.next));
          done = λ j h. by j h (eqb j n) refl;
          before = λ i h. get_or-set_other b (first + n) i _ no_span (λ (z : i ≡ first + n). omega arith) ∙ g.before i h;
          rest = λ i h. get_or-set_other b (first + n) i _ no_span (λ (z : i ≡ first + n). omega arith) ∙ g.rest i (omega arith);
        }
      where
        by : (j : ℕ) → j < m → (c : Bool) → eqb j n ≡ c →
            FieldPlace (fields o) base j (get_or (set b (first + n) (record { start = start; end = start + length f })) (first + j) no_span)
        by j h true z =
            let i : j ≡ n = eqb-true j n z in
            let q : first + n < length b = omega (arith, g.size) in
            rw (i, get_or-set_same b (first + n) (record { start = start; end = start + length f }) no_span q)
            (record { starts = g.next; stops = ap (λ (x : Text). start + length x) e })
        by j h false z =
            let d : j ≡ n → ⊥ = eqb-false j n z in
            rw (get_or-set_other b (first + n) (first + j) (record { start = start; end = start + length f }) no_span (λ (x : first + j ≡ first + n). d (omega arith)))
            (g.done j (omega arith))

    pub placing_end : ((j : ℕ) → j < 32 → j < length (fields o) → j < n) → (b₁ : List Span) → Emptied (base + length o) first (first + 32) b₁ b₀ → FieldsPlaced o base first b₁ b
    placing_end all b₁ u =
        record {
          size = g.size ∙ u.size;
          placed =
              record {
                here = λ j l h. g.done j (all j l h);
                none = λ j l h. g.rest (first + j) (omega (arith, g.few)) ∙ u.here (first + j) (omega arith) (omega arith);
              };
          before = λ i h. g.before i h ∙ u.before i h;
          beyond = λ i h. g.rest i (omega (arith, g.low)) ∙ u.beyond i h;
        }

-- the model, the layouts, the variants

pub all_values_placed : (x : Texts) (b b' b'' : List Span) → length b ≡ most_values → get_or b 0 no_span ≡ record { start = 0; end = length x.model } →
    FieldsPlaced x.layouts (length x.model) 1 b b' →
    FieldsPlaced x.variants (length x.model + length x.layouts) 33 b' b'' → AllValuesPlaced x b''
all_values_placed x b b' b'' n m p q =
    record {
      size = q.size ∙ (p.size ∙ n);
      model = q.before 0 (omega arith) ∙ (p.before 0 (omega arith) ∙ m);
      layouts =
          record {
            here = λ j l h. rw (q.before (1 + j) (omega arith)) (p.placed.here j l h);
            none = λ j l h. q.before (1 + j) (omega arith) ∙ p.placed.none j l h;
          };
      variants = q.placed;
    }

none_behind : (n j : ℕ) → get_or (replicate n no_span) j no_span ≡ no_span
none_behind zero zero = refl
none_behind zero (suc j) = refl
none_behind (suc n) zero = refl
none_behind (suc n) (suc j) = none_behind n j

-- the places before the fields are put in
pub first_places : (p : Span) → (j : ℕ) → 1 ≤ j → get_or (set (replicate most_values no_span) 0 p) j no_span ≡ no_span
first_places p j h = get_or-set_other (replicate most_values no_span) 0 j p no_span (λ (z : j ≡ 0). omega arith) ∙ none_behind most_values j

-- no value has a place yet
pub none_placed : (s : Text) → Placed s (replicate most_values no_span)
none_placed s = record { size = refl; place = λ j l. rw (none_behind most_values j) (record { low = omega arith; high = omega arith; short = omega arith }) }

-- no field is too long

long_none : long_field [] ≡ false
unfolding long_field
long_none = refl

not_long : (f : Text) → long_field f ≡ false → length f ≤ longest_field
unfolding long_field
not_long f h = ltb-false longest_field (length f) h

short_at : (fs : List Text) (j : ℕ) → any_of long_field fs ≡ false → long_field (get_or fs j []) ≡ false
unfolding any_of
short_at [] j h = ap long_field (get_d_nil j) ∙ long_none
short_at (f ∷ fs) zero h = (neither (long_field f) (any_of long_field fs) h).0
short_at (f ∷ fs) (suc j) h = short_at fs j (neither (long_field f) (any_of long_field fs) h).1

not_refused : (b : Bool) (n p : ℕ) → refused_if b n p ≡ [] → b ≡ false
unfolding refused_if
not_refused true n p h = absurd (let z : ◌≡◌ {A = ℕ} 0 1 = cc in omega arith)
not_refused false n p h = refl

good_text : (t : Text) (fs : List Text) → bad_text t fs ≡ false → (length t ≤ longest_text) × (any_of long_field fs ≡ false)
unfolding bad_text
good_text t fs h =
    let a = neither (ltb longest_text (length t)) (any_of outside t || any_of long_field fs) h in
    (ltb-false longest_text (length t) a.0, (neither (any_of outside t) (any_of long_field fs) a.1).1)

module _ (x : Texts) (h : profile_refusals x ≡ []) where
  none_bad : text_refusals x ≡ []
  unfolding profile_refusals
  none_bad = nil_left (text_refusals x) (count_refusals x) h

  good_model : bad_text x.model (x.model ∷ []) ≡ false
  unfolding text_refusals
  good_model = not_refused _ 1 1 (nil_left (refused_if (bad_text x.model (x.model ∷ [])) 1 1) _ none_bad)

  good_later : refused_if (bad_text x.layouts (fields x.layouts)) 1 2
      ++ (refused_if (bad_text x.variants (fields x.variants)) 1 3 ++ refused_if (bad_text x.options (fields x.options)) 1 4) ≡ []
  unfolding text_refusals
  good_later = nil_right (refused_if (bad_text x.model (x.model ∷ [])) 1 1) _ none_bad

  good_layouts : bad_text x.layouts (fields x.layouts) ≡ false
  good_layouts = not_refused _ 1 2 (nil_left (refused_if (bad_text x.layouts (fields x.layouts)) 1 2) _ good_later)

  good_last : refused_if (bad_text x.variants (fields x.variants)) 1 3 ++ refused_if (bad_text x.options (fields x.options)) 1 4 ≡ []
  good_last = nil_right (refused_if (bad_text x.layouts (fields x.layouts)) 1 2) _ good_later

  good_variants : bad_text x.variants (fields x.variants) ≡ false
  good_variants = not_refused _ 1 3 (nil_left (refused_if (bad_text x.variants (fields x.variants)) 1 3) _ good_last)

  good_options : bad_text x.options (fields x.options) ≡ false
  good_options = not_refused _ 1 4 (nil_right (refused_if (bad_text x.variants (fields x.variants)) 1 3) _ good_last)

  pub short_texts : ShortTexts x
  short_texts =
      record {
        model = (good_text x.model (x.model ∷ []) good_model).0;
        layouts = (good_text x.layouts (fields x.layouts) good_layouts).0;
        variants = (good_text x.variants (fields x.variants) good_variants).0;
        options = (good_text x.options (fields x.options) good_options).0;
      }

  few_layouts_lem : length (fields x.layouts) ≤ most_layouts
  unfolding layout_count profile_of
  few_layouts_lem = few_layouts x h

  few_variants_lem : length (fields x.variants) ≤ length (fields x.layouts)
  unfolding layout_count profile_of
  few_variants_lem = few_variants x h

  pub few_fields : (length (fields x.layouts) ≤ most_layouts) × (length (fields x.variants) ≤ most_layouts)
  few_fields = (few_layouts_lem, omega (arith, few_layouts_lem, few_variants_lem))

  -- where those that have no field are empty at the start
  pub values_placed : (b b' b'' : List Span) (n m : ℕ) → n ≡ length (fields x.layouts) → m ≡ length (fields x.variants) → AllValuesPlaced x b →
      Emptied 0 (1 + n) 33 b b' → Emptied 0 (33 + m) most_values b' b'' → ValuesPlaced x b''
  values_placed b b' b'' n m e f p u v =
      record {
        size = v.size ∙ (u.size ∙ p.size);
        model = v.before 0 (omega arith) ∙ (u.before 0 (omega arith) ∙ p.model);
        layout = λ j l.
            rw (v.before (1 + j) (omega (arith, e, few_fields.0)), u.before (1 + j) (omega (arith, e)))
            (p.layouts.here j (omega (arith, few_fields.0)) l);
        variant = λ j l.
            rw (v.before (33 + j) (omega (arith, f)), u.beyond (33 + j) (omega arith))
            (p.variants.here j (omega (arith, few_fields.1)) l);
        no_layout = λ j l k. v.before (1 + j) (omega arith) ∙ u.here (1 + j) (omega (arith, e)) (omega arith);
        no_variant = λ j l. by j l (ltb (33 + j) most_values) refl;
      }
    where
      by : (j : ℕ) → length (fields x.variants) ≤ j → (c : Bool) → ltb (33 + j) most_values ≡ c → get_or b'' (33 + j) no_span ≡ no_span
      by j l true z = v.here (33 + j) (omega (arith, f)) (ltb-true (33 + j) most_values z)
      by j l false z = get_or_past b'' (33 + j) no_span (omega (arith, ltb-false (33 + j) most_values z, v.size, u.size, p.size))

  short_model : length x.model ≤ longest_field
  unfolding any_of
  short_model = not_long x.model (neither (long_field x.model) _ (good_text x.model (x.model ∷ []) good_model).1).0

  abbrev s : Text
  s = four_texts x ++ (42 ∷ [])

  record EmptyIn (p : Span) : Type 0 where
    at : ℕ
    inside : at ≤ length s
    empty : EmptyAt at p

  -- values from the number `first` on: those of fields have their places, the others are empty, somewhere in the text
  record FieldsIn (o : Text) (base first : ℕ) (b : List Span) : Type 0 where
    here : (j : ℕ) → j < 32 → j < length (fields o) → FieldPlace (fields o) base j (get_or b (first + j) no_span)
    none : (j : ℕ) → j < 32 → length (fields o) ≤ j → EmptyIn (get_or b (first + j) no_span)

  -- the values of a profile that is not refused are in their places
  module _ (b : List Span) (size : length b ≡ most_values) (model : get_or b 0 no_span ≡ record { start = 0; end = length x.model })
      (layouts : FieldsIn x.layouts (length x.model) 1 b) (variants : FieldsIn x.variants (length x.model + length x.layouts) 33 b) where
    -- a place of a field, or one that is empty
    field_at : (o : Text) (base j n : ℕ) → Lies s base o → any_of long_field (fields o) ≡ false →
        (j < length (fields o) → FieldPlace (fields o) base j (get_or b n no_span)) → (length (fields o) ≤ j → EmptyIn (get_or b n no_span)) →
        InText s (get_or b n no_span) × (value_at s b n ≡ get_or (fields o) j [])
    unfolding value_at
    field_at o base j n v k f g = by (ltb j (length (fields o))) refl
      where
        by : (c : Bool) → ltb j (length (fields o)) ≡ c → InText s (get_or b n no_span) × (part s (get_or b n no_span).start (get_or b n no_span).end ≡ get_or (fields o) j [])
        by true z =
            let l = ltb-true j (length (fields o)) z in
            let d = f l in
            let w = field_in o j l in
            let m = not_long _ (short_at (fields o) j k) in
            let e : (get_or b n no_span).end ≡ base + (field_start (fields o) j + length (get_or (fields o) j [])) = omega (arith, d.starts, d.stops) in (
              record { low = omega (arith, d.stops); high = omega (arith, d.starts, d.stops, w.high, v.high); short = omega (arith, d.stops) },
              rw (d.starts, e) (lies_part s base o _ _ v (omega arith) w.high ∙ w.text),
            )
        by false z =
            let l = ltb-false j (length (fields o)) z in
            let e = g l in
            rw e.empty (
              record { low = omega arith; high = e.inside; short = omega arith },
              part_empty s e.at ∙ sym (get_or_past (fields o) j [] l),
            )

    layout_at : (j : ℕ) → j < 32 → InText s (get_or b (1 + j) no_span) × (value_at s b (1 + j) ≡ get_or (fields x.layouts) j [])
    layout_at j l =
        field_at x.layouts (length x.model) j (1 + j) (lies_layouts x) (good_text x.layouts (fields x.layouts) good_layouts).1 (layouts.here j l) (layouts.none j l)

    variant_at : (j : ℕ) → j < 32 → InText s (get_or b (33 + j) no_span) × (value_at s b (33 + j) ≡ get_or (fields x.variants) j [])
    variant_at j l =
        field_at x.variants (length x.model + length x.layouts) j (33 + j) (lies_variants x) (good_text x.variants (fields x.variants) good_variants).1 (variants.here j l)
        (variants.none j l)

    model_at : InText s (get_or b 0 no_span) × (value_at s b 0 ≡ x.model)
    unfolding value_at
    model_at =
        let v = lies_model x in
        let z : part s (0 + 0) (0 + length x.model) ≡ part x.model 0 (length x.model) = lies_part s 0 x.model 0 (length x.model) v (omega arith) (omega arith) in
        let e : 0 + length x.model ≡ length x.model = omega arith in
        rw model
        (record { low = omega arith; high = omega (arith, v.high); short = omega (arith, short_model) }, (rw e at z) ∙ whole_part x.model)

    place : (j : ℕ) → j < most_values → InText s (get_or b j no_span)
    place zero l = model_at.0
    place (suc j) l = by (ltb j 32) refl
      where
        by : (c : Bool) → ltb j 32 ≡ c → InText s (get_or b (suc j) no_span)
        by true z = let y : suc j ≡ 1 + j = omega arith in rw y (layout_at j (ltb-true j 32 z)).0
        by false z = let k = ltb-false j 32 z in let y : suc j ≡ 33 + (j - 32) = omega arith in rw y (variant_at (j - 32) (omega arith)).0

    values_in : ValuesOf x (four_texts x ++ (42 ∷ [])) b
    values_in =
        record {
          placed = record { size = size; place = place };
          model = model_at.1;
          layout = λ k l m. (let y : 0 + k ≡ 1 + (k - 1) = omega arith in ap (value_at s b) y ∙ (layout_at (k - 1) (omega arith)).1);
          variant = λ k l m. (let y : 32 + k ≡ 33 + (k - 1) = omega arith in ap (value_at s b) y ∙ (variant_at (k - 1) (omega arith)).1);
        }

  pub all_values_of : (b : List Span) → AllValuesPlaced x b → ValuesOf x (four_texts x ++ (42 ∷ [])) b
  all_values_of b p =
      values_in b p.size p.model
      (record { here = p.layouts.here; none = λ j l k. record { at = length x.model + length x.layouts; inside = (lies_layouts x).high; empty = p.layouts.none j l k } })
      (record { here = p.variants.here; none = λ j l k. record { at = length x.model + length x.layouts + length x.variants; inside = (lies_variants x).high; empty = p.variants.none j l k } })

  pub values_of : (b : List Span) → ValuesPlaced x b → ValuesOf x (four_texts x ++ (42 ∷ [])) b
  values_of b p =
      values_in b p.size p.model
      (record { here = λ j l. p.layout j; none = λ j l k. record { at = 0; inside = omega arith; empty = p.no_layout j k l } })
      (record { here = λ j l. p.variant j; none = λ j l k. record { at = 0; inside = omega arith; empty = p.no_variant j k } })

-- in a text that is made longer
value_longer : (s w : Text) (b : List Span) (j : ℕ) → InText s (get_or b j no_span) → value_at (s ++ w) b j ≡ value_at s b j
unfolding value_at
value_longer s w b j p = part_longer s w (get_or b j no_span).start (get_or b j no_span).end p.low p.high

pub values_longer : (x : Texts) (s w : Text) (b : List Span) → ValuesOf x s b → ValuesOf x (s ++ w) b
values_longer x s w b v =
    record {
      placed =
          record {
            size = v.placed.size;
            place = λ j l.
                record { low = (v.placed.place j l).low; high = omega (arith, (v.placed.place j l).high, length-append s w); short = (v.placed.place j l).short };
          };
      model = longer 0 (omega arith) ∙ v.model;
      layout = λ k a l. longer (0 + k) (omega arith) ∙ v.layout k a l;
      variant = λ k a l. longer (32 + k) (omega arith) ∙ v.variant k a l;
    }
  where
    longer : (j : ℕ) → j < most_values → value_at (s ++ w) b j ≡ value_at s b j
    longer j l = value_longer s w b j (v.placed.place j l)
