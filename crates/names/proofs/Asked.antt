-- `*` and a profile's values, listed: what is asked of a word is what the definition of matching says.
use Rattle.std.proofs.Common.{◌≡◌, ℕ, zero, suc, ◌+◌, ◌-◌, ◌≤◌, ◌<◌, Bool, true, false, not, ◌||◌, ◌&&◌, cond, eqb, ltb, List, [], ◌∷◌, ◌++◌, length, get_or, drop, Some, None, refl, sym, ap, ◌∙◌, add-one, length-append, arith}
use borrow.Author.Tests.{ne_eqb, eqb-true, eqb-false, eq-eqb, ltb-true, ltb-false}
use Rattle.std.specs.Option.{is_some}
use Rattle.std.proofs.Math.Seq.{drop-cons, drop-length}
use Rattle.text.specs.declared.Span.{Span}
use Rattle.text.specs.Bytes.{Text, same, empty, first, part, any_of}
use Rattle.text.proofs.Lists.{same_eq, same_self, empty_some, any_nil, any_cons}
use Rattle.text.proofs.Positions.{part_empty, length_part}
use Rattle.profile.specs.Profile.{Texts, profile_of, layout_count, fields, drop_empty, options_of}
use Rattle.profile.specs.Refusals.{profile_refusals}
use Rattle.profile.specs.Spans.{most_values, no_span, value_at, Placed, ValuesOf}
use Rattle.profile.proofs.Counts.{few_layouts, few_options}
use Rattle.rules.specs.declared.Column.{Column}
use Rattle.rules.specs.declared.Column.TheVariants as column
use Rattle.rules.specs.Words.{has_dollar, is_star}
use Rattle.rules.specs.Faults.{defined}
use Rattle.answers.specs.Matching.{members, word_matches, value_matches, column_matches, is_options}
use Rattle.bitsets.specs.Sets.{is_in}
use Rattle.bitsets.proofs.Bits.{in_none, in_half}
use Rattle.listing.specs.Names.{most_names, number_in}
use Rattle.listing.specs.Lists.{text_of, names_of, bytes_at}
use Rattle.listing.proofs.Finding.{number_named}
use Rattle.listing.proofs.Adding.{part_behind}
use Rattle.names.specs.declared.Row.{Row}
use Rattle.names.specs.declared.table.Table.{Table}
use Rattle.names.specs.declared.Names.{Names}
use Rattle.names.specs.Rows.{Question, asks, says}
use Rattle.names.specs.Compiled.{Filled, Renewed, NewRow}
use Rattle.names.specs.Marked.{or_also, listable, value_asks, name_count, Marked}
use Rattle.names.specs.Placing.{four_texts, TextsCopied, Lies, field_start, SomeSet}
use Rattle.names.specs.Asked.{value_number, ValueRow, values_ask, options_ask, star_at, profile_asks, Begun, TableCompiled}
use Rattle.names.specs.Ready.{Ready}
use Rattle.names.proofs.Searching.{numbered_none}
use Rattle.names.proofs.Joining.{says_none}
use Rattle.names.proofs.Renewing.{number_new, filled_new}
use Rattle.names.proofs.Marking.{filled_same, marked_nothing, marked_same, marked_then}
use Rattle.names.proofs.Fields.{Turn, field_in, start_first, start_next}
use Rattle.names.proofs.Placing.{lies_part}
use Rattle.names.proofs.Tests.{or_none, or_assoc, and_none, and_all}

any_same : (f g : Text → Bool) → ((x : Text) → f x ≡ g x) → (l : List Text) → any_of f l ≡ any_of g l
unfolding any_of
any_same f g e [] = refl
any_same f g e (x ∷ l) = rw (e x, any_same f g e l) refl

any_never : (l : List Text) → any_of (λ (x : Text). false) l ≡ false
unfolding any_of
any_never [] = refl
any_never (x ∷ l) = any_never l

-- the rows of the values

pub layouts_row : (j r : ℕ) → j < 33 → ((i : ℕ) → is_in i r ≡ (is_in i 0 || eqb j i)) → ValueRow j (record { layouts = r; variants = 0 })
unfolding says value_number
layouts_row j r l e = record { at = by }
  where
    set : (i : ℕ) → is_in i r ≡ eqb j i
    set i = e i ∙ rw (in_none i) refl

    by : (k : ℕ) (c : Column) → 1 ≤ k → k ≤ 32 → says (record { layouts = r; variants = 0 }) k c ≡ eqb j (value_number k c)
    by k column.Model a b = set 0
    by k column.Layout a b = set k ∙ (let z : k ≡ 0 + k = omega arith in ap (eqb j) z)
    by k column.Variant a b = in_none k ∙ sym (ne_eqb j (32 + k) (λ (z : j ≡ 32 + k). omega arith))
    by k column.Options a b = in_none 0 ∙ sym (ne_eqb j 65 (λ (z : j ≡ 65). omega arith))

pub variants_row : (j r : ℕ) → 33 ≤ j → j < 65 → ((i : ℕ) → is_in i r ≡ (is_in i 0 || eqb (j - 32) i)) → ValueRow j (record { layouts = 0; variants = r })
unfolding says value_number
variants_row j r l m e = record { at = by }
  where
    set : (i : ℕ) → is_in i r ≡ eqb (j - 32) i
    set i = e i ∙ rw (in_none i) refl

    moved : (k : ℕ) (c : Bool) → eqb (j - 32) k ≡ c → c ≡ eqb j (32 + k)
    moved k true z = let y : j - 32 ≡ k = eqb-true (j - 32) k z in sym (eq-eqb j (32 + k) (omega arith))
    moved k false z = let y = eqb-false (j - 32) k z in sym (ne_eqb j (32 + k) (λ (w : j ≡ 32 + k). y (omega arith)))

    by : (k : ℕ) (c : Column) → 1 ≤ k → k ≤ 32 → says (record { layouts = 0; variants = r }) k c ≡ eqb j (value_number k c)
    by k column.Model a b = in_none 0 ∙ sym (ne_eqb j 0 (λ (z : j ≡ 0). omega arith))
    by k column.Layout a b = in_none k ∙ sym (ne_eqb j (0 + k) (λ (z : j ≡ 0 + k). omega arith))
    by k column.Variant a b = set k ∙ moved k (eqb (j - 32) k) refl
    by k column.Options a b = set 0 ∙ (ne_eqb (j - 32) 0 (λ (z : j - 32 ≡ 0). omega arith) ∙ sym (ne_eqb j 65 (λ (z : j ≡ 65). omega arith)))

in_one : (k : ℕ) → 1 ≤ k → is_in k 1 ≡ false
in_one zero h = absurd (omega arith)
in_one (suc k) h = in_half k 1 ∙ in_none k

first_one : is_in 0 1 ≡ true
unfolding is_in
first_one = refl

option_row : (k : ℕ) (c : Column) → 1 ≤ k → says (record { layouts = 0; variants = 1 }) k c ≡ is_options c
unfolding says is_options
option_row k column.Model h = in_none 0
option_row k column.Layout h = in_none k
option_row k column.Variant h = in_one k h
option_row k column.Options h = first_one

-- another test of the layouts and columns
asks_same : (v : Text) (f g : ℕ → Column → Bool) (k : ℕ) (c : Column) (w : Text) → f k c ≡ g k c → value_asks v f k c w ≡ value_asks v g k c w
unfolding value_asks
asks_same v f g k c w e = rw e refl

few_names : (v : Text) → name_count v ≤ 1
unfolding name_count
few_names v = go (empty v)
  where
    go : (b : Bool) → cond b 0 1 ≤ 1
    go true = omega arith
    go false = omega arith

-- nothing is asked
never : Question
never k c w = false

-- the loop of `mark_values`

module _ (t : Table) (b : List Span) where
  pub values_start : Marked t t 0 (values_ask (text_of t.list) b 0)
  unfolding values_ask
  values_start = marked_nothing t (values_ask (text_of t.list) b 0) 0 (λ k c w. refl)

  pub values_more : (j : ℕ) (t' t'' : Table) (row : Row) → Marked t t' j (values_ask (text_of t.list) b j) → ValueRow j row →
      Marked t' t'' (name_count (bytes_at t'.list (get_or b j no_span))) (value_asks (bytes_at t'.list (get_or b j no_span)) (says row)) →
      Marked t t'' (j + 1) (values_ask (text_of t.list) b (j + 1))
  unfolding values_ask or_also value_at
  values_more j t' t'' row v y u =
      let z : bytes_at t'.list (get_or b j no_span) ≡ value_at (text_of t.list) b j = ap (λ (s : Text). part s (get_or b j no_span).start (get_or b j no_span).end) v.text in
      let w = rw z at u in
      marked_same t t'' (j + name_count (value_at (text_of t.list) b j)) (or_also (values_ask (text_of t.list) b j) (value_asks (value_at (text_of t.list) b j) (says row)))
      (marked_then t t' j (values_ask (text_of t.list) b j) v t'' (name_count (value_at (text_of t.list) b j)) (value_asks (value_at (text_of t.list) b j) (says row)) w)
      (values_ask (text_of t.list) b (j + 1)) (j + 1) (omega (arith, few_names (value_at (text_of t.list) b j)))
      (λ k c w a l h.
      rw (add-one j)
      (ap (λ (x : Bool). values_ask (text_of t.list) b j k c w || x)
      (asks_same (value_at (text_of t.list) b j) (says row) (λ i d. eqb j (value_number i d)) k c w (y.at k c a l))))

-- the loop of `mark_options`

option_empty : (k : ℕ) (c : Column) (w : Text) → value_asks [] (λ i d. is_options d) k c w ≡ false
unfolding value_asks listable empty
option_empty k c w = refl

-- one field more of the options

any_step : (f : Text → Bool) → f [] ≡ false → (x : Text) (xs : List Text) → any_of f (drop_empty (x ∷ xs)) ≡ f x || any_of f (drop_empty xs)
unfolding drop_empty empty
any_step f z [] xs = sym (rw z refl)
any_step f z (b ∷ x) xs = any_cons f (b ∷ x) (drop_empty xs)

count_step : (x : Text) (xs : List Text) → length (drop_empty (x ∷ xs)) ≡ name_count x + length (drop_empty xs)
unfolding drop_empty name_count empty
count_step [] xs = omega arith
count_step (b ∷ x) xs = omega arith

none_left : drop_empty [] ≡ []
unfolding drop_empty
none_left = refl

fields_from : (o : Text) (n : ℕ) (f : Text) → Turn o n f → drop n (fields o) ≡ f ∷ drop (n + 1) (fields o)
fields_from o n f t = let l = t.few in rw (drop-cons (fields o) n [], add-one n, ← t.field) refl

pub record OptionsSo (o : Text) (base : ℕ) (t t' : Table) (n start : ℕ) : Type 0 where
  pub most : ℕ
  pub sofar : Question
  pub marked : Marked t t' most sofar
  pub next : start ≡ base + field_start (fields o) n
  pub few : most + length (drop_empty (drop n (fields o))) ≡ length (options_of o)
  pub on : (k : ℕ) (c : Column) (w : Text) → sofar k c w || options_ask (drop_empty (drop n (fields o))) k c w ≡ options_ask (options_of o) k c w

module _ (o : Text) (base : ℕ) (t : Table) where
  pub options_start : OptionsSo o base t t 0 base
  unfolding never options_of
  options_start =
      record {
        most = 0;
        sofar = never;
        marked = marked_nothing t never 0 (λ k c w. refl);
        next = omega (arith, start_first (fields o));
        few = omega arith;
        on = λ k c w. refl;
      }

  module _ (t' : Table) (n start : ℕ) (v : OptionsSo o base t t' n start) (lies : Lies (text_of t.list) base o) where
    module _ (f : Text) (u : Turn o n f) where
      option_text : part (text_of t.list) start (start + length f) ≡ f
      option_text =
          let g = field_in o n u.few in
          let e : start + length f ≡ base + (field_start (fields o) n + length (get_or (fields o) n [])) = omega (arith, v.next, ap length u.field) in
          rw (e, v.next) (lies_part (text_of t.list) base o _ _ lies (omega arith) g.high ∙ (g.text ∙ sym u.field))

      pub option_high : start + length f ≤ length (text_of t.list)
      option_high = omega (arith, v.next, (field_in o n u.few).high, lies.high, ap length u.field)

      pub options_more : (t'' : Table) →
          Marked t' t'' (name_count (bytes_at t'.list (record { start = start; end = start + length f })))
          (value_asks (bytes_at t'.list (record { start = start; end = start + length f })) (says (record { layouts = 0; variants = 1 }))) →
          (m : ℕ) → m ≡ n + 1 → OptionsSo o base t t'' m (start + length f + 1)
      unfolding options_ask or_also
      options_more t'' w m i =
          record {
            most = v.most + name_count f;
            sofar = or_also v.sofar (value_asks f (λ i d. is_options d));
            marked = marked_then t t' v.most v.sofar v.marked t'' (name_count f) (value_asks f (λ i d. is_options d)) y;
            next = rw i (omega (arith, v.next, start_next (fields o) n u.few, ap length u.field));
            few = rw i (omega (arith, v.few, ap (λ (xs : List Text). length (drop_empty xs)) (fields_from o n f u), count_step f (drop (n + 1) (fields o))));
            on = λ k c x.
                rw i
                (or_assoc (v.sofar k c x) (value_asks f (λ i d. is_options d) k c x) (any_of (λ z. value_asks z (λ i d. is_options d) k c x) (drop_empty (drop (n + 1) (fields o))))
                ∙ (ap (λ (b : Bool). v.sofar k c x || b)
                (sym (any_step (λ z. value_asks z (λ i d. is_options d) k c x) (option_empty k c x) f (drop (n + 1) (fields o)))
                ∙ ap (λ (xs : List Text). any_of (λ z. value_asks z (λ i d. is_options d) k c x) (drop_empty xs)) (sym (fields_from o n f u)))
                ∙ v.on k c x));
          }
        where
          z : bytes_at t'.list (record { start = start; end = start + length f }) ≡ f
          z = ap (λ (s : Text). part s start (start + length f)) v.marked.text ∙ option_text

          y : Marked t' t'' (name_count f) (value_asks f (λ i d. is_options d))
          y =
              marked_same t' t'' (name_count f) (value_asks f (says (record { layouts = 0; variants = 1 }))) (rw z at w) (value_asks f (λ i d. is_options d)) (name_count f)
              (omega arith) (λ k c x a b h. asks_same f (says (record { layouts = 0; variants = 1 })) (λ i d. is_options d) k c x (option_row k c a))

    pub options_done : n ≡ length (fields o) → Marked t t' (length (options_of o)) (options_ask (options_of o))
    unfolding options_ask
    options_done e =
        let z : drop_empty (drop n (fields o)) ≡ [] = ap drop_empty (rw e (drop-length (fields o))) ∙ none_left in
        marked_same t t' v.most v.sofar v.marked (options_ask (options_of o)) (length (options_of o)) (omega (arith, v.few))
        (λ k c x a b h.
        sym (or_none (v.sofar k c x))
        ∙ (ap (λ (i : Bool). v.sofar k c x || i) (sym (ap (any_of (λ y. value_asks y (λ i d. is_options d) k c x)) z ∙ any_nil (λ y. value_asks y (λ i d. is_options d) k c x)))
        ∙ v.on k c x))

star_other : (row : Row) (k : ℕ) (c : Column) (w : Text) → same w (42 ∷ []) ≡ false → value_asks (42 ∷ []) (says row) k c w ≡ false
unfolding value_asks
star_other row k c w h = rw h (and_none (listable (42 ∷ [])))

star_never : (row : Row) (w : Text) → same w (42 ∷ []) ≡ false → (k : ℕ) (c : Column) → value_asks (42 ∷ []) (says row) k c w ≡ never k c w
unfolding never
star_never row w o k c = star_other row k c w o

star_this : (f : ℕ → Column → Bool) (k : ℕ) (c : Column) → f k c ≡ value_asks (42 ∷ []) f k c (42 ∷ [])
unfolding value_asks listable empty has_dollar first same
star_this f k c = refl

star_plain : (g : Text) → same (36 ∷ g) (42 ∷ []) ≡ false
unfolding same
star_plain g = refl

empty_none : not (empty {A = ℕ} []) ≡ false
unfolding empty
empty_none = refl

some_value : (s : Text) (b : List Span) (j : ℕ) → j < most_values → Placed s b → ltb (get_or b j no_span).start (get_or b j no_span).end ≡ not (empty (value_at s b j))
unfolding value_at
some_value s b j l p = go (ltb (get_or b j no_span).start (get_or b j no_span).end) refl
  where
    go : (c : Bool) → ltb (get_or b j no_span).start (get_or b j no_span).end ≡ c → c ≡ not (empty (part s (get_or b j no_span).start (get_or b j no_span).end))
    go true z =
        let h = ltb-true (get_or b j no_span).start (get_or b j no_span).end z in
        let e = empty_some (part s (get_or b j no_span).start (get_or b j no_span).end)
        (λ (y : length (part s (get_or b j no_span).start (get_or b j no_span).end) ≡ 0).
        omega (arith, length_part s (get_or b j no_span).start (get_or b j no_span).end (p.place j l).high)) in
        sym (rw e refl)
    go false z =
        let h = ltb-false (get_or b j no_span).start (get_or b j no_span).end z in
        let e : (get_or b j no_span).end ≡ (get_or b j no_span).start = omega (arith, (p.place j l).low) in
        sym (ap (λ (y : Text). not (empty y)) (ap (part s ((get_or b j no_span).start)) e ∙ part_empty s ((get_or b j no_span).start)) ∙ empty_none)

star_row : (s : Text) (b : List Span) (l v : ℕ) → Placed s b → SomeSet b 0 l → SomeSet b 32 v →
    (k : ℕ) (c : Column) → 1 ≤ k → k ≤ 32 → says (record { layouts = l; variants = v }) k c ≡ star_at s b k c
unfolding says star_at
star_row s b l v p x y k column.Model a h = x.first
star_row s b l v p x y k column.Layout a h = x.at k a h ∙ some_value s b (0 + k) (omega arith) p
star_row s b l v p x y k column.Variant a h = y.at k a h ∙ some_value s b (32 + k) (omega arith) p
star_row s b l v p x y k column.Options a h = y.first

-- What a profile's values ask is what matching asks, of words that are not empty.

listable_not : (w : Text) (d : Bool) → empty w ≡ false → has_dollar w ≡ d → listable w ≡ not d
unfolding listable
listable_not w d h e = rw (h, e) refl

word_law : (w v : Text) → empty w ≡ false → word_matches (members []) w v ≡ listable v && same w v
unfolding word_matches members any_of
word_law w v h = go (same w v) refl (has_dollar w) refl
  where
    go : (b : Bool) → same w v ≡ b → (d : Bool) → has_dollar w ≡ d → cond (has_dollar w) false (same w v) ≡ listable v && same w v
    go false e true f = rw (e, f) (sym (and_none (listable v)))
    go false e false f = rw (e, f) (sym (and_none (listable v)))
    go true e true f = let z : listable v ≡ false = ap listable (sym (same_eq w v e)) ∙ listable_not w true h f in rw (e, f, z) refl
    go true e false f = let z : listable v ≡ true = ap listable (sym (same_eq w v e)) ∙ listable_not w false h f in rw (e, f, z) refl

empty_listable : (v : Text) → empty v ≡ true → listable v ≡ false
unfolding listable
empty_listable v h = rw h refl

value_law : (w v : Text) → empty w ≡ false → value_matches (members []) w v ≡ (same w (42 ∷ []) && not (empty v)) || (listable v && same w v)
unfolding value_matches is_star
value_law w v h = go (same w (42 ∷ [])) (empty v) refl
  where
    go : (a b : Bool) → empty v ≡ b → cond a (not (empty v)) (word_matches (members []) w v) ≡ (a && not (empty v)) || (listable v && same w v)
    go true true e = rw (e, empty_listable v e) refl
    go true false e = rw e refl
    go false b e = word_law w v h

star_word : (s : Text) (b : List Span) (k : ℕ) (c : Column) (w : Text) → value_asks (42 ∷ []) (star_at s b) k c w ≡ same w (42 ∷ []) && star_at s b k c
unfolding value_asks listable empty has_dollar first
star_word s b k c w = refl

asks_one : (v w : Text) (f : ℕ → Column → Bool) (k : ℕ) (c : Column) → f k c ≡ true → value_asks v f k c w ≡ listable v && same w v
unfolding value_asks
asks_one v w f k c e = rw e (ap (λ (x : Bool). listable v && x) (and_all (same w v)))

asks_no : (v w : Text) (f : ℕ → Column → Bool) (k : ℕ) (c : Column) → f k c ≡ false → value_asks v f k c w ≡ false
unfolding value_asks
asks_no v w f k c e = rw e (ap (λ (x : Bool). listable v && x) (and_none (same w v)) ∙ and_none (listable v))

module _ (s : Text) (b : List Span) (k : ℕ) (c : Column) (w : Text) where
  values_none : (n : ℕ) → n ≤ value_number k c → values_ask s b n k c w ≡ false
  unfolding values_ask
  values_none zero l = refl
  values_none (suc n) l =
      rw (values_none n (omega arith)) (asks_no (value_at s b n) w (λ i d. eqb n (value_number i d)) k c (ne_eqb n (value_number k c) (λ (z : n ≡ value_number k c). omega arith)))

  values_at : (n : ℕ) → value_number k c < n → values_ask s b n k c w ≡ listable (value_at s b (value_number k c)) && same w (value_at s b (value_number k c))
  unfolding values_ask
  values_at zero l = absurd (omega arith)
  values_at (suc n) l = go (eqb n (value_number k c)) refl (values_at n)
    where
      below : (i j : ℕ) → j < suc i → (i ≡ j → ⊥) → (x : Bool) → ltb j i ≡ x → j < i
      below i j p q true f = ltb-true j i f
      below i j p q false f = let g = ltb-false j i f in absurd (q (omega arith))

      go : (x : Bool) → eqb n (value_number k c) ≡ x →
          (value_number k c < n → values_ask s b n k c w ≡ listable (value_at s b (value_number k c)) && same w (value_at s b (value_number k c))) →
          values_ask s b n k c w || value_asks (value_at s b n) (λ i d. eqb n (value_number i d)) k c w
          ≡ listable (value_at s b (value_number k c)) && same w (value_at s b (value_number k c))
      go true e f =
          let z : n ≡ value_number k c = eqb-true n (value_number k c) e in
          rw (values_none n (omega arith)) (asks_one (value_at s b n) w (λ i d. eqb n (value_number i d)) k c e ∙ ap (λ (i : ℕ). listable (value_at s b i) && same w (value_at s b i)) z)
      go false e f =
          let z = eqb-false n (value_number k c) e in
          let y : value_number k c < n = below n (value_number k c) l z (ltb (value_number k c) n) refl in
          rw (asks_no (value_at s b n) w (λ i d. eqb n (value_number i d)) k c e) (or_none (values_ask s b n k c w) ∙ f y)

options_no : (k : ℕ) (c : Column) (w : Text) → is_options c ≡ false → (vs : List Text) → options_ask vs k c w ≡ false
unfolding options_ask
options_no k c w e vs =
    any_same (λ v. value_asks v (λ i d. is_options d) k c w) (λ v. false) (λ v. asks_no v w (λ i d. is_options d) k c e) vs ∙ any_never vs

options_law : (k : ℕ) (w : Text) → empty w ≡ false → (vs : List Text) → any_of (word_matches (members []) w) vs ≡ options_ask vs k column.Options w
unfolding options_ask is_options
options_law k w h vs =
    any_same (word_matches (members []) w) (λ v. value_asks v (λ i d. is_options d) k column.Options w)
    (λ v. word_law w v h ∙ sym (asks_one v w (λ i d. is_options d) k column.Options refl)) vs

or_model : (a b : Bool) → a || b ≡ ((a && true) || b) || false
or_model true b = refl
or_model false b = sym (or_none b)

or_options : (a b : Bool) → a || b ≡ ((a && true) || false) || b
or_options true b = refl
or_options false b = refl

pub profile_law : (x : Texts) (s : Text) (b : List Span) → ValuesOf x s b → (k : ℕ) (c : Column) (w : Text) → 1 ≤ k → k ≤ 32 → empty w ≡ false →
    profile_asks s b (options_of x.options) k c w ≡ asks [] (profile_of x) k c w
unfolding profile_asks or_also asks column_matches profile_of value_number star_at is_star is_options
profile_law x s b v k column.Model w a l h =
    sym
    (ap (λ (y : Bool). same w (42 ∷ []) || y) (word_law w x.model h)
    ∙ (or_model (same w (42 ∷ [])) (listable x.model && same w x.model)
    ∙ rw (star_word s b k column.Model w, values_at s b k column.Model w 65 (omega arith), options_no k column.Model w refl (options_of x.options), v.model) refl))
profile_law x s b v k column.Layout w a l h =
    rw (star_word s b k column.Layout w, values_at s b k column.Layout w 65 (omega arith), options_no k column.Layout w refl (options_of x.options), v.layout k a l)
    (or_none _ ∙ sym (value_law w (get_or (fields x.layouts) (k - 1) []) h))
profile_law x s b v k column.Variant w a l h =
    rw (star_word s b k column.Variant w, values_at s b k column.Variant w 65 (omega arith), options_no k column.Variant w refl (options_of x.options), v.variant k a l)
    (or_none _ ∙ sym (value_law w (get_or (fields x.variants) (k - 1) []) h))
profile_law x s b v k column.Options w a l h =
    sym
    (ap (λ (y : Bool). same w (42 ∷ []) || y) (options_law k w h (options_of x.options))
    ∙ (or_options (same w (42 ∷ [])) (options_ask (options_of x.options) k column.Options w)
    ∙ rw (star_word s b k column.Options w, values_none s b k column.Options w 65 (omega arith)) refl))

defined_none : (g : Text) → defined [] g ≡ false
unfolding defined any_of
defined_none g = refl

-- fewer layouts
filled_fewer : (q : Question) (n m : ℕ) (t : Table) → m ≤ n → Filled q n t → Filled q m t
filled_fewer q n m t l v = record { told = λ w h. record { at = λ k c a b. (v.told w h).at k c a (omega arith) }; sieve = v.sieve }

-- the start: no name is listed, and then `*` is

none_numbered : (w : Text) → number_in [] w ≡ None
unfolding number_in
none_numbered w = refl

filled_none : (t : Table) → names_of t.list ≡ [] → Filled never 32 t
unfolding never
filled_none t e =
    let none : (w : Text) → number_in (names_of t.list) w ≡ None = λ w. ap (λ (ns : List Text). number_in ns w) e ∙ none_numbered w in
    record {
      told = λ w h. record { at = λ k c a b. ap (λ (r : Row). says r k c) (numbered_none t.rows _ (none w)) ∙ says_none k c };
      sieve = λ w h. none w;
    }

pub star_fresh : (t : Table) (w : Text) → names_of t.list ≡ [] → any_of (same w) (names_of t.list) ≡ false
star_fresh t w e = ap (any_of (same w)) e ∙ any_nil (same w)

module _ (t t' : Table) (s : Text) (row : Row) (e : names_of t.list ≡ []) (z : t.list.count ≡ 0)
    (u : NewRow t t' s (42 ∷ []) row) where
  few : t.list.count < most_names
  few = omega arith

  number_star : (w : Text) → number_in (names_of t'.list) w ≡ cond (same w (42 ∷ [])) (Some t.list.count) None
  number_star w = number_new t t' s (42 ∷ []) row u few w ∙ ap (cond (same w (42 ∷ [])) (Some t.list.count)) (ap (λ (ns : List Text). number_in ns w) e ∙ none_numbered w)

  pub begun_star : Begun (value_asks (42 ∷ []) (says row)) t'
  begun_star =
      record {
        held = filled_new t t' s (42 ∷ []) row u few never (value_asks (42 ∷ []) (says row)) 32 renewed (filled_none t e);
        star = number_star (42 ∷ []) ∙ rw (same_self (42 ∷ []), z) refl;
        plain = λ g. number_star (36 ∷ g) ∙ rw (star_plain g) refl;
      }
    where
      renewed : Renewed never (value_asks (42 ∷ []) (says row)) 32 (42 ∷ []) row
      renewed = record { others = λ w o k c. star_never row w o k c; this = record { at = λ k c a b. star_this (says row) k c } }

-- all of a profile

begun_marked : (q f : Question) (t t' : Table) (most : ℕ) → Begun q t → Marked t t' most f → Begun (or_also q f) t'
begun_marked q f t t' most v u = record { held = u.held q v.held; star = u.numbers (42 ∷ []) 0 v.star; plain = λ g. u.plain g (v.plain g) }

begun_same : (q f : Question) (t : Table) → ((k : ℕ) (c : Column) (w : Text) → 1 ≤ k → k ≤ 32 → empty w ≡ false → q k c w ≡ f k c w) → Begun q t → Begun f t
begun_same q f t e v = record { held = filled_same q f 32 t e v.held; star = v.star; plain = v.plain }

pub table_compiled : (x : Texts) (b : List Span) (t₀ t t' t'' : Table) (p : Span) (l v : ℕ) → profile_refusals x ≡ [] → ValuesOf x (four_texts x ++ (42 ∷ [])) b → TextsCopied x t₀ p → SomeSet b 0 l → SomeSet b 32 v →
    NewRow t₀ t (text_of t₀.list) (bytes_at t₀.list p) (record { layouts = l; variants = v }) → Marked t t' most_values (values_ask (text_of t.list) b most_values) →
    Marked t' t'' (length (options_of x.options)) (options_ask (options_of x.options)) → TableCompiled x b t''
unfolding profile_asks
table_compiled x b t₀ t t' t'' p l v h placed copied sl sv u m o =
    record {
      begun = rw text'' begun_all;
      text = text'';
      used = o.used ∙ (m.used ∙ (u.used ∙ (ap length copied.text ∙ length-append (four_texts x) (42 ∷ []))));
      few = omega (arith, o.few, m.few, u.count, copied.count, few_options x h);
    }
  where
    text : text_of t.list ≡ four_texts x ++ (42 ∷ [])
    text = u.text ∙ copied.text

    text'' : text_of t''.list ≡ four_texts x ++ (42 ∷ [])
    text'' = o.text ∙ (m.text ∙ text)

    star : bytes_at t₀.list p ≡ 42 ∷ []
    star =
        ap (λ (q : Span). part (text_of t₀.list) q.start q.end) copied.star
        ∙ (ap (λ (y : Text). part y (length (four_texts x)) (length (four_texts x) + 1)) copied.text
        ∙ (ap (part (four_texts x ++ (42 ∷ [])) (length (four_texts x))) (sym (length-append (four_texts x) (42 ∷ []))) ∙ part_behind (four_texts x) (42 ∷ [])))

    begun : Begun (value_asks (42 ∷ []) (says (record { layouts = l; variants = v }))) t
    begun = begun_star t₀ t (text_of t₀.list) (record { layouts = l; variants = v }) copied.names copied.count (rw star at u)

    begun_all : Begun (or_also (or_also (value_asks (42 ∷ []) (star_at (four_texts x ++ (42 ∷ [])) b)) (values_ask (four_texts x ++ (42 ∷ [])) b most_values)) (options_ask (options_of x.options))) t''
    begun_all =
        begun_marked (or_also (value_asks (42 ∷ []) (star_at (four_texts x ++ (42 ∷ [])) b)) (values_ask (four_texts x ++ (42 ∷ [])) b most_values)) (options_ask (options_of x.options)) t' t'' (length (options_of x.options))
        (begun_marked (value_asks (42 ∷ []) (star_at (four_texts x ++ (42 ∷ [])) b)) (values_ask (four_texts x ++ (42 ∷ [])) b most_values) t t' most_values
        (begun_same (value_asks (42 ∷ []) (says (record { layouts = l; variants = v }))) (value_asks (42 ∷ []) (star_at (four_texts x ++ (42 ∷ [])) b)) t
        (λ k c w a i e. asks_same (42 ∷ []) (says (record { layouts = l; variants = v })) (star_at (four_texts x ++ (42 ∷ [])) b) k c w (star_row (four_texts x ++ (42 ∷ [])) b l v placed.placed sl sv k c a i)) begun)
        (rw text at m))
        o

-- the names of the profile

pub ready_profile : (x : Texts) (names : Names) → profile_refusals x ≡ [] → ValuesOf x (four_texts x ++ (42 ∷ [])) names.bounds → TableCompiled x names.bounds names.table → names.groups ≡ 0 →
    names.layouts ≡ layout_count (profile_of x) → Ready x [] names
ready_profile x names h placed u z n =
    record {
      table =
          record {
            held =
                record {
                  filled =
                      filled_fewer (asks [] (profile_of x)) 32 (layout_count (profile_of x)) names.table (omega (arith, few_layouts x h))
                      (filled_same (profile_asks (text_of names.table.list) names.bounds (options_of x.options)) (asks [] (profile_of x)) 32 names.table
                      (profile_law x (text_of names.table.list) names.bounds values) u.begun.held);
                  star = u.begun.star;
                };
            listed = λ g. sym (number_named (names_of names.table.list) (36 ∷ g)) ∙ (ap is_some (u.begun.plain g) ∙ sym (defined_none g));
          };
      number = z;
      values = values;
      layouts = n;
    }
  where
    values : ValuesOf x (text_of names.table.list) names.bounds
    values = rw u.text placed
