-- A group line: its words one by one, and the line as a whole.
use Prim.Native.Nat.{ℕ, ◌≤◌, ◌<◌}
use native.Mathlib.Omega.{arith}
use mathlib.Core.Path.{◌≡◌, refl, sym, ap, ◌∙◌}
use mathlib.Core.List.{[], ◌∷◌}
use mathlib.Core.Bool.{Bool, true, false, ◌&&◌, cond}
use lib.ListN.{length, get_or}
use lib.Dec.{eqb}
use Rattle.std.specs.Prelude.{Option, Some, None}
use Rattle.std.specs.Option.{option_or}
use Rattle.std.proofs.lemmas.Option.{same_Some}
use Rattle.text.specs.declared.faults.Fault.{Fault}
use Rattle.text.specs.declared.faults.Fault.TheVariants.{BadLine}
use Rattle.text.specs.Told.{number_of, fault_number}
use Rattle.text.proofs.Told.{number_some}
use borrow.Author.Tests.{eq-eqb, ne_eqb}
use Rattle.text.specs.Bytes.{Text, Words, first, rest, part, all_of}
use Rattle.text.specs.Words.{words_fault}
use Rattle.text.specs.Reading.{left, lower, FoundWord, NoWord}
use Rattle.text.proofs.Lists.{no, and_both, any_nil}
use Rattle.text.proofs.Positions.{part_cons}
use Rattle.text.proofs.Readers.{fault_cons, fault_nil, lower_none, lower_zero, lower_assoc}
use Rattle.rules.specs.Words.{is_equals, has_dollar, is_group_name, ordinary}
use Rattle.rules.specs.Entries.{Entry, wrong, group, group_entry, heading_entry, entry_of}
use Rattle.rules.specs.Checking.{line_of}
use Rattle.names.specs.declared.table.Table.{Table}
use Rattle.names.specs.Compiled.{Joined}
use Rattle.names.proofs.Joining.{says_none}
use Rattle.judging.specs.declared.FirstWord.{FirstWord}
use Rattle.judging.specs.declared.Members.{Members}
use Rattle.judging.specs.Groups.{DollarFound, FirstWordAt, DollarWord, MembersOf, line_words, members_in, GroupLineOf}

-- the first word

first_byte : (s : Text) (a e : ℕ) → a < e → e ≤ length s → first (part s a e) ≡ get_or s a 0
unfolding first
first_byte s a e h k = rw (part_cons s a e h k) refl

dollar_yes : (s : Text) (a e : ℕ) → a < e → e ≤ length s → get_or s a 0 ≡ 36 → has_dollar (part s a e) ≡ true
unfolding has_dollar
dollar_yes s a e h k z = eq-eqb _ _ (first_byte s a e h k ∙ z)

dollar_no : (s : Text) (a e : ℕ) → a < e → e ≤ length s → (get_or s a 0 ≡ 36 → ⊥) → has_dollar (part s a e) ≡ false
unfolding has_dollar
dollar_no s a e h k z = ne_eqb _ _ (λ y. z (sym (first_byte s a e h k) ∙ y))

none_dollar : (s : Text) (from : ℕ) → left s from ≡ [] → has_dollar (get_or (left s from) 0 []) ≡ false
unfolding has_dollar first
none_dollar s from e = rw e refl

pub first_found : (s : Text) (from m a e l : ℕ) (f : Option Fault) → FoundWord s from m a e l (fault_number f) → get_or s a 0 ≡ 36 →
    FirstWordAt s from m (Some (record { start = a; end = record { at = e; line = l }; fault = f }))
first_found s from m a e l f u z = record { word = u; yes = dollar_yes s a e u.some u.high z }

pub first_other : (s : Text) (from m a e l f : ℕ) → FoundWord s from m a e l f → (get_or s a 0 ≡ 36 → ⊥) → FirstWordAt s from m None
first_other s from m a e l f u z = rw u.text (dollar_no s a e u.some u.high z)

pub first_none : (s : Text) (from m : ℕ) → left s from ≡ [] → FirstWordAt s from m None
first_none s from m e = none_dollar s from e

pub dollar_word : (s : Text) (from n : ℕ) (x : FirstWord) → DollarFound s from n x → DollarWord s x
dollar_word s from n x v =
    let u = v.word in
    record { some = u.some; high = u.high; few = u.few; fault = u.fault; yes = v.yes }

-- the words behind the `=`

all_cons : (w : Text) (ws : Words) → all_of ordinary (w ∷ ws) ≡ (ordinary w && all_of ordinary ws)
unfolding all_of
all_cons w ws = refl

all_nil : all_of ordinary [] ≡ true
unfolding all_of
all_nil = refl

and_assoc : (a b c : Bool) → (a && b) && c ≡ a && (b && c)
and_assoc true b c = refl
and_assoc false b c = refl

and-true : (a : Bool) → a && true ≡ a
and-true true = refl
and-true false = refl

pub record Judging (s : Text) (at f : ℕ) (o : Bool) (i : ℕ) : Type 0 where
  pub fault : words_fault (left s at) ≡ lower f (words_fault (left s i))
  pub plain : all_of ordinary (left s at) ≡ (o && all_of ordinary (left s i))

pub judging_start : (s : Text) (at : ℕ) → Judging s at 0 true at
judging_start s at = record { fault = sym (lower_zero _); plain = refl }

module _ (s : Text) (at f : ℕ) (o : Bool) (i : ℕ) (v : Judging s at f o i) where
  pub judging_more : (l a e m g f' : ℕ) (o' : Bool) → FoundWord s i l a e m g → f' ≡ lower f g → o' ≡ (o && ordinary (part s a e)) → Judging s at f' o' e
  judging_more l a e m g f' o' u x y =
      record {
        fault = v.fault ∙ rw (u.text, fault_cons (part s a e) (left s e), ← u.fault, x) (lower_assoc f g (words_fault (left s e)));
        plain = v.plain ∙ rw (u.text, all_cons (part s a e) (left s e), y) (sym (and_assoc o (ordinary (part s a e)) (all_of ordinary (left s e))));
      }

  pub judging_fault : (l p m : ℕ) → NoWord s i l p m → f ≡ words_fault (left s at)
  judging_fault l p m u = sym (v.fault ∙ rw (u.none, fault_nil) (lower_none f))

  pub judging_plain : (l p m : ℕ) → NoWord s i l p m → o ≡ all_of ordinary (left s at)
  judging_plain l p m u = sym (v.plain ∙ rw (u.none, all_nil) (and-true o))

-- the line as a whole

some_line : (n q : Text) (ms : Words) → has_dollar n ≡ true → entry_of (line_of 0 true (n ∷ q ∷ ms)) ≡
    cond (eqb (words_fault (n ∷ q ∷ ms)) 0) (cond (is_group_name n && (is_equals q && all_of ordinary ms)) (group (rest n) ms) (wrong 6)) (wrong (words_fault (n ∷ q ∷ ms)))
unfolding entry_of heading_entry group_entry
some_line n q ms h = rw h refl

lone_line : (n : Text) → has_dollar n ≡ true → entry_of (line_of 0 true (n ∷ [])) ≡ cond (eqb (words_fault (n ∷ [])) 0) (wrong 6) (wrong (words_fault (n ∷ [])))
unfolding entry_of heading_entry group_entry
lone_line n h = rw h refl

-- a line's fault is that of its words, or that it is no group line
pub record Told (e y : Entry) (good : Bool) (r : Option Fault) : Type 0 where
  pub wrong_is : (k : Fault) → r ≡ Some k → e ≡ wrong (number_of k)
  pub right_is : r ≡ None → (e ≡ y) × (good ≡ true)

told : (f : Option Fault) (good : Bool) (e y : Entry) (r : Option Fault) → e ≡ cond (eqb (fault_number f) 0) (cond good y (wrong 6)) (wrong (fault_number f)) →
    r ≡ cond good f (option_or f (Some BadLine)) → Told e y good r
told None true e y r h k = record { wrong_is = λ q z. cc; right_is = λ z. (h, refl) }
told None false e y r h k = record { wrong_is = λ q z. h ∙ ap (λ (i : Fault). wrong (number_of i)) (same_Some _ _ (sym k ∙ z)); right_is = λ z. cc }
told (Some g) good e y r h k =
    let p : e ≡ wrong (number_of g) = rw (ne_eqb (number_of g) 0 (number_some g)) at h in
    let q : r ≡ Some g = k ∙ either good in
    record { wrong_is = λ i z. p ∙ ap (λ (i : Fault). wrong (number_of i)) (same_Some _ _ (sym q ∙ z)); right_is = λ z. cc }
  where
    either : (b : Bool) → cond b (Some g) (option_or (Some g) (Some BadLine)) ≡ Some g
    either true = refl
    either false = refl

no_members : (t : Table) → Joined t [] (record { layouts = 0; variants = 0 })
no_members t = record { means = λ q n v k c a b. says_none k c ∙ sym (any_nil (q k c)) }

module _ (s : Text) (x : FirstWord) (w : DollarWord s x) (t : Table) where
  pub group_none : (p m : ℕ) (r : Option Fault) → NoWord s x.end.at x.end.line p m → r ≡ option_or x.fault (Some BadLine) →
      GroupLineOf s x t (record { fault = r; row = record { layouts = 0; variants = 0 }; next = record { at = p; line = m } })
  group_none p m r u k =
      let f : fault_number x.fault ≡ words_fault (part s x.start x.end.at ∷ []) = w.fault ∙ sym (fault_cons (part s x.start x.end.at) [] ∙ rw fault_nil (lower_none _)) in
      let e : entry_of (line_of 0 true (line_words s x)) ≡ cond (eqb (fault_number x.fault) 0) (wrong 6) (wrong (fault_number x.fault)) =
      rw (u.none, f) (lone_line (part s x.start x.end.at) w.yes) in
      let v = told x.fault false _ (wrong 6) r e k in
      let j : Joined t (members_in s x) (record { layouts = 0; variants = 0 }) = rw u.none (no_members t) in
      record {
        wrong = v.wrong_is;
        right = λ z. absurd (no (v.right_is z).1);
        joined = j;
        on = u.low;
        passed = record { onwards = u.onwards; high = u.high; few = u.few; onto = u.onto };
      }

  module _ (a e l : ℕ) (f : Option Fault) (u : FoundWord s x.end.at x.end.line a e l (fault_number f)) (ms : Members) (v : MembersOf s e l t ms) where
    members_are : members_in s x ≡ left s e
    members_are = rw u.text refl

    fault_is : lower (lower (fault_number x.fault) (fault_number f)) (fault_number ms.fault) ≡ words_fault (part s x.start x.end.at ∷ part s a e ∷ left s e)
    fault_is =
        sym (fault_cons (part s x.start x.end.at) (part s a e ∷ left s e)
        ∙ rw (fault_cons (part s a e) (left s e), ← w.fault, ← u.fault, ← v.fault) (lower_assoc (fault_number x.fault) (fault_number f) (fault_number ms.fault)))

    -- g: whether it is a group's line; b: the lowest fault of its words; r: that of the line
    pub group_some : (g : Bool) (b r : Option Fault) → g ≡ (is_group_name (part s x.start x.end.at) && (is_equals (part s a e) && ms.ordinary)) →
        fault_number b ≡ lower (lower (fault_number x.fault) (fault_number f)) (fault_number ms.fault) → r ≡ cond g b (option_or b (Some BadLine)) →
        GroupLineOf s x t (record { fault = r; row = ms.row; next = ms.next })
    group_some g b r i j k =
        let q : fault_number b ≡ words_fault (part s x.start x.end.at ∷ part s a e ∷ left s e) = j ∙ fault_is in
        let z : entry_of (line_of 0 true (line_words s x)) ≡
        cond (eqb (fault_number b) 0) (cond g (group (rest (part s x.start x.end.at)) (left s e)) (wrong 6)) (wrong (fault_number b)) =
        rw (u.text, q, i, v.ordinary) (some_line (part s x.start x.end.at) (part s a e) (left s e) w.yes) in
        let y = told b g _ (group (rest (part s x.start x.end.at)) (left s e)) r z k in
        let m : Joined t (members_in s x) ms.row = rw members_are v.joined in
        let p = v.passed in
        record {
          wrong = y.wrong_is;
          right = λ z.
              let c = (and_both (is_equals (part s a e)) ms.ordinary (and_both (is_group_name (part s x.start x.end.at)) _ (sym i ∙ (y.right_is z).1)).1).1 in
              (rw members_are (y.right_is z).0, rw members_are (sym v.ordinary ∙ c), m);
          joined = m;
          on = omega (arith, u.low, u.some, u.high, p.onwards);
          passed = record { onwards = omega (arith, u.low, u.some, u.high, p.onwards); high = p.high; few = p.few; onto = u.onto ∙ p.onto };
        }
