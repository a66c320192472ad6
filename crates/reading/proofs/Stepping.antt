-- One step of a reading: one law for each way through it.
use Prim.Native.Nat.{ℕ, ◌+◌, ◌≤◌, ◌<◌}
use native.Mathlib.Omega.{arith}
use mathlib.Core.Path.{◌≡◌, refl, sym, ap, ◌∙◌}
use mathlib.Core.List.{List, [], ◌∷◌, ◌++◌}
use mathlib.Core.Bool.{Bool, true, false, not, ◌&&◌, cond}
use lib.ListN.{length, get_or, drop}
use Rattle.std.specs.Prelude.{Result, Ok, Err}
use Rattle.text.specs.declared.Spot.{Spot}
use Rattle.text.specs.declared.faults.Refusal.{Refusal}
use Rattle.text.specs.Sources.{Within}
use Rattle.text.specs.Bytes.{Text}
use Rattle.text.specs.Lines.{Line}
use Rattle.text.specs.Reading.{left, ahead, follow, Opens}
use Rattle.text.proofs.Lists.{no}
use Rattle.text.proofs.Readers.{line_at, line_first}
use Rattle.profile.specs.Profile.{Texts, profile_of}
use Rattle.listing.specs.Lists.{text_of}
use Rattle.names.specs.declared.Names.{Names}
use Rattle.names.specs.Defining.{Roomy}
use Rattle.rules.specs.declared.Present.{Present}
use Rattle.rules.specs.declared.SetHeading.{SetHeading}
use Rattle.rules.specs.Sections.{Rule}
use Rattle.rules.specs.Faults.{Groups, right_words}
use Rattle.rules.specs.Checking.{line_of, check_from}
use Rattle.answers.specs.Matching.{members}
use Rattle.answers.specs.Firings.{Firing, file_firings}
use Rattle.bitsets.specs.Sets.{is_in}
use Rattle.firing.specs.declared.Cursors.{Cursors}
use Rattle.firing.specs.Writing.{Low, run_buf, run_cur}
use Rattle.firing.specs.Rule.{Fires}
use Rattle.firing.proofs.Written.{buf_append, cur_append, length_run, run_buf_nil, run_cur_nil}
use Rattle.firing.proofs.Going.{low_run}
use Rattle.rules.specs.Held.{heading_by}
use Rattle.reading.specs.declared.OpenSet.{OpenSet}
use Rattle.reading.specs.declared.Reading.{Reading}
use Rattle.reading.specs.declared.Sought.{Sought}
use Rattle.reading.specs.declared.Sought.TheVariants as sought
use Rattle.reading.specs.Heads.{HeadRead}
use Rattle.values.specs.declared.Values.{Values}
use Rattle.values.specs.Expanding.{as_profile}
use Rattle.reading.specs.Order.{rules_from, firings_from}
use Rattle.reading.specs.Owed.{Kept, wanting, keeping, owed, kept_fires}
use Rattle.reading.specs.Seeking.{SetOpen, Without, RuleFound, Seeks}
use Rattle.reading.specs.Keeping.{most_places, Noted, KeptPlaces, KeptFired}
use Rattle.reading.specs.Opening.{closed_set}
use Rattle.reading.specs.States.{names_of, Sound, ReadTo, NamesKept}
use Rattle.reading.specs.Closing.{held_profile, closed_at}
use Rattle.reading.specs.Steps.{Stepped}
use Rattle.reading.proofs.Keeps.{fires_on}
use Rattle.reading.proofs.Opens.{owes_nothing}
use Rattle.reading.proofs.HeadLines.{owed_end, owed_close}
use Rattle.reading.proofs.KeptTold.{kept_told}

-- a heading's line
pub heading_first : (s : Text) (at n from m : ℕ) → at < length s → Opens s at n true from m → follow s at n ≡ line_of n true (left s from) ∷ ahead s from m
unfolding follow line_at
heading_first s at n from m h o = rw (line_first s n at h, o.mark, o.text, o.onto) refl

-- a set at no layout owes nothing
pub owed_closed : (gs : Groups) (x : Texts) (p : Present) (h : SetHeading) (kept : Kept) (ls : List Line) → owed gs (profile_of x) (closed_set p h) kept ls ≡ firings_from gs (profile_of x) ls
unfolding owed
owed_closed gs x p h kept ls = rw (owes_nothing (members gs) (profile_of x) p h kept (rules_from ls)) refl

-- what is not looked at stays
pub names_same : (names : Names) → NamesKept names names
names_same names = record { places = refl; layouts = refl; room = λ v. v; limit = λ v. v }

pub names_then : (a b c : Names) → NamesKept a b → NamesKept b c → NamesKept a c
names_then a b c v w = record { places = w.places ∙ v.places; layouts = w.layouts ∙ v.layouts; room = λ z. w.room (v.room z); limit = λ z. w.limit (v.limit z) }

pub kept_roomy : (names names' : Names) → NamesKept names names' → Roomy names → Roomy names'
kept_roomy names names' v w = record { room = v.room w.room; limit = v.limit w.limit; layouts = rw v.layouts w.layouts }

pub closed_open : (n : ℕ) (o : OpenSet) → SetOpen n o → SetOpen n (closed_set o.present o.set)
closed_open n o v =
    let a = v.seekable in
    record {
      sized = v.sized;
      seekable = record { columns = a.columns; left = a.left; right = a.right; heading = λ z. absurd (z refl) };
      among = λ e k a b. absurd (omega arith);
      all = record { all = λ e. absurd (no e) };
      some = v.some;
    }

pub closed_kept : (p : Present) (h : SetHeading) (s : Text) (ps : List ℕ) → length ps ≡ most_places → KeptPlaces (closed_set p h) s ps
closed_kept p h s ps e = record { size = e; range = omega arith; place = λ k a b. absurd (omega arith) }

module _ (s : Text) (names : Names) (x w : Text) (r : Reading) (v : Sound s names x w r) where
  -- the kept rules of a set are fired
  module _ (o : OpenSet) (ps : List ℕ) (x' w' : Text) (q' : Cursors) (long : length x' ≡ length x) (f : KeptFired (held_profile names) o s ps w w' r.cursors q') where
    fired_long : length w' ≡ length w
    fired_long = ap length (f.bytes (λ k. k)) ∙ length_run w r.cursors _

    fired_low : Low q'.at
    fired_low = rw (f.places (λ k. k)) (low_run r.cursors _ v.fires.low)

    fired_fires : Fires names.layouts 0 x' w' q'
    fired_fires = fires_on _ _ _ _ _ _ _ _ _ v.fires (omega arith) long fired_long fired_low

    -- with the rest, for a profile whose whole is left
    fired_writes : (w₀ : Text) (q₀ : Cursors) (p : Texts) (u : ReadTo w₀ q₀ s names w p r) (kept : Kept) (rest : List Firing) →
        ((k : ℕ) → o.first ≤ k → k < o.first + o.count → is_in k o.wanted ≡ false → drop 1 (left s (get_or ps k 0)) ≡ right_words (heading_by o.set) (kept k).text) →
        owed u.groups (profile_of p) r.set u.rules (follow s r.at.at r.at.line) ≡ kept_fires (profile_of p) o kept ++ rest →
        (length w' ≡ length w₀) × (run_buf w₀ q₀ (file_firings s (profile_of p)) ≡ run_buf w' q' rest) × (run_cur q₀ (file_firings s (profile_of p)) ≡ run_cur q' rest)
    fired_writes w₀ q₀ p u kept rest ws e =
        let few : names.layouts ≤ 32 = omega (arith, v.fires.digit) in
        let k = kept_told p (text_of names.table.list) names.bounds names.layouts u.ready.values u.ready.layouts few u.variants o s ps kept ws w w' r.cursors q' f in (
          fired_long ∙ u.writes.long,
          u.writes.bytes ∙ (ap (run_buf w r.cursors) e ∙ rw (buf_append, ← k.0, ← k.1) refl),
          u.writes.places ∙ (ap (run_cur r.cursors) e ∙ rw (cur_append, ← k.1) refl),
        )

  -- the set is over
  module _ (x' w' : Text) (q' : Cursors) (long : length x' ≡ length x) (f : KeptFired (held_profile names) r.set s r.places w w' r.cursors q') (i : Spot) where
    pub closed_sound : Within s i.at i.line → Sound s names x' w' (closed_at r i q')
    closed_sound h =
        record {
          within = h;
          room = v.room;
          set = closed_open names.layouts r.set v.set;
          kept = closed_kept r.set.present r.set.set s r.places v.kept.size;
          fires = fired_fires r.set r.places x' w' q' long f;
        }

    pub closed_long : length w' ≡ length w
    closed_long = fired_long r.set r.places x' w' q' long f

    pub closed_read : (w₀ : Text) (q₀ : Cursors) (p : Texts) (u : ReadTo w₀ q₀ s names w p r) →
        check_from (names_of u.groups) r.set.present (follow s r.at.at r.at.line) ≡ check_from (names_of u.groups) r.set.present (follow s i.at i.line) →
        owed u.groups (profile_of p) r.set u.rules (follow s r.at.at r.at.line) ≡ kept_fires (profile_of p) r.set u.rules ++ firings_from u.groups (profile_of p) (follow s i.at i.line) →
        ReadTo w₀ q₀ s names w' p (closed_at r i q')
    closed_read w₀ q₀ p u c e =
        let y = fired_writes r.set r.places x' w' q' long f w₀ q₀ p u u.rules (firings_from u.groups (profile_of p) (follow s i.at i.line)) u.words e in
        let z = owed_closed u.groups p r.set.present r.set.set u.rules (follow s i.at i.line) in
        record {
          groups = u.groups;
          rules = u.rules;
          ready = u.ready;
          variants = u.variants;
          words = λ k a l. absurd (omega arith);
          faults = u.faults ∙ c;
          writes = record { long = y.0; bytes = y.1 ∙ ap (run_buf w' q') (sym z); places = y.2 ∙ ap (run_cur q') (sym z) };
        }

  -- a rule was found
  module _ (place m : ℕ) (next : Spot) (g : Seeks names r.set s r.at.at r.at.line (Ok (sought.Rule place m next)))
      (ps' : List ℕ) (e : Noted r.set.first r.set.count m place r.places ps') (o' : ℕ) (out : Without r.set.wanted m o') where
    step_kept : {A : Type 0} (k : ℕ) → is_in k o' ≡ false → (is_in k m ≡ true → A) → (is_in k r.set.wanted ≡ false → is_in k m ≡ false → A) → A
    step_kept {A} k z hit rest = go (is_in k r.set.wanted) (is_in k m) refl refl (sym (out k) ∙ z)
      where
        go : (a c : Bool) → is_in k r.set.wanted ≡ a → is_in k m ≡ c → (a && not c) ≡ false → A
        go a true p q y = hit q
        go true false p q y = absurd (no (sym y))
        go false false p q y = rest p q

    pub kept_places : KeptPlaces (wanting r.set o') s ps'
    kept_places =
        record {
          size = e.size;
          range = v.kept.range;
          place = λ k a l z.
              step_kept k z
              (λ q. let y : get_or ps' k 0 ≡ place = e.at k a l ∙ rw q refl in rw y g.place.0)
              (λ p q. let y : get_or ps' k 0 ≡ get_or r.places k 0 = e.at k a l ∙ rw q refl in rw y (v.kept.place k a l p));
        }

    found_for : (w₀ : Text) (q₀ : Cursors) (p : Texts) (u : ReadTo w₀ q₀ s names w p r) → RuleFound p u.groups r.set s r.at.at r.at.line place m next.at next.line
    found_for w₀ q₀ p u = g.means p u.groups u.ready.table (rw (← u.ready.layouts) v.set)

    words_kept : (w₀ : Text) (q₀ : Cursors) (p : Texts) (u : ReadTo w₀ q₀ s names w p r) → (k : ℕ) → r.set.first ≤ k → k < r.set.first + r.set.count → is_in k o' ≡ false →
        drop 1 (left s (get_or ps' k 0)) ≡ right_words (heading_by r.set.set) (keeping m (found_for w₀ q₀ p u).rule u.rules k).text
    unfolding keeping
    words_kept w₀ q₀ p u k a l z =
        step_kept k z
        (λ q.
        let y : get_or ps' k 0 ≡ place = e.at k a l ∙ rw q refl in
        let c : cond (is_in k m) (found_for w₀ q₀ p u).rule (u.rules k) ≡ (found_for w₀ q₀ p u).rule = rw q refl in
        ap (λ (i : ℕ). drop 1 (left s i)) y ∙ ((found_for w₀ q₀ p u).words ∙ ap (λ (y : Rule). right_words (heading_by r.set.set) y.text) (sym c)))
        (λ z q.
        let y : get_or ps' k 0 ≡ get_or r.places k 0 = e.at k a l ∙ rw q refl in
        let c : cond (is_in k m) (found_for w₀ q₀ p u).rule (u.rules k) ≡ u.rules k = rw q refl in
        ap (λ (i : ℕ). drop 1 (left s i)) y ∙ (u.words k a l z ∙ ap (λ (y : Rule). right_words (heading_by r.set.set) y.text) (sym c)))

    -- it is kept
    module _ (once : r.set.every ≡ false) where
      abbrev kept_on : Reading
      kept_on = record { at = next; set = wanting r.set o'; places = ps'; cursors = r.cursors }

      keep_sound : Sound s names x w kept_on
      keep_sound =
          let a = v.set.seekable in
          record {
            within = record { high = g.place.3; few = g.place.4 };
            room = v.room;
            set =
                record {
                  sized = v.set.sized;
                  seekable = record { columns = a.columns; left = a.left; right = a.right; heading = λ z. a.heading g.place.1 };
                  among = v.set.among;
                  all = record { all = λ z. absurd (no (sym once ∙ z)) };
                  some = v.set.some;
                };
            kept = kept_places;
            fires = v.fires;
          }

      keep_read : (w₀ : Text) (q₀ : Cursors) (p : Texts) (u : ReadTo w₀ q₀ s names w p r) → ReadTo w₀ q₀ s names w p kept_on
      keep_read w₀ q₀ p u =
          let f = found_for w₀ q₀ p u in
          let y = f.keeps once u.rules o' out in
          record {
            groups = u.groups;
            rules = keeping m f.rule u.rules;
            ready = u.ready;
            variants = u.variants;
            words = words_kept w₀ q₀ p u;
            faults = u.faults ∙ f.faults (names_of u.groups);
            writes =
                record {
                  long = u.writes.long;
                  bytes = u.writes.bytes ∙ ap (run_buf w r.cursors) y;
                  places = u.writes.places ∙ ap (run_cur r.cursors) y;
                };
          }

      pub step_keep : Stepped s names names x x w w r kept_on (Ok true)
      step_keep = record { kept = names_same names; scratch = refl; buffer = refl; sound = λ z. keep_sound; further = λ z. g.place.2; means = λ w₀ q₀ p u. keep_read w₀ q₀ p u }

    -- each matching rule fires at once
    module _ (each : r.set.every ≡ true) (x' w' : Text) (q' : Cursors) (long : length x' ≡ length x)
        (f : KeptFired (held_profile names) (wanting r.set o') s ps' w w' r.cursors q') where
      abbrev fired_on : Reading
      fired_on = record { at = next; set = r.set; places = ps'; cursors = q' }

      fire_sound : Sound s names x' w' fired_on
      fire_sound =
          record {
            within = record { high = g.place.3; few = g.place.4 };
            room = v.room;
            set = v.set;
            kept =
                record {
                  size = e.size;
                  range = v.kept.range;
                  place = λ k a l z. absurd (no (sym z ∙ v.set.all.all each k a l));
                };
            fires = fired_fires (wanting r.set o') ps' x' w' q' long f;
          }

      fire_read : (w₀ : Text) (q₀ : Cursors) (p : Texts) (u : ReadTo w₀ q₀ s names w p r) → ReadTo w₀ q₀ s names w' p fired_on
      fire_read w₀ q₀ p u =
          let h = found_for w₀ q₀ p u in
          let y = fired_writes (wanting r.set o') ps' x' w' q' long f w₀ q₀ p u (keeping m h.rule u.rules)
          (owed u.groups (profile_of p) r.set u.rules (follow s next.at next.line)) (words_kept w₀ q₀ p u) (h.fires each u.rules o' out) in
          record {
            groups = u.groups;
            rules = u.rules;
            ready = u.ready;
            variants = u.variants;
            words = λ k a l z. absurd (no (sym z ∙ v.set.all.all each k a l));
            faults = u.faults ∙ h.faults (names_of u.groups);
            writes = record { long = y.0; bytes = y.1; places = y.2 };
          }

      pub step_fire : Stepped s names names x x' w w' r fired_on (Ok true)
      step_fire =
          record {
            kept = names_same names;
            scratch = long;
            buffer = fired_long (wanting r.set o') ps' x' w' q' long f;
            sound = λ z. fire_sound;
            further = λ z. g.place.2;
            means = λ w₀ q₀ p u. fire_read w₀ q₀ p u;
          }

  -- a line is refused
  pub step_refused : (e : Refusal) → Seeks names r.set s r.at.at r.at.line (Err e) → Stepped s names names x x w w r r (Err e)
  step_refused e g =
      record {
        kept = names_same names;
        scratch = refl;
        buffer = refl;
        sound = λ z. cc;
        further = λ z. cc;
        means = λ w₀ q₀ p u. rw u.faults (g.means p u.groups u.ready.table (rw (← u.ready.layouts) v.set) (names_of u.groups));
      }

  -- the end of the file
  module _ (g : Seeks names r.set s r.at.at r.at.line (Ok sought.End)) (x' w' : Text) (q' : Cursors) (long : length x' ≡ length x)
      (f : KeptFired (held_profile names) r.set s r.places w w' r.cursors q') where
    pub step_end : (i : Spot) → Stepped s names names x x' w w' r (closed_at r i q') (Ok false)
    step_end i =
        record {
          kept = names_same names;
          scratch = long;
          buffer = fired_long r.set r.places x' w' q' long f;
          sound = λ z. cc;
          further = λ z. cc;
          means = λ w₀ q₀ p u.
              let h = g.means p u.groups u.ready.table (rw (← u.ready.layouts) v.set) in
              let y = fired_writes r.set r.places x' w' q' long f w₀ q₀ p u u.rules [] u.words
              (h.1 u.rules ∙ owed_end u.groups (profile_of p) r.set v.set.all u.rules) in
              record {
                faults = u.faults ∙ h.0 (names_of u.groups);
                bytes = sym (y.1 ∙ run_buf_nil w' q');
                places = sym (y.2 ∙ run_cur_nil q');
              };
        }

  -- a heading: the set before it is over
  module _ (i words : Spot) (g : Seeks names r.set s r.at.at r.at.line (Ok (sought.Heading i words))) (x' w' : Text) (q' : Cursors)
      (long : length x' ≡ length x) (f : KeptFired (held_profile names) r.set s r.places w w' r.cursors q') where
    pub heading_sound : Sound s names x' w' (closed_at r i q')
    heading_sound = closed_sound x' w' q' long f i (record { high = omega (arith, g.place.1); few = g.place.2 })

    heading_read : (w₀ : Text) (q₀ : Cursors) (p : Texts) (u : ReadTo w₀ q₀ s names w p r) → ReadTo w₀ q₀ s names w' p (closed_at r i q')
    heading_read w₀ q₀ p u =
        let h = g.means p u.groups u.ready.table (rw (← u.ready.layouts) v.set) in
        let c = heading_first s i.at i.line words.at words.line g.place.1 g.place.3 in
        closed_read x' w' q' long f i w₀ q₀ p u (h.faults (names_of u.groups))
        (h.owes u.rules ∙ rw c (owed_close u.groups (profile_of p) r.set v.set.all u.rules i.line (left s words.at) (ahead s words.at words.line)))

    pub step_heading : (names' : Names) (r' : Reading) (o : Result Bool Refusal) → Stepped s names names' x' x' w' w' (closed_at r i q') r' o →
        Stepped s names names' x x' w w' r r' o
    step_heading names' r' o a =
        record {
          kept = a.kept;
          scratch = long;
          buffer = closed_long x' w' q' long f i;
          sound = a.sound;
          further = λ z. omega (arith, a.further z, g.place.0);
          means = λ w₀ q₀ p u. a.means w₀ q₀ p (heading_read w₀ q₀ p u);
        }

-- what a call gave, in the words of the laws

pub sought_is : (names : Names) (o : OpenSet) (s : Text) (at n : ℕ) (r : Result Sought Refusal) (x y : Sought) → r ≡ Ok x → x ≡ y → Seeks names o s at n r → Seeks names o s at n (Ok y)
sought_is names o s at n r x y e f v = rw f at (rw e at v)

pub fired_as : (names : Names) (v : Values) → (v.text.now ≡ text_of names.table.list) × (v.bounds.now ≡ names.bounds) × (v.n ≡ names.layouts) →
    (o : OpenSet) (s : Text) (ps : List ℕ) (w w' : Text) (q q' : Cursors) → KeptFired (as_profile v) o s ps w w' q q' → KeptFired (held_profile names) o s ps w w' q q'
fired_as names v e o s ps w w' q q' f = rw (← e.0, ← e.1, ← e.2) f

pub heading_as : (s : Text) (names names' : Names) (r c r' : Reading) (i : Spot) (e : Result (Unit {0}) Refusal) → c ≡ closed_at r r.at c.cursors →
    HeadRead s names names' (record { at = i; set = c.set; places = c.places; cursors = c.cursors }) r' e → HeadRead s names names' (closed_at r i c.cursors) r' e
heading_as s names names' r c r' i e h v =
    let q : ◌≡◌ {A = Reading} (record { at = i; set = c.set; places = c.places; cursors = c.cursors }) (closed_at r i c.cursors) =
    ap (λ (y : Reading). record { at = i; set = y.set; places = y.places; cursors = c.cursors }) h in
    rw q at v
