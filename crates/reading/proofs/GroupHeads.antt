-- A group line: refused, or one group more.
use Prim.Native.Nat.{ℕ, ◌≤◌}
use native.Mathlib.Omega.{arith}
use mathlib.Core.Path.{◌≡◌, refl, sym, ap, ◌∙◌}
use mathlib.Core.List.{◌∷◌}
use mathlib.Core.Bool.{Bool, true, false, cond}
use lib.ListN.{length}
use lib.Dec.{eqb, ltb}
use borrow.Author.Tests.{eqb-true, eqb-false, ne_eqb, ltb-false}
use Rattle.text.specs.Limits.{longest_word}
use Rattle.std.specs.Prelude.{Some, None, Result, Ok, Err}
use Rattle.text.specs.declared.Spot.{Spot}
use Rattle.text.specs.declared.faults.Fault.{Fault}
use Rattle.text.specs.declared.faults.Fault.TheVariants.{BadGroup}
use Rattle.text.specs.Told.{number_of}
use Rattle.text.proofs.Told.{number_some}
use Rattle.text.specs.Bytes.{Text, Words, rest, part, any_of}
use Rattle.text.specs.Refusals.{first_refusal}
use Rattle.text.specs.Words.{bad_byte, too_long, words_fault}
use Rattle.text.specs.Reading.{left, follow}
use Rattle.text.proofs.Lists.{no, neither, any_cons}
use Rattle.profile.specs.Profile.{Texts, profile_of}
use Rattle.rules.specs.Entries.{wrong, group, entry_of}
use Rattle.rules.specs.Faults.{Groups}
use Rattle.rules.specs.Checking.{line_of, no_heading, check_from}
use Rattle.rules.proofs.CheckSteps.{entry_any}
use Rattle.firing.specs.Writing.{run_buf, run_cur}
use Rattle.names.specs.declared.Names.{Names}
use Rattle.names.specs.Ready.{Ready}
use Rattle.names.specs.Defining.{RoomForName, RoomForGroups, Defines}
use Rattle.names.proofs.Defining.{room_for_name}
use Rattle.judging.specs.declared.FirstWord.{FirstWord}
use Rattle.judging.specs.declared.GroupLine.{GroupLine}
use Rattle.judging.specs.Groups.{DollarFound, DollarWord, line_words, members_in, GroupLineOf}
use Rattle.reading.specs.declared.OpenSet.{OpenSet}
use Rattle.reading.specs.declared.Reading.{Reading}
use Rattle.reading.specs.Order.{firings_from}
use Rattle.reading.specs.Owed.{Kept, owed}
use Rattle.reading.specs.Seeking.{SetOpen}
use Rattle.reading.specs.Opening.{closed_set}
use Rattle.reading.specs.States.{NamesKept, names_of}
use Rattle.reading.specs.Heads.{AtHeading, AtGroup, HeadRead}
use Rattle.reading.proofs.HeadLines.{fires_group, faults_wrong, faults_twice, faults_group}
use Rattle.reading.proofs.Stepping.{heading_first, owed_closed, closed_kept, names_same}

-- a group's words have no refusal of their own, so its name is short

entry_wrong : (ws : Words) → (words_fault ws ≡ 0 → ⊥) → entry_of (line_of 0 true ws) ≡ wrong (words_fault ws)
unfolding entry_of
entry_wrong ws e = rw (ne_eqb (words_fault ws) 0 e)

short_words : (ws : Words) → words_fault ws ≡ 0 → any_of too_long ws ≡ false
unfolding words_fault
short_words ws h = go (any_of (any_of bad_byte) ws) (any_of too_long ws) h
  where
    go : (a b : Bool) → ◌≡◌ {A = ℕ} (cond a 4 (cond b 5 0)) 0 → b ≡ false
    go true b e = absurd (eqb-false 4 0 refl e)
    go false true e = absurd (eqb-false 5 0 refl e)
    go false false e = refl

group_short : (w : Text) (ws : Words) (g : Text) (ms : Words) → entry_of (line_of 0 true (w ∷ ws)) ≡ group g ms → length w ≤ longest_word
unfolding too_long
group_short w ws g ms e = ltb-false longest_word (length w) (neither (ltb longest_word (length w)) (any_of too_long ws) (sym (any_cons too_long w ws) ∙ short_words (w ∷ ws) (fine (eqb (words_fault (w ∷ ws)) 0) refl))).0
  where
    fine : (t : Bool) → eqb (words_fault (w ∷ ws)) 0 ≡ t → words_fault (w ∷ ws) ≡ 0
    fine true z = eqb-true (words_fault (w ∷ ws)) 0 z
    fine false z = let y : group g ms ≡ wrong (words_fault (w ∷ ws)) = sym e ∙ entry_wrong (w ∷ ws) (eqb-false (words_fault (w ∷ ws)) 0 z) in let c : ◌≡◌ {A = ℕ} 0 1 = cc in absurd (omega arith)

none_open : (n : ℕ) (o : OpenSet) → SetOpen n o → SetOpen n (closed_set no_heading o.set)
none_open n o v =
    record {
      sized = v.sized;
      seekable = record { columns = v.seekable.columns; left = omega arith; right = omega arith; heading = λ z. absurd (z refl) };
      among = λ e k a b. absurd (omega arith);
      all = record { all = λ e. absurd (no e) };
      some = v.some;
    }

module _ (s : Text) (names : Names) (r : Reading) (x : FirstWord) (h : AtGroup s r x) (dollar : DollarWord s x) (g : GroupLine) (v : GroupLineOf s x names.table g) where
  abbrev name : Text
  name = part s x.start x.end.at

  line : follow s r.at.at r.at.line ≡ line_of r.at.line true (line_words s x) ∷ follow s g.next.at g.next.line
  line =
      heading_first s r.at.at r.at.line h.from.at h.from.line h.heading.inside h.heading.opens
      ∙ rw (h.words, h.onto, v.passed.onto) refl

  refused_as_lem : (names' : Names) → names' ≡ names → (f : Fault) →
      ((p : Texts) (gs : Groups) → Ready p gs names → first_refusal (check_from (names_of gs) r.set.present (follow s r.at.at r.at.line)) ≡ record { number = number_of f; place = r.at.line }) →
      HeadRead s names names' r r (Err (record { fault = f; place = r.at.line }))
  refused_as_lem names' stay f e =
      record {
        kept = rw stay (names_same names);
        refused = λ z. (stay, refl);
        left = λ z. z;
        steps = λ y w u.
            record { kept = rw stay (names_same names); scratch = refl; buffer = refl; sound = λ c. cc; further = λ c. cc; means = λ w₀ q₀ p a. rw a.faults (e p a.groups a.ready) };
      }

  pub group_refused : (f : Fault) → g.fault ≡ Some f → HeadRead s names names r r (Err (record { fault = f; place = r.at.line }))
  group_refused f z =
      refused_as_lem names refl f
      (λ p gs a. rw line
      (faults_wrong (names_of gs) r.set.present r.at.line (line_words s x) (follow s g.next.at g.next.line) (number_of f) (number_some f)
      (entry_any r.at.line true (line_words s x) ∙ v.wrong f z)))

  module _ (z : g.fault ≡ None) where
    entry : entry_of (line_of r.at.line true (line_words s x)) ≡ group (rest name) (members_in s x)
    entry = entry_any r.at.line true (line_words s x) ∙ (v.right z).0

    pub name_short : length name ≤ longest_word
    name_short = group_short name (left s x.end.at) _ _ (v.right z).0

    pub name_room : RoomForGroups names → RoomForName name names
    name_room room = room_for_name name names room name_short

    module _ (names' : Names) (e : Result (Unit {0}) Fault) (q : Defines name g.row names names' e) where
      pub group_twice : (f : Fault) → e ≡ Err f → HeadRead s names names' r r (Err (record { fault = f; place = r.at.line }))
      group_twice f i =
          let k = q.kept (rw i refl) in
          let b : f ≡ BadGroup = cc in
          refused_as_lem names' k.0 f
          (λ p gs a. rw (b, line)
          (faults_twice gs r.set.present r.at.line (line_words s x) (follow s g.next.at g.next.line) (rest name) (members_in s x) entry
          (sym (q.refusal p gs a.table a.number) ∙ rw i refl)))

      module _ (u : Unit {0}) (i : e ≡ Ok u) where
        abbrev grouped : Reading
        grouped = record { at = g.next; set = closed_set no_heading r.set.set; places = r.places; cursors = r.cursors }

        room_left : RoomForGroups names → RoomForGroups names'
        room_left = q.room name_short

        names_kept : NamesKept names names'
        names_kept = record { places = q.values.0; layouts = q.values.1; room = room_left; limit = λ v. omega (arith, q.few (rw i refl), q.number (rw i refl)) }

        owes_all : (gs : Groups) (p : Texts) (kept : Kept) → owed gs (profile_of p) r.set kept (follow s r.at.at r.at.line) ≡
            owed (record { name = rest name; members = members_in s x } ∷ gs) (profile_of p) (closed_set no_heading r.set.set) kept (follow s g.next.at g.next.line)
        owes_all gs p kept =
            ap (λ (y : OpenSet). owed gs (profile_of p) y kept (follow s r.at.at r.at.line)) h.heading.closed
            ∙ (owed_closed gs p r.set.present r.set.set kept (follow s r.at.at r.at.line)
            ∙ (ap (firings_from gs (profile_of p)) line
            ∙ (fires_group gs (profile_of p) r.at.line (line_words s x) (follow s g.next.at g.next.line) (rest name) (members_in s x) entry
            ∙ sym (owed_closed (record { name = rest name; members = members_in s x } ∷ gs) p no_heading r.set.set kept (follow s g.next.at g.next.line)))))

        pub group_more : HeadRead s names names' r grouped (Ok (tt {0}))
        group_more =
            record {
              kept = names_kept;
              refused = λ c. absurd (no c);
              left = λ c. c;
              steps = λ y w v₀.
                  record {
                    kept = names_kept;
                    scratch = refl;
                    buffer = refl;
                    sound = λ c.
                        record {
                          within = record { high = v.passed.high; few = v.passed.few };
                          room = room_left v₀.room;
                          set = rw q.values.1 (none_open names.layouts r.set v₀.set);
                          kept = closed_kept no_heading r.set.set s r.places v₀.kept.size;
                          fires = rw q.values.1 v₀.fires;
                        };
                    further = λ c. omega (arith, h.heading.inside, h.heading.opens.low, h.low, v.passed.onwards, v.on);
                    means = λ w₀ q₀ p a.
                        let k = owes_all a.groups p a.rules in
                        record {
                          groups = record { name = rest name; members = members_in s x } ∷ a.groups;
                          rules = a.rules;
                          ready = q.more (rw i refl) p a.groups (members_in s x) a.ready (v.right z).1 (v.right z).2;
                          variants = rw q.values.1 a.variants;
                          words = λ k j l. absurd (omega arith);
                          faults = a.faults ∙ rw line
                              (faults_group a.groups r.set.present r.at.line (line_words s x) (follow s g.next.at g.next.line) (rest name) (members_in s x) entry
                              (sym (q.refusal p a.groups a.ready.table a.ready.number) ∙ rw i refl));
                          writes =
                              record {
                                long = a.writes.long;
                                bytes = a.writes.bytes ∙ ap (run_buf w r.cursors) k;
                                places = a.writes.places ∙ ap (run_cur r.cursors) k;
                              };
                        };
                  };
            }

-- a heading by its first word
pub at_group : (s : Text) (r : Reading) (words : Spot) (x : FirstWord) → AtHeading s r words → DollarFound s words.at words.line x → AtGroup s r x
at_group s r words x h w =
    let f = w.word in
    record { from = words; heading = h; words = f.text; onto = f.onto; low = omega (arith, f.low, f.some) }
