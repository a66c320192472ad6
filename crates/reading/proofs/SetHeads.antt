-- The heading of a set: refused, or the set is opened.
use native.Mathlib.Omega.{arith}
use mathlib.Core.Path.{◌≡◌, refl, sym, ap, ◌∙◌}
use mathlib.Core.List.{List, ◌∷◌, ◌++◌}
use mathlib.Core.Bool.{true}
use Rattle.std.specs.Prelude.{Ok, Err}
use Rattle.text.specs.declared.Spot.{Spot}
use Rattle.text.specs.declared.faults.Fault.{Fault}
use Rattle.text.specs.Told.{number_of}
use Rattle.text.proofs.Told.{number_some}
use Rattle.text.specs.Bytes.{Text}
use Rattle.text.specs.Lines.{Line}
use Rattle.text.specs.Reading.{left, follow}
use Rattle.text.proofs.Lists.{no}
use Rattle.profile.specs.Profile.{Texts, profile_of, layout_count}
use Rattle.rules.specs.Entries.{wrong as wrong_as, set as set_of, entry_of}
use Rattle.rules.specs.Checking.{line_of}
use Rattle.rules.proofs.CheckSteps.{entry_any}
use Rattle.answers.specs.Matching.{members}
use Rattle.firing.specs.Writing.{run_buf, run_cur}
use Rattle.rules.specs.Held.{heading_by}
use Rattle.rules.specs.declared.SetHeading.{SetHeading}
use Rattle.judging.specs.declared.SetLine.{SetLine}
use Rattle.judging.specs.Sets.{SetIs, SetLineOf}
use Rattle.names.specs.declared.Names.{Names}
use Rattle.reading.specs.declared.OpenSet.{OpenSet}
use Rattle.reading.specs.declared.Reading.{Reading}
use Rattle.reading.specs.Order.{rules_from, firings_from}
use Rattle.reading.specs.Owed.{Kept, set_owes, owed}
use Rattle.reading.specs.Opening.{Opened}
use Rattle.reading.specs.States.{names_of}
use Rattle.reading.specs.Heads.{AtHeading, HeadRead}
use Rattle.reading.proofs.HeadLines.{fires_set, faults_wrong, faults_set}
use Rattle.reading.proofs.Stepping.{heading_first, owed_closed, names_same}

owed_is : (gs : _) (x : Texts) (o : OpenSet) (kept : Kept) (ls : List Line) → owed gs (profile_of x) o kept ls ≡ set_owes (members gs) (profile_of x) o kept (rules_from ls) ++ firings_from gs (profile_of x) ls
unfolding owed
owed_is gs x o kept ls = refl

module _ (s : Text) (names : Names) (r : Reading) (words : Spot) (h : AtHeading s r words) (l : SetLine) (v : SetLineOf s words.at words.line l) where
  line : follow s r.at.at r.at.line ≡ line_of r.at.line true (left s words.at) ∷ follow s l.next.at l.next.line
  line = heading_first s r.at.at r.at.line words.at words.line h.inside h.opens ∙ ap (λ (y : List Line). line_of r.at.line true (left s words.at) ∷ y) v.passed.onto

  -- it is refused
  pub set_refused : (f : Fault) → l.set ≡ Err f → HeadRead s names names r r (Err (record { fault = f; place = r.at.line }))
  set_refused f e =
      record {
        kept = names_same names;
        refused = λ z. (refl, refl);
        left = λ z. z;
        steps = λ x w u.
            record {
              kept = names_same names;
              scratch = refl;
              buffer = refl;
              sound = λ y. cc;
              further = λ y. cc;
              means = λ w₀ q₀ p a.
                  rw (a.faults, line)
                  (faults_wrong (names_of a.groups) r.set.present r.at.line (left s words.at) (follow s l.next.at l.next.line) (number_of f) (number_some f)
                  (entry_any r.at.line true (left s words.at) ∙ wrong));
            };
      }
    where
      wrong : entry_of (line_of 0 true (left s words.at)) ≡ wrong_as (number_of f)
      wrong = rw e at v.set

  -- the set is opened
  module _ (g : SetHeading) (e : l.set ≡ Ok g) where
    pub set_is : SetIs (entry_of (line_of 0 true (left s words.at))) g
    set_is = rw e at v.set

    entry : entry_of (line_of r.at.line true (left s words.at)) ≡ set_of (heading_by g)
    entry = entry_any r.at.line true (left s words.at) ∙ set_is.is

    module _ (o : OpenSet) (q : Opened names.layouts g o) where
      owes_all : (gs : _) (p : Texts) → names.layouts ≡ layout_count (profile_of p) → (kept : Kept) →
          owed gs (profile_of p) r.set kept (follow s r.at.at r.at.line) ≡ owed gs (profile_of p) o kept (follow s l.next.at l.next.line)
      owes_all gs p c kept =
          ap (λ (y : OpenSet). owed gs (profile_of p) y kept (follow s r.at.at r.at.line)) h.closed
          ∙ (owed_closed gs p r.set.present r.set.set kept (follow s r.at.at r.at.line)
          ∙ (ap (firings_from gs (profile_of p)) line
          ∙ (fires_set gs (profile_of p) r.at.line (left s words.at) (follow s l.next.at l.next.line) (heading_by g) entry
          ∙ sym (owed_is gs p o kept (follow s l.next.at l.next.line) ∙ rw (q.owes gs (profile_of p) (sym c) kept (rules_from (follow s l.next.at l.next.line))) refl))))

      pub set_opened : HeadRead s names names r (record { at = l.next; set = o; places = r.places; cursors = r.cursors }) (Ok (tt {0}))
      set_opened =
          record {
            kept = names_same names;
            refused = λ z. absurd (no z);
            left = λ z. rw q.set set_is.sized.left;
            steps = λ x w u.
                record {
                  kept = names_same names;
                  scratch = refl;
                  buffer = refl;
                  sound = λ y.
                      record {
                        within = record { high = v.passed.high; few = v.passed.few };
                        room = u.room;
                        set = q.held;
                        kept = record { size = u.kept.size; range = q.range; place = λ k a c e. absurd (no (sym e ∙ q.kept k a c)) };
                        fires = u.fires;
                      };
                  further = λ y. omega (arith, h.inside, h.opens.low, v.passed.onwards, v.on);
                  means = λ w₀ q₀ p a.
                      let e = owes_all a.groups p a.ready.layouts a.rules in
                      record {
                        groups = a.groups;
                        rules = a.rules;
                        ready = a.ready;
                        variants = a.variants;
                        words = λ k i j f. absurd (no (sym f ∙ q.kept k i j));
                        faults = a.faults ∙ rw (line, q.present)
                            (faults_set (names_of a.groups) r.set.present r.at.line (left s words.at) (follow s l.next.at l.next.line) (heading_by g) entry);
                        writes =
                            record {
                              long = a.writes.long;
                              bytes = a.writes.bytes ∙ ap (run_buf w r.cursors) e;
                              places = a.writes.places ∙ ap (run_cur r.cursors) e;
                            };
                      };
                };
          }
