-- A file read from its first line on: the loop over its steps.
use Prim.Native.Nat.{ℕ, ◌-◌, ◌≤◌, ◌<◌}
use native.Mathlib.Omega.{arith}
use mathlib.Core.Path.{◌≡◌, refl, sym, ap, ◌∙◌}
use mathlib.Core.List.{[]}
use mathlib.Core.Bool.{Bool, true, false}
use lib.ListN.{length, replicate, length-replicate}
use Rattle.std.specs.Prelude.{Result, Ok, Err}
use Rattle.text.specs.declared.faults.Refusal.{Refusal}
use Rattle.text.specs.Bytes.{Text}
use Rattle.text.specs.Lines.{lines}
use Rattle.text.specs.Reading.{follow}
use Rattle.text.proofs.Lists.{no}
use Rattle.output.specs.Store.{farthest}
use Rattle.profile.specs.Profile.{Texts, profile_of}
use Rattle.rules.specs.declared.SetHeading.{SetHeading}
use Rattle.rules.specs.Checking.{no_heading, check_from}
use Rattle.rules.proofs.LineChecks.{lines_checked}
use Rattle.firing.specs.declared.Cursors.{Cursors}
use Rattle.firing.specs.Writing.{Low, run_buf, run_cur}
use Rattle.rules.specs.Held.{SetSized}
use Rattle.rules.proofs.HeldHeadings.{columns_length}
use Rattle.names.specs.declared.Names.{Names}
use Rattle.names.specs.Defining.{RoomForGroups}
use Rattle.answers.specs.Firings.{file_firings}
use Rattle.reading.specs.declared.Reading.{Reading}
use Rattle.reading.specs.Order.{firings_from}
use Rattle.reading.specs.Owed.{owed}
use Rattle.reading.specs.Opening.{closed_set}
use Rattle.reading.specs.Keeping.{most_places}
use Rattle.reading.specs.States.{NamesKept, Sound, ReadTo}
use Rattle.reading.specs.Steps.{Leads, Stepped}
use Rattle.reading.specs.Files.{Started, HoldsProfile, FileReadOf}
use Rattle.reading.proofs.LineFires.{firings_start}
use Rattle.reading.proofs.Stepping.{owed_closed, closed_kept, names_same, names_then}

pub started : (q : Cursors) (g : SetHeading) → SetSized g →
    Started q (record { at = record { at = 0; line = 1 }; set = closed_set no_heading g; places = replicate most_places 0; cursors = q })
started q g v = record { heading = g; sized = v; is = refl }

first_lines : (s : Text) → follow s 0 1 ≡ lines s
unfolding follow lines
first_lines s = refl

module _ (s : Text) (names₀ : Names) (w₀ : Text) (q₀ : Cursors) where
  -- the loop: the file is read up to a state
  pub record Reads (names : Names) (x w : Text) (r : Reading) : Type 0 where
    pub kept : NamesKept names₀ names
    pub scratch : length x ≡ 8192
    pub buffer : length w ≡ length w₀
    pub sound : Sound s names x w r
    pub reads : (p : Texts) → HoldsProfile names₀ p → ReadTo w₀ q₀ s names w p r

  pub reads_start : names₀.layouts < 10 → RoomForGroups names₀ → length w₀ ≤ farthest → Low q₀.at → (x : Text) → length x ≡ 8192 → (r : Reading) → Started q₀ r → Reads names₀ x w₀ r
  reads_start few room e l x z r u =
      rw u.is
      (record {
        kept = names_same names₀;
        scratch = z;
        buffer = refl;
        sound =
            record {
              within = record { high = omega arith; few = omega arith };
              room = room;
              set =
                  record {
                    sized = u.sized;
                    seekable = record { columns = rw (columns_length u.heading) u.sized.some; left = omega arith; right = omega arith; heading = λ f. absurd (f refl) };
                    among = λ f k i j. absurd (omega arith);
                    all = record { all = λ f. absurd (no f) };
                    some = names₀.counted.0;
                  };
              kept = closed_kept no_heading u.heading s (replicate most_places 0) (length-replicate {A = ℕ} most_places 0);
              fires =
                  record {
                    some = names₀.counted.0;
                    digit = few;
                    layout = omega arith;
                    room = omega (arith, z);
                    scratch = omega (arith, z);
                    buf = e;
                    low = l;
                  };
            };
        reads = λ p m.
            let i : file_firings s (profile_of p) ≡ owed [] (profile_of p) (closed_set no_heading u.heading) (λ k. record { number = 0; text = [] }) (follow s 0 1) =
            firings_start s (profile_of p) ∙ (ap (firings_from [] (profile_of p)) (sym (first_lines s)) ∙ sym (owed_closed [] p no_heading u.heading _ (follow s 0 1))) in
            record {
              groups = [];
              rules = λ k. record { number = 0; text = [] };
              ready = m.ready;
              variants = m.variants;
              words = λ k j g. absurd (omega arith);
              faults = lines_checked s ∙ ap (check_from [] no_heading) (sym (first_lines s));
              writes = record { long = refl; bytes = ap (run_buf w₀ q₀) i; places = ap (run_cur q₀) i };
            };
      })

  module _ (names : Names) (x w : Text) (r : Reading) (v : Reads names x w r) (names' : Names) (x' w' : Text) (r' : Reading) (o : Result Bool Refusal)
      (g : Stepped s names names' x x' w w' r r' o) where
    pub reads_more : o ≡ Ok true → Reads names' x' w' r'
    reads_more e =
        record {
          kept = names_then names₀ names names' v.kept g.kept;
          scratch = g.scratch ∙ v.scratch;
          buffer = g.buffer ∙ v.buffer;
          sound = g.sound e;
          reads = λ p m. rw e at (g.means w₀ q₀ p (v.reads p m));
        }

    pub reads_less : o ≡ Ok true → length s - r'.at.at < length s - r.at.at
    reads_less e = omega (arith, g.further e, (g.sound e).within.high)

    pub reads_end : o ≡ Ok false → FileReadOf s names₀ names' w₀ w' q₀ (Ok r'.cursors)
    reads_end e =
        record {
          kept = names_then names₀ names names' v.kept g.kept;
          long = g.buffer ∙ v.buffer;
          refused = λ p m f i. cc;
          accepted = λ p m q i.
              let a : Leads w₀ q₀ s names' w' p r' (Ok false) = rw e at (g.means w₀ q₀ p (v.reads p m)) in
              let j : r'.cursors ≡ q = cc in
              (a.faults, a.bytes, sym j ∙ a.places);
        }

    pub reads_refused : (f : Refusal) → o ≡ Err f → FileReadOf s names₀ names' w₀ w' q₀ (Err f)
    reads_refused f e =
        record {
          kept = names_then names₀ names names' v.kept g.kept;
          long = g.buffer ∙ v.buffer;
          refused = λ p m f' i.
              let a : Leads w₀ q₀ s names' w' p r' (Err f) = rw e at (g.means w₀ q₀ p (v.reads p m)) in
              let j : f ≡ f' = cc in
              rw (← j) a;
          accepted = λ p m q i. cc;
        }
