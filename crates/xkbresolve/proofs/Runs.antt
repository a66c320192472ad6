-- The ways out of a run: what is on the page is what is printed of the input's answer.
use Prim.Native.Nat.{ℕ, suc, ◌≤◌, ◌<◌}
use native.Mathlib.Omega.{arith}
use mathlib.Core.Path.{◌≡◌, refl, ap, ◌∙◌}
use mathlib.Core.List.{List}
use lib.ListN.{length, length-append}
use borrow.Author.Tests.{lt-ltb, le-ltb}
use Rattle.std.proofs.Common.{Ok, Err}
use Rattle.text.specs.declared.faults.Refusal.{Refusal as Refused}
use Rattle.text.specs.Told.{number_of as fault_of}
use Rattle.text.specs.Limits.{longest_file}
use Rattle.text.specs.Bytes.{Text, bytes}
use Rattle.profile.specs.Profile.{Texts, texts_of}
use Rattle.answers.specs.Answer.{ten_texts, total, Answer, refused, accepted, answer, number_of, place_of, lengths_of, outcome, Answered, Resolved}
use Rattle.answers.specs.Told.{outcome_told}
use Rattle.answers.proofs.Answers.{answered}
use Rattle.answers.proofs.Places.{number_low, place_low}
use Rattle.resolver.proofs.Resolves.{accepts, lengths_accepted, refuses}
use Rattle.xkbresolve.specs.Program.{first_line, later_lines, input_texts, input_rules, lent_room, input_answer, refusal_line, names, stretch_lines, printed, most_printed, on_page}
use Rattle.xkbresolve.proofs.Prints.{decimal_short, lines_same, size, lines_length, on_whole}

-- how much is printed

refusal_length : (n p : ℕ) → n ≤ 11 → p ≤ suc longest_file → length (refusal_line n p) ≤ most_printed
unfolding refusal_line bytes
refusal_length n p h k =
    simp length-append (omega (arith, decimal_short 2 n (omega arith) (omega arith) (omega arith), decimal_short 5 p (omega arith) (omega arith) (omega arith)))

texts_length : (ts : List Text) → total ts ≤ lent_room → length (printed (accepted ts)) ≤ most_printed
unfolding printed size bytes
texts_length ts h = omega (arith, lines_length names 0 ts)

printed_length : (room : ℕ) (f : Text) (t : Texts) → room ≡ lent_room → length (printed (answer room f t)) ≤ most_printed
unfolding printed Answered number_of place_of
printed_length room f t lent = go (answer room f t) (answered room f t) (number_low room f t) (place_low room f t)
  where
    go : (a : Answer) → Answered room a → number_of a ≤ 11 → place_of a ≤ suc longest_file → length (printed a) ≤ most_printed
    go (refused r) w n p = refusal_length r.number r.place n p
    go (accepted ts) w n p = texts_length ts (omega (arith, w.1))

pub run_long : (s p : Text) → longest_file < length s → p ≡ on_page (refusal_line 3 0) → p ≡ printed (input_answer s)
unfolding input_answer printed
run_long s p h e = e ∙ on_whole (refusal_line 3 0) (refusal_length 3 0 (omega arith) (omega arith)) ∙ rw (lt-ltb longest_file (length s) h)

-- the answer, by the lines of the input
module _ (s a b c f m l v o : Text) (short : length s ≤ longest_file) (em : m ≡ first_line s) (ea : a ≡ later_lines s) (el : l ≡ first_line a) (eb : b ≡ later_lines a)
    (ev : v ≡ first_line b) (ec : c ≡ later_lines b) (eo : o ≡ first_line c) (ef : f ≡ later_lines c) (x : Text) (lent : length x ≡ lent_room) where
  same : answer (length x) f (texts_of m l v o) ≡ input_answer s
  unfolding input_answer input_texts input_rules
  same = rw (le-ltb longest_file (length s) short, lent, em, el, ev, eo, ef, ec, eb, ea)

  whole : (p : Text) → p ≡ on_page (printed (answer (length x) f (texts_of m l v o))) → p ≡ printed (input_answer s)
  whole p e = e ∙ on_whole _ (printed_length (length x) f (texts_of m l v o) lent) ∙ ap printed same

  pub run_refused : (e : Refused) (p : Text) → outcome_told (Err e) ≡ outcome (answer (length x) f (texts_of m l v o)) → p ≡ on_page (refusal_line (fault_of e.fault) e.place) →
      p ≡ printed (input_answer s)
  unfolding printed
  run_refused e p h g = whole p (g ∙ rw (refuses (length x) f (texts_of m l v o) e h))

  pub run_accepted : (ns : List ℕ) (d p : Text) → Resolved f (texts_of m l v o) x d (outcome_told (Ok ns)) → p ≡ on_page (stretch_lines names 0 d ns) → p ≡ printed (input_answer s)
  unfolding printed lengths_of
  run_accepted ns d p r g =
      let k = accepts (length x) f (texts_of m l v o) _ r.result refl in
      let n = lengths_accepted (length x) f (texts_of m l v o) _ r.result k in
      whole p (g ∙ rw (r.buffer, k.is, n) (ap on_page (lines_same names 0 x (ten_texts f (texts_of m l v o)) (omega arith))))
