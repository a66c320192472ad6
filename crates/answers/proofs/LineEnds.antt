-- A file with CR LF for each LF resolves as the original.
use Prim.Native.Nat.{ℕ, ◌≤◌}
use native.Mathlib.Omega.{arith}
use mathlib.Core.Path.{◌≡◌, sym, ap, ◌∙◌}
use mathlib.Core.List.{[], ◌∷◌}
use mathlib.Core.Bool.{Bool, true, false, cond}
use lib.ListN.{length}
use lib.Dec.{eqb}
use borrow.Author.Tests.{le-ltb}
use Rattle.text.specs.Limits.{longest_file}
use Rattle.text.specs.Bytes.{Text}
use Rattle.text.specs.Lines.{crlf, no_return}
use Rattle.text.proofs.LineEnds.{crlf_lines}
use Rattle.profile.specs.Profile.{Texts}
use Rattle.rules.specs.Faults.{line_faults, file_refusals}
use Rattle.answers.specs.Firings.{file_firings}
use Rattle.answers.specs.declared.Outcome.{Outcome}
use Rattle.answers.specs.Answer.{ten_texts, refusals, answer, outcome, buffer_after, Resolved}

crlf_longer : (f : Text) → length f ≤ length (crlf f)
unfolding crlf
crlf_longer [] = omega arith
crlf_longer (b ∷ f) = go (eqb b 10) (crlf_longer f)
  where
    go : (t : Bool) → length f ≤ length (crlf f) → length (b ∷ f) ≤ length (cond t (13 ∷ 10 ∷ crlf f) (b ∷ crlf f))
    go true h = omega arith
    go false h = omega arith

-- an answer goes by the file's lines, where the file is within the size
module _ (f : Text) (t : Texts) (h : no_return f ≡ true) (l : length (crlf f) ≤ longest_file) where
  pub crlf_texts : ten_texts (crlf f) t ≡ ten_texts f t
  unfolding ten_texts file_firings
  crlf_texts = rw (crlf_lines f h)

  pub crlf_refusals : (room : ℕ) → refusals room (crlf f) t ≡ refusals room f t
  unfolding refusals file_refusals line_faults
  crlf_refusals room =
      let k : length f ≤ longest_file = omega (arith, crlf_longer f) in
      rw (crlf_texts, crlf_lines f h, le-ltb longest_file (length (crlf f)) l, le-ltb longest_file (length f) k)

  pub crlf_answer : (room : ℕ) → answer room (crlf f) t ≡ answer room f t
  unfolding answer
  crlf_answer room = rw (crlf_refusals room, crlf_texts)

  pub crlf_resolve : (d c' : Text) (x : Outcome) (e' : Text) (y : Outcome) → Resolved (crlf f) t d c' x → Resolved f t d e' y → (x ≡ y) × (c' ≡ e')
  crlf_resolve d c' x e' y v w =
      let k = crlf_answer (length d) in
      (v.result ∙ ap outcome k ∙ sym w.result, v.buffer ∙ ap (buffer_after d) k ∙ sym w.buffer)
