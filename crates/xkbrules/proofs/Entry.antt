-- The answer for C: that of the resolve, but for a sheet that is too short.
use Prim.Native.Nat.{ℕ, suc, ◌+◌, ◌*◌, ◌^◌, ◌≤◌, ◌<◌}
use native.Mathlib.Omega.{arith}
use mathlib.Core.Path.{◌≡◌, refl, sym, ap, ◌∙◌}
use mathlib.Core.List.{List, [], ◌∷◌, ◌++◌, map, append-nil}
use mathlib.Core.Bool.{Bool, true, false}
use lib.ListN.{length, drop}
use lib.Dec.{ltb}
use borrow.Author.Tests.{lt-ltb, le-ltb, ltb-true, ltb-false, lt-leb}
use Rattle.text.specs.declared.Refusal.{Refusal}
use Rattle.text.specs.Limits.{longest_file, longest_total}
use Rattle.text.specs.Bytes.{Text}
use Rattle.text.specs.Lines.{crlf, no_return}
use Rattle.text.specs.Refusals.{refused_if}
use Rattle.text.proofs.Lists.{nil_right}
use Rattle.profile.specs.Profile.{Texts}
use Rattle.profile.specs.Options.{Alike, Within, with_options}
use Rattle.profile.proofs.Options.{same_profile, same_refusals}
use Rattle.profile.proofs.Counts.{untested}
use Rattle.answers.specs.Answer.{ten_texts, sum, total, refusals, Answer, refused, accepted, first_of, answer, place_of, lengths_of, stretch_start, stretch_length, Answered}
use Rattle.answers.proofs.Answers.{accepted_first, answered}
use Rattle.answers.proofs.Places.{place_low}
use Rattle.answers.proofs.Accepted.{texts_fit}
use Rattle.answers.proofs.LineEnds.{crlf_texts, crlf_refusals}
use Rattle.xkbrules.specs.Sheet.{sheet_length, entry_refusals, entry_answer, sheet_after, lengths_in, component_code}
use Rattle.xkbrules.proofs.Sheet.{sheet_lengths, sheet_later, sheet_long}

-- a refusal stays the first
refused_append : (rs qs : List Refusal) (ts : List Text) (r : Refusal) → first_of rs ts ≡ refused r → first_of (rs ++ qs) ts ≡ refused r
unfolding first_of
refused_append [] qs ts r h = cc
refused_append (q ∷ rs) qs ts r h = h

module _ (room sheet : ℕ) (f : Text) (t : Texts) where
  pub entry_same : sheet_length ≤ sheet → entry_answer room sheet f t ≡ answer room f t
  unfolding entry_answer entry_refusals answer refused_if
  entry_same h = rw (le-ltb sheet sheet_length h, append-nil (refusals room f t))

  pub entry_refused : (r : Refusal) → answer room f t ≡ refused r → entry_answer room sheet f t ≡ refused r
  unfolding entry_answer entry_refusals answer
  entry_refused r h = refused_append (refusals room f t) _ (ten_texts f t) r h

  pub entry_short : (ts : List Text) → sheet < sheet_length → answer room f t ≡ accepted ts →
      entry_answer room sheet f t ≡ refused (record { number = 11; place = 0 })
  unfolding entry_answer entry_refusals answer refused_if first_of
  entry_short ts s h = rw ((accepted_first (refusals room f t) (ten_texts f t) ts h).0, lt-ltb sheet sheet_length s)

  pub entry_answered : Answered room (entry_answer room sheet f t)
  unfolding Answered
  entry_answered = go (ltb sheet sheet_length) refl
    where
      short : (a : Answer) → sheet < sheet_length → answer room f t ≡ a → Answered room a → Answered room (entry_answer room sheet f t)
      short (refused r) s e h = rw (entry_refused r e) h
      short (accepted ts) s e h = rw (entry_short ts s e) (omega arith, omega arith)

      go : (b : Bool) → ltb sheet sheet_length ≡ b → Answered room (entry_answer room sheet f t)
      go true e = short (answer room f t) (ltb-true sheet sheet_length e) refl (answered room f t)
      go false e = rw (entry_same (ltb-false sheet sheet_length e)) (answered room f t)

  -- no place is over 65,537
  pub entry_place : (p : Refusal) → entry_answer room sheet f t ≡ refused p → p.place ≤ 65537
  unfolding place_of
  entry_place p h = go (ltb sheet sheet_length) refl
    where
      same : (q : Refusal) → refused q ≡ refused p → q.place ≡ p.place
      same q e = let k : q ≡ p = cc in ap (λ (r : Refusal). r.place) k

      short : (a : Answer) → sheet < sheet_length → answer room f t ≡ a → place_of a ≤ suc longest_file → p.place ≤ 65537
      short (refused r) s e l = omega (arith, same r (sym (entry_refused r e) ∙ h))
      short (accepted ts) s e l = omega (arith, same (record { number = 11; place = 0 }) (sym (entry_short ts s e) ∙ h))

      go : (b : Bool) → ltb sheet sheet_length ≡ b → p.place ≤ 65537
      go true e = short (answer room f t) (ltb-true sheet sheet_length e) refl (place_low room f t)
      go false e = omega (arith, ap place_of (sym (entry_same (ltb-false sheet sheet_length e)) ∙ h), place_low room f t)

  -- an accepted answer is that of the resolve, and the sheet is long enough
  module _ (ts : List Text) (h : entry_answer room sheet f t ≡ accepted ts) where
    first : (entry_refusals room sheet f t ≡ []) × (ten_texts f t ≡ ts)
    unfolding entry_answer
    first = accepted_first (entry_refusals room sheet f t) (ten_texts f t) ts h

    pub entry_long : sheet_length ≤ sheet
    unfolding entry_refusals
    entry_long = untested sheet sheet_length 11 0 (nil_right (refusals room f t) _ first.0)

    pub entry_accepted : answer room f t ≡ accepted ts
    entry_accepted = sym (entry_same entry_long) ∙ h

-- the sheet after an accepted answer

module _ (room : ℕ) (s f : Text) (t : Texts) (ts : List Text) (h : entry_answer room (length s) f t ≡ accepted ts) where
  abbrev fit : (length ts ≡ 10) × (total ts ≤ room) × (total ts ≤ longest_total)
  fit = texts_fit room f t ts (entry_accepted room (length s) f t ts h)

  pub entry_lengths : lengths_in (sheet_after s (accepted ts)) ≡ lengths_of (accepted ts)
  unfolding lengths_of
  entry_lengths = sheet_lengths s ts fit.0 (omega (arith, fit.2))

  pub entry_later : drop sheet_length (sheet_after s (accepted ts)) ≡ drop sheet_length s
  entry_later = sheet_later s ts fit.0

  pub entry_size : length (sheet_after s (accepted ts)) ≡ length s
  entry_size = sheet_long s ts fit.0 (entry_long room (length s) f t ts h)

  -- the code of a component is its place within the texts
  pub entry_component : (c : ℕ) → c ≤ 4 →
      component_code room (sheet_after s (accepted ts)) c ≡ stretch_start (lengths_of (accepted ts)) c * 2 ^ 32 + stretch_length (lengths_of (accepted ts)) c
  unfolding component_code total lengths_of
  entry_component c k =
      let l : sheet_length ≤ length (sheet_after s (accepted ts)) = omega (arith, entry_size, entry_long room (length s) f t ts h) in
      rw (
        le-ltb 4 c k,
        le-ltb (length (sheet_after s (accepted ts))) sheet_length l,
        entry_lengths,
        le-ltb room (sum (map length ts)) fit.1,
        lt-leb (2 ^ 32) (sum (map length ts)) (omega (arith, fit.2)),
      )

pub entry_options : (room sheet : ℕ) (f : Text) (t : Texts) (o o' : Text) → Alike o o' → Within o → Within o' →
    entry_answer room sheet f (with_options t o) ≡ entry_answer room sheet f (with_options t o')
unfolding entry_answer entry_refusals refusals ten_texts
entry_options room sheet f t o o' h w w' = rw (same_refusals t o o' h w w', same_profile t o o' h)

pub entry_lines : (room sheet : ℕ) (f : Text) (t : Texts) → no_return f ≡ true → length (crlf f) ≤ longest_file → entry_answer room sheet (crlf f) t ≡ entry_answer room sheet f t
unfolding entry_answer entry_refusals
entry_lines room sheet f t h l = rw (crlf_refusals f t h l room, crlf_texts f t h l)
