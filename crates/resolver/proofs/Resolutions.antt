-- What follows of a resolve: of its answer and of its buffer.
use Prim.Native.Nat.{ℕ, ◌+◌, ◌≤◌}
use native.Mathlib.Omega.{arith}
use mathlib.Core.Path.{◌≡◌, refl, sym, ap, ◌∙◌}
use mathlib.Core.Bool.{true}
use mathlib.Core.List.{List, [], ◌∷◌, ◌++◌, map, append_assoc}
use lib.ListN.{length, drop, replicate, length-append, length-drop}
use lib.Seq.{take-append_seam, drop-append_seam}
use Rattle.text.specs.Limits.{longest_file, longest_total, most_groups}
use Rattle.text.specs.Bytes.{Text, apart}
use Rattle.text.specs.Lines.{closed}
use Rattle.profile.specs.Profile.{Texts, profile_of}
use Rattle.profile.specs.Options.{Alike, Within, with_options}
use Rattle.rules.specs.Names.{defines_of, names_of}
use Rattle.answers.specs.declared.Outcome.{Outcome}
use Rattle.answers.specs.Answer.{ten_texts, sum, joined, total, Answer, refused, accepted, answer, number_of, place_of, lengths_of, outcome, buffer_after, Answered, Resolved, texts_in, stretch}
use Rattle.answers.specs.Firings.{file_firings}
use Rattle.answers.specs.Components.{values_of, base, additions}
use Rattle.answers.proofs.Accepted.{texts_at_lem}
use Rattle.answers.specs.Joined.{together}
use Rattle.answers.proofs.Answers.{answered, joined_answer, options_answer}
use Rattle.answers.proofs.Stretch.{joined_length, stretch_texts}
use Rattle.resolver.proofs.Resolves.{accepts, lengths_accepted}

-- the ten texts, read back by their lengths
texts_back : (ts : List Text) (r : Text) → texts_in (joined ts ++ r) (map length ts) ≡ ts
unfolding texts_in joined
texts_back [] r = refl
texts_back (t ∷ ts) r =
    rw (append_assoc t (joined ts) r, take-append_seam t (joined ts ++ r), drop-append_seam t (joined ts ++ r), texts_back ts r)

-- "A refusal has ten zero lengths; buffer and length sheet stay untouched."
pub record Kept (d d' : Text) (r : Outcome) : Type 0 where
  pub least : 1 ≤ r.number
  pub most : r.number ≤ 11
  pub lengths : r.lengths ≡ replicate 10 0
  pub buffer : d' ≡ d

kept_when : (d d' : Text) (r : Outcome) (a : Answer) → Answered (length d) a → r ≡ outcome a → d' ≡ buffer_after d a → (r.number ≡ 0 → ⊥) → Kept d d' r
unfolding Answered outcome number_of lengths_of buffer_after
kept_when d d' r (refused q) h e b k =
    let n : r.number ≡ q.number = ap (λ (x : Outcome). x.number) e in
    record {
      least = omega (arith, n, h.0);
      most = omega (arith, n, h.1);
      lengths = ap (λ (x : Outcome). x.lengths) e;
      buffer = b;
    }
kept_when d d' r (accepted ts) h e b k = absurd (k (ap (λ (x : Outcome). x.number) e))

pub kept : (f : Text) (t : Texts) (d d' : Text) (r : Outcome) → Resolved f t d d' r → (r.number ≡ 0 → ⊥) → Kept d d' r
kept f t d d' r v k = kept_when d d' r (answer (length d) f t) (answered (length d) f t) v.result v.buffer k

-- "The buffer's first bytes hold the ten texts without gaps; later bytes are untouched."
pub record Holds (f : Text) (t : Texts) (d d' : Text) (r : Outcome) : Type 0 where
  pub place : r.place ≡ 0
  pub texts : texts_in d' r.lengths ≡ ten_texts f t
  pub later : drop (sum r.lengths) d' ≡ drop (sum r.lengths) d
  pub size : length d' ≡ length d

pub holds : (f : Text) (t : Texts) (d d' : Text) (r : Outcome) (ts : List Text) → answer (length d) f t ≡ accepted ts → ts ≡ ten_texts f t → total ts ≤ length d →
    Resolved f t d d' r → Holds f t d d' r
unfolding outcome place_of lengths_of buffer_after total
holds f t d d' r ts is g h v =
    let e : r ≡ outcome (accepted ts) = v.result ∙ ap outcome is in
    let b : d' ≡ joined ts ++ drop (total ts) d = v.buffer ∙ ap (buffer_after d) is in
    let l : r.lengths ≡ map length ts = ap (λ (x : Outcome). x.lengths) e in
    let s : sum r.lengths ≡ length (joined ts) = ap sum l ∙ sym (joined_length ts) in
    record {
      place = ap (λ (x : Outcome). x.place) e;
      texts = rw (b, l) (texts_back ts (drop (total ts) d)) ∙ g;
      later = rw (s, b, drop-append_seam (joined ts) (drop (total ts) d), joined_length ts) refl;
      size = ap length b ∙ length-append (joined ts) (drop (total ts) d) ∙ (let z = length-drop (total ts) d in let y = joined_length ts in omega arith);
    }

pub held : (f : Text) (t : Texts) (d d' : Text) (r : Outcome) → Resolved f t d d' r → r.number ≡ 0 → Holds f t d d' r
held f t d d' r v h = let a = accepts (length d) f t r v.result h in holds f t d d' r (ten_texts f t) a.is refl a.fits v

-- joined files
module _ (a b : Text) (t : Texts) (c c' : Text) (x : Outcome) (e e' : Text) (y : Outcome) (d d' : Text) (z : Outcome)
    (first : Resolved a t c c' x) (second : Resolved b t e e' y) (both : Resolved (a ++ b) t d d' z)
    (n : x.number ≡ 0) (m : y.number ≡ 0) where
  texts : together (texts_in c' x.lengths) (texts_in e' y.lengths) ≡ together (ten_texts a t) (ten_texts b t)
  texts = rw ((held a t c c' x first n).texts, (held b t e e' y second m).texts) refl

  pub joined_resolve : closed a ≡ true → apart (names_of b) (defines_of a) ≡ true → length (a ++ b) ≤ longest_file →
      length (defines_of a) + length (defines_of b) ≤ most_groups → total (together (texts_in c' x.lengths) (texts_in e' y.lengths)) ≤ longest_total →
      total (together (texts_in c' x.lengths) (texts_in e' y.lengths)) ≤ length d →
      (z.number ≡ 0) × (texts_in d' z.lengths ≡ together (texts_in c' x.lengths) (texts_in e' y.lengths))
  unfolding outcome number_of
  joined_resolve end names size groups top fits =
      let p = accepts (length c) a t x first.result n in
      let q = accepts (length e) b t y second.result m in
      let u : total (together (ten_texts a t) (ten_texts b t)) ≤ longest_total = rw (sym texts) top in
      let w : total (together (ten_texts a t) (ten_texts b t)) ≤ length d = rw (sym texts) fits in
      let k = joined_answer a b t (length c) (length e) (length d) (ten_texts a t) (ten_texts b t) p.is q.is end names size groups u w in
      let g : z.number ≡ 0 = ap (λ (o : Outcome). o.number) (both.result ∙ ap outcome k) in
      let r = accepts (length d) (a ++ b) t z both.result g in
      (g, (held (a ++ b) t d d' z both g).texts ∙ same_texts (sym r.is ∙ k) ∙ sym texts)
    where
      same_texts : {us vs : List Text} → accepted us ≡ accepted vs → us ≡ vs
      same_texts h = cc

-- options reordered or repeated
pub options_resolve : (f : Text) (t : Texts) (o o' d c' : Text) (x : Outcome) (e' : Text) (y : Outcome) → Alike o o' → Within o → Within o' →
    Resolved f (with_options t o) d c' x → Resolved f (with_options t o') d e' y → (x ≡ y) × (c' ≡ e')
options_resolve f t o o' d c' x e' y h w w' p q =
    let k = options_answer (length d) f t o o' h w w' in
    (p.result ∙ ap outcome k ∙ sym q.result, p.buffer ∙ ap (buffer_after d) k ∙ sym q.buffer)

-- the five strings: each component's stretch of the buffer
pub strings : (f : Text) (t : Texts) (d d' : Text) (r : Outcome) → Resolved f t d d' r → r.number ≡ 0 → (c : ℕ) → c ≤ 4 →
    stretch d' r.lengths c ≡ base (values_of c (file_firings f (profile_of t))) ++ additions (values_of c (file_firings f (profile_of t)))
unfolding lengths_of
strings f t d d' r v h c l =
    let a = accepts (length d) f t r v.result h in
    let b : d' ≡ buffer_after d (accepted (ten_texts f t)) = v.buffer ∙ ap (buffer_after d) a.is in
    let n : r.lengths ≡ map length (ten_texts f t) = lengths_accepted (length d) f t r v.result a in
    let p = texts_at_lem (length d) f t (ten_texts f t) a.is c l in
    rw (b, n) (stretch_texts d (ten_texts f t) c l ∙ rw (p.0, p.1) refl)
