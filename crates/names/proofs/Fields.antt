-- Where the fields of a text stand.
use Rattle.std.proofs.Common.{◌≡◌, ℕ, zero, suc, ◌+◌, ◌-◌, ◌≤◌, ◌<◌, Bool, true, false, cond, eqb, List, [], ◌∷◌, length, get_or, take, length-take, get_or-take, refl, ap, ◌∙◌, arith}
use Rattle.std.specs.List.{slice_split, enumerate_from}
use Rattle.std.proofs.lemmas.List.{get_or_default}
use Rattle.std.proofs.lemmas.List.FromFn.{length-enumerate_from, get_or-enumerate_from}
use Rattle.text.specs.Bytes.{Text, part}
use Rattle.profile.specs.Profile.{push, fields}
use Rattle.profile.proofs.Parts.{comma, fields_split}
use Rattle.names.specs.Placing.{field_start}

-- the field of the number j
pub record FieldIn (o : Text) (fs : List Text) (j : ℕ) : Type 0 where
  pub high : field_start fs j + length (get_or fs j []) ≤ length o
  pub text : part o (field_start fs j) (field_start fs j + length (get_or fs j [])) ≡ get_or fs j []

part_cons : (b : ℕ) (r : Text) (a e a' e' : ℕ) → a' ≡ suc a → e' ≡ suc e → part (b ∷ r) a' e' ≡ part r a e
unfolding part
part_cons b r a e a' e' p q = rw (p, q) (let z : suc e - suc a ≡ e - a = omega arith in rw z)

part_first : (b : ℕ) (r f : Text) (a e : ℕ) → a ≡ length f → e ≡ suc (length f) → part r 0 a ≡ f → part (b ∷ r) 0 e ≡ b ∷ f
unfolding part
part_first b r f a e p q h =
    let y : a - 0 ≡ length f = omega arith in
    let z : e - 0 ≡ suc (length f) = omega arith in
    rw z (ap (λ (x : Text). b ∷ x) (rw y at h))

part_none : (o : Text) → part o 0 0 ≡ []
unfolding part
part_none o = refl

start_cons : (f : Text) (fs : List Text) (j : ℕ) → field_start (f ∷ fs) (suc j) ≡ length f + 1 + field_start fs j
unfolding field_start
start_cons f fs j = refl

pub start_first : (fs : List Text) → field_start fs 0 ≡ 0
unfolding field_start
start_first fs = refl

-- after a comma
in_comma : (b : ℕ) (r : Text) (fs : List Text) (j : ℕ) → ((i : ℕ) → i < length fs → FieldIn r fs i) → j < length ([] ∷ fs) → FieldIn (b ∷ r) ([] ∷ fs) j
in_comma b r fs zero f l = record { high = rw (start_first ([] ∷ fs)) (omega arith); text = rw (start_first ([] ∷ fs)) (part_none (b ∷ r)) }
in_comma b r fs (suc j) f l =
    let g = f j (omega arith) in
    record {
      high = omega (arith, start_cons [] fs j, g.high);
      text = part_cons b r _ _ _ _ (omega (arith, start_cons [] fs j)) (omega (arith, start_cons [] fs j)) ∙ g.text;
    }

-- before another byte
in_pushed : (b : ℕ) (r : Text) (fs : List Text) (j : ℕ) → ((i : ℕ) → i < length fs → FieldIn r fs i) → 0 < length fs → j < length (push b fs) → FieldIn (b ∷ r) (push b fs) j
unfolding push
in_pushed b r [] j f s l = absurd (omega arith)
in_pushed b r (g ∷ fs) zero f s l =
    let h = f 0 s in
    record {
      high = rw (start_first ((b ∷ g) ∷ fs)) (omega (arith, start_first (g ∷ fs), h.high));
      text = rw (start_first ((b ∷ g) ∷ fs)) (part_first b r g _ _ (omega arith) (omega arith) (rw (start_first (g ∷ fs)) at h.text));
    }
in_pushed b r (g ∷ fs) (suc j) f s l =
    let h = f (suc j) (omega arith) in
    record {
      high = omega (arith, start_cons (b ∷ g) fs j, start_cons g fs j, h.high);
      text =
          part_cons b r _ _ _ _ (omega (arith, start_cons (b ∷ g) fs j, start_cons g fs j)) (omega (arith, start_cons (b ∷ g) fs j, start_cons g fs j))
          ∙ h.text;
    }

pub some_fields : (o : Text) → 0 < length (fields o)
unfolding fields push
some_fields [] = omega arith
some_fields (b ∷ r) = by (eqb b 44) (fields r)
  where
    by : (c : Bool) (fs : List Text) → 0 < length (cond c ([] ∷ fs) (push b fs))
    by true fs = omega arith
    by false [] = omega arith
    by false (f ∷ fs) = omega arith

pub field_in : (o : Text) (j : ℕ) → j < length (fields o) → FieldIn o (fields o) j
unfolding fields
field_in [] zero l = record { high = rw (start_first ([] ∷ [])) (omega arith); text = rw (start_first ([] ∷ [])) (part_none []) }
field_in [] (suc j) l = absurd (omega arith)
field_in (b ∷ r) j l = by (eqb b 44) l (field_in r)
  where
    by : (c : Bool) → j < length (cond c ([] ∷ fields r) (push b (fields r))) → ((i : ℕ) → i < length (fields r) → FieldIn r (fields r) i) →
        FieldIn (b ∷ r) (cond c ([] ∷ fields r) (push b (fields r))) j
    by true m f = in_comma b r (fields r) j f m
    by false m f = in_pushed b r (fields r) j f (some_fields r) m

-- the next one begins behind a comma
pub start_next : (fs : List Text) (j : ℕ) → j < length fs → field_start fs (j + 1) ≡ field_start fs j + length (get_or fs j []) + 1
start_next [] j l = absurd (omega arith)
start_next (f ∷ fs) zero l = start_cons f fs 0 ∙ omega (arith, start_first fs, start_first (f ∷ fs))
start_next (f ∷ fs) (suc j) l =
    let z : suc j + 1 ≡ suc (j + 1) = omega arith in
    ap (field_start (f ∷ fs)) z ∙ (start_cons f fs (j + 1) ∙ omega (arith, start_next fs j (omega arith), start_cons f fs j))

-- what a turn over the fields is told
pub record Turn (o : Text) (n : ℕ) (f : Text) : Type 0 where
  pub few : n < length (fields o)
  pub field : f ≡ get_or (fields o) n []

pub turn : (o : Text) (n : ℕ) (f : Text) → (n < length (slice_split comma o)) × (f ≡ get_or (slice_split comma o) n f) → Turn o n f
turn o n f h =
    let l = rw (← fields_split o) at h.0 in
    record { few = l; field = (rw (← fields_split o) at h.1) ∙ get_or_default (fields o) n f [] l }

pub numbered_turn : (o : Text) (n j : ℕ) (f : Text) →
    (n < length (enumerate_from 0 (take 32 (slice_split comma o)))) × (◌≡◌ {A = ℕ × Text} (j, f) (get_or (enumerate_from 0 (take 32 (slice_split comma o))) n (j, f))) →
    (j ≡ n) × (n < 32) × Turn o n f
numbered_turn o n j f h =
    let l : n < length (take 32 (slice_split comma o)) = rw length-enumerate_from at h.0 in
    let k : n < 32 = omega (arith, length-take 32 (slice_split comma o)) in
    let m : n < length (slice_split comma o) = omega (arith, length-take 32 (slice_split comma o)) in
    let e = h.1 ∙ get_or-enumerate_from 0 (take 32 (slice_split comma o)) n (j, f) l in
    let i : j ≡ 0 + n = ap (λ (p : ℕ × Text). p.0) e in
    (omega arith, k, turn o n f (m, ap (λ (p : ℕ × Text). p.1) e ∙ get_or-take 32 (slice_split comma o) n f k))

pub fields_count : (o : Text) (n : ℕ) → n ≡ length (slice_split comma o) → n ≡ length (fields o)
fields_count o n e = rw (fields_split o) e

-- all of the first 32 are told
pub numbered_end : (o : Text) (n : ℕ) → n ≡ length (enumerate_from 0 (take 32 (slice_split comma o))) → (j : ℕ) → j < 32 → j < length (fields o) → j < n
numbered_end o n e j l m =
    let s : length (fields o) ≡ length (slice_split comma o) = ap length (fields_split o) in
    let z : n ≡ length (take 32 (slice_split comma o)) = e ∙ length-enumerate_from 0 (take 32 (slice_split comma o)) in
    omega (arith, length-take 32 (slice_split comma o))
