-- The ways out of the entry that resolves: what it returns and leaves is the answer's.
use Prim.Native.Nat.{ℕ, ◌+◌, ◌*◌, ◌^◌, ◌≤◌, ◌<◌}
use mathlib.Core.Path.{◌≡◌, refl, ◌∙◌}
use mathlib.Core.List.{List, ◌++◌}
use lib.ListN.{length, drop}
use Rattle.std.proofs.Common.{Ok, Err}
use Rattle.text.specs.declared.faults.Fault.TheVariants.{NoRoom}
use Rattle.text.specs.declared.faults.Refusal.{Refusal as Refused}
use Rattle.text.specs.Told.{number_of as fault_of, told_refusal}
use Rattle.text.specs.Bytes.{Text, concat_map}
use Rattle.profile.specs.Profile.{Texts}
use Rattle.answers.specs.Answer.{refused, answer, number_of, place_of, outcome, buffer_after, Resolved}
use Rattle.answers.specs.Told.{outcome_told}
use Rattle.resolver.proofs.Resolves.{accepts, lengths_accepted, refuses}
use Rattle.xkbrules.specs.Sheet.{sheet_length, little_endian, entry_answer, code, sheet_after, EntryResolves}
use Rattle.xkbrules.proofs.Entry.{entry_same, entry_refused, entry_short, entry_place}

module _ (f : Text) (t : Texts) (d s : Text) where
  abbrev short : Refused
  short = record { fault = NoRoom; place = 0 }

  -- a refusal of the resolve
  module _ (e : Refused) where
    so : outcome_told (Err e) ≡ outcome (answer (length d) f t) → entry_answer (length d) (length s) f t ≡ refused (told_refusal e)
    so h = entry_refused (length d) (length s) f t _ (refuses (length d) f t e h)

    pub way_measured : outcome_told (Err e) ≡ outcome (answer (length d) f t) → EntryResolves f t d d s s (Err e)
    unfolding buffer_after sheet_after
    way_measured h = record { result = so h; texts = rw (so h); sheet = rw (so h) }

    pub way_refused : (d' : Text) → Resolved f t d d' (outcome_told (Err e)) → EntryResolves f t d d' s s (Err e)
    unfolding buffer_after sheet_after
    way_refused d' v =
        record { result = so v.result; texts = v.buffer ∙ rw (so v.result, refuses (length d) f t e v.result); sheet = rw (so v.result) }

  module _ (ns : List ℕ) where
    -- a sheet that is too short for an accepted answer
    pub way_short : outcome_told (Ok ns) ≡ outcome (answer (length d) f t) → length s < sheet_length → EntryResolves f t d d s s (Err short)
    unfolding buffer_after sheet_after
    way_short h k =
        let q = entry_short (length d) (length s) f t _ k (accepts (length d) f t _ h refl).is in
        record { result = q; texts = rw q; sheet = rw q }

    -- an accepted answer
    pub way_accepted : (d' s' : Text) → sheet_length ≤ length s → Resolved f t d d' (outcome_told (Ok ns)) →
        s' ≡ concat_map little_endian ns ++ drop sheet_length s → EntryResolves f t d d' s s' (Ok tt)
    unfolding sheet_after
    way_accepted d' s' k v c =
        let a = accepts (length d) f t _ v.result refl in
        let q = entry_same (length d) (length s) f t k in
        record {
          result = q ∙ a.is;
          texts = v.buffer ∙ rw q;
          sheet = c ∙ rw (q, a.is, lengths_accepted (length d) f t _ v.result a);
        }

  -- the number that stands for either
  abbrev Entered : Text → Text → ℕ → Type 0
  Entered d' s' n =
      (n ≡ code (entry_answer (length d) (length s) f t)) × (d' ≡ buffer_after d (entry_answer (length d) (length s) f t)) × (s' ≡ sheet_after s (entry_answer (length d) (length s) f t))

  pub entered : (d' s' : Text) → EntryResolves f t d d' s s' (Ok tt) → Entered d' s' 0
  unfolding code number_of place_of
  entered d' s' v = (rw v.result, v.texts, v.sheet)

  module _ (e : Refused) (d' s' : Text) (v : EntryResolves f t d d' s s' (Err e)) where
    pub packs : e.place ≤ 65537
    packs = entry_place (length d) (length s) f t _ v.result

    pub refused_code : (n : ℕ) → n ≡ fault_of e.fault * 2 ^ 48 + e.place → Entered d' s' n
    unfolding code number_of place_of
    refused_code n g = (g ∙ rw v.result, v.texts, v.sheet)
