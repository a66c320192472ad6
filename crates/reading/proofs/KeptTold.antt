-- The kept rules, fired with the values in the names' text, are those of the profile.
use Prim.Native.Nat.{ℕ, ◌+◌, ◌≤◌, ◌<◌}
use mathlib.Core.Path.{◌≡◌, refl, ap, ◌∙◌}
use mathlib.Core.List.{List, [], ◌∷◌}
use mathlib.Core.Bool.{Bool, true, false, cond}
use lib.ListN.{length, get_or, drop}
use Rattle.text.specs.Bytes.{Text, Words, concat_map}
use Rattle.text.specs.Reading.{left}
use Rattle.profile.specs.Profile.{Texts, Profile, profile_of, layout_count}
use Rattle.text.specs.declared.Span.{Span}
use Rattle.profile.specs.Spans.{profile_at, ValuesOf}
use Rattle.rules.specs.Faults.{right_words}
use Rattle.values.specs.Spread.{expanded}
use Rattle.values.proofs.Placed.{placed_expanded}
use Rattle.answers.specs.Firings.{rule_fires, fires_at}
use Rattle.bitsets.specs.Sets.{is_in}
use Rattle.firing.specs.declared.Cursors.{Cursors}
use Rattle.firing.specs.Writing.{run_buf, run_cur}
use Rattle.rules.specs.Held.{heading_by}
use Rattle.reading.specs.declared.OpenSet.{OpenSet}
use Rattle.reading.specs.Owed.{Kept, layouts_in, kept_fires}
use Rattle.reading.specs.Keeping.{place_fires, KeptFired}
use Rattle.reading.proofs.Owing.{each_same}

-- two profiles that expand alike fire alike
fires_alike : (p p' : Profile) (l k : ℕ) → ((w : Text) → expanded p k w ≡ expanded p' k w) → (cs : List ℕ) (ws : Words) → rule_fires p l k cs ws ≡ rule_fires p' l k cs ws
unfolding rule_fires
fires_alike p p' l k h [] ws = refl
fires_alike p p' l k h (c ∷ cs) [] = refl
fires_alike p p' l k h (c ∷ cs) (w ∷ ws) = rw (h w, fires_alike p p' l k h cs ws) refl

module _ (x : Texts) (d : Text) (b : List Span) (n : ℕ) (v : ValuesOf x d b) (count : n ≡ layout_count (profile_of x)) (few : n ≤ 32) (missing : length (profile_of x).variants ≤ n)
    (o : OpenSet) (s : Text) (ps : List ℕ) (kept : Kept)
    (words : (k : ℕ) → o.first ≤ k → k < o.first + o.count → is_in k o.wanted ≡ false → drop 1 (left s (get_or ps k 0)) ≡ right_words (heading_by o.set) (kept k).text) where
  same_fires : concat_map (place_fires (profile_at d b n) o s ps (λ k. (kept k).number)) (layouts_in o) ≡ kept_fires (profile_of x) o kept
  unfolding kept_fires place_fires fires_at
  same_fires = each_same _ _ o.count o.first (λ k a c. go k a c (is_in k o.wanted) refl)
    where
      go : (k : ℕ) → o.first ≤ k → k < o.first + o.count → (t : Bool) → is_in k o.wanted ≡ t →
          cond (is_in k o.wanted) [] (rule_fires (profile_at d b n) (kept k).number k (heading_by o.set).components (drop 1 (left s (get_or ps k 0)))) ≡
          cond (is_in k o.wanted) [] (rule_fires (profile_of x) (kept k).number k (heading_by o.set).components (right_words (heading_by o.set) (kept k).text))
      go k a c true e = rw e refl
      go k a c false e =
          rw (e, words k a c e)
          (fires_alike (profile_at d b n) (profile_of x) (kept k).number k (λ w. placed_expanded x d b v n count few missing k w) (heading_by o.set).components
          (right_words (heading_by o.set) (kept k).text))

  pub kept_told : (w w' : Text) (q q' : Cursors) → KeptFired (profile_at d b n) o s ps w w' q q' →
      (w' ≡ run_buf w q (kept_fires (profile_of x) o kept)) × (q' ≡ run_cur q (kept_fires (profile_of x) o kept))
  kept_told w w' q q' f =
      (f.bytes (λ k. (kept k).number) ∙ ap (run_buf w q) same_fires, f.places (λ k. (kept k).number) ∙ ap (run_cur q) same_fires)
