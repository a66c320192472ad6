-- The stepwise update equals the first plain value, then all additions in firing order; and both compose.
use Prim.Native.Nat.{ℕ}
use mathlib.Core.Path.{◌≡◌, refl, ◌∙◌}
use mathlib.Core.List.{List, [], ◌∷◌, ◌++◌, append_assoc, append-nil}
use mathlib.Core.Bool.{Bool, true, false, not, ◌||◌, ◌&&◌, cond}
use lib.Dec.{eqb}
use Rattle.text.specs.Bytes.{Text, bytes, empty, first, all_of}
use Rattle.text.proofs.Lists.{no, and_both}
use Rattle.values.specs.Spread.{is_sign, signed}
use Rattle.answers.specs.Firings.{Firing}
use Rattle.answers.specs.Components.{update, updates, base, additions, values_of}

abbrev pub non_empty : Text → Bool
non_empty v = not (empty v)

-- "`+a`, `b`, `+c` read from the right would give `b+c+a`"
in_order : updates [] (bytes "+a" ∷ bytes "b" ∷ bytes "+c" ∷ []) ≡ bytes "b+a+c"
unfolding updates update signed is_sign first empty bytes
in_order = refl

-- "the first plain value (the base)": no later one replaces it
first_plain : (v : Text) (vs : List Text) → signed v ≡ false → base (v ∷ vs) ≡ v
unfolding base
first_plain v vs h = rw h

-- clauses
pub add_cons : (v : Text) (vs : List Text) → additions (v ∷ vs) ≡ cond (signed v) v [] ++ additions vs
unfolding additions
add_cons v vs = refl

pub base_cons : (v : Text) (vs : List Text) → base (v ∷ vs) ≡ cond (signed v) (base vs) v
unfolding base
base_cons v vs = refl

updates_cons : (t v : Text) (vs : List Text) → updates t (v ∷ vs) ≡ updates (update t v) vs
unfolding updates
updates_cons t v vs = refl

update_add : (t v : Text) → signed v ≡ true → update t v ≡ t ++ v
unfolding update
update_add t v h = rw h

update_keep : (b : ℕ) (r v : Text) → is_sign b ≡ false → signed v ≡ false → update (b ∷ r) v ≡ b ∷ r
unfolding update empty signed first
update_keep b r v h e = rw (e, h)

updates_nil : (t : Text) → updates t [] ≡ t
unfolding updates
updates_nil t = refl

add_nil : additions [] ≡ []
unfolding additions
add_nil = refl

base_nil : base [] ≡ []
unfolding base
base_nil = refl

-- a plain text stays the base
with_base : (b : ℕ) (r a : Text) (vs : List Text) → is_sign b ≡ false → updates (b ∷ (r ++ a)) vs ≡ b ∷ (r ++ (a ++ additions vs))
with_base b r a [] h = rw (updates_nil, add_nil, append-nil a)
with_base b r a (v ∷ vs) h = go (signed v) refl (λ a'. with_base b r a' vs h)
  where
    go : (t : Bool) → signed v ≡ t → ((a' : Text) → updates (b ∷ (r ++ a')) vs ≡ b ∷ (r ++ (a' ++ additions vs))) →
        updates (b ∷ (r ++ a)) (v ∷ vs) ≡ b ∷ (r ++ (a ++ additions (v ∷ vs)))
    go true e ih = rw (updates_cons, update_add _ v e, add_cons, e, append_assoc r a v) (ih (a ++ v) ∙ rw (append_assoc a v (additions vs)))
    go false e ih = rw (updates_cons, update_keep b _ v h e, add_cons, e) (ih a)

no_empty : (t : Bool) → non_empty [] && t ≡ true → ⊥
unfolding empty
no_empty t h = no h

sign_of : (x : ℕ) (r : Text) → signed (x ∷ r) ≡ false → is_sign x ≡ false
unfolding signed first
sign_of x r e = e

-- nothing yet, or additions only
abbrev unbased : Text → Bool
unbased a = empty a || signed a

unbased_add : (a v : Text) → unbased a ≡ true → signed v ≡ true → unbased (a ++ v) ≡ true
unfolding empty signed first
unbased_add [] [] h e = refl
unbased_add [] (x ∷ v) h e = e
unbased_add (x ∷ a) v h e = h

update_base : (a : Text) (x : ℕ) (r : Text) → unbased a ≡ true → is_sign x ≡ false → update a (x ∷ r) ≡ x ∷ (r ++ a)
unfolding update empty signed first
update_base [] x r h e = rw (e, append-nil)
update_base (y ∷ a) x r h e = rw (e, h)

from_additions : (a : Text) (vs : List Text) → unbased a ≡ true → all_of non_empty vs ≡ true → updates a vs ≡ base vs ++ (a ++ additions vs)
unfolding all_of
from_additions a [] h n = rw (updates_nil, base_nil, add_nil, append-nil a)
from_additions a ([] ∷ vs) h n = absurd (no_empty (all_of non_empty vs) n)
from_additions a ((x ∷ r) ∷ vs) h n =
    go (signed (x ∷ r)) refl (λ a' h'. from_additions a' vs h' (and_both (non_empty (x ∷ r)) (all_of non_empty vs) n).1)
  where
    go : (t : Bool) → signed (x ∷ r) ≡ t → ((a' : Text) → unbased a' ≡ true → updates a' vs ≡ base vs ++ (a' ++ additions vs)) →
        updates a ((x ∷ r) ∷ vs) ≡ base ((x ∷ r) ∷ vs) ++ (a ++ additions ((x ∷ r) ∷ vs))
    go true e ih = rw (updates_cons, update_add a (x ∷ r) e, add_cons, base_cons, e) (ih (a ++ (x ∷ r)) (unbased_add a (x ∷ r) h e) ∙ rw (append_assoc a (x ∷ r) (additions vs)))
    go false e ih =
        rw (updates_cons, update_base a x r h (sign_of x r e), add_cons, base_cons, e) (with_base x r a vs (sign_of x r e))

-- Document 01, "Base and additions": the stepwise update equals the first plain value, then all additions in firing order.
pub stepwise : (vs : List Text) → all_of non_empty vs ≡ true → updates [] vs ≡ base vs ++ additions vs
unfolding empty
stepwise vs n = from_additions [] vs refl n

-- Both parts of the components compose.
pub values_append : (c : ℕ) (a b : List Firing) → values_of c (a ++ b) ≡ values_of c a ++ values_of c b
unfolding values_of
values_append c [] b = refl
values_append c (f ∷ a) b = go (eqb f.component c) (values_append c a b)
  where
    go : (t : Bool) → values_of c (a ++ b) ≡ values_of c a ++ values_of c b →
        cond t (f.value ∷ values_of c (a ++ b)) (values_of c (a ++ b)) ≡ cond t (f.value ∷ values_of c a) (values_of c a) ++ values_of c b
    go true h = rw h
    go false h = h

pub additions_append : (a b : List Text) → additions (a ++ b) ≡ additions a ++ additions b
additions_append [] b = rw add_nil
additions_append (v ∷ a) b = rw (add_cons, add_cons, additions_append a b, append_assoc)

pub base_append : (a b : List Text) → all_of non_empty a ≡ true → base (a ++ b) ≡ cond (empty (base a)) (base b) (base a)
unfolding all_of empty
base_append [] b n = rw base_nil
base_append ([] ∷ a) b n = absurd (no_empty (all_of non_empty a) n)
base_append ((x ∷ r) ∷ a) b n = go (signed (x ∷ r)) refl (base_append a b (and_both (non_empty (x ∷ r)) (all_of non_empty a) n).1)
  where
    go : (t : Bool) → signed (x ∷ r) ≡ t → base (a ++ b) ≡ cond (empty (base a)) (base b) (base a) →
        base ((x ∷ r) ∷ (a ++ b)) ≡ cond (empty (base ((x ∷ r) ∷ a))) (base b) (base ((x ∷ r) ∷ a))
    go true e ih = rw (base_cons, base_cons, e) ih
    go false e ih = rw (base_cons, base_cons, e)
