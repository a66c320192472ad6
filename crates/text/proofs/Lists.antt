-- Laws of tests and lists that the crates above share.
use Prim.Native.Nat.{ℕ, zero, suc}
use native.Mathlib.Omega.{arith}
use mathlib.Core.Path.{◌≡◌, refl, sym, ap, ◌∙◌}
use mathlib.Core.List.{List, [], ◌∷◌, ◌++◌, map, append_assoc}
use mathlib.Core.Bool.{Bool, true, false, ◌||◌, ◌&&◌, cond}
use lib.ListN.{length, drop}
use lib.Dec.{eqb}
use borrow.Author.Tests.{eqb-true, eq-eqb}
use Rattle.std.specs.List.{list_any}
use Rattle.text.specs.Bytes.{Text, same, empty, all_of, any_of, concat_map, among}

-- tests

pub no : false ≡ true → ⊥
no e = let z : ◌≡◌ {A = ℕ} 0 1 = cc in omega arith

pub and_both : (a b : Bool) → a && b ≡ true → (a ≡ true) × (b ≡ true)
and_both true b h = (refl, h)
and_both false b h = absurd (no h)

pub both_and : (a b : Bool) → a ≡ true → b ≡ true → a && b ≡ true
both_and true b h k = k
both_and false b h k = absurd (no h)

pub or_right : (a b : Bool) → b ≡ true → a || b ≡ true
or_right true b h = refl
or_right false b h = h

pub or_cases : {C : Type 0} (a b : Bool) → a || b ≡ true → (a ≡ true → C) → (b ≡ true → C) → C
or_cases true b h f g = f refl
or_cases false b h f g = g h

pub neither : (a b : Bool) → a || b ≡ false → (a ≡ false) × (b ≡ false)
neither true b h = absurd (no (sym h))
neither false b h = (refl, h)

pub both_ways : (s t : Bool) → (s ≡ true → t ≡ true) → (t ≡ true → s ≡ true) → s ≡ t
both_ways true t f g = sym (f refl)
both_ways false true f g = g refl
both_ways false false f g = refl

-- texts

pub nothing : (t : Text) → length t ≡ 0 → t ≡ []
nothing [] h = refl
nothing (b ∷ t) h = absurd (omega arith)

pub empty_some : (t : Text) → (length t ≡ 0 → ⊥) → empty t ≡ false
unfolding empty
empty_some [] h = absurd (h refl)
empty_some (b ∷ t) h = refl

pub same_eq : (s t : Text) → same s t ≡ true → s ≡ t
unfolding same
same_eq [] [] h = refl
same_eq [] (c ∷ t) h = absurd (no h)
same_eq (b ∷ s) [] h = absurd (no h)
same_eq (b ∷ s) (c ∷ t) h =
    let w = and_both (eqb b c) (same s t) h in
    let x : b ≡ c = eqb-true b c w.0 in
    let y : s ≡ t = same_eq s t w.1 in
    cc

pub same_self : (a : Text) → same a a ≡ true
unfolding same
same_self [] = refl
same_self (b ∷ a) = rw (eq-eqb b b refl) (same_self a)

-- lists

pub nil_left {ℓ} : {A : Type ℓ} (a b : List A) → a ++ b ≡ [] → a ≡ []
nil_left [] b h = refl
nil_left (x ∷ a) b h = cc

pub nil_right {ℓ} : {A : Type ℓ} (a b : List A) → a ++ b ≡ [] → b ≡ []
nil_right [] b h = h
nil_right (x ∷ a) b h = cc

pub map_append {ℓ κ} : {A : Type ℓ} {B : Type κ} (f : A → B) (a b : List A) → map f (a ++ b) ≡ map f a ++ map f b
map_append f [] b = refl
map_append f (x ∷ a) b = rw (map_append f a b)

pub concat_append {ℓ κ} : {A : Type ℓ} {B : Type κ} (f : A → List B) (a b : List A) → concat_map f (a ++ b) ≡ concat_map f a ++ concat_map f b
unfolding concat_map
concat_append f [] b = refl
concat_append f (x ∷ a) b = rw (concat_append f a b, append_assoc)

pub map_concat {ℓ κ μ} : {A : Type ℓ} {B : Type κ} {C : Type μ} (f : B → C) (g : A → List B) (g' : A → List C) (l : List A) →
    ((x : A) → g' x ≡ map f (g x)) → concat_map g' l ≡ map f (concat_map g l)
unfolding concat_map
map_concat f g g' [] h = refl
map_concat f g g' (x ∷ l) h = rw (h x, map_concat f g g' l h, map_append)

pub all_append {ℓ} : {A : Type ℓ} (q : A → Bool) (a b : List A) → all_of q a ≡ true → all_of q b ≡ true → all_of q (a ++ b) ≡ true
unfolding all_of
all_append q [] b h k = k
all_append q (x ∷ a) b h k = let w = and_both (q x) (all_of q a) h in rw w.0 (all_append q a b w.1 k)

pub all_concat {ℓ κ} : {A : Type ℓ} {B : Type κ} (q : B → Bool) (f : A → List B) (l : List A) →
    ((a : A) → all_of q (f a) ≡ true) → all_of q (concat_map f l) ≡ true
unfolding all_of concat_map
all_concat q f [] h = refl
all_concat q f (a ∷ l) h = all_append q (f a) (concat_map f l) (h a) (all_concat q f l h)

pub all_cond {ℓ} : {A : Type ℓ} (q : A → Bool) (t : Bool) (a b : List A) → all_of q a ≡ true → all_of q b ≡ true → all_of q (cond t a b) ≡ true
all_cond q true a b h k = h
all_cond q false a b h k = k

pub any_nil {ℓ} : {A : Type ℓ} (q : A → Bool) → any_of q [] ≡ false
unfolding any_of
any_nil q = refl

pub any_cons {ℓ} : {A : Type ℓ} (q : A → Bool) (x : A) (xs : List A) → any_of q (x ∷ xs) ≡ q x || any_of q xs
unfolding any_of
any_cons q x xs = refl

-- as the library's iterators tell
pub any_is : (q : ℕ → Bool) (w : List ℕ) → list_any q w ≡ any_of q w
unfolding any_of
any_is q [] = refl
any_is q (b ∷ w) = rw (any_is q w)

-- a test that some text of one list passes, some text of a list that holds all of them passes

found_in_lem : (q : Text → Bool) (x : Text) (b : List Text) → q x ≡ true → any_of (same x) b ≡ true → any_of q b ≡ true
unfolding any_of
found_in_lem q x [] e h = absurd (no h)
found_in_lem q x (y ∷ b) e h =
    or_cases (same x y) (any_of (same x) b) h
    (λ s. let z : q y ≡ true = sym (ap q (same_eq x y s)) ∙ e in rw z)
    (λ s. or_right (q y) (any_of q b) (found_in_lem q x b e s))

pub any_drop {ℓ} : {A : Type ℓ} (q : A → Bool) (k : ℕ) (xs : List A) → any_of q xs ≡ false → any_of q (drop k xs) ≡ false
unfolding any_of
any_drop q zero xs h = h
any_drop q (suc k) [] h = refl
any_drop q (suc k) (x ∷ xs) h = any_drop q k xs (neither (q x) (any_of q xs) h).1

pub any_among : (q : Text → Bool) (a b : List Text) → among a b ≡ true → any_of q a ≡ true → any_of q b ≡ true
unfolding among all_of any_of
any_among q [] b h e = absurd (no e)
any_among q (x ∷ a) b h e =
    let w = and_both (any_of (same x) b) (among a b) h in
    or_cases (q x) (any_of q a) e (λ s. found_in_lem q x b s w.0) (λ s. any_among q a b w.1 s)

pub any_alike : (q : Text → Bool) (a b : List Text) → among a b ≡ true → among b a ≡ true → any_of q a ≡ any_of q b
any_alike q a b h k = both_ways (any_of q a) (any_of q b) (any_among q a b h) (any_among q b a k)
