-- A table of the bytes, and its rule: one test that is computed at each of its entries.
use mathlib.Core.Path.{◌≡◌, refl, ◌∙◌, ap, subst, sym}
use mathlib.Core.Bool.{Bool, true, false}
use mathlib.Core.List.{List, [], ◌∷◌}
use Prim.Native.Nat.{ℕ, zero, suc, ◌+◌, ◌<◌}
use native.Mathlib.Nat.{add-zero, zero-add, add-suc, suc-add, le_of_suc-le-suc, not-suc-le-zero}
use lib.Dec.{T, eqb, eqb→eq}
use lib.ListN.{length, get_or}
use Rattle.text.specs.declared.kinds.Kind.{Kind}
use Rattle.text.specs.declared.kinds.Kind.TheVariants.{Plain as P, Slash as S, Percent as C, Other as X}
use Rattle.text.specs.Words.{bad_byte}
use Rattle.text.specs.Kinds.{kind_of, rank}

abbrev pub both : Bool → Bool → Bool
both true b = b
both false b = false

both_left : (a b : Bool) → T (both a b) → T a
both_left true b t = tt
both_left false b t = t

both_right : (a b : Bool) → T (both a b) → T b
both_right true b t = t
both_right false b t = absurd t

-- the test f passes at each entry of the list and its place, counted from i
abbrev pub every : {A : Type 0} → (ℕ → A → Bool) → ℕ → List A → Bool
every f i [] = true
every f i (x ∷ xs) = both (f i x) (every f (suc i) xs)

from : {A : Type 0} (f : ℕ → A → Bool) (d : A) (xs : List A) (i : ℕ) → T (every f i xs) → (k : ℕ) → k < length xs → T (f (i + k) (get_or xs k d))
from f d [] i t k h = absurd (not-suc-le-zero h)
from f d (x ∷ xs) i t zero h = subst (λ (m : ℕ). T (f m x)) (sym (add-zero i)) (both_left (f i x) (every f (suc i) xs) t)
from f d (x ∷ xs) i t (suc k) h =
    subst (λ (m : ℕ). T (f m (get_or xs k d))) (suc-add i k ∙ sym (add-suc i k))
    (from f d xs (suc i) (both_right (f i x) (every f (suc i) xs) t) k (le_of_suc-le-suc h))

pub at : {A : Type 0} (f : ℕ → A → Bool) (d : A) (xs : List A) → T (every f 0 xs) → (k : ℕ) → k < length xs → T (f k (get_or xs k d))
at f d xs t k h = subst (λ (m : ℕ). T (f m (get_or xs k d))) (zero-add k) (from f d xs 0 t k h)

-- kinds told apart by their ranks

kind_at : ℕ → Kind
kind_at zero = P
kind_at (suc zero) = S
kind_at (suc (suc zero)) = C
kind_at (suc (suc (suc n))) = X

rank_back : (k : Kind) → kind_at (rank k) ≡ k
unfolding kind_at
rank_back P = refl
rank_back S = refl
rank_back C = refl
rank_back X = refl

unfoldable pub kinds : List Kind
kinds =
    X ∷ X ∷ X ∷ X ∷ X ∷ X ∷ X ∷ X ∷ X ∷ X ∷ X ∷ X ∷ X ∷ X ∷ X ∷ X ∷ X ∷ X ∷ X ∷ X ∷ X ∷ X ∷ X ∷ X ∷ X ∷ X ∷ X ∷ X ∷ X ∷ X ∷ X ∷ X ∷
    X ∷ P ∷ P ∷ P ∷ P ∷ C ∷ P ∷ P ∷ P ∷ P ∷ P ∷ P ∷ P ∷ P ∷ P ∷ S ∷ P ∷ P ∷ P ∷ P ∷ P ∷ P ∷ P ∷ P ∷ P ∷ P ∷ P ∷ P ∷ P ∷ P ∷ P ∷ P ∷
    P ∷ P ∷ P ∷ P ∷ P ∷ P ∷ P ∷ P ∷ P ∷ P ∷ P ∷ P ∷ P ∷ P ∷ P ∷ P ∷ P ∷ P ∷ P ∷ P ∷ P ∷ P ∷ P ∷ P ∷ P ∷ P ∷ P ∷ P ∷ X ∷ P ∷ P ∷ P ∷
    P ∷ P ∷ P ∷ P ∷ P ∷ P ∷ P ∷ P ∷ P ∷ P ∷ P ∷ P ∷ P ∷ P ∷ P ∷ P ∷ P ∷ P ∷ P ∷ P ∷ P ∷ P ∷ P ∷ P ∷ P ∷ P ∷ P ∷ P ∷ P ∷ P ∷ P ∷ X ∷
    X ∷ X ∷ X ∷ X ∷ X ∷ X ∷ X ∷ X ∷ X ∷ X ∷ X ∷ X ∷ X ∷ X ∷ X ∷ X ∷ X ∷ X ∷ X ∷ X ∷ X ∷ X ∷ X ∷ X ∷ X ∷ X ∷ X ∷ X ∷ X ∷ X ∷ X ∷ X ∷
    X ∷ X ∷ X ∷ X ∷ X ∷ X ∷ X ∷ X ∷ X ∷ X ∷ X ∷ X ∷ X ∷ X ∷ X ∷ X ∷ X ∷ X ∷ X ∷ X ∷ X ∷ X ∷ X ∷ X ∷ X ∷ X ∷ X ∷ X ∷ X ∷ X ∷ X ∷ X ∷
    X ∷ X ∷ X ∷ X ∷ X ∷ X ∷ X ∷ X ∷ X ∷ X ∷ X ∷ X ∷ X ∷ X ∷ X ∷ X ∷ X ∷ X ∷ X ∷ X ∷ X ∷ X ∷ X ∷ X ∷ X ∷ X ∷ X ∷ X ∷ X ∷ X ∷ X ∷ X ∷
    X ∷ X ∷ X ∷ X ∷ X ∷ X ∷ X ∷ X ∷ X ∷ X ∷ X ∷ X ∷ X ∷ X ∷ X ∷ X ∷ X ∷ X ∷ X ∷ X ∷ X ∷ X ∷ X ∷ X ∷ X ∷ X ∷ X ∷ X ∷ X ∷ X ∷ X ∷ X ∷ []

right : ℕ → Kind → Bool
right b k = eqb (rank k) (rank (kind_of b))

pub kind_entry : (b : ℕ) → b < 256 → get_or kinds b P ≡ kind_of b
unfolding kinds right kind_of bad_byte
kind_entry b h =
    let e = eqb→eq (rank (get_or kinds b P)) (rank (kind_of b)) (at right P kinds tt b h) in
    sym (rank_back (get_or kinds b P)) ∙ (ap kind_at e ∙ rank_back (kind_of b))
