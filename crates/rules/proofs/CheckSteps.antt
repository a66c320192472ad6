-- One line judged after the other.
use Prim.Native.Nat.{ℕ, ◌-◌}
use mathlib.Core.Path.{◌≡◌, refl}
use mathlib.Core.List.{List, ◌∷◌, ◌++◌}
use mathlib.Core.Bool.{Bool}
use lib.ListN.{drop}
use borrow.Author.Tests.{ne_eqb}
use Rattle.text.specs.declared.Refusal.{Refusal}
use Rattle.text.specs.Bytes.{Text, Words}
use Rattle.text.specs.Refusals.{refused_if, refused_as, first_refusal}
use Rattle.text.specs.Lines.{Line}
use Rattle.text.specs.Reading.{Fenced}
use Rattle.text.proofs.Readers.{fence_part}
use Rattle.rules.specs.declared.Present.{Present}
use Rattle.rules.specs.Entries.{entry_of}
use Rattle.rules.specs.Checking.{line_of, line_fault, present_after, names_after, check_from}

-- the fence in a part of the file
pub fence_tail : (s : Text) (f from n : ℕ) → Fenced s f → n ≡ f - from → (x : Text) → x ≡ drop from s → Fenced x n
fence_tail s f from n v e x xe = rw (xe, e) (fence_part s f from v)

-- a refusal before others
pub refused_first : (f n : ℕ) (rs : List Refusal) → (f ≡ 0 → ⊥) → first_refusal (refused_as f n ++ rs) ≡ record { number = f; place = n }
unfolding refused_as refused_if first_refusal
refused_first f n rs h = rw (ne_eqb f 0 h)

pub check_cons : (ns : List Text) (p : Present) (l : Line) (ls : List Line) → check_from ns p (l ∷ ls) ≡
    refused_as (line_fault ns p (entry_of l)) l.number ++ check_from (names_after ns (entry_of l)) (present_after p (entry_of l)) ls
unfolding check_from
check_cons ns p l ls = refl

pub entry_any : (n : ℕ) (h : Bool) (ws : Words) → entry_of (line_of n h ws) ≡ entry_of (line_of 0 h ws)
unfolding entry_of
entry_any n h ws = refl
