-- What the readers of a source promise, taken apart for those who call them.
use Prim.Native.Nat.{ℕ, ◌+◌, ◌≤◌, ◌<◌}
use native.Mathlib.Omega.{arith}
use mathlib.Core.Path.{◌≡◌, sym, ◌∙◌}
use mathlib.Core.List.{List}
use mathlib.Core.Bool.{false}
use lib.ListN.{length, get_or}
use Rattle.std.specs.Prelude.{Option, Some}
use Rattle.text.specs.declared.Span.{Span}
use Rattle.text.specs.declared.faults.Fault.{Fault}
use Rattle.text.specs.declared.source.Next.{Next}
use Rattle.text.specs.declared.source.Next.TheVariants.{Found, Stop}
use Rattle.text.specs.Words.{bad_byte}
use Rattle.text.specs.Told.{fault_number}
use Rattle.text.specs.Reading.{FoundWord, NoWord, Between, PlainFound, ByteWord as ByteFound, Opens}
use Rattle.text.specs.Sources.{Skipped, NextWord, PlainWord, ValueWord, ByteWord, feed_end}
use Rattle.text.proofs.ByteKinds.{not_bad}
use Rattle.text.proofs.Feeds.{FeedAt, feed_some as feed_is}
use Rattle.text.proofs.Readers.{opened_skip, opened_onset}

-- blanks and joins, then the next word
pub between_then : (s : List ℕ) (from n i m : ℕ) (r : Next) → Between s from n i m → NextWord s i m r → NextWord s from n r
between_then s from n i m (Found a e m' f) v w =
    record { low = omega (arith, v.low, w.low); some = w.some; high = w.high; few = w.few; grow = omega (arith, v.grow, w.grow); text = v.text ∙ w.text; onto = v.onto ∙ w.onto; fault = w.fault }
between_then s from n i m (Stop p m') v w =
    record { low = omega (arith, v.low, w.low); onwards = omega (arith, v.low, w.onwards); high = w.high; few = w.few; grow = omega (arith, v.grow, w.grow); none = v.text ∙ w.none; onto = v.onto ∙ w.onto }

pub found : (s : List ℕ) (i n : ℕ) (r : Next) (a e m : ℕ) (f : Option Fault) → r ≡ Found a e m f → NextWord s i n r → FoundWord s i n a e m (fault_number f)
found s i n r a e m f q h = rw q at h

pub stopped : (s : List ℕ) (i n : ℕ) (r : Next) (p m : ℕ) → r ≡ Stop p m → NextWord s i n r → NoWord s i n p m
stopped s i n r p m q h = rw q at h

pub plainly : (s : List ℕ) (f i : ℕ) (r : Option Span) (w : Span) → r ≡ Some w → PlainWord s f i r → PlainFound s f i w.start w.end
plainly s f i r w q h = rw q at h

pub valued : (s : List ℕ) (f i : ℕ) (r : Option Span) (w : Span) → r ≡ Some w → ValueWord s f i r → ValueWord s f i (Some w)
valued s f i r w q h = rw q at h

pub byte_found : (s : List ℕ) (f i b : ℕ) (r : Option ℕ) (e : ℕ) → r ≡ Some e → ByteWord s f i b r → ByteFound s f i b e
byte_found s f i b r e q h = rw q at h

-- a line end
pub feed_some : (s : List ℕ) (i : ℕ) (r : Option ℕ) (z : ℕ) → r ≡ feed_end s i → r ≡ Some z → FeedAt s i z
feed_some s i r z h e = feed_is s i z (sym h ∙ e)

-- a line that begins with a byte of words
pub opened_plain : (s : List ℕ) (at n i : ℕ) → n ≤ at + 1 → Skipped s at i → i < length s → (get_or s i 0 ≡ 33 → ⊥) → bad_byte (get_or s i 0) ≡ false → Opens s at n false i n
opened_plain s at n i y k l x z =
    opened_onset s at n i n (opened_skip s at n i y k.blanks) l
    (record { blank = k.stop l; bang = x; joins = λ e. absurd ((not_bad _ z).slash e) })
