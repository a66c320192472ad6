-- The thirteen words of a set heading, and where each is recognised. Document 02, #104.
use Rattle.std.specs.Prelude.{ℕ, ◌≡◌, List, [], ◌∷◌, ◌++◌, Option, Some, None, length, take}
use Prim.Native.String.{String}
use Rattle.text.specs.Bytes.{Text, bytes}
use Rattle.rules.specs.declared.Index.{Index}
use Rattle.rules.specs.declared.Index.TheVariants as index
use Rattle.rules.specs.declared.Item.{Item}
use Rattle.rules.specs.declared.Item.TheVariants as item
use Rattle.rules.specs.Headings.{index_of, left_item, component_of}

-- what a word is: a left item; one that an index may follow; a component's number; an index
pub data Meaning : Type 0 where
  left : Item → Meaning
  left_before : (Index → Item) → Meaning
  right : ℕ → Meaning
  in_brackets : Index → Meaning

pub record Keyword : Type 0 where
  pub word : Text
  pub meaning : Meaning

abbrev pub keyword : String → Meaning → Keyword
keyword w m = record { word = bytes w; meaning = m }

-- "the model, layout, component and index words", "(variant and option too)"
unfoldable pub keywords : List Keyword
keywords =
    keyword "model" (left item.Model) ∷
    keyword "layout" (left_before item.Layout) ∷
    keyword "variant" (left_before item.Variant) ∷
    keyword "option" (left item.Options) ∷
    keyword "keycodes" (right 0) ∷
    keyword "types" (right 1) ∷
    keyword "compat" (right 2) ∷
    keyword "symbols" (right 3) ∷
    keyword "geometry" (right 4) ∷
    keyword "single" (in_brackets index.Single) ∷
    keyword "first" (in_brackets index.First) ∷
    keyword "later" (in_brackets index.Later) ∷
    keyword "any" (in_brackets index.Any) ∷
    []

pub record Just (A B : Type 0) : Type 0 where
  pub only : A → B
  pub there : B → A

-- the word w stands at the start of t, and what follows is the index i, or no index
pub record Before (w : Text) (i : Option Index) (t : Text) : Type 0 where
  pub rest : Text
  pub whole : t ≡ w ++ rest
  pub after : index_of rest ≡ i

-- "recognised exactly where its own bytes stand": the text t is given the meaning just where it is the word w; with what
-- follows `layout` or `variant` as its index, and none just where it begins so and no index follows; an index word with its
-- brackets
unfoldable pub Exactly : Meaning → Text → Text → Type 0
Exactly (left m) w t = Just (left_item t ≡ Some m) (t ≡ w)
Exactly (left_before m) w t =
    ((i : Index) → Just (left_item t ≡ Some (m i)) (Before w (Some i) t)) ×
    Just ((left_item t ≡ None) × (take (length w) t ≡ w)) (Before w None t)
Exactly (right c) w t = Just (component_of t ≡ c) (t ≡ w)
Exactly (in_brackets i) w t = Just (index_of t ≡ Some i) (t ≡ bytes "[" ++ (w ++ bytes "]"))

-- each word of a table
unfoldable pub AllExact : List Keyword → Type 0
AllExact [] = Unit {0}
AllExact (k ∷ ks) = ((t : Text) → Exactly k.meaning k.word t) × AllExact ks
