-- The texts of a joined file's answer. Document 01, "How far the promises go".
use Rattle.std.specs.Prelude.{List, [], ◌∷◌, ◌++◌, cond}
use Rattle.text.specs.Bytes.{Text, empty}

-- "a component's base text equals the first answer's, or the second's where that is empty, and its additions text equals the first's followed by
-- the second's": base and additions take turns in an answer.
unfoldable pub together : List Text → List Text → List Text
together [] u = []
together (b ∷ []) u = []
together (b ∷ a ∷ r) [] = []
together (b ∷ a ∷ r) (c ∷ []) = []
together (b ∷ a ∷ r) (c ∷ d ∷ s) = cond (empty b) c b ∷ (a ++ d) ∷ together r s
