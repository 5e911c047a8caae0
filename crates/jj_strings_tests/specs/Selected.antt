-- The sublist of the items that satisfy a predicate.
-- Cited by contracts of public items: Selects.
use Rattle.std.specs.Prelude.{List, [], ◌∷◌}

-- the second list has the items of the first that satisfy P, in order
pub data Selects {X : Type 0} (P : X → Type 0) : (all some : List X) → Type 0 where
  at_end : Selects P [] []
  taken : {x : X} {all some : List X} → P x → Selects P all some
      → Selects P (x ∷ all) (x ∷ some)
  left_out : {x : X} {all some : List X} → (P x → ⊥) → Selects P all some
      → Selects P (x ∷ all) some
