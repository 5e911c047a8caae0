-- The sublist of the members of a set.
-- Cited by contracts of public items: IsSelected.
use Rattle.std.specs.Prelude.{List, [], ◌∷◌}

-- the second list has the members of the set in the first one, in order and as often
pub data IsSelected {X : Type 0} (InSet : X → Type 0) : List X → List X → Type 0 where
  none : IsSelected InSet [] []
  takes : {x : X} {all some : List X} → InSet x → IsSelected InSet all some
      → IsSelected InSet (x ∷ all) (x ∷ some)
  leaves : {x : X} {all some : List X} → (¬ InSet x) → IsSelected InSet all some
      → IsSelected InSet (x ∷ all) some
