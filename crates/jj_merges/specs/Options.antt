-- Terms that may be absent.
-- Cited by contracts of public items: IsOptionClone, present, resolved_value.
use Rattle.std.specs.Prelude.{Option, Some, None, List, [], ◌∷◌}
use Rattle.std.specs.List.{filter_map}

-- the values that are present
abbrev pub present : {T : Type 0} → List (Option T) → List T
present = filter_map (λ o. o)

-- the value of a merge that is resolved to a present one
abbrev pub resolved_value : {T : Type 0} → List (Option T) → Option T
resolved_value [] = None
resolved_value (x ∷ []) = x
resolved_value (x ∷ y ∷ zs) = None

-- both are `None`, or the second value is a clone of the first
abbrev pub IsOptionClone : {T : Type 0} → (T → T → Type 0) → Option T → Option T → Type 0
IsOptionClone is_clone None None = Unit {0}
IsOptionClone is_clone None (Some y) = ⊥
IsOptionClone is_clone (Some x) None = ⊥
IsOptionClone is_clone (Some x) (Some y) = is_clone x y
