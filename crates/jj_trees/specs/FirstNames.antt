-- The first remaining entries of a directory's trees, in a k-way merge.
-- Machinery of private functions and fields.
use Rattle.std.specs.Prelude.{◌≡◌, cond, List, [], ◌∷◌, Option, Some, None, All, Any}
use Rattle.std.specs.Ordering.{is_lt}
use Rattle.std.specs.Str.{bytes_eq}
use Rattle.jj_paths.specs.Paths.{Name, name_cmp}
use Rattle.jj_backend.specs.declared.backend.tree_value.TreeValue.{TreeValue}

abbrev pub first_name : List (Name × TreeValue) → Option Name
first_name [] = None
first_name (e ∷ es) = Some e.0

-- the value of the first entry, if it has the name
abbrev pub first_value : Name → List (Name × TreeValue) → Option TreeValue
first_value name [] = None
first_value name (e ∷ es) = cond (bytes_eq name e.0) (Some e.1) None

-- the entries without the first one, if that has the name
abbrev pub without_first : Name → List (Name × TreeValue) → List (Name × TreeValue)
without_first name [] = []
without_first name (e ∷ es) = cond (bytes_eq name e.0) es (e ∷ es)

-- the lesser of two names; an absent name is greater than all others
abbrev pub min_name : Option Name → Option Name → Option Name
min_name None other = other
min_name (Some name) None = Some name
min_name (Some name) (Some other) = cond (is_lt (name_cmp other name)) (Some other) (Some name)

-- the least of the first names: one of them, and no other is less; None if all are absent
abbrev pub IsMinName : Option Name → List (Option Name) → Type 0
IsMinName None remaining_lists = All (λ remaining. remaining ≡ None) remaining_lists
IsMinName (Some name) remaining_lists =
    Any (λ remaining. remaining ≡ Some name) remaining_lists
    × All (λ remaining. min_name (Some name) remaining ≡ Some name) remaining_lists
