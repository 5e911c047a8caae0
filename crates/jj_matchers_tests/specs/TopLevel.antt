-- The set of paths whose first name is one of a list.
-- Cited by contracts of public items: starts_among, top_level_spec.
use Rattle.std.specs.Prelude.{Bool, true, false, List, [], ◌∷◌, if◌then◌else◌}
use Rattle.jj_paths.specs.Paths.{Name, Path}
use Rattle.jj_matchers.specs.VisitSpecs.{VisitSpec, all_recursively, specific, nothing}
use Rattle.jj_matchers.specs.Visits.{is_among}

-- whether the first name of the path is on the list
abbrev pub starts_among : List Name → Path → Bool
starts_among names [] = false
starts_among names (name ∷ rest) = is_among names name

-- the visit: all children of the root, and below it everything or nothing
abbrev pub top_level_spec : List Name → Path → VisitSpec
top_level_spec names [] = specific (λ name. true) (λ name. true)
top_level_spec names (name ∷ rest) = if is_among names name then all_recursively else nothing
