-- Visits of unions, differences and intersections, computed from the visits of both operands.
-- Cited by contracts of public items: difference_spec, intersection_spec, union_spec.
use Rattle.std.specs.Prelude.{Bool, true, ◌&&◌, ◌||◌, List, if◌then◌else◌}
use Rattle.jj_paths.specs.Paths.{Name}
use Rattle.jj_matchers.specs.VisitSpecs.{VisitSpec, all_recursively, specific, nothing}
use Rattle.jj_matchers.specs.MentionedNames.{mentions_any}

-- the union of two visits
abbrev pub union_spec : VisitSpec → VisitSpec → VisitSpec
union_spec all_recursively b = all_recursively
union_spec nothing b = b
union_spec (specific dirs files) all_recursively = all_recursively
union_spec (specific dirs files) nothing = specific dirs files
union_spec (specific dirs files) (specific more_dirs more_files) =
    specific (λ name. dirs name || more_dirs name) (λ name. files name || more_files name)

-- the difference of two visits: a specific one removes no names, since it may cover only some of
-- the paths below them
abbrev pub difference_spec : VisitSpec → VisitSpec → VisitSpec
difference_spec wanted all_recursively = nothing
difference_spec wanted nothing = wanted
difference_spec all_recursively (specific dirs files) = specific (λ name. true) (λ name. true)
difference_spec (specific wanted_dirs wanted_files) (specific dirs files) =
    specific wanted_dirs wanted_files
difference_spec nothing (specific dirs files) = nothing

-- the specific visit of these names, or `nothing` if there are none
abbrev pub spec_of_names : List Name → (Name → Bool) → (Name → Bool) → VisitSpec
spec_of_names names dirs files = if mentions_any names dirs
    || mentions_any names files then specific dirs files else nothing

-- the intersection of two visits whose names are on the list
abbrev pub intersection_spec : List Name → VisitSpec → VisitSpec → VisitSpec
intersection_spec names all_recursively b = b
intersection_spec names nothing b = nothing
intersection_spec names (specific dirs files) all_recursively = specific dirs files
intersection_spec names (specific dirs files) nothing = nothing
intersection_spec names (specific dirs files) (specific other_dirs other_files) =
    spec_of_names names (λ name. dirs name && other_dirs name)
    (λ name. files name && other_files name)
