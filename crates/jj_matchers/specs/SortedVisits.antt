-- The model value of a `SortedVisit`.
-- Cited by contracts of public items: sorted_names, sorted_visit_spec.
use Rattle.std.specs.Prelude.{Bool, true, List, map}
use Rattle.jj_paths.specs.Names.{name_of}
use Rattle.jj_paths.specs.Paths.{Name}
use Rattle.jj_paths.specs.declared.repo_path.RepoPathComponent.{RepoPathComponent}
use Rattle.jj_matchers.specs.VisitSpecs.{VisitSpec, all_recursively, specific, nothing}
use Rattle.jj_matchers.specs.Visits.{is_among}
use Rattle.jj_matchers.specs.declared.matchers.sorted_visits.SortedNames.{SortedNames}
use Rattle.jj_matchers.specs.declared.matchers.sorted_visits.SortedNames.TheVariants.{All, Set}
use Rattle.jj_matchers.specs.declared.matchers.sorted_visits.SortedVisit.{SortedVisit}
use Rattle.jj_matchers.specs.declared.matchers.sorted_visits.SortedVisit.TheVariants.{AllRecursively, Specific, Nothing}

-- whether the name is one of the components
abbrev pub is_named : List RepoPathComponent → Name → Bool
is_named keys = is_among (map name_of keys)

-- whether a sorted list of names, or the list of all names, has the name
abbrev pub sorted_names : SortedNames → Name → Bool
sorted_names All name = true
sorted_names (Set names) name = is_named names.keys name

-- the specification of a visit with sorted names
abbrev pub sorted_visit_spec : SortedVisit → VisitSpec
sorted_visit_spec AllRecursively = all_recursively
sorted_visit_spec (Specific dirs files) = specific (sorted_names dirs) (sorted_names files)
sorted_visit_spec Nothing = nothing
