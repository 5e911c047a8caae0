-- The model value of a `Visit`.
-- Cited by contracts of public items: dir_names, file_names, is_among, sets_spec, visit_spec.
use Rattle.std.specs.Prelude.{Bool, true, false, ◌||◌, List, [], ◌∷◌, if◌then◌else◌}
use Rattle.std.specs.Str.{bytes_eq}
use Rattle.std.specs.List.{list_any}
use Rattle.jj_paths.specs.Paths.{Name}
use Rattle.jj_matchers.specs.VisitSpecs.{VisitSpec, all_recursively, specific, nothing}
use Rattle.jj_matchers.specs.declared.matchers.visits.Visit.{Visit}
use Rattle.jj_matchers.specs.declared.matchers.visits.Visit.TheVariants.{AllRecursively, Specific, Nothing}
use Rattle.jj_matchers.specs.declared.matchers.visits.VisitDirs.{VisitDirs}
use Rattle.jj_matchers.specs.declared.matchers.visits.VisitDirs.TheVariants as dirs
use Rattle.jj_matchers.specs.declared.matchers.visits.VisitFiles.{VisitFiles}
use Rattle.jj_matchers.specs.declared.matchers.visits.VisitFiles.TheVariants as files

-- whether the name is on the list
abbrev pub is_among : List Name → Name → Bool
is_among keys name = list_any (bytes_eq name) keys

-- whether the directories of a visit include the name
abbrev pub dir_names : VisitDirs → Name → Bool
dir_names dirs.All name = true
dir_names (dirs.Set names) name = is_among names.keys name

-- whether the files of a visit include the name
abbrev pub file_names : VisitFiles → Name → Bool
file_names files.All name = true
file_names (files.Set names) name = is_among names.keys name

-- the specification of a visit: nothing, everything below, or the names that it mentions
abbrev pub visit_spec : Visit → VisitSpec
visit_spec AllRecursively = all_recursively
visit_spec (Specific dirs files) = specific (dir_names dirs) (file_names files)
visit_spec Nothing = nothing

-- whether there is a name
abbrev pub has_names : List Name → Bool
has_names [] = false
has_names (name ∷ names) = true

-- the specific visit of two lists of children, and `nothing` if both are empty
abbrev pub sets_spec : List Name → List Name → VisitSpec
sets_spec dirs files =
    if has_names dirs || has_names files then specific (is_among dirs) (is_among files) else nothing
