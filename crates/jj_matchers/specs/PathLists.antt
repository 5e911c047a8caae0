-- Sets of paths from a finite list: the paths of the list, and the paths at or below one of them.
-- Cited by contracts of public items: HasSamePaths, files_spec, has_prefix, is_listed,
-- leads_to_listed, leads_to_prefix, prefix_spec.
use Rattle.std.specs.Prelude.{◌≡◌, Bool, true, false, ◌&&◌, List, [], ◌∷◌, ◌++◌, if◌then◌else◌}
use Rattle.std.specs.List.{list_any}
use Rattle.std.specs.Str.{bytes_eq}
use Rattle.jj_paths.specs.Paths.{Path}
use Rattle.jj_paths.specs.Orders.{path_eq}
use Rattle.jj_matchers.specs.VisitSpecs.{VisitSpec, all_recursively, specific, nothing}

-- whether the path is the base or a descendant of it
abbrev pub is_at_or_below : Path → Path → Bool
is_at_or_below [] path = true
is_at_or_below (name ∷ base) [] = false
is_at_or_below (name ∷ base) (first ∷ path) = bytes_eq name first && is_at_or_below base path

-- whether the path is a proper descendant of the base
abbrev pub is_below : Path → Path → Bool
is_below [] [] = false
is_below [] (first ∷ path) = true
is_below (name ∷ base) [] = false
is_below (name ∷ base) (first ∷ path) = bytes_eq name first && is_below base path

-- whether the path is on the list
abbrev pub is_listed : List Path → Path → Bool
is_listed paths path = list_any (path_eq path) paths

-- two lists have the same paths, in any order and with any repetitions
abbrev pub HasSamePaths : List Path → List Path → Type 0
HasSamePaths paths others = (test : Path → Bool) → list_any test paths ≡ list_any test others

-- whether a path of the list is a proper descendant of the directory
abbrev pub leads_to_listed : List Path → Path → Bool
leads_to_listed paths dir = list_any (is_below dir) paths

-- the visit for a list of files: the children that are proper ancestors of one as directories, and
-- the children that are one as files
abbrev pub files_spec : List Path → Path → VisitSpec
files_spec paths dir =
    if leads_to_listed paths dir then specific (λ name. leads_to_listed paths (dir ++ name ∷ []))
    (λ name. is_listed paths (dir ++ name ∷ [])) else nothing

-- whether the path is at or below a prefix on the list
abbrev pub has_prefix : List Path → Path → Bool
has_prefix prefixes path = list_any (λ prefix. is_at_or_below prefix path) prefixes

-- whether the path is at or above a prefix on the list
abbrev pub leads_to_prefix : List Path → Path → Bool
leads_to_prefix prefixes path = list_any (is_at_or_below path) prefixes

-- the visit for a list of prefixes: everything at or below one; else the children at or above one
-- as directories, and the children that are one as files
abbrev pub prefix_spec : List Path → Path → VisitSpec
prefix_spec prefixes dir =
    if has_prefix prefixes dir then all_recursively
    else (if leads_to_listed prefixes dir then specific
    (λ name. leads_to_prefix prefixes (dir ++ name ∷ []))
    (λ name. is_listed prefixes (dir ++ name ∷ [])) else nothing)
