-- Finite lists of the names that visits mention, which make it decidable whether there are any.
-- Cited by contracts of public items: IsAllOrAmong, MentionsOnly, names_of.
use Rattle.std.specs.Prelude.{◌≡◌, Bool, true, ◌||◌, List, [], ◌∷◌, ◌++◌, ◌⊎◌, ⊤}
use Rattle.std.specs.List.{list_any}
use Rattle.jj_paths.specs.Paths.{Name, Path}
use Rattle.jj_matchers.specs.VisitSpecs.{VisitSpec, all_recursively, specific, nothing}
use Rattle.jj_matchers.specs.Visits.{is_among}

-- a predicate that all names satisfy, or only names of the list
abbrev pub IsAllOrAmong : List Name → (Name → Bool) → Type 0
IsAllOrAmong names test = ((name : Name) → test name ≡ true)
    ⊎ ((name : Name) → test name ≡ true → is_among names name ≡ true)

-- the visit mentions every child, or only names of the list
abbrev pub MentionsOnly : List Name → VisitSpec → Type 0
MentionsOnly names all_recursively = ⊤
MentionsOnly names (specific dirs files) = IsAllOrAmong names dirs × IsAllOrAmong names files
MentionsOnly names nothing = ⊤

-- whether any name satisfies such a predicate; the empty name represents all names outside of the
-- list
abbrev pub mentions_any : List Name → (Name → Bool) → Bool
mentions_any names test = test [] || list_any test names

-- the components of the paths
abbrev pub names_of : List Path → List Name
names_of [] = []
names_of (path ∷ paths) = path ++ names_of paths
