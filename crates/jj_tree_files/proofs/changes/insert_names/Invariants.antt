use Rattle.std.proofs.Common.{◌≡◌, ◌||◌, map}
use Rattle.jj_paths.specs.Paths.{Name}
use Rattle.jj_backend.specs.Trees.{names_left}
use Rattle.jj_matchers.specs.SortedVisits.{is_named}
use Rattle.jj_matchers.specs.Visits.{is_among}
use Rattle.jj_tree_files.proofs.changes.insert_names.Given as goal

-- the names so far and the remaining ones are all names
abbrev pub invariant-loop-name : goal.invariant-loop-name
invariant-loop-name l = (name : Name) → (is_named l.names.keys name || is_among (names_left l.name-iterator) name)
    ≡ (is_named l.initial.names.keys name || is_among (map (λ entry. entry.0) l.tree) name)
