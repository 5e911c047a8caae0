use Rattle.std.proofs.Common.{◌≡◌, ◌||◌}
use Rattle.jj_paths.specs.Paths.{Name}
use Rattle.jj_matchers.specs.SortedVisits.{is_named}
use Rattle.jj_matchers.proofs.matchers.union_matcher.insert_names.Given as goal

-- the names so far and the remaining ones are all names
abbrev pub invariant-loop-name : goal.invariant-loop-name
invariant-loop-name l = (name : Name) → (is_named l.all.keys name || is_named l.name-iterator name) ≡ (is_named l.initial.all.keys name || is_named l.fn.more.keys name)
