use Rattle.std.proofs.Common.{◌≡◌, ◌&&◌, ◌||◌}
use Rattle.jj_paths.specs.Paths.{Name}
use Rattle.jj_matchers.specs.SortedVisits.{is_named}
use Rattle.jj_matchers.proofs.matchers.intersection_matcher.common_names.Given as goal

-- the common names so far and those of the remaining ones are all common names
abbrev pub invariant-loop-name : goal.invariant-loop-name
invariant-loop-name l = (name : Name) → (is_named l.common.keys name || (is_named l.name-iterator name && is_named l.others.keys name)) ≡ (is_named l.fn.names.keys name && is_named l.others.keys name)
