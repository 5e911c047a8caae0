use Rattle.std.proofs.Common.{◌≡◌, map, take}
use Rattle.jj_trees_tests.specs.Outcomes.{side_term}
use Rattle.jj_trees_tests.proofs.three_sides.side_values.Given as goal

abbrev pub invariant-loop-terms : goal.invariant-loop-terms
invariant-loop-terms l = l.values.items ≡ map (λ c. side_term l.side c.1) (take l.terms-index l.terms-items)
