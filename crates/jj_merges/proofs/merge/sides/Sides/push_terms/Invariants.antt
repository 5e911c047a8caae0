use Rattle.std.proofs.Common.{◌≡◌, ◌++◌, length}
use Rattle.jj_merges.specs.Merge.{adds, removes}
use Rattle.jj_merges.proofs.merge.sides.Sides.push_terms.Given as goal

abbrev pub invariant-loop-add : goal.invariant-loop-add
invariant-loop-add g l =
    (l.self.removes.items ++ removes l.terms ≡ l.fn.self.removes.items ++ removes l.fn.terms)
    × (l.self.adds.items ++ adds l.terms ≡ l.fn.self.adds.items ++ adds l.fn.terms)

abbrev pub decreases-loop-add : goal.decreases-loop-add
decreases-loop-add g l = length l.terms
