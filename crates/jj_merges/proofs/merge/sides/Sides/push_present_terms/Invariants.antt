use Rattle.std.proofs.Common.{◌≡◌, ◌++◌, length}
use Rattle.jj_merges.specs.Merge.{adds, removes}
use Rattle.jj_merges.specs.Options.{present}
use Rattle.jj_merges.proofs.merge.sides.Sides.push_present_terms.Given as goal

abbrev pub invariant-loop-add : goal.invariant-loop-add
invariant-loop-add g l =
    (l.self.removes.items ++ present (removes l.terms) ≡ l.fn.self.removes.items ++ present (removes l.fn.terms))
    × (l.self.adds.items ++ present (adds l.terms) ≡ l.fn.self.adds.items ++ present (adds l.fn.terms))

abbrev pub decreases-loop-add : goal.decreases-loop-add
decreases-loop-add g l = length l.terms
