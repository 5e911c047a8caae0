-- The needle does not occur at an offset before `at`.
use Rattle.std.proofs.Common.{ℕ, ◌<◌}
use Rattle.bstr.specs.Find.{OccursAt}
use Rattle.jj_strings.specs.CaseFolding.{lowercase}
use Rattle.jj_strings.proofs.str_util.caseless_search.contains_at_any_offset.Given as goal

abbrev pub invariant-loop-at : goal.invariant-loop-at
invariant-loop-at l = (k : ℕ) → k < l.at → OccursAt (lowercase l.bytes) (lowercase l.needle) k → ⊥
