-- The terms at the positions so far.
use Rattle.std.proofs.Common.{◌≡◌}
use Rattle.jj_merges.specs.Simplify.{at_indices}
use Rattle.jj_program.specs.MergeSimplify.{is_left, positions_below}
use Rattle.jj_program.proofs.LeftTerms.{indices_at}
use Rattle.jj_program.proofs.merge_simplify.terms_left.Given as goal

abbrev pub invariant-loop-position : goal.invariant-loop-position
invariant-loop-position l = l.left.items ≡ at_indices l.terms (indices_at l.adds (positions_below l.position (is_left l.classes l.heads)))
