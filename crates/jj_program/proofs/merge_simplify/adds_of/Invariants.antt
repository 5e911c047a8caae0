-- The numbers so far.
use Rattle.std.proofs.Common.{◌≡◌, ◌*◌, map}
use Rattle.std.specs.List.{range_with_len}
use Rattle.jj_program.proofs.merge_simplify.adds_of.Given as goal

abbrev pub invariant-loop-position : goal.invariant-loop-position
invariant-loop-position l = l.adds.items ≡ map (λ p. 2 * p) (range_with_len 0 l.position)
