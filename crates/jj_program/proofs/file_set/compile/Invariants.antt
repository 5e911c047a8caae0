-- The code so far, followed by that of the remaining operations, is the code of all operations.
use Rattle.std.proofs.Common.{◌≡◌, ◌++◌, [], reverse, vec_len}
use Rattle.jj_program.specs.SetCode.{code_along}
use Rattle.jj_program.proofs.file_set.compile.Given as goal

abbrev pub invariant-loop-op : goal.invariant-loop-op
invariant-loop-op l = l.code.items ++ code_along (reverse l.pending.items) (reverse l.ops.items) ≡ code_along [] (reverse l.initial.ops.items)

abbrev pub decreases-loop-op : goal.decreases-loop-op
decreases-loop-op l = vec_len l.ops
