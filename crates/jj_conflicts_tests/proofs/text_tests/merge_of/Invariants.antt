use Rattle.std.proofs.Common.{◌≡◌, vec_len}
use Rattle.jj_conflicts_tests.proofs.text_tests.merge_of.Given as goal

abbrev pub invariant-loop-text : goal.invariant-loop-text
invariant-loop-text l = vec_len l.terms ≡ l.text-index
