-- The closures from this state on.
use Rattle.std.proofs.Common.{◌≡◌, ◌≤◌, ℕ, length, get_or}
use Rattle.jj_globs.specs.GlobTables.{HasClosure}
use Rattle.jj_globs.proofs.glob.bit_tables.find_closures.Given as goal

abbrev pub invariant-loop-state : goal.invariant-loop-state
invariant-loop-state l = record {
  later : (k : ℕ) → l.state ≤ k → k ≤ length l.steps → HasClosure l.steps k (get_or l.closures k 0);
  room : length l.closures ≡ 64;
}
