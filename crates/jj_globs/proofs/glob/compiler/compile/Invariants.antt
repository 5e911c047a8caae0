-- The steps so far accept what the tokens after those left match.
use Rattle.std.proofs.Common.{◌≡◌, Bool, length, reverse}
use Rattle.jj_globs.specs.GlobBacktracking.{Tests, tests_before}
use Rattle.jj_globs.specs.GlobNfa.{end_test, TargetsInRange}
use Rattle.jj_globs.specs.GlobCompilation.{IsCompiledSoFar}
use Rattle.jj_globs.proofs.CompiledTokens.{tests_over}
use Rattle.jj_globs.proofs.glob.compiler.compile.Given as goal

abbrev pub invariant-loop-token : goal.invariant-loop-token
invariant-loop-token l = record {
  lowered : (below : Bool) → (t : Tests) × IsCompiledSoFar l.options below (reverse l.steps.items) (reverse l.groups.items) t
      × (tests_over l.options l.left t ≡ tests_before l.options (end_test below) l.tokens);
  inside : TargetsInRange (reverse l.steps.items);
}

abbrev pub decreases-loop-token : goal.decreases-loop-token
decreases-loop-token l = length l.left
