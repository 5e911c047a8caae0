-- Each step so far is a literal byte or leads no further than `literal`.
use Rattle.std.proofs.Common.{◌≡◌, ◌⊎◌, ◌<◌, ◌≤◌, ◌+◌, ℕ, length, Some}
use Rattle.std.specs.Prelude.{slice_get}
use Rattle.jj_globs.specs.declared.glob.step.Step.{Step}
use Rattle.jj_globs.specs.GlobNfa.{max_offset}
use Rattle.jj_globs.specs.GlobSuffix.{IsLiteralStep}
use Rattle.jj_globs.proofs.glob.suffix.literal_suffix.Given as goal

abbrev pub invariant-loop-state : goal.invariant-loop-state
invariant-loop-state l = record {
  within : l.literal ≤ length l.steps;
  seen : (k : ℕ) (s : Step) → slice_get l.steps k ≡ Some s → k < l.state → IsLiteralStep s ⊎ (k + 1 + max_offset s ≤ l.literal);
}
