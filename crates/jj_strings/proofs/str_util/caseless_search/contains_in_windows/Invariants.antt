-- The needle does not occur at an offset before `from`.
use Rattle.std.proofs.Common.{◌≡◌, ℕ, ◌+◌, ◌-◌, ◌<◌, length}
use Rattle.bstr.specs.Find.{OccursAt}
use Rattle.jj_strings.specs.CaseFolding.{lowercase}
use Rattle.jj_strings.proofs.str_util.caseless_search.contains_in_windows.Given as goal

abbrev pub invariant-loop-from : goal.invariant-loop-from
invariant-loop-from l = record {
  none : (k : ℕ) → k < l.from → OccursAt (lowercase l.bytes) (lowercase l.needle) k → ⊥;
  lower : l.lower ≡ lowercase l.needle;
  window : length l.window ≡ length l.fn.window;
}

abbrev pub decreases-loop-from : goal.decreases-loop-from
decreases-loop-from l = length l.bytes + 1 - l.from
