use Rattle.std.proofs.Common.{◌≡◌, ℕ, ◌<◌, ◌≤◌}
use Rattle.jj_diff.specs.Anchors.{token_at}
use Rattle.jj_diff.proofs.diff.anchors.first_index.Given as goal

abbrev pub invariant-loop-index : goal.invariant-loop-index
invariant-loop-index g l = (j : ℕ) → l.fn.start ≤ j → j < l.index → ¬ (g.C.CompareBytes.canonical (token_at l.text l.offsets j) ≡ g.C.CompareBytes.canonical l.token)
