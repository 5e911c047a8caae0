-- The ids so far are appended, unless they are below the size.
use Rattle.std.proofs.Common.{◌<◌, ◌≤◌, ℕ, get_or}
use Rattle.std.specs.Prelude.{All}
use Rattle.std.specs.List.{Contains}
use Rattle.jj_program.proofs.numbering.push_others.Given as goal

abbrev pub invariant-loop-id : goal.invariant-loop-id
invariant-loop-id l = record {
  above : All (λ id. l.size ≤ id) l.others.items;
  kept : (id : ℕ) → Contains l.fn.others.items id → Contains l.others.items id;
  pushed : (k : ℕ) → k < l.id-index → l.size ≤ get_or l.ids k 0 → Contains l.others.items (get_or l.ids k 0);
}
