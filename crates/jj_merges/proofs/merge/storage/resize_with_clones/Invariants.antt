use Rattle.std.proofs.Common.{◌≤◌, ◌≡◌, length}
use Rattle.std.specs.Prelude.{vec_capacity}
use Rattle.std.specs.List.{AppendsClonesOf}
use Rattle.jj_merges.proofs.merge.storage.resize_with_clones.Given as goal

abbrev pub invariant-loop-index : goal.invariant-loop-index
invariant-loop-index g l =
    AppendsClonesOf g.T.Clone.is_clone l.initial.values.items l.values.items l.value
    × (length l.values.items ≡ l._index) × (l.new_len ≤ vec_capacity l.values)
