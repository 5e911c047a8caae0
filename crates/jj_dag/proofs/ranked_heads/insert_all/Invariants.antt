-- The set has the nodes so far.
use Rattle.std.proofs.Common.{◌≡◌, ℕ, eqb, take}
use Rattle.std.specs.Set.{is_member}
use Rattle.jj_dag.specs.NumberSets.{keys_of}
use Rattle.jj_dag.proofs.ranked_heads.insert_all.Given as goal

abbrev pub invariant-loop-node : goal.invariant-loop-node
invariant-loop-node l = (x : ℕ) → is_member eqb (keys_of l.set) x ≡ is_member eqb (take l.node-index l.nodes) x
