-- The refs removed so far; the other remotes are unchanged.
use Rattle.std.proofs.Common.{◌≡◌, ◌++◌, length, map}
use Rattle.std.specs.List.{All, AllZip, sum_by}
use Rattle.jj_stores.specs.JoinRows.{ref_of}
use Rattle.jj_stores.specs.ViewJoins.{IsLeast, remotes_with}
use Rattle.jj_stores.proofs.TakenRefs.{IsUnchangedOrRemoved}
use Rattle.jj_stores.proofs.op_store.remaining_remotes.RemainingRemotes.take_refs.Given as goal

abbrev pub invariant-loop-found : goal.invariant-loop-found
invariant-loop-found l = record {
  least : All (λ r. IsLeast l.name r.1) l.self;
  refs : map ref_of l.refs.items ++ remotes_with l.self l.name ≡ remotes_with l.initial.self l.name;
  losing : AllZip (IsUnchangedOrRemoved l.name) l.initial.self l.self;
}

abbrev pub decreases-loop-found : goal.decreases-loop-found
decreases-loop-found l = sum_by (λ r. length r.1) l.self
