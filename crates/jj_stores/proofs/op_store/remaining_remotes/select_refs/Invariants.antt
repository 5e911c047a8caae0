-- The remotes so far, each with the refs that the closure selected.
use Rattle.std.proofs.Common.{◌≡◌, ◌++◌, map}
use Rattle.std.specs.Map.Iter.{deref_pair}
use Rattle.jj_merges.specs.Calls.{CallsReturn}
use Rattle.jj_stores.specs.JoinRows.{SelectsRefs}
use Rattle.jj_stores.proofs.op_store.remaining_remotes.select_refs.Given as goal

abbrev pub invariant-loop-remote : goal.invariant-loop-remote
invariant-loop-remote g l = record {
  callable : goal.F-IsAlwaysCallable g l.get_remote_refs;
  can : (goal.iterator-loop-remote g).can_next l.remote-iterator;
  ends : (goal.iterator-loop-remote g).is_finite l.remote-iterator;
  left : map deref_pair l.yielded ++ l.remote-iterator ≡ l.remote_views.entries;
  shown : CallsReturn (SelectsRefs g.F.FnMut) l.fn.get_remote_refs (map deref_pair l.yielded) l.remotes.items l.get_remote_refs;
}
