-- The collected tags, followed by the remaining ones, are all tags.
use Rattle.std.proofs.Common.{◌++◌, map}
use Rattle.jj_stores.specs.FlatRefs.{IsFlattened, symbol_ref_of}
use Rattle.jj_stores_tests.proofs.callers.remote_tags.Given as goal

abbrev pub invariant-loop-tag : goal.invariant-loop-tag
invariant-loop-tag l = record {
  can : goal.iterator-loop-tag.can_next l.tag-iterator;
  ends : goal.iterator-loop-tag.is_finite l.tag-iterator;
  all : (rest : _) → IsFlattened l.tag-iterator rest → IsFlattened
      (map (λ remote. (remote.0, remote.1.tags.entries)) l.fn.view.remote_views.entries)
      (map symbol_ref_of l.tags.items ++ rest);
}
