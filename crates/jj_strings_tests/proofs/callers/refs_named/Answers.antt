use Rattle.std.specs.Map.Iter.{deref_pair}
use Rattle.std.proofs.lemmas.Result.{IfOk-weaker}
use Rattle.jj_strings.specs.StringMatchers.{InMatcher, MayAllocate}
use Rattle.jj_strings.specs.FilterViews.{filter_matcher, filter_entries}
use Rattle.jj_strings_tests.proofs.Selecting.{of_whole, run_selects}
use Rattle.jj_strings_tests.proofs.callers.refs_named.Goals as goal

pub returns : goal.returns
returns g c =
    IfOk-weaker c.collect_fallible.result _ _ (λ found run.
    of_whole _ _ (filter_entries c.filter_btree_map.result) _ c.filter_btree_map.ensures.entries
    (run_selects deref_pair (λ m e. InMatcher m e.0) MayAllocate filter_matcher filter_entries c.args.matcher.now found.items c.filter_btree_map.result c.filter_btree_map.ensures.matcher run)) c.collect_fallible.ensures
