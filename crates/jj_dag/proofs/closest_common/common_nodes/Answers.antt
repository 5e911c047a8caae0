use Rattle.std.proofs.Common.{◌≡◌, ◌<◌, ◌^◌, [], map, refl, lit<}
use Rattle.std.proofs.lemmas.Result.{err_from_is_err_and}
use Rattle.jj_dag.specs.NodeStates.{sides_met}
use Rattle.jj_dag.proofs.Errors.{node_weaker}
use Rattle.jj_dag.proofs.Relaxing.{sets_marked}
use Rattle.jj_dag.proofs.closest_common.common_nodes.Goals as goal

pub search-requires-clause-small : goal.search-requires-clause-small
search-requires-clause-small g c =
    let none : g.M.NodeMap.entries c.args.known.now ≡ [] = c.requires.none_known in
    let new : sides_met (g.M.NodeMap.entries c.args.known.now) < 2 ^ 64 = rw none (lit< tt) in
    c.in_ok-relax_all-2.ensures.small (c.in_ok-relax_all.ensures.small new)

pub returns-in_err-search : goal.returns-in_err-search
returns-in_err-search g c =
    let p = err_from_is_err_and c.from_residual-in_err-search.result c.from_residual-in_err-search.ensures.1 in
    rw (p.1, p.2) (record {
      closest = tt;
      error =
          let one = c.in_ok-relax_all.ensures.states in
          let two = c.in_ok-relax_all-2.ensures.states in
          let none : g.M.NodeMap.entries c.args.known.now ≡ [] = c.requires.none_known in
          node_weaker c.in_err-search.field-0.0 _ _ (λ error failed. record {
            node = failed.0;
            fails = failed.1;
            reached = record {
              set1 = one.nodes;
              set2 = two.nodes;
              yielded1 = one.drained;
              yielded2 = two.drained;
              holds = λ walk implemented first second. failed.2 walk (map walk.node one.nodes) (map walk.node two.nodes) implemented first second
                  (sets_marked walk implemented.apart implemented.ids_match c.new-pending.ensures.items (λ i. rw none refl) one.states two.states first second);
            };
          }) c.in_err-search.ensures.error;
    })

pub returns : goal.returns
returns g c = record {
  closest =
      let one = c.in_ok-relax_all.ensures.states in
      let two = c.in_ok-relax_all-2.ensures.states in
      let none : g.M.NodeMap.entries c.args.known.now ≡ [] = c.requires.none_known in
      record {
        set1 = one.nodes;
        set2 = two.nodes;
        yielded1 = one.drained;
        yielded2 = two.drained;
        holds = λ walk implemented first second. c.in_ok-search.ensures.closest walk (map walk.node one.nodes) (map walk.node two.nodes) implemented first second
            (sets_marked walk implemented.apart implemented.ids_match c.new-pending.ensures.items (λ i. rw none refl) one.states two.states first second);
      };
  error = tt;
}
