use Rattle.std.proofs.Common.{◌≡◌, [], refl, sym, ◌∙◌, ap, inl, inr, Some, None}
use Rattle.jj_dag.proofs.Expanding.{implements-none}
use Rattle.jj_dag.proofs.FailingOrders.{begins_failed, drained_nodes}
use Rattle.jj_walks.proofs.LazyStates.{in_model_starts}
use Rattle.jj_walks.proofs.topo_order_lazy.topo_order_reverse_lazy.Goals as goal
use Rattle.jj_walks.proofs.topo_order_lazy.topo_order_reverse_lazy.Goals.{in-None, in-Some+in-Err}

pub returns : goal.returns
returns g c =
    let xs = c.loop-item.nodes.items in
    let unread : c.new-2.result.keys ≡ [] = c.new-2.ensures.empty in
    record {
      can_go = record { graph = c.requires.graph; cycle_fn = c.requires.cycle_fn };
      has_ended = refl;
      left =
          elim c.match-next.branch [
            | in-None w ↦
                inl (
                  xs,
                  drained_nodes g.II.IntoIterator.into_iter_gives g.II.IntoIter.Iterator.next_gives c.args.start xs c.into_iter-item-iterator.ensures.into_iter_gives c.loop-item.yielded_by w.in-None.ensures.steps c.loop-item.invariant.sound,
                  record {
                    graph = implements-none g.ID.PartialEq.eq g.F.Fn g.N.FnMut g.NI.IntoIterator g.NI.IntoIter.Iterator _ c.requires.graph;
                    cycle_fn = refl;
                    failed = λ error some. let bad : None ≡ Some error = sym (w.failed-is ∙ c.loop-item.invariant.failed) ∙ some in absurd cc;
                    models = λ walk implemented nodes. in_model_starts walk g.ID.PartialEq.eq _ xs c.new.ensures.items (ap (λ v. v.items) w.nodes-is) (λ i. rw unread refl);
                  },
                )
            | in-Some+in-Err w ↦
                inr (
                  w.in-Err.error,
                  (xs, begins_failed g.II.IntoIterator.into_iter_gives g.II.IntoIter.Iterator.next_gives c.args.start xs w.in-Err.error c.into_iter-item-iterator.ensures.into_iter_gives c.loop-item.yielded_by w.in-Some.ensures.steps c.loop-item.invariant.sound w.in-Err.is),
                  (c.new.ensures.items, w.failed-is),
                )
          ];
    }
