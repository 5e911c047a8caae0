use Rattle.std.proofs.Common.{◌≡◌, map, reverse, ◌∙◌, ap, refl, sym, Some, None, inl}
use Rattle.std.proofs.lemmas.List.{reverse-reverse}
use Rattle.std.proofs.lemmas.Result.{err_from_is_err_and}
use Rattle.jj_dag.proofs.Expanding.{implements-more}
use Rattle.jj_dag.proofs.Errors.{node_weaker}
use Rattle.jj_walks.proofs.LazyStates.{chunk_some, fails_left, implement_now, in_model_more, left_nodes, made_left}
use Rattle.jj_walks.proofs.lazy_order.LazyOrder.look_ahead.Goals as goal

pub returns-in_err-nodes-clause-cause : goal.returns-in_err-nodes-clause-cause
returns-in_err-nodes-clause-cause g c =
    let s = c.args.self.now in
    let taken : c.replace-start.result.items ≡ s.start.items = ap (λ v. v.items) c.replace-start.ensures.value in
    let q = err_from_is_err_and c.from_residual.result c.from_residual.ensures.1 in
    rw (q.1, q.2) (node_weaker c.in_err-nodes.field-0.0 _ _ (λ error p. λ id_fn neighbors_fn on_cycle starts yielded k.
    inl (fails_left g.ID.PartialEq.eq g.F.Fn g.N.FnMut g.NI.IntoIterator g.NI.IntoIter.Iterator k c.requires.failed p.0 error p.1 (λ w implemented nodes. rw taken at (p.2 w implemented (rw taken nodes))))) c.in_err-nodes.ensures.failed)

pub returns-in-Some-clause-cause : goal.returns-in-Some-clause-cause
returns-in-Some-clause-cause g c =
    let s = c.args.self.now in
    let taken : c.replace-start.result.items ≡ s.start.items = ap (λ v. v.items) c.replace-start.ensures.value in
    λ id_fn neighbors_fn on_cycle starts yielded k.
    made_left g.ID.PartialEq.eq g.F.Fn g.N.FnMut g.NI.IntoIterator g.NI.IntoIter.Iterator k g.C.FnMut c.requires.failed c.in-Some.node _ c.cycle_fn.new.self c.cycle_fn.ensures
    (λ w implemented nodes. rw (c.in-Some.is, taken) at (c.in_ok-nodes.ensures.chunk w implemented (rw taken nodes)))

pub returns-in-None-clause-refilled : goal.returns-in-None-clause-refilled
returns-in-None-clause-refilled g c =
    let s = c.args.self.now in
    let taken : c.replace-start.result.items ≡ s.start.items = ap (λ v. v.items) c.replace-start.ensures.value in
    let turned : c.reverse.new.self.items ≡ reverse c.in_ok-nodes.field-0.nodes.items = c.reverse.ensures.items in
    λ id_fn neighbors_fn on_cycle starts yielded k. (
      record {
        graph = implements-more g.ID.PartialEq.eq g.F.Fn g.N.FnMut g.NI.IntoIterator g.NI.IntoIter.Iterator _ s.graph c.take_chunk.new.closures k.graph c.take_chunk.ensures.graph;
        cycle_fn = k.cycle_fn;
        failed = λ error some. let bad : None ≡ Some error = sym c.requires.failed ∙ some in absurd cc;
        models = λ w implemented nodes.
            in_model_more w g.ID.PartialEq.eq (map w.node starts) yielded s _ c.in_ok-nodes.field-0.nodes.items c.in_ok-nodes.field-0.left.items (k.models w implemented nodes) c.requires.ready c.requires.failed refl
            (ap reverse turned ∙ reverse-reverse c.in_ok-nodes.field-0.nodes.items) refl (rw (c.in-None.is, taken) at (c.in_ok-nodes.ensures.chunk w (implement_now g.ID.PartialEq.eq g.F.Fn g.N.FnMut g.NI.IntoIterator g.NI.IntoIter.Iterator k w implemented) (rw taken (left_nodes g.ID.PartialEq.eq g.F.Fn g.N.FnMut g.NI.IntoIterator g.NI.IntoIter.Iterator k c.requires.failed w implemented nodes)))).1;
      },
      λ w implemented nodes none. absurd (chunk_some w.node s.start.items c.in_ok-nodes.field-0.nodes.items c.reverse.new.self.items c.requires.start (rw (c.in-None.is, taken) at (c.in_ok-nodes.ensures.chunk w (implement_now g.ID.PartialEq.eq g.F.Fn g.N.FnMut g.NI.IntoIterator g.NI.IntoIter.Iterator k w implemented) (rw taken (left_nodes g.ID.PartialEq.eq g.F.Fn g.N.FnMut g.NI.IntoIterator g.NI.IntoIter.Iterator k c.requires.failed w implemented nodes)))).0.has_starts turned none),
    )
