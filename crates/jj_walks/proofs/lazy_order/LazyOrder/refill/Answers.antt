use Rattle.std.proofs.Common.{rules, arith, ◌≡◌, ◌≤◌, ◌++◌, [], ◌∷◌, None, Some, length, map, sym, ◌∙◌, ap, refl}
use Rattle.std.proofs.lemmas.Grind.{common_steps}
use Rattle.jj_dag.proofs.Expanding.{implements-more}
use Rattle.jj_dag.proofs.Plain.{lone}
use Rattle.jj_walks.proofs.LazyStates.{fails_left, implement_now, in_model_failed, in_model_one, in_model_same, left_nodes, ok_weaker}
use Rattle.jj_walks.proofs.lazy_order.LazyOrder.refill.Goals as goal

pub returns-then-len-gt1-clause-refilled : goal.returns-then-len-gt1-clause-refilled
returns-then-len-gt1-clause-refilled g c =
    let s = c.args.self.now in
    let sound : s.failed ≡ None = first_of (search rules, grind (arith, common_steps)) in
    ok_weaker c.look_ahead.result _ _ (λ p. λ id_fn neighbors_fn on_cycle starts yielded k.
    p id_fn neighbors_fn on_cycle starts yielded (record {
      graph = k.graph;
      cycle_fn = k.cycle_fn;
      failed = λ error some. k.failed error (sound ∙ sym c.replace.ensures.after ∙ some);
      models = λ w implemented nodes. in_model_same w g.ID.PartialEq.eq (map w.node starts) yielded s _ (k.models w implemented nodes) refl refl refl (c.replace.ensures.after ∙ sym sound);
    }))
    c.look_ahead.ensures.refilled

pub returns-in-Ok-clause-can_go : goal.returns-in-Ok-clause-can_go
returns-in-Ok-clause-can_go g c = ok_weaker c.make_ready.result _ _ (λ _. record {
  graph = rw c.make_ready.ensures.graph c.neighbors.ensures.graph.walkable;
  cycle_fn = rw c.make_ready.ensures.cycle_fn c.requires.cycle_fn;
}) c.make_ready.ensures.ready

pub returns-in-Ok-clause-refilled : goal.returns-in-Ok-clause-refilled
returns-in-Ok-clause-refilled g c =
    let s = c.args.self.now in
    let node = c.in-Some-pop.node in
    let sound : s.failed ≡ None = first_of (search rules, grind (arith, common_steps)) in
    let empty : s.ready.items ≡ [] = first_of (search rules, grind (arith, common_steps)) in
    let ok = s.start.ok in
    let few : length s.start.items ≤ 1 = omega arith in
    let one : s.start.items ≡ node ∷ [] = lone s.start.items c.pop.new.self.items node few c.in-Some-pop.ensures.items in
    ok_weaker c.make_ready.result _ _ (λ put. λ id_fn neighbors_fn on_cycle starts yielded k.
    let ready : c.make_ready.new.self.ready.items ≡ node ∷ [] = put ∙ ap (λ l. l ++ node ∷ []) empty in (
      record {
        graph = rw c.make_ready.ensures.graph (implements-more g.ID.PartialEq.eq g.F.Fn g.N.FnMut g.NI.IntoIterator g.NI.IntoIter.Iterator _ s.graph c.neighbors.new.self k.graph c.neighbors.ensures.graph);
        cycle_fn = c.make_ready.ensures.cycle_fn ∙ k.cycle_fn;
        failed = λ error some. let bad : None ≡ Some error = sym c.make_ready.ensures.failed ∙ some in absurd cc;
        models = λ w implemented nodes.
            in_model_one w g.ID.PartialEq.eq (map w.node starts) yielded s _ node c.in-Ok.neighbors.items (k.models w implemented nodes) empty sound one c.make_ready.ensures.emitted ready (ap (λ v. v.items) c.make_ready.ensures.start)
            (c.in-Ok.ensures.listed w (implement_now g.ID.PartialEq.eq g.F.Fn g.N.FnMut g.NI.IntoIterator g.NI.IntoIter.Iterator k w implemented) (left_nodes g.ID.PartialEq.eq g.F.Fn g.N.FnMut g.NI.IntoIterator g.NI.IntoIter.Iterator k sound w implemented nodes (w.node node) (rw one (0, omega arith, refl))));
      },
      λ w implemented nodes none. let bad : node ∷ [] ≡ [] = sym ready ∙ none in absurd cc,
    )) c.make_ready.ensures.ready

pub returns-in-Err-Node-clause-can_go : goal.returns-in-Err-Node-clause-can_go
returns-in-Err-Node-clause-can_go g c = ok_weaker c.make_ready-in-Err-Node.result _ _ (λ _. record {
  graph = rw c.make_ready-in-Err-Node.ensures.graph c.neighbors.ensures.graph.walkable;
  cycle_fn = rw c.make_ready-in-Err-Node.ensures.cycle_fn c.requires.cycle_fn;
}) c.make_ready-in-Err-Node.ensures.ready

pub returns-in-Err-Node-clause-refilled : goal.returns-in-Err-Node-clause-refilled
returns-in-Err-Node-clause-refilled g c =
    let s = c.args.self.now in
    let node = c.in-Some-pop.node in
    let sound : s.failed ≡ None = first_of (search rules, grind (arith, common_steps)) in
    let empty : s.ready.items ≡ [] = first_of (search rules, grind (arith, common_steps)) in
    let ok = s.start.ok in
    let few : length s.start.items ≤ 1 = omega arith in
    let one : s.start.items ≡ node ∷ [] = lone s.start.items c.pop.new.self.items node few c.in-Some-pop.ensures.items in
    let failure = rw c.in-Err-Node.field-0-is at c.in-Err-Node.ensures.failed in
    ok_weaker c.make_ready-in-Err-Node.result _ _ (λ put. λ id_fn neighbors_fn on_cycle starts yielded k.
    let ready : c.make_ready-in-Err-Node.new.self.ready.items ≡ node ∷ [] = put ∙ ap (λ l. l ++ node ∷ []) empty in (
      record {
        graph = rw c.make_ready-in-Err-Node.ensures.graph (implements-more g.ID.PartialEq.eq g.F.Fn g.N.FnMut g.NI.IntoIterator g.NI.IntoIter.Iterator _ s.graph c.neighbors.new.self k.graph c.neighbors.ensures.graph);
        cycle_fn = c.make_ready-in-Err-Node.ensures.cycle_fn ∙ k.cycle_fn;
        failed = λ error some.
            let same : c.in-Err-Node.error ≡ error = let both : Some c.in-Err-Node.error ≡ Some error = sym c.make_ready-in-Err-Node.ensures.failed ∙ some in cc in
            rw (← same) (fails_left g.ID.PartialEq.eq g.F.Fn g.N.FnMut g.NI.IntoIterator g.NI.IntoIter.Iterator k sound node c.in-Err-Node.error failure (λ w implemented nodes. (w.node node, rw one (0, omega arith, refl), (0, refl))));
        models = λ w implemented nodes.
            in_model_failed w g.ID.PartialEq.eq (map w.node starts) yielded s _ node c.in-Err-Node.error (k.models w implemented nodes) empty sound one c.make_ready-in-Err-Node.ensures.emitted ready c.make_ready-in-Err-Node.ensures.failed;
      },
      λ w implemented nodes none. let bad : node ∷ [] ≡ [] = sym ready ∙ none in absurd cc,
    )) c.make_ready-in-Err-Node.ensures.ready
