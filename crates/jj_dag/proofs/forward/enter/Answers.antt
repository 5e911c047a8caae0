use Rattle.std.proofs.Common.{rules, sym, ◌++◌, ◌∙◌, ◌∷◌, [], false, map, refl, ap}
use Rattle.std.proofs.lemmas.Bool.{not-true}
use Rattle.std.proofs.lemmas.Fn.{called_at}
use Rattle.std.proofs.lemmas.Result.{IfErr-weaker, on_ok_weaker}
use Rattle.jj_dag.proofs.Calling.{failed_weaker}
use Rattle.jj_dag.proofs.Clones.{is_member-clone, Updates-clone}
use Rattle.jj_dag.proofs.Walking.{AlwaysReturns-call}
use Rattle.jj_dag.proofs.forward.enter.Goals as goal

pub push_all-requires-clause-can : goal.push_all-requires-clause-can
push_all-requires-clause-can g c = ((AlwaysReturns-call g.N.FnMut _ c.requires.lists c.neighbors_fn.ensures).0 c.into_iter-neighbors.result c.into_iter-neighbors.ensures.into_iter_gives).0

pub push_all-requires-clause-finite : goal.push_all-requires-clause-finite
push_all-requires-clause-finite g c = ((AlwaysReturns-call g.N.FnMut _ c.requires.lists c.neighbors_fn.ensures).0 c.into_iter-neighbors.result c.into_iter-neighbors.ensures.into_iter_gives).1

pub returns-clause-lists : goal.returns-clause-lists
returns-clause-lists g c = on_ok_weaker c.push_all.result (λ k. (AlwaysReturns-call g.N.FnMut _ c.requires.lists c.neighbors_fn.ensures).1) c.push_all.ensures.nodes

pub returns-clause-neighbors : goal.returns-clause-neighbors
returns-clause-neighbors g c =
    on_ok_weaker c.push_all.result
    (λ k. (
      c.neighbors_fn.result,
      k.0,
      called_at g.N.FnMut c.neighbors_fn.ensures refl,
      (c.into_iter-neighbors.result, c.into_iter-neighbors.ensures.into_iter_gives, k.1),
      k.2 ∙ ap (λ l. l ++ map (λ x. (x, false)) k.0) c.in_ok-push.ensures.items,
    )) c.push_all.ensures.nodes

pub returns-clause-failed : goal.returns-clause-failed
returns-clause-failed g c = IfErr-weaker c.push_all.result _ _ (λ stop. failed_weaker stop _ _ (λ error k. (
  c.neighbors_fn.result,
  called_at g.N.FnMut c.neighbors_fn.ensures refl,
  (k.0, (c.into_iter-neighbors.result, c.into_iter-neighbors.ensures.into_iter_gives, (k.1, k.2))),
))) c.push_all.ensures.failed

pub neighbors_fn-requires : goal.neighbors_fn-requires
neighbors_fn-requires g c = (c.requires.neighbors_fn.at (_ ∷ [])).0

pub returns-clause-neighbors_fn : goal.returns-clause-neighbors_fn
returns-clause-neighbors_fn g c =
    on_ok_weaker c.push_all.result (λ k. record { at = λ xs. (c.requires.neighbors_fn.at (_ ∷ xs)).1 _ _ c.neighbors_fn.ensures }) c.push_all.ensures.nodes

pub returns-clause-first : goal.returns-clause-first
returns-clause-first g c =
    let same = c.requires.clones c.args.id.now c.in_ok-clone.field-0 c.in_ok-clone.ensures.cases in
    let new = not-true _ (sym c.in_ok-insert.ensures.added ∙ c.if-not-branch.false) in
    on_ok_weaker c.push_all.result (λ k. is_member-clone g.met.ID.Eq.laws (g.V.NodeSet.keys c.args.visiting.now) c.args.id.now c.in_ok-clone.field-0 same ∙ new) c.push_all.ensures.nodes

pub returns-clause-visiting : goal.returns-clause-visiting
returns-clause-visiting g c =
    let same = c.requires.clones c.args.id.now c.in_ok-clone.field-0 c.in_ok-clone.ensures.cases in
    on_ok_weaker c.push_all.result (λ k. Updates-clone g.met.ID.Eq.laws (g.V.NodeSet.keys c.args.visiting.now) (g.V.NodeSet.keys c.insert.new.self) c.args.id.now c.in_ok-clone.field-0 same c.in_ok-insert.ensures.updates) c.push_all.ensures.nodes

pub returns-clause-count : goal.returns-clause-count
returns-clause-count g c = on_ok_weaker c.push_all.result (λ k. search rules) c.push_all.ensures.nodes
