use Rattle.std.proofs.Common.{rules, ◌≡◌, ◌∙◌, ◌++◌, ◌∷◌, [], map, ap, sym, subst}
use Rattle.std.proofs.lemmas.List.{map-append}
use Rattle.std.proofs.lemmas.Result.{err_from_is_err_and}
use Rattle.std.specs.Vec.Iter.{into_iter_steps}
use Rattle.jj_dag.proofs.FailingOrders.{Yields-push}
use Rattle.jj_walks.specs.PendingNodes.{listed_item}
use Rattle.jj_log.specs.Columns.{AreRows, node_of_row}
use Rattle.jj_log.proofs.Settling.{more_rows}
use Rattle.jj_log.proofs.Walks.{vec_begun, vec_drained}
use Rattle.jj_log.proofs.WideRows.{ListedNode, row_error}
use Rattle.jj_log.proofs.layout.rows.Goals as goal

pub loop-node-init : goal.loop-node-init
loop-node-init c = record {
  can = search rules;
  finite = search rules;
  nodes = ap (map node_of_row) c.new-rows.ensures.items;
  columns = subst (λ r. AreRows c.args.max_columns [] r c.new-columns.result.items) (sym c.new-rows.ensures.items) (sym c.new-columns.ensures.items);
}

pub loop-node-preserved : goal.loop-node-preserved
loop-node-preserved c = record {
  can = search rules;
  finite = search rules;
  nodes = ap (map node_of_row) c.in_ok-push.ensures.items ∙ map-append node_of_row c.loop-node.rows.items (c.in_ok-row.row ∷ []) ∙ ap (λ l. l ++ node_of_row c.in_ok-row.row ∷ []) c.loop-node.invariant.nodes ∙ ap (λ p. map listed_item c.loop-node.yielded ++ p ∷ []) c.in_ok-row.ensures.node ∙ sym (map-append listed_item c.loop-node.yielded ((c.in-Some.node, c.in-Some.edges) ∷ []));
  columns = subst (λ r. AreRows c.args.max_columns [] r c.lay_out.new.columns.items) (sym c.in_ok-push.ensures.items) (more_rows c.args.max_columns [] c.loop-node.rows.items c.in_ok-row.row c.loop-node.columns.items c.lay_out.new.columns.items c.loop-node.invariant.columns c.in_ok-row.ensures.row);
}

pub returns-clause-nodes : goal.returns-clause-nodes
returns-clause-nodes c =
    let all = vec_drained c.args.nodes c.loop-node.yielded (c.into_iter-node-iterator.result, (search rules, search rules), (c.next.new.self, (c.loop-node.node-iterator, c.loop-node.yielded_by, c.in-None.ensures.steps))) in
    subst (λ l. map node_of_row c.loop-node.rows.items ≡ map listed_item l) all c.loop-node.invariant.nodes

pub returns-clause-columns : goal.returns-clause-columns
returns-clause-columns c = (c.loop-node.columns.items, c.loop-node.invariant.columns)

pub returns-in_err-row-clause-error : goal.returns-in_err-row-clause-error
returns-in_err-row-clause-error c =
    let x : ListedNode = (c.in-Some.node, c.in-Some.edges) in
    let begun = vec_begun c.args.nodes (c.loop-node.yielded ++ x ∷ []) (c.into_iter-node-iterator.result, (search rules, search rules), (c.next.new.self, Yields-push into_iter_steps c.loop-node.yielded x c.into_iter-node-iterator.result c.loop-node.node-iterator c.next.new.self c.loop-node.yielded_by c.in-Some.ensures.steps)) in
    let p = err_from_is_err_and c.from_residual.result c.from_residual.ensures.1 in
    rw (p.1, p.2)
    (row_error c.args.max_columns c.args.nodes.items c.loop-node.yielded begun.0 x c.loop-node.rows.items c.loop-node.columns.items c.in_err-row.field-0.0 begun.1 c.loop-node.invariant.nodes c.loop-node.invariant.columns c.in_err-row.ensures.error)
