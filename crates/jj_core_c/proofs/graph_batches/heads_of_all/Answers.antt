use Rattle.std.proofs.Common.{FitsSigned, ◌≡◌, ◌∙◌, of_z, rules, to_z, w64}
use Rattle.std.proofs.lemmas.Int.{to_z-of_z}
use Rattle.jj_core_c.proofs.JoinedResults.{one_set}
use Rattle.jj_core_c.proofs.graph_batches.heads_of_all.Goals as goal

pub returns : goal.returns
returns c =
    let call = c.jj_graph_heads_each.ensures in
    let status = c.jj_graph_heads_each.result in
    let fits : FitsSigned w64 status = search rules in
    let same : to_z w64 (of_z w64 status) ≡ status = to_z-of_z w64 status fits in
    (call.0, same ∙ call.1, one_set c.args.targets.now c.args.ends.now c.args.nodes.now c.args.node_ends.now c.args.heads.now c.jj_graph_heads_each.new.heads c.args.head_ends.now c.jj_graph_heads_each.new.head_ends c.requires _ call.0 call.2)
