use Rattle.std.proofs.Common.{◌<◌, length, refl, rules, subst, ◌≡◌, ◌∙◌, false, inr, sym, true≢false}
use Rattle.std.specs.Prelude.{All}
use Rattle.jj_core_c.specs.Buffers.{Writes}
use Rattle.jj_core_c.proofs.GraphResults.{common_of}
use Rattle.jj_core_c.proofs.graphs.write_common.Goals as goal

pub returns-then-common-len : goal.returns-then-common-len
returns-then-common-len c =
    let valid = c.in_ok-graph.ensures in
    let found = c.in_ok-found.found.items in
    let less : length c.args.common.now < length found = search rules in
    ((found, common_of _ _ _ valid.0 valid.1 c.args.set1.now c.args.set2.now found c.in_ok-found.ensures.closest c.in_ok-found.ensures.ascending, less), refl)

pub returns : goal.returns
returns c =
    let valid = c.in_ok-graph.ensures in
    let found = c.in_ok-found.found.items in
    let starts : All (λ node. node < length c.args.ends.now) c.args.set1.now × All (λ node. node < length c.args.ends.now) c.args.set2.now = search rules in
    let written = subst (λ items. Writes c.args.common.now c.write_indices.new.buffer items c.write_indices.result) c.deref.ensures.value c.write_indices.ensures in
    (((valid.2, valid.1), starts), (found, common_of _ _ _ valid.0 valid.1 c.args.set1.now c.args.set2.now found c.in_ok-found.ensures.closest c.in_ok-found.ensures.ascending, written))

pub returns-then-not-are_all_nodes : goal.returns-then-not-are_all_nodes
returns-then-not-are_all_nodes c =
    let not_below : c.are_all_nodes.result ≡ false = search rules in
    (inr (λ below. true≢false (sym (c.are_all_nodes.ensures.1 below) ∙ not_below)), refl)
