use Rattle.std.proofs.Common.{◌≡◌, ◌∙◌, ℕ, List, [], false, get_or, rules, subst, true}
use Rattle.std.specs.Bool.{MatchBool}
use Rattle.jj_dag.specs.ArrayGraphs.{HasCycle}
use Rattle.jj_core_c.specs.ArrayGraphs.{AreArrays, graph_of}
use Rattle.jj_core_c.specs.Pieces.{pieces_of}
use Rattle.jj_core_c.proofs.graphs.acyclic_graph.Goals as goal

pub returns-then-has_cycle : goal.returns-then-has_cycle
returns-then-has_cycle c =
    let is : c.in_ok-graph.graph ≡ pieces_of c.args.targets.now c.args.ends.now = c.in_ok-graph.ensures ∙ c.in_ok-lists.ensures in
    let cyclic = subst (λ (lists : List (List ℕ)). MatchBool c.has_cycle.result (HasCycle (λ n. get_or lists n [])) (¬ (HasCycle (λ n. get_or lists n [])))) is c.has_cycle.ensures in
    subst (λ b. MatchBool b (HasCycle (graph_of c.args.targets.now c.args.ends.now)) (¬ (HasCycle (graph_of c.args.targets.now c.args.ends.now)))) c.if-has_cycle.true cyclic

pub returns : goal.returns
returns c =
    let is : c.in_ok-graph.graph ≡ pieces_of c.args.targets.now c.args.ends.now = c.in_ok-graph.ensures ∙ c.in_ok-lists.ensures in
    let cyclic = subst (λ (lists : List (List ℕ)). MatchBool c.has_cycle.result (HasCycle (λ n. get_or lists n [])) (¬ (HasCycle (λ n. get_or lists n [])))) is c.has_cycle.ensures in
    let arrays : AreArrays c.args.targets.now c.args.ends.now = search rules in
    (is, subst (λ b. MatchBool b (HasCycle (graph_of c.args.targets.now c.args.ends.now)) (¬ (HasCycle (graph_of c.args.targets.now c.args.ends.now)))) c.if-has_cycle.false cyclic, arrays)
