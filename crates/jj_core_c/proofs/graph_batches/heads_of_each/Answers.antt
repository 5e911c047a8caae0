use Rattle.std.proofs.Common.{◌++◌, ◌∷◌, [], ℕ, List, arith, subst}
use Rattle.std.specs.List.{AllZip}
use Rattle.std.proofs.lemmas.List.{take_all}
use Rattle.jj_dag.specs.ArrayGraphs.{graph_of}
use Rattle.jj_dag.specs.Graph.{IsAcyclicFrom}
use Rattle.jj_core_c.specs.ArrayGraphs.{AreAscendingHeads}
use Rattle.jj_core_c.specs.GraphBatches.{Joins}
use Rattle.jj_core_c.specs.Pieces.{pieces_of}
use Rattle.jj_core_c.proofs.JoinedResults.{found_next}
use Rattle.jj_core_c.proofs.PieceLists.{length_pieces}
use Rattle.jj_core_c.proofs.graph_batches.heads_of_each.Goals as goal

pub loop-index-init : goal.loop-index-init
loop-index-init c = ([], c.new-lists.ensures, tt)

pub loop-index-preserved : goal.loop-index-preserved
loop-index-preserved c =
    let before = c.loop-index.invariant in
    let heads = c.in_ok-heads.heads.items in
    let none : IsAcyclicFrom (graph_of c.args.graph.now) c.piece_at.result.now = λ a reached round. c.requires.acyclic (a, round) in (
      before.0 ++ heads ∷ [],
      subst (λ (l : List ℕ). Joins (before.0 ++ l ∷ []) c.push.new.self) c.as_slice.ensures.value (c.in_ok-push.ensures before.0 before.1),
      found_next (AreAscendingHeads (graph_of c.args.graph.now)) (pieces_of c.args.nodes.now c.args.ends.now) before.0 c.loop-index.index c.piece_at.result.now heads
          c.piece_at.ensures (c.in_ok-heads.ensures.maximal none, c.in_ok-heads.ensures.ascending none) before.2,
    )

pub returns : goal.returns
returns c =
    let pieces = pieces_of c.args.nodes.now c.args.ends.now in
    let len = length_pieces c.args.nodes.now 0 c.args.ends.now in
    let all = take_all c.loop-index.index pieces (omega (arith, len)) in
    let found = c.loop-index.invariant in
    (found.0, found.1, subst (λ (l : List (List ℕ)). AllZip (AreAscendingHeads (graph_of c.args.graph.now)) l found.0) all found.2)
