use Rattle.std.proofs.Common.{◌∙◌, ◌++◌, ◌∷◌, [], ℕ, List, arith, subst, sym}
use Rattle.std.specs.List.{AllZip, zip}
use Rattle.std.proofs.lemmas.List.{take_all}
use Rattle.jj_dag.specs.ArrayGraphs.{graph_of}
use Rattle.jj_dag.specs.CommonNodes.{HasNoCommonCycle}
use Rattle.jj_core_c.specs.ArrayGraphs.{AreAscendingCommon}
use Rattle.jj_core_c.specs.GraphBatches.{Joins}
use Rattle.jj_core_c.specs.Pieces.{pieces_of}
use Rattle.jj_core_c.proofs.JoinedResults.{found_next, length_zip, zip_at}
use Rattle.jj_core_c.proofs.PieceLists.{length_pieces}
use Rattle.jj_core_c.proofs.graph_batches.common_of_each.Goals as goal

pub loop-index-init : goal.loop-index-init
loop-index-init c = ([], c.new-lists.ensures, tt)

pub loop-index-preserved : goal.loop-index-preserved
loop-index-preserved c =
    let before = c.loop-index.invariant in
    let common = c.in_ok-common.common.items in
    let pieces1 = pieces_of c.args.set1.now c.args.ends1.now in
    let pieces2 = pieces_of c.args.set2.now c.args.ends2.now in
    let nodes1 = c.piece_at-nodes1.result.now in
    let nodes2 = c.piece_at-nodes2.result.now in
    let none : HasNoCommonCycle (graph_of c.args.graph.now) nodes1 nodes2 = λ a reached round. c.requires.acyclic (a, round) in (
      before.0 ++ common ∷ [],
      subst (λ (l : List ℕ). Joins (before.0 ++ l ∷ []) c.push.new.self) c.as_slice.ensures.value (c.in_ok-push.ensures before.0 before.1),
      found_next (λ (sets : List ℕ × List ℕ). AreAscendingCommon (graph_of c.args.graph.now) sets.0 sets.1) (zip pieces1 pieces2) before.0 c.loop-index.index (nodes1, nodes2) common
          (zip_at pieces1 pieces2 c.loop-index.index nodes1 nodes2 c.piece_at-nodes1.ensures c.piece_at-nodes2.ensures)
          (c.in_ok-common.ensures.closest none, c.in_ok-common.ensures.ascending none) before.2,
    )

pub returns : goal.returns
returns c =
    let pieces1 = pieces_of c.args.set1.now c.args.ends1.now in
    let pieces2 = pieces_of c.args.set2.now c.args.ends2.now in
    let len1 = length_pieces c.args.set1.now 0 c.args.ends1.now in
    let len2 = length_pieces c.args.set2.now 0 c.args.ends2.now in
    let same = length_zip pieces1 pieces2 (len1 ∙ c.requires.pairs.2 ∙ sym len2) in
    let all = take_all c.loop-index.index (zip pieces1 pieces2) (omega (arith, same, len1)) in
    let found = c.loop-index.invariant in
    (found.0, found.1, subst (λ (l : List (List ℕ × List ℕ)). AllZip (λ (sets : List ℕ × List ℕ). AreAscendingCommon (graph_of c.args.graph.now) sets.0 sets.1) l found.0) all found.2)
