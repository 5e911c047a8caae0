use Rattle.std.proofs.Common.{rules, ◌≡◌, ◌∙◌, ◌++◌, ◌∷◌, [], ℕ, List, ap, arith, sym}
use Rattle.std.proofs.lemmas.List.{take_all}
use Rattle.jj_dag.specs.PackedLists.{lists_of}
use Rattle.jj_core_c.specs.Pieces.{pieces_of}
use Rattle.jj_core_c.proofs.PieceLists.{length_pieces, take_next}
use Rattle.jj_core_c.proofs.array_graph.graph_of.Goals as goal

pub loop-index-preserved : goal.loop-index-preserved
loop-index-preserved c =
    let index = c.loop-index.index in
    let pieces = pieces_of c.args.targets.now c.args.ends.now in
    let list = c.piece_at.result.now in
    let more : lists_of c.push_list.new.self ≡ lists_of c.loop-index.lists ++ list ∷ [] = search rules in
    record {
      complete = more ∙ ap (λ (l : List (List ℕ)). l ++ list ∷ []) c.loop-index.invariant.complete ∙ sym (take_next pieces index list c.piece_at.ensures);
      none_open = search rules;
    }

pub returns : goal.returns
returns c =
    let len = length_pieces c.args.targets.now 0 c.args.ends.now in
    c.new.ensures ∙ c.loop-index.invariant.complete ∙ take_all c.loop-index.index (pieces_of c.args.targets.now c.args.ends.now) (omega (arith, len))
