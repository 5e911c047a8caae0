use Rattle.std.proofs.Common.{◌∙◌, ◌++◌, ◌∷◌, [], ℕ, List, Some, ap, arith, length, subst, sym}
use Rattle.std.proofs.lemmas.List.{take_all}
use Rattle.std.proofs.lemmas.List.Elements.{All-push}
use Rattle.jj_merges.specs.Merge.{IsOdd}
use Rattle.jj_core_c.specs.FlattenResults.{AreMerges}
use Rattle.jj_core_c.specs.Pieces.{pieces_of}
use Rattle.jj_core_c.proofs.PieceLists.{length_pieces, take_next}
use Rattle.jj_core_c.proofs.flatten.merges_of.Goals as goal

pub loop-index-preserved : goal.loop-index-preserved
loop-index-preserved c =
    let index = c.loop-index.index in
    let pieces = pieces_of c.args.indices.now c.args.ends.now in
    let merge = c.in_ok-merge.merge in
    let more = c.in_ok-push.ensures.items in
    let is = sym c.in_ok-merge.ensures.0 in
    record {
      found = more ∙ ap (λ (l : List (List ℕ)). l ++ merge ∷ []) c.loop-index.invariant.found ∙ sym (take_next pieces index merge (c.piece_at.ensures ∙ ap Some is));
      odd = subst AreMerges (sym more) (All-push (λ (m : List ℕ). IsOdd (length m)) c.loop-index.merges.items merge c.loop-index.invariant.odd
          (subst (λ (m : List ℕ). IsOdd (length m)) is c.in_ok-merge.ensures.1));
    }

pub returns : goal.returns
returns c =
    let len = length_pieces c.args.indices.now 0 c.args.ends.now in
    (c.loop-index.invariant.found ∙ take_all c.loop-index.index (pieces_of c.args.indices.now c.args.ends.now) (omega (arith, len)), c.loop-index.invariant.odd)
