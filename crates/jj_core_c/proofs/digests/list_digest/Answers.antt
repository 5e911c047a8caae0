use Rattle.std.proofs.Common.{◌∙◌, ◌++◌, ℕ, List, [], arith, length, take, subst, sym, ap, append_assoc}
use Rattle.std.specs.List.{flat_map}
use Rattle.std.proofs.lemmas.List.{append-nil, take_all}
use Rattle.jj_content.specs.Blake2bState.{HasAbsorbed}
use Rattle.jj_content.specs.Content.{list_content, string_content, u64_content}
use Rattle.jj_core_c.specs.Pieces.{pieces_of}
use Rattle.jj_core_c.proofs.PieceLists.{flat_map_next, length_pieces}
use Rattle.jj_core_c.proofs.digests.list_digest.Goals as goal

pub loop-index-init : goal.loop-index-init
loop-index-init c = subst (HasAbsorbed c.update_len.new.hasher) (sym (append-nil (u64_content (length c.args.ends.now)))) (c.update_len.ensures [] c.new-hasher.ensures)

pub loop-index-preserved : goal.loop-index-preserved
loop-index-preserved c =
    let pieces = pieces_of c.args.bytes.now c.args.ends.now in
    let len = u64_content (length c.args.ends.now) in
    let next = flat_map_next string_content pieces c.loop-index.index c.piece_at.result.now c.piece_at.ensures in
    subst (HasAbsorbed c.update_content.new.hasher)
    (append_assoc len (flat_map string_content (take c.loop-index.index pieces)) (string_content c.piece_at.result.now) ∙ ap (λ (l : List ℕ). len ++ l) (sym next))
    (c.update_content.ensures _ c.loop-index.invariant)

pub returns : goal.returns
unfolding list_content
returns c =
    let pieces = pieces_of c.args.bytes.now c.args.ends.now in
    let len = length_pieces c.args.bytes.now 0 c.args.ends.now in
    let all = take_all c.loop-index.index pieces (omega (arith, len)) in
    c.finalize.ensures _ (subst (λ (l : List ℕ). HasAbsorbed c.loop-index.hasher l) (ap (λ (n : ℕ). u64_content n ++ flat_map string_content (take c.loop-index.index pieces)) (sym len) ∙ ap (λ (l : List (List ℕ)). u64_content (length pieces) ++ flat_map string_content l) all) c.loop-index.invariant)
