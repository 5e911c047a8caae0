use Rattle.std.proofs.Common.{◌≡◌, ◌≤◌, ◌∙◌, ◌+◌, ℕ, List, Bor, arith, length, map, take, ap, sym}
use Rattle.jj_diff.specs.Inputs.{bytes_of}
use Rattle.std.proofs.lemmas.List.{take_all}
use Rattle.std.proofs.Math.ListN.{length-map}
use Rattle.jj_core_c.specs.Pieces.{pieces_of}
use Rattle.jj_core_c.proofs.PieceLists.{length_pieces, map_next}
use Rattle.jj_core_c.proofs.text_merges.all_pieces.Goals as goal

pub loop-index-preserved : goal.loop-index-preserved
loop-index-preserved c = map_next (λ r. r.now) c.loop-index.found.items c.push.new.self.items (pieces_of c.args.bytes.now c.args.ends.now) c.loop-index.index c.piece_at.result c.loop-index.invariant c.piece_at.ensures c.in_ok-push.ensures.items

whole : (found : List (Bor (List ℕ))) (pieces : List (List ℕ)) (index len : ℕ) → bytes_of found ≡ take index pieces → length pieces ≡ len → len ≤ index → bytes_of found ≡ pieces
whole found pieces index len same is above = same ∙ take_all index pieces (omega (arith, is))

pub returns-clause-bytes : goal.returns-clause-bytes
returns-clause-bytes c = whole c.loop-index.found.items (pieces_of c.args.bytes.now c.args.ends.now) c.loop-index.index (length c.args.ends.now) c.loop-index.invariant (length_pieces c.args.bytes.now 0 c.args.ends.now) (omega arith)

pub returns-clause-len : goal.returns-clause-len
returns-clause-len c =
    let len = length_pieces c.args.bytes.now 0 c.args.ends.now in
    sym (length-map c.loop-index.found.items (λ r. r.now))
    ∙ ap length (whole c.loop-index.found.items (pieces_of c.args.bytes.now c.args.ends.now) c.loop-index.index (length c.args.ends.now) c.loop-index.invariant len (omega arith))
    ∙ len
