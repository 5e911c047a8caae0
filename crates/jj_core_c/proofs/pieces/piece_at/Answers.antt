use Rattle.std.proofs.Common.{◌∙◌, Some, sym}
use Rattle.std.specs.Prelude.{slice_range}
use Rattle.jj_core_c.proofs.PieceLists.{piece_of}
use Rattle.jj_core_c.proofs.pieces.piece_at.Goals as goal

pub returns : goal.returns
returns g c =
    let start = sym c.piece_range-start.ensures.start in
    let end = sym c.piece_range-start.ensures.end in
    piece_of c.args.items.now 0 c.args.ends.now c.args.index c.requires.in_range ∙ (λ i. Some (slice_range c.args.items.now (start i) (end i)))
