use Rattle.std.proofs.Common.{◌≡◌, arith, drop, length, subst, sym, take}
use Rattle.std.specs.Prelude.{IsTrue, ◌↔◌}
use Rattle.std.proofs.lemmas.List.{take_all}
use Rattle.jj_globs.specs.GlobMeaning.{IsMatch}
use Rattle.jj_core_c.specs.GlobResults.{AreMatches}
use Rattle.jj_core_c.specs.Pieces.{pieces_of}
use Rattle.jj_core_c.proofs.Flags.{unchanged_next, written_next}
use Rattle.jj_core_c.proofs.PieceLists.{length_pieces}
use Rattle.jj_core_c.proofs.globs.write_matches.Goals as goal

pub loop-index-preserved : goal.loop-index-preserved
loop-index-preserved c = record {
  written = written_next (λ path matched. IsTrue matched ↔ IsMatch c.args.glob.now path) (pieces_of c.args.bytes.now c.args.ends.now) c.loop-index.matches c.loop-index.index c.piece_at.result.now c.is_match.result
      c.piece_at.ensures (omega arith) c.is_match.ensures c.loop-index.invariant.written;
  unchanged = unchanged_next c.loop-index.matches c.args.matches.now c.loop-index.index c.is_match.result c.loop-index.invariant.unchanged;
}

pub returns : goal.returns
returns c =
    let pieces = pieces_of c.args.bytes.now c.args.ends.now in
    let len = length_pieces c.args.bytes.now 0 c.args.ends.now in
    let end : c.loop-index.index ≡ length c.args.ends.now = omega arith in
    let all = take_all c.loop-index.index pieces (omega (arith, len)) in
    let written = subst (λ paths. AreMatches c.args.glob.now paths (take c.loop-index.index c.loop-index.matches)) all c.loop-index.invariant.written in (
      sym len,
      subst (λ n. AreMatches c.args.glob.now pieces (take n c.loop-index.matches)) end written,
      subst (λ n. drop n c.loop-index.matches ≡ drop n c.args.matches.now) end c.loop-index.invariant.unchanged,
    )
