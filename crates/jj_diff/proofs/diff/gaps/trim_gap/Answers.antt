use Rattle.std.proofs.Common.{◌≡◌}
use Rattle.jj_diff.specs.Inputs.{bytes_of}
use Rattle.jj_diff.proofs.Gaps.{gap_trimmed}
use Rattle.jj_diff.proofs.diff.gaps.trim_gap.Goals as goal

pub returns : goal.returns
returns g c =
    let r : c.deref-2.result.now ≡ c.in_ok-row.row.items = c.deref-2.ensures.value in
    let q : c.deref.result.now ≡ c.in_ok-row.row.items = c.deref.ensures.value in
    gap_trimmed (g.T.Tokenizer.is_end c.args.tokenizer.now) (bytes_of c.args.inputs.now) (bytes_of c.in_ok-row.row.items) c.args.starts.now c.args.ends.now
    c.in_ok-gap_starts.gap_starts.items c.in_ok-gap_ends.gap_ends.items c.common_start-first.result c.common_end-last.result
    (g.met.T.Tokenizer.tokens c.args.tokenizer.now) c.requires.ranges c.requires.starts c.requires.ends c.in_ok-row.ensures
    (rw q at c.common_start-first.ensures.common) (rw q at c.common_start-first.ensures.longest)
    (rw r at c.common_end-last.ensures.common) (rw r at c.common_end-last.ensures.longest)
    c.in_ok-gap_starts.ensures c.in_ok-gap_ends.ensures
