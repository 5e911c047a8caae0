use Rattle.std.proofs.Common.{sym, subst}
use Rattle.jj_diff.specs.Inputs.{bytes_of}
use Rattle.jj_diff.specs.Hunks.{AreLimits}
use Rattle.jj_diff.proofs.HunkEnds.{limit_cuts, match_end, before_end}
use Rattle.jj_diff.proofs.diff.hunks.push_regions.Goals as goal

pub loop-region-init : goal.loop-region-init
loop-region-init g c =
    let from : AreLimits (bytes_of c.args.inputs.now) c.args.len c.as_slice-starts.result.now =
    subst (AreLimits (bytes_of c.args.inputs.now) c.args.len) (sym c.as_slice-starts.ensures.value) c.in_ok-last_starts.ensures in
    record {
      progress = c.requires.progress;
      gap = c.requires.gap;
      ranges = c.requires.ranges c.as_slice-starts.result.now from;
      start = λ n before. before;
    }

pub loop-region-preserved : goal.loop-region-preserved
loop-region-preserved g c = record {
  progress = c.in_ok-push_region.ensures.progress;
  gap = c.in_ok-push_region.ensures.gap;
  ranges = c.in_ok-push_region.ensures.ranges;
  start = λ n before. c.in_ok-push_region.ensures.start n (c.loop-region.invariant.start n before);
}

pub advance-requires-clause-cuts : goal.advance-requires-clause-cuts
advance-requires-clause-cuts g c =
    let from : AreLimits (bytes_of c.args.inputs.now) c.args.len c.as_slice-starts.result.now =
    subst (AreLimits (bytes_of c.args.inputs.now) c.args.len) (sym c.as_slice-starts.ensures.value) c.in_ok-last_starts.ensures in
    limit_cuts (g.T.Tokenizer.is_end c.args.tokenizer.now) (bytes_of c.args.inputs.now) 0 c.args.len c.as_slice-starts.result.now c.requires.common from

pub advance-requires-clause-next : goal.advance-requires-clause-next
advance-requires-clause-next g c =
    let from : AreLimits (bytes_of c.args.inputs.now) c.args.len c.as_slice-starts.result.now =
    subst (AreLimits (bytes_of c.args.inputs.now) c.args.len) (sym c.as_slice-starts.ensures.value) c.in_ok-last_starts.ensures in
    let to : AreLimits (bytes_of c.args.inputs.now) 0 c.as_slice-ends.result.now =
    subst (AreLimits (bytes_of c.args.inputs.now) 0) (sym c.as_slice-ends.ensures.value) c.in_ok-last_ends.ensures in
    match_end g.C.CompareBytes.canonical (g.T.Tokenizer.is_end c.args.tokenizer.now) (bytes_of c.args.inputs.now) (g.met.T.Tokenizer.tokens c.args.tokenizer.now) c.args.len c.as_slice-starts.result.now c.as_slice-ends.result.now c.requires.common from to

pub returns-clause-at : goal.returns-clause-at
returns-clause-at g c =
    let to : AreLimits (bytes_of c.args.inputs.now) 0 c.as_slice-ends.result.now =
    subst (AreLimits (bytes_of c.args.inputs.now) 0) (sym c.as_slice-ends.ensures.value) c.in_ok-last_ends.ensures in
    rw c.in_ok-advance.ensures.at to

pub returns-clause-from : goal.returns-clause-from
returns-clause-from g c =
    let from : AreLimits (bytes_of c.args.inputs.now) c.args.len c.as_slice-starts.result.now =
    subst (AreLimits (bytes_of c.args.inputs.now) c.args.len) (sym c.as_slice-starts.ensures.value) c.in_ok-last_starts.ensures in
    let to : AreLimits (bytes_of c.args.inputs.now) 0 c.as_slice-ends.result.now =
    subst (AreLimits (bytes_of c.args.inputs.now) 0) (sym c.as_slice-ends.ensures.value) c.in_ok-last_ends.ensures in
    rw c.in_ok-advance.ensures.at (
    before_end g.C.CompareBytes.canonical (g.T.Tokenizer.is_end c.args.tokenizer.now) (bytes_of c.args.inputs.now) c.args.len c.advance.new.self.from.items c.as_slice-starts.result.now c.as_slice-ends.result.now
    c.requires.common c.in_ok-advance.ensures.from from to)

pub returns-clause-start : goal.returns-clause-start
returns-clause-start g c = λ n before. c.in_ok-advance.ensures.start n (c.loop-region.invariant.start n before)
