use Rattle.std.proofs.Common.{◌<◌, ◌≤◌, ◌+◌, length, get_or, arith, sym, subst, inl}
use Rattle.jj_diff.specs.Inputs.{bytes_of}
use Rattle.jj_diff.specs.Hunks.{AreLimits, StartsWith}
use Rattle.jj_diff.proofs.Rows.{length-bytes_of}
use Rattle.jj_diff.proofs.HunkEnds.{common_end_zero, empty_end, progress_start, ranges_between_ends, start_at, whole_at}
use Rattle.jj_diff.proofs.diff.hunks.started_hunks.Goals as goal

pub push_regions-requires-clause-common : goal.push_regions-requires-clause-common
push_regions-requires-clause-common g c =
    common_end_zero (g.T.Tokenizer.is_end c.args.tokenizer.now) (bytes_of c.args.inputs.now) c.common_start-start.result 0
    (empty_end (g.T.Tokenizer.is_end c.args.tokenizer.now) (g.met.T.Tokenizer.tokens c.args.tokenizer.now) (bytes_of c.args.inputs.now) c.common_start-start.result c.common_start-start.ensures.common)

pub push_regions-requires-clause-progress : goal.push_regions-requires-clause-progress
push_regions-requires-clause-progress g c =
    progress_start g.C.CompareBytes.canonical (g.T.Tokenizer.is_end c.args.tokenizer.now) (bytes_of c.args.inputs.now) c.common_start-start.result c.in_ok-progress.progress.hunks.items c.in_ok-progress.progress.from.items c.in_ok-progress.progress.at.items
    c.common_start-start.ensures.common c.in_ok-progress.ensures.from c.in_ok-progress.ensures.at c.in_ok-progress.ensures.hunks

pub push_regions-requires-clause-gap : goal.push_regions-requires-clause-gap
push_regions-requires-clause-gap g c = inl c.in_ok-progress.ensures.hunks

pub push_regions-requires-clause-ranges : goal.push_regions-requires-clause-ranges
push_regions-requires-clause-ranges g c =
    ranges_between_ends g.C.CompareBytes.canonical (g.T.Tokenizer.is_end c.args.tokenizer.now) (bytes_of c.args.inputs.now) c.common_start-start.result 0 c.in_ok-progress.progress.at.items c.in_ok-progress.ensures.at
    (empty_end (g.T.Tokenizer.is_end c.args.tokenizer.now) (g.met.T.Tokenizer.tokens c.args.tokenizer.now) (bytes_of c.args.inputs.now) c.common_start-start.result c.common_start-start.ensures.common)

pub push_matching-requires-clause-prefix : goal.push_matching-requires-clause-prefix
push_matching-requires-clause-prefix g c = rw c.deref.ensures.value c.in_ok-push_regions.ensures.progress.prefix

pub push_matching-requires-clause-pending : goal.push_matching-requires-clause-pending
push_matching-requires-clause-pending g c =
    rw (c.deref.ensures.value, c.deref-2.ensures.value) c.in_ok-push_regions.ensures.progress.pending

pub returns-clause-diff : goal.returns-clause-diff
returns-clause-diff g c =
    let to : AreLimits (bytes_of c.args.inputs.now) 0 c.deref-2.result.now =
    subst (AreLimits (bytes_of c.args.inputs.now) 0) (sym c.deref-2.ensures.value) c.in_ok-push_regions.ensures.at in
    whole_at g.C.CompareBytes.canonical (g.T.Tokenizer.is_end c.args.tokenizer.now) (bytes_of c.args.inputs.now) c.push_matching.new.hunks.items c.deref-2.result.now to c.in_ok-push_matching.ensures.prefix

pub returns-clause-start : goal.returns-clause-start
returns-clause-start g c = λ n common.
    let some : 0 < length (bytes_of c.args.inputs.now) = omega (arith, c.requires, length-bytes_of c.args.inputs.now) in
    let first : StartsWith c.common_start-start.result c.push_regions.new.progress.hunks.items c.push_regions.new.progress.at.items =
    c.in_ok-push_regions.ensures.start c.common_start-start.result (
    start_at g.C.CompareBytes.canonical (g.T.Tokenizer.is_end c.args.tokenizer.now) (bytes_of c.args.inputs.now) c.common_start-start.result c.in_ok-progress.progress.hunks.items c.in_ok-progress.progress.at.items some c.in_ok-progress.ensures.at c.in_ok-progress.ensures.hunks) in
    let start : StartsWith c.common_start-start.result c.push_regions.new.progress.hunks.items c.deref-2.result.now = rw c.deref-2.ensures.value first in
    omega (arith, c.common_start-start.ensures.longest n common, c.in_ok-push_matching.ensures.start c.common_start-start.result start)
