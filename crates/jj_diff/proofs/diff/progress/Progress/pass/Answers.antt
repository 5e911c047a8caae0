use Rattle.std.proofs.Common.{arith, ◌<◌, ◌≤◌, length, get_or}
use Rattle.jj_diff.specs.Inputs.{bytes_of, AreParts, IsEmpty}
use Rattle.jj_diff.specs.Hunks.{HasTrimmedEnds, IsTrimmedGap}
use Rattle.jj_diff.proofs.Rows.{length-bytes_of}
use Rattle.jj_diff.proofs.Progress.{pending_first, pending_last, progress_skipped, gap_later, starts_later, ranges_join}
use Rattle.jj_diff.proofs.diff.progress.Progress.pass.Goals as goal

pub returns-then-is_empty-clause-progress : goal.returns-then-is_empty-clause-progress
returns-then-is_empty-clause-progress g c =
    let gap : IsTrimmedGap (g.T.Tokenizer.is_end c.args.tokenizer.now) (bytes_of c.args.inputs.now) c.args.self.now.at.items c.args.starts.now c.args.gap.starts.items c.args.gap.ends.items =
    c.requires.trimmed in
    let row : AreParts (bytes_of c.args.inputs.now) c.args.gap.starts.items c.args.gap.ends.items (bytes_of c.args.row.items) =
    c.requires.row in
    let empty : IsEmpty (bytes_of c.args.row.items) = rw c.deref.ensures.value at (c.is_empty.ensures.empty c.if-is_empty.true) in
    rw c.in_ok-next.ensures.items (progress_skipped g.C.CompareBytes.canonical (g.T.Tokenizer.is_end c.args.tokenizer.now) (bytes_of c.args.inputs.now) c.args.self.now.hunks.items c.args.self.now.from.items c.args.self.now.at.items
    c.args.starts.now c.args.ends.now c.args.gap.starts.items c.args.gap.ends.items (bytes_of c.args.row.items)
    g.met.C.CompareBytes.joins c.requires.progress gap row empty c.requires.next)

pub returns-then-is_empty-clause-from : goal.returns-then-is_empty-clause-from
returns-then-is_empty-clause-from g c =
    ranges_join g.C.CompareBytes.canonical (g.T.Tokenizer.is_end c.args.tokenizer.now) (bytes_of c.args.inputs.now) c.args.self.now.from.items c.args.self.now.at.items c.args.starts.now
    c.requires.progress.pending.ranges c.requires.ranges

pub returns-then-is_empty-clause-start : goal.returns-then-is_empty-clause-start
returns-then-is_empty-clause-start g c = λ n before.
    let some : 0 < length (bytes_of c.args.inputs.now) = omega (arith, c.requires.some, length-bytes_of c.args.inputs.now) in
    let le : get_or c.args.self.now.at.items 0 0 ≤ get_or c.args.ends.now 0 0 =
    omega (arith, c.requires.ranges.ordered 0 some, c.requires.next.ranges.ordered 0 some) in
    rw c.in_ok-next.ensures.items (starts_later g.C.CompareBytes.canonical (g.T.Tokenizer.is_end c.args.tokenizer.now) (bytes_of c.args.inputs.now) c.args.self.now.hunks.items n c.args.self.now.at.items c.args.ends.now before le)

pub push_gap-requires-clause-pending : goal.push_gap-requires-clause-pending
push_gap-requires-clause-pending g c =
    let gap : IsTrimmedGap (g.T.Tokenizer.is_end c.args.tokenizer.now) (bytes_of c.args.inputs.now) c.args.self.now.at.items c.args.starts.now c.args.gap.starts.items c.args.gap.ends.items =
    c.requires.trimmed in
    rw c.deref-2.ensures.value (pending_first g.C.CompareBytes.canonical (g.T.Tokenizer.is_end c.args.tokenizer.now) (bytes_of c.args.inputs.now) c.args.self.now.hunks.items c.args.self.now.from.items c.args.self.now.at.items
    c.args.starts.now c.args.ends.now c.args.gap.starts.items c.args.gap.ends.items (bytes_of c.args.row.items)
    g.met.C.CompareBytes.joins c.requires.progress gap)

pub push_gap-requires-clause-gap : goal.push_gap-requires-clause-gap
push_gap-requires-clause-gap g c =
    let gap : IsTrimmedGap (g.T.Tokenizer.is_end c.args.tokenizer.now) (bytes_of c.args.inputs.now) c.args.self.now.at.items c.args.starts.now c.args.gap.starts.items c.args.gap.ends.items =
    c.requires.trimmed in
    rw c.deref-2.ensures.value (gap_later g.C.CompareBytes.canonical (g.T.Tokenizer.is_end c.args.tokenizer.now) (bytes_of c.args.inputs.now) c.args.self.now.hunks.items c.args.self.now.from.items c.args.self.now.at.items
    c.args.gap.starts.items c.requires.gap gap.before.ranges)

pub returns-clause-progress : goal.returns-clause-progress
returns-clause-progress g c =
    let gap : IsTrimmedGap (g.T.Tokenizer.is_end c.args.tokenizer.now) (bytes_of c.args.inputs.now) c.args.self.now.at.items c.args.starts.now c.args.gap.starts.items c.args.gap.ends.items =
    c.requires.trimmed in
    record {
      prefix = c.in_ok-push_gap.ensures.prefix;
      trimmed = c.in_ok-push_gap.ensures.trimmed;
      last = c.in_ok-push_gap.ensures.last;
      pending = rw c.in_ok-next.ensures.items (pending_last g.C.CompareBytes.canonical (g.T.Tokenizer.is_end c.args.tokenizer.now) (bytes_of c.args.inputs.now) c.args.self.now.hunks.items c.args.self.now.from.items c.args.self.now.at.items
          c.args.starts.now c.args.ends.now c.args.gap.starts.items c.args.gap.ends.items (bytes_of c.args.row.items)
          g.met.C.CompareBytes.joins c.requires.progress gap c.requires.next);
    }

pub returns-clause-start : goal.returns-clause-start
returns-clause-start g c = λ n before.
    let gap : IsTrimmedGap (g.T.Tokenizer.is_end c.args.tokenizer.now) (bytes_of c.args.inputs.now) c.args.self.now.at.items c.args.starts.now c.args.gap.starts.items c.args.gap.ends.items =
    c.requires.trimmed in
    let some : 0 < length (bytes_of c.args.inputs.now) = omega (arith, c.requires.some, length-bytes_of c.args.inputs.now) in
    c.in_ok-push_gap.ensures.start n c.in_ok-next.next.items (
    starts_later g.C.CompareBytes.canonical (g.T.Tokenizer.is_end c.args.tokenizer.now) (bytes_of c.args.inputs.now) c.args.self.now.hunks.items n c.args.self.now.at.items c.args.gap.starts.items before (gap.before.ranges.ordered 0 some))

pub push_gap-requires-clause-prefix : goal.push_gap-requires-clause-prefix
push_gap-requires-clause-prefix g c = rw c.deref-2.ensures.value c.requires.progress.prefix

pub push_gap-requires-clause-ranges : goal.push_gap-requires-clause-ranges
push_gap-requires-clause-ranges g c =
    let gap : IsTrimmedGap (g.T.Tokenizer.is_end c.args.tokenizer.now) (bytes_of c.args.inputs.now) c.args.self.now.at.items c.args.starts.now c.args.gap.starts.items c.args.gap.ends.items =
    c.requires.trimmed in
    gap.ranges

pub push_gap-requires-clause-cuts : goal.push_gap-requires-clause-cuts
push_gap-requires-clause-cuts g c =
    let gap : IsTrimmedGap (g.T.Tokenizer.is_end c.args.tokenizer.now) (bytes_of c.args.inputs.now) c.args.self.now.at.items c.args.starts.now c.args.gap.starts.items c.args.gap.ends.items =
    c.requires.trimmed in
    gap.cuts

pub push_gap-requires-clause-row : goal.push_gap-requires-clause-row
push_gap-requires-clause-row g c =
    let row : AreParts (bytes_of c.args.inputs.now) c.args.gap.starts.items c.args.gap.ends.items (bytes_of c.args.row.items) =
    c.requires.row in
    row

pub push_gap-requires-clause-nonempty : goal.push_gap-requires-clause-nonempty
push_gap-requires-clause-nonempty g c = rw c.deref.ensures.value at (c.is_empty.ensures.nonempty c.if-is_empty.false)

pub push_gap-requires-clause-trimmed : goal.push_gap-requires-clause-trimmed
push_gap-requires-clause-trimmed g c =
    let gap : IsTrimmedGap (g.T.Tokenizer.is_end c.args.tokenizer.now) (bytes_of c.args.inputs.now) c.args.self.now.at.items c.args.starts.now c.args.gap.starts.items c.args.gap.ends.items =
    c.requires.trimmed in
    let row : AreParts (bytes_of c.args.inputs.now) c.args.gap.starts.items c.args.gap.ends.items (bytes_of c.args.row.items) =
    c.requires.row in
    let ends : HasTrimmedEnds (g.T.Tokenizer.is_end c.args.tokenizer.now) (bytes_of c.args.row.items) = gap.trimmed (bytes_of c.args.row.items) row in
    record { start = ends.start; end = ends.end; once = c.requires.once }

pub returns-clause-from : goal.returns-clause-from
returns-clause-from g c =
    let gap : IsTrimmedGap (g.T.Tokenizer.is_end c.args.tokenizer.now) (bytes_of c.args.inputs.now) c.args.self.now.at.items c.args.starts.now c.args.gap.starts.items c.args.gap.ends.items =
    c.requires.trimmed in
    gap.after.ranges
