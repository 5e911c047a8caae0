use Rattle.std.proofs.Common.{refl, sym, subst, arith, ◌<◌, ◌≤◌, length}
use Rattle.jj_diff.specs.declared.diff.hunks.DiffHunk.{DiffHunk}
use Rattle.jj_diff.specs.declared.diff.hunks.DiffHunkKind.TheVariants.{Matching}
use Rattle.jj_diff.specs.Inputs.{bytes_of, IsEmpty, IsNonempty}
use Rattle.jj_diff.specs.Hunks.{matched_start, matched_end}
use Rattle.jj_diff.proofs.Rows.{prefix_skip, prefix_matching, length-bytes_of}
use Rattle.jj_diff.proofs.Progress.{match_row, start_matching, start_skipped, end_matching, end_skipped, last_skipped}
use Rattle.jj_diff.proofs.diff.progress.push_matching.Goals as goal

pub returns-then-is_empty-clause-prefix : goal.returns-then-is_empty-clause-prefix
returns-then-is_empty-clause-prefix g c =
    let empty : IsEmpty (bytes_of c.in_ok-row.row.items) = rw c.deref.ensures.value at (c.is_empty.ensures.empty c.if-is_empty.true) in
    prefix_skip g.C.CompareBytes.canonical (g.T.Tokenizer.is_end c.args.tokenizer.now) (bytes_of c.args.inputs.now) c.args.hunks.now.items c.args.starts.now c.args.ends.now
    c.requires.prefix c.requires.pending.ranges (bytes_of c.in_ok-row.row.items) c.in_ok-row.ensures empty

pub returns-then-is_empty-clause-last : goal.returns-then-is_empty-clause-last
returns-then-is_empty-clause-last g c =
    let empty : IsEmpty (bytes_of c.in_ok-row.row.items) = rw c.deref.ensures.value at (c.is_empty.ensures.empty c.if-is_empty.true) in
    last_skipped g.C.CompareBytes.canonical (g.T.Tokenizer.is_end c.args.tokenizer.now) (bytes_of c.args.inputs.now) c.args.hunks.now.items (bytes_of c.in_ok-row.row.items)
    c.args.starts.now c.args.ends.now c.requires.pending.ranges c.in_ok-row.ensures empty

pub returns-then-is_empty-clause-end : goal.returns-then-is_empty-clause-end
returns-then-is_empty-clause-end g c = λ n le.
    let empty : IsEmpty (bytes_of c.in_ok-row.row.items) = rw c.deref.ensures.value at (c.is_empty.ensures.empty c.if-is_empty.true) in
    let some : 0 < length (bytes_of c.args.inputs.now) = omega (arith, c.requires.some, length-bytes_of c.args.inputs.now) in
    end_skipped g.C.CompareBytes.canonical (g.T.Tokenizer.is_end c.args.tokenizer.now) (bytes_of c.args.inputs.now) (bytes_of c.in_ok-row.row.items)
    c.args.starts.now c.args.ends.now (matched_end c.args.hunks.now.items) n some c.requires.pending.ranges c.in_ok-row.ensures empty le

pub returns-then-is_empty-clause-start : goal.returns-then-is_empty-clause-start
returns-then-is_empty-clause-start g c = λ n at.
    let empty : IsEmpty (bytes_of c.in_ok-row.row.items) = rw c.deref.ensures.value at (c.is_empty.ensures.empty c.if-is_empty.true) in
    let some : 0 < length (bytes_of c.args.inputs.now) = omega (arith, c.requires.some, length-bytes_of c.args.inputs.now) in
    start_skipped g.C.CompareBytes.canonical (g.T.Tokenizer.is_end c.args.tokenizer.now) (bytes_of c.args.inputs.now) c.args.hunks.now.items (bytes_of c.in_ok-row.row.items)
    c.args.starts.now c.args.ends.now n c.requires.prefix some c.requires.pending.ranges c.in_ok-row.ensures empty at

pub returns-clause-prefix : goal.returns-clause-prefix
returns-clause-prefix g c =
    let nonempty : IsNonempty (bytes_of c.in_ok-row.row.items) = rw c.deref.ensures.value at (c.is_empty.ensures.nonempty c.if-is_empty.false) in
    let h : DiffHunk = record { kind = Matching; contents = c.in_ok-row.row } in
    rw c.in_ok-push.ensures.items (
    prefix_matching g.C.CompareBytes.canonical (g.T.Tokenizer.is_end c.args.tokenizer.now) (bytes_of c.args.inputs.now) c.args.hunks.now.items c.args.starts.now c.args.ends.now h refl
    c.requires.prefix c.requires.pending.ranges c.requires.pending.cuts c.in_ok-row.ensures nonempty
    (match_row g.C.CompareBytes.canonical (g.T.Tokenizer.is_end c.args.tokenizer.now) (bytes_of c.args.inputs.now) c.args.starts.now c.args.ends.now (bytes_of c.in_ok-row.row.items) c.requires.pending c.in_ok-row.ensures)
    c.requires.last)

pub returns-clause-end : goal.returns-clause-end
returns-clause-end g c = λ n le.
    let h : DiffHunk = record { kind = Matching; contents = c.in_ok-row.row } in
    let some : 0 < length (bytes_of c.args.inputs.now) = omega (arith, c.requires.some, length-bytes_of c.args.inputs.now) in
    subst (λ gs. n ≤ matched_end gs) (sym c.in_ok-push.ensures.items) (
    end_matching g.C.CompareBytes.canonical (g.T.Tokenizer.is_end c.args.tokenizer.now) (bytes_of c.args.inputs.now) c.args.hunks.now.items h c.args.starts.now c.args.ends.now n
    some c.requires.pending.ranges c.in_ok-row.ensures refl le)

pub returns-clause-start : goal.returns-clause-start
returns-clause-start g c = λ n at.
    let h : DiffHunk = record { kind = Matching; contents = c.in_ok-row.row } in
    let some : 0 < length (bytes_of c.args.inputs.now) = omega (arith, c.requires.some, length-bytes_of c.args.inputs.now) in
    subst (λ gs. n ≤ matched_start gs) (sym c.in_ok-push.ensures.items) (
    start_matching g.C.CompareBytes.canonical (g.T.Tokenizer.is_end c.args.tokenizer.now) (bytes_of c.args.inputs.now) c.args.hunks.now.items h c.args.starts.now c.args.ends.now n
    c.requires.prefix some c.requires.pending.ranges c.in_ok-row.ensures refl at)
