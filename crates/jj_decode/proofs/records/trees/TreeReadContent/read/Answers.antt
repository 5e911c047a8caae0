use Rattle.std.proofs.Common.{rules, inl, inr}
use Rattle.std.proofs.lemmas.Result.{err_from_is_err_and}
use Rattle.jj_decode.proofs.TreeEntries.{tree_error, none_if_unsorted}
use Rattle.jj_decode.proofs.records.trees.TreeReadContent.read.Goals as goal

pub returns-in_err-entries-clause-malformed : goal.returns-in_err-entries-clause-malformed
returns-in_err-entries-clause-malformed c =
    let p = err_from_is_err_and c.from_residual.result c.from_residual.ensures.1 in
    rw (p.1, p.2) (tree_error c.args.bytes.now c.args.start c.in_err-entries.field-0.0 c.in_err-entries.ensures.malformed)

pub returns-then-not-are_sorted-clause-malformed : goal.returns-then-not-are_sorted-clause-malformed
returns-then-not-are_sorted-clause-malformed c =
    rw c.unordered_keys.ensures (none_if_unsorted c.args.bytes.now c.args.start c.in_ok-entries.end c.in_ok-entries.entries.items c.requires c.in_ok-entries.ensures.decoded (search rules))

pub returns-clause-decoded : goal.returns-clause-decoded
returns-clause-decoded c =
    let s = c.in_ok-entries.ensures.decoded in
    rw c.from_sorted_entries.ensures (record { valid = (search rules, s.valid); split = s.split; within = s.within })

pub returns-in_err-entries-clause-error : goal.returns-in_err-entries-clause-error
returns-in_err-entries-clause-error c =
    let p = err_from_is_err_and c.from_residual.result c.from_residual.ensures.1 in
    rw (p.1, p.2) (inl c.in_err-entries.ensures.error)

pub returns-then-not-are_sorted-clause-error : goal.returns-then-not-are_sorted-clause-error
returns-then-not-are_sorted-clause-error c = inr (
  c.in_ok-entries.entries.items,
  c.in_ok-entries.end,
  c.in_ok-entries.ensures.decoded,
  search rules,
  c.unordered_keys.ensures,
)
