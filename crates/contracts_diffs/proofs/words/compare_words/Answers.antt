use Rattle.std.proofs.Common.{lit<}
use Rattle.jj_diff.specs.Inputs.{bytes_of}
use Rattle.contracts_diffs.proofs.Refined.{words_of, kept_of, trimmed_of, refined_start, refined_end}
use Rattle.contracts_diffs.proofs.words.compare_words.Goals as goal

pub returns-clause-left : goal.returns-clause-left
returns-clause-left c =
    (words_of (bytes_of c.in_ok-compared.compared.inputs.items) c.args.left.now c.args.right.now c.in_ok-compared.compared.hunks.items c.refine_changed_regions.new.self.hunks.items c.in_ok-compared.ensures.inputs c.in_ok-compared.ensures.diff c.in_ok-refine_changed_regions.ensures.diff).sides 0 (lit< tt)

pub returns-clause-right : goal.returns-clause-right
returns-clause-right c =
    (words_of (bytes_of c.in_ok-compared.compared.inputs.items) c.args.left.now c.args.right.now c.in_ok-compared.compared.hunks.items c.refine_changed_regions.new.self.hunks.items c.in_ok-compared.ensures.inputs c.in_ok-compared.ensures.diff c.in_ok-refine_changed_regions.ensures.diff).sides 1 (lit< tt)

pub returns-clause-before : goal.returns-clause-before
returns-clause-before c =
    refined_start (bytes_of c.in_ok-compared.compared.inputs.items) c.args.left.now c.args.right.now c.in_ok-compared.compared.hunks.items c.refine_changed_regions.new.self.hunks.items c.in_ok-compared.ensures.inputs c.in_ok-compared.ensures.diff c.in_ok-compared.ensures.ends c.in_ok-refine_changed_regions.ensures.ends

pub returns-clause-after : goal.returns-clause-after
returns-clause-after c =
    refined_end (bytes_of c.in_ok-compared.compared.inputs.items) c.args.left.now c.args.right.now c.in_ok-compared.compared.hunks.items c.refine_changed_regions.new.self.hunks.items c.in_ok-compared.ensures.inputs c.in_ok-compared.ensures.diff c.in_ok-compared.ensures.ends c.in_ok-refine_changed_regions.ensures.ends

pub returns-clause-kept : goal.returns-clause-kept
returns-clause-kept c = (
  c.in_ok-compared.compared.hunks.items,
  c.in_ok-compared.ensures.diff,
  c.in_ok-compared.ensures.ends,
  kept_of (bytes_of c.in_ok-compared.compared.inputs.items) c.args.left.now c.args.right.now c.in_ok-compared.compared.hunks.items c.refine_changed_regions.new.self.hunks.items c.in_ok-compared.ensures.inputs c.in_ok-compared.ensures.diff c.in_ok-refine_changed_regions.ensures.kept,
)

pub returns-clause-trimmed : goal.returns-clause-trimmed
returns-clause-trimmed c =
    trimmed_of (bytes_of c.in_ok-compared.compared.inputs.items) c.args.left.now c.args.right.now c.in_ok-compared.compared.hunks.items c.refine_changed_regions.new.self.hunks.items c.in_ok-compared.ensures.inputs c.in_ok-compared.ensures.diff c.in_ok-refine_changed_regions.ensures.trimmed
