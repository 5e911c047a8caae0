use Rattle.std.proofs.Common.{◌∙◌, ap, length, map}
use Rattle.std.proofs.lemmas.List.{length-map}
use Rattle.jj_file_merges.specs.MergedTrees.{IsOutcome, outcome_value}
use Rattle.jj_file_merges.proofs.Outcomes.{adds_both}
use Rattle.jj_file_merges.proofs.Zips.{zip_length}
use Rattle.jj_file_merges.proofs.trees.merge_files.Goals as goal

pub write_back-requires : goal.write_back-requires
write_back-requires g c =
    ap length (c.deref-3.ensures.value ∙ c.in_ok-chosen.ensures ∙ ap (map outcome_value) c.deref-2.ensures.value)
    ∙ length-map c.in_ok-outcomes.outcomes.items outcome_value
    ∙ zip_length (IsOutcome (g.B.Backend.objects c.merge_conflicts.new.backend).files c.args.options.now.hunk_level c.args.options.now.same_change c.args.style) c.deref.result.now c.in_ok-outcomes.outcomes.items c.in_ok-outcomes.ensures.outcomes
    ∙ ap length c.deref.ensures.value

pub returns-in_err-tree-clause-objects : goal.returns-in_err-tree-clause-objects
returns-in_err-tree-clause-objects g c =
    adds_both (g.B.Backend.objects c.args.backend.now) (g.B.Backend.objects c.merge_conflicts.new.backend) (g.B.Backend.objects c.write_back.new.backend) c.in_ok-outcomes.ensures.objects c.in_err-tree.ensures.objects

pub returns-clause-objects : goal.returns-clause-objects
returns-clause-objects g c =
    adds_both (g.B.Backend.objects c.args.backend.now) (g.B.Backend.objects c.merge_conflicts.new.backend) (g.B.Backend.objects c.write_back.new.backend) c.in_ok-outcomes.ensures.objects c.in_ok-tree.ensures.objects
