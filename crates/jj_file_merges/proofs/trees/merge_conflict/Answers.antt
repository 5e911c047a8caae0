use Rattle.std.proofs.Common.{None, Option, inl, inr, subst, sym}
use Rattle.std.proofs.lemmas.Result.{IfErr-weaker, IfOk-weaker, err_from_is_err_and}
use Rattle.jj_paths.specs.Names.{path_of}
use Rattle.jj_conflicts.specs.declared.conflicts.ConflictMarkerStyle.{ConflictMarkerStyle}
use Rattle.jj_file_merges.specs.MergedTrees.{IsOutcome, IsStyleError}
use Rattle.jj_file_merges.specs.Resolutions.{IsFileResolution}
use Rattle.jj_file_merges.proofs.Growth.{resolution_grows}
use Rattle.jj_file_merges.proofs.Outcomes.{adds_none, adds_resolution, style_outcome}
use Rattle.jj_file_merges.proofs.trees.merge_conflict.Goals as goal

pub returns-in_err-file-clause-error : goal.returns-in_err-file-clause-error
returns-in_err-file-clause-error g c =
    let p = err_from_is_err_and c.from_residual.result c.from_residual.ensures.1 in
    rw (p.1, p.2) (c.args.backend.now, adds_none (g.B.Backend.objects c.args.backend.now), inl c.in_err-file.ensures.error)

pub returns-in-Some-style-clause-outcome : goal.returns-in-Some-style-clause-outcome
returns-in-Some-style-clause-outcome g c =
    let level = c.args.options.now.hunk_level in
    let same = c.args.options.now.same_change in
    let values = c.args.values.now in
    let labels = c.args.labels.now in
    let mid = (g.B.Backend.objects c.try_resolve_file_conflict.new.backend).files in
    let files = (g.B.Backend.objects c.mark_conflict.new.backend).files in
    IfOk-weaker c.mark_conflict.result _ _ (λ outcome h.
    subst (λ (style : Option ConflictMarkerStyle). IsOutcome files level same style (path_of c.args.path, values, labels) outcome) (sym c.in-Some-style.is)
    (style_outcome level same c.in-Some-style.style values labels files (path_of c.args.path) outcome
    (resolution_grows mid files c.mark_conflict.ensures.objects.kept level same values None (subst (IsFileResolution mid level same values) c.in_default.is c.in_ok-file.ensures.resolution)) h))
    c.mark_conflict.ensures.outcome

pub returns-in-Some-style-clause-error : goal.returns-in-Some-style-clause-error
returns-in-Some-style-clause-error g c =
    let old = g.B.Backend.objects c.args.backend.now in
    let mid = g.B.Backend.objects c.try_resolve_file_conflict.new.backend in
    IfErr-weaker c.mark_conflict.result _ _ (λ e h. (
      c.try_resolve_file_conflict.new.backend,
      adds_resolution old mid c.in_ok-file.field-0 c.in_ok-file.ensures.writes,
      inr (subst (λ (style : Option ConflictMarkerStyle). IsStyleError g.B.Backend.objects g.B.Backend.may_fail g.B.Backend.may_fail_to_write c.args.options.now.hunk_level c.args.options.now.same_change style c.try_resolve_file_conflict.new.backend (path_of c.args.path, c.args.values.now, c.args.labels.now) e) (sym c.in-Some-style.is) h),
    )) c.mark_conflict.ensures.error
