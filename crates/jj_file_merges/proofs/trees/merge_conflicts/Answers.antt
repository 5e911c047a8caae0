use Rattle.std.proofs.Common.{◌≡◌, ◌∙◌, inr, subst, sym, take}
use Rattle.std.proofs.lemmas.Result.{err_from_is_err_and}
use Rattle.jj_paths.specs.Names.{path_of}
use Rattle.jj_file_merges.specs.MergedTrees.{IsConflictError, IsOutcome, PathConflict}
use Rattle.jj_file_merges.proofs.Outcomes.{adds_more, outcomes_grow}
use Rattle.jj_file_merges.proofs.Zips.{zip_more}
use Rattle.jj_file_merges.proofs.trees.merge_conflicts.Goals as goal

pub returns-in_err-outcome-clause-error : goal.returns-in_err-outcome-clause-error
returns-in_err-outcome-clause-error g c =
    let item = c.loop-path-item.result in
    let here : ◌≡◌ {A = PathConflict} (path_of c.as_path-path.result, item.1, item.2) item = λ i. (c.as_path-path.ensures i, item.1, item.2) in
    let error = c.in_err-outcome.ensures.error in
    let p = err_from_is_err_and c.from_residual-in_err-outcome.result c.from_residual-in_err-outcome.ensures.1 in
    rw (p.1, p.2)
    (inr (
      c.loop-path.path-index,
      item,
      c.loop-path-test.true,
      sym c.loop-path-item.is,
      subst (λ (conflict : PathConflict). IsConflictError g.B.Backend.objects g.B.Backend.may_fail g.B.Backend.may_fail_to_write c.args.options.now.hunk_level c.args.options.now.same_change c.args.style c.args.backend.now conflict c.in_err-outcome.field-0.0) here
          (error.0, adds_more (g.B.Backend.objects c.args.backend.now) (g.B.Backend.objects c.loop-path.backend) (g.B.Backend.objects error.0) c.loop-path.invariant.objects error.1, error.2),
    ))

pub loop-path-preserved : goal.loop-path-preserved
loop-path-preserved g c =
    let level = c.args.options.now.hunk_level in
    let same = c.args.options.now.same_change in
    let old = g.B.Backend.objects c.args.backend.now in
    let mid = g.B.Backend.objects c.loop-path.backend in
    let new = g.B.Backend.objects c.merge_conflict.new.backend in
    let item = c.loop-path-item.result in
    let here : ◌≡◌ {A = PathConflict} (path_of c.as_path-path.result, item.1, item.2) item = λ i. (c.as_path-path.ensures i, item.1, item.2) in
    record {
      outcomes = rw c.in_ok-push.ensures.items
          (zip_more (IsOutcome new.files level same c.args.style) c.args.conflicts.now c.loop-path.outcomes.items c.loop-path.path-index item c.in_ok-outcome.outcome c.loop-path-test.true c.loop-path-item.is
          (outcomes_grow mid.files new.files c.in_ok-outcome.ensures.objects.kept level same c.args.style (take c.loop-path.path-index c.args.conflicts.now) c.loop-path.outcomes.items c.loop-path.invariant.outcomes)
          (subst (λ (conflict : PathConflict). IsOutcome new.files level same c.args.style conflict c.in_ok-outcome.outcome) here c.in_ok-outcome.ensures.outcome));
      objects = adds_more old mid new c.loop-path.invariant.objects c.in_ok-outcome.ensures.objects;
      fixed = c.in_ok-outcome.ensures.fixed ∙ c.loop-path.invariant.fixed;
    }
