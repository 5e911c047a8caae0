use Rattle.std.proofs.Common.{◌≡◌, ◌∙◌, ℕ, List, None, ap, inr, map, subst}
use Rattle.std.proofs.lemmas.Result.{err_from_is_err_and}
use Rattle.jj_file_merges.specs.Resolutions.{IsFileError, IsMergedFile}
use Rattle.jj_file_merges.specs.declared.terms.FileTerm.{FileTerm}
use Rattle.jj_file_merges.proofs.resolving.try_resolve_file_conflict.Goals as goal

pub returns-in_err-id-clause-error : goal.returns-in_err-id-clause-error
returns-in_err-id-clause-error g c =
    let ids : c.deref-4.result.now ≡ map (λ (t : FileTerm). t.id) c.in-Some.terms.items = c.deref-4.ensures.value ∙ c.in_ok-ids.ensures ∙ ap (map (λ (t : FileTerm). t.id)) c.deref-3.ensures.value in
    let p = err_from_is_err_and c.from_residual-in_err-id.result c.from_residual-in_err-id.ensures.1 in
    rw (p.1, p.2)
    (inr (
      c.in-Some.terms.items,
      rw c.in-Some.is at c.in_ok-terms.ensures.terms,
      subst (λ (l : List (List ℕ)). IsFileError (g.B.Backend.objects c.args.backend.now).files c.args.options.now.hunk_level c.args.options.now.same_change (g.B.Backend.may_fail c.args.backend.now) (g.B.Backend.may_fail_to_write c.args.backend.now) l c.in_err-id.field-0.0)
          ids c.in_err-id.ensures.error,
    ))

pub returns-in_default-4-clause-resolution : goal.returns-in_default-4-clause-resolution
returns-in_default-4-clause-resolution g c =
    let ids : c.deref-4.result.now ≡ map (λ (t : FileTerm). t.id) c.in-Some.terms.items = c.deref-4.ensures.value ∙ c.in_ok-ids.ensures ∙ ap (map (λ (t : FileTerm). t.id)) c.deref-3.ensures.value in
    let files = (g.B.Backend.objects c.merge_file.new.backend).files in
    let level = c.args.options.now.hunk_level in
    let same = c.args.options.now.same_change in
    inr (
      c.in-Some.terms.items,
      rw c.in-Some.is at c.in_ok-terms.ensures.terms,
      inr (inr (subst (λ (l : List (List ℕ)). IsMergedFile files level same l None) ids
          (subst (IsMergedFile files level same c.deref-4.result.now) c.in_default-4.is c.in_ok-id.ensures.file))),
    )
