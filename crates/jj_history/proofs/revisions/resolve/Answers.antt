use Rattle.std.proofs.Common.{rules, ◌≡◌, None, subst}
use Rattle.std.proofs.lemmas.Result.{IfErr-weaker}
use Rattle.jj_history.specs.Revisions.{IsChoiceError, commits_at, ref_commit}
use Rattle.jj_history.proofs.RevisionErrors.{without_ref}
use Rattle.jj_history.proofs.revisions.resolve.Goals as goal

pub returns-clause-error : goal.returns-clause-error
returns-clause-error c =
    let no_ref : ref_commit c.args.refs.now c.args.revision.now ≡ None = search rules in
    let same : c.deref.result.now ≡ commits_at c.args.git_ids.now c.args.ids.now c.args.revision.now = cc (c.deref.ensures.value, c.in_ok-found.ensures) in
    IfErr-weaker c.choose.result _ _ (λ e h. without_ref c.args.refs.now c.args.git_ids.now c.args.ids.now c.args.revision.now no_ref e
    (subst (λ found. IsChoiceError found c.args.revision.now e) same h)) c.choose.ensures.error
