use Rattle.std.proofs.Common.{◌≡◌, [], ◌∷◌, map, sym, subst}
use Rattle.jj_diff.specs.Inputs.{bytes_of}
use Rattle.jj_content_merges.specs.Files.{terms_of}
use Rattle.jj_content_merges.proofs.Resolving.{text, resolves_bytes, resolves_texts, resolves_unique, whole_merge}
use Rattle.jj_content_merges.proofs.files.merge_terms.Goals as goal

pub returns-in_ok-merged-in-Some-clause-merge : goal.returns-in_ok-merged-in-Some-clause-merge
returns-in_ok-merged-in-Some-clause-merge c =
    whole_merge c.args.options.now.hunk_level c.args.options.now.same_change (bytes_of c.args.terms.now) c.in-Some.value.now.now
    (map terms_of c.in_ok-merged-in-Some.merged.items) c.in_ok-merged-in-Some.ensures
    (resolves_bytes c.args.terms.now c.args.options.now.same_change c.in-Some.value.now c.in-Some.ensures.resolved)

pub returns-in_ok-merged-in-Some-clause-whole : goal.returns-in_ok-merged-in-Some-clause-whole
returns-in_ok-merged-in-Some-clause-whole c = λ v r.
    subst (λ x. map terms_of c.in_ok-merged-in-Some.merged.items ≡ (x ∷ []) ∷ [])
    (sym (resolves_unique c.args.options.now.same_change (bytes_of c.args.terms.now) v c.in-Some.value.now.now r
    (resolves_bytes c.args.terms.now c.args.options.now.same_change c.in-Some.value.now c.in-Some.ensures.resolved)))
    c.in_ok-merged-in-Some.ensures

pub returns-in_ok-merged-in-None-clause-whole : goal.returns-in_ok-merged-in-None-clause-whole
returns-in_ok-merged-in-None-clause-whole c = λ v r.
    absurd (c.in-None.ensures.unresolved (text v) (resolves_texts c.args.terms.now c.args.options.now.same_change v r))
