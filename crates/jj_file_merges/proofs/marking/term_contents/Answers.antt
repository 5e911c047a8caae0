use Rattle.std.proofs.Common.{◌∙◌, ℕ, List, Option, Some, None, Vec, inl, inr, sym}
use Rattle.std.specs.Prelude.{Contains}
use Rattle.std.specs.Global.{Global}
use Rattle.std.proofs.lemmas.List.{length-map}
use Rattle.std.proofs.lemmas.Result.{err_from_is_err_and}
use Rattle.jj_backend.specs.Objects.{ById}
use Rattle.jj_backend.specs.declared.backend.errors.BackendError.{BackendError}
use Rattle.jj_content_merges.specs.Hunks.{merge_contents}
use Rattle.jj_file_merges.specs.Markings.{IsTermContent, IsTermError, IsTermsError}
use Rattle.jj_file_merges.proofs.Zips.{zip_end, zip_length, zip_more_images}
use Rattle.jj_file_merges.proofs.marking.term_contents.Goals as goal

term_error : (files : ById (List ℕ)) (may_fail : BackendError → Type 0) (ids : List (Option (List ℕ))) (id : Option (List ℕ)) (e : BackendError) → Contains ids id → IsTermError files may_fail id e
    → IsTermsError files may_fail ids e
term_error files may_fail ids None e found h = inl h
term_error files may_fail ids (Some id) e found (inl h) = inl h
term_error files may_fail ids (Some id) e found (inr h) = inr (id, found, h)

pub returns-in_err-content-clause-error : goal.returns-in_err-content-clause-error
returns-in_err-content-clause-error g c =
    let p = err_from_is_err_and c.from_residual-in_err-content.result c.from_residual-in_err-content.ensures.1 in
    rw (p.1, p.2)
    (term_error (g.B.Backend.objects c.args.backend.now).files (g.B.Backend.may_fail c.args.backend.now) c.args.ids.now c.id-item.result c.in_err-content.field-0.0
    (c.loop-id.id-index, c.loop-id-test.true, sym c.id-item.is) c.in_err-content.ensures.error)

pub loop-id-preserved : goal.loop-id-preserved
loop-id-preserved g c =
    rw c.in_ok-push.ensures.items
    (zip_more_images (IsTermContent (g.B.Backend.objects c.args.backend.now).files) (λ (v : Vec ℕ Global). v.items) c.args.ids.now c.loop-id.contents.items c.loop-id.id-index c.id-item.result c.in_ok-content.content
    c.loop-id-test.true c.id-item.is c.loop-id.invariant c.in_ok-content.ensures.content)

pub returns-clause-each : goal.returns-clause-each
returns-clause-each g c =
    sym (length-map c.loop-id.contents.items (λ (v : Vec ℕ Global). v.items))
    ∙ zip_length (IsTermContent (g.B.Backend.objects c.args.backend.now).files) c.args.ids.now (merge_contents c.loop-id.contents.items)
    (zip_end (IsTermContent (g.B.Backend.objects c.args.backend.now).files) c.args.ids.now (merge_contents c.loop-id.contents.items) c.loop-id.id-index c.loop-id-test.false c.loop-id.invariant)
