use Rattle.std.proofs.Common.{inl, refl}
use Rattle.std.proofs.lemmas.Result.{err_from_is_err_and}
use Rattle.std.specs.Prelude.{string_bytes}
use Rattle.jj_paths.specs.Contents.{IsShortName}
use Rattle.jj_paths.specs.Paths.{is_name}
use Rattle.jj_decode.proofs.ValidStrings.{string_at, not_valid, none_if_invalid, string_error}
use Rattle.jj_decode.proofs.records.paths.RepoPathComponentBufReadContent.read.Goals as goal

pub returns-in_err-text-clause-malformed : goal.returns-in_err-text-clause-malformed
returns-in_err-text-clause-malformed c =
    let p = err_from_is_err_and c.from_residual.result c.from_residual.ensures.1 in
    rw (p.1, p.2) (string_error IsShortName (λ _ valid. valid.1) c.args.bytes.now c.args.start c.in_err-text.field-0.0 c.in_err-text.ensures.malformed)

pub returns-in-Ok-clause-decoded : goal.returns-in-Ok-clause-decoded
returns-in-Ok-clause-decoded c =
    let s = c.in_ok-text.ensures.decoded in
    rw c.in-Ok.ensures.ok (record { valid = (c.in-Ok.ensures.only_valid refl, s.valid); split = s.split; within = s.within })

pub returns-in-Err-clause-malformed : goal.returns-in-Err-clause-malformed
returns-in-Err-clause-malformed c =
    let text = string_bytes c.in_ok-text.text in
    let s = string_at c.args.bytes.now c.args.start c.in_ok-text.end c.in_ok-text.text c.in_ok-text.ensures.decoded in
    rw c.path_error.ensures (none_if_invalid IsShortName (λ _ valid. valid.1) c.args.bytes.now c.args.start text c.in_ok-text.end c.requires s
    (λ valid. not_valid (is_name text) text c.in-Err.error c.in-Err.ensures.error valid.0))

pub returns-in_err-text-clause-error : goal.returns-in_err-text-clause-error
returns-in_err-text-clause-error c =
    let p = err_from_is_err_and c.from_residual.result c.from_residual.ensures.1 in
    rw (p.1, p.2) (inl c.in_err-text.ensures.error)
