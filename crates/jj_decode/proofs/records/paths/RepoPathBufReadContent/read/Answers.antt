use Rattle.std.proofs.Common.{inl, ap, refl}
use Rattle.std.proofs.lemmas.Result.{err_from_is_err_and}
use Rattle.std.specs.Prelude.{string_bytes}
use Rattle.jj_paths.specs.Contents.{IsPathText}
use Rattle.jj_paths.specs.Paths.{components, is_path_string}
use Rattle.jj_paths.proofs.PathStrings.{path_string-components}
use Rattle.jj_decode.proofs.ValidStrings.{string_at, not_valid, none_if_invalid, string_error}
use Rattle.jj_decode.proofs.records.paths.RepoPathBufReadContent.read.Goals as goal

pub returns-in_err-text-clause-malformed : goal.returns-in_err-text-clause-malformed
returns-in_err-text-clause-malformed c =
    let p = err_from_is_err_and c.from_residual.result c.from_residual.ensures.1 in
    rw (p.1, p.2) (string_error IsPathText (λ _ valid. valid.1) c.args.bytes.now c.args.start c.in_err-text.field-0.0 c.in_err-text.ensures.malformed)

pub returns-in-Ok-clause-decoded : goal.returns-in-Ok-clause-decoded
returns-in-Ok-clause-decoded c =
    let same = path_string-components (string_bytes c.in_ok-text.text) in
    let s = c.in_ok-text.ensures.decoded in
    let valid = c.in-Ok.ensures.only_valid refl in
    rw c.in-Ok.ensures.ok (record { valid = (ap components same, rw same (valid, s.valid)); split = rw same s.split; within = s.within })

pub returns-in-Err-clause-malformed : goal.returns-in-Err-clause-malformed
returns-in-Err-clause-malformed c =
    let text = string_bytes c.in_ok-text.text in
    let s = string_at c.args.bytes.now c.args.start c.in_ok-text.end c.in_ok-text.text c.in_ok-text.ensures.decoded in
    rw c.path_error.ensures (none_if_invalid IsPathText (λ _ valid. valid.1) c.args.bytes.now c.args.start text c.in_ok-text.end c.requires s
    (λ valid. not_valid (is_path_string text) text c.in-Err.error c.in-Err.ensures.error valid.0))

pub returns-in_err-text-clause-error : goal.returns-in_err-text-clause-error
returns-in_err-text-clause-error c =
    let p = err_from_is_err_and c.from_residual.result c.from_residual.ensures.1 in
    rw (p.1, p.2) (inl c.in_err-text.ensures.error)
