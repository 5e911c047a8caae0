use Rattle.std.proofs.Common.{◌≡◌, ◌∙◌, ◌==◌, Bor, List, ℕ, ap, map, subst}
use Rattle.std.specs.List.{slice_split}
use Rattle.std.proofs.lemmas.Result.{err_from_is_err_and}
use Rattle.jj_filesets.specs.Listing.{IsLineError, lines_of}
use Rattle.jj_filesets.proofs.listing.select_lines.Goals as goal

pub returns-in_err-invalid-clause-error : goal.returns-in_err-invalid-clause-error
returns-in_err-invalid-clause-error c =
    let split : map (λ (l : Bor (List ℕ)). l.now) c.deref.result.now ≡ lines_of c.args.options.nul c.args.input.now =
    ap (map (λ (l : Bor (List ℕ)). l.now)) c.deref.ensures.value ∙ c.in_ok-lines.ensures
    ∙ ap (λ end. slice_split (λ b. b == end) c.args.input.now) c.separator-separator.ensures in
    let p = err_from_is_err_and c.from_residual-in_err-invalid.result c.from_residual-in_err-invalid.ensures.1 in
    rw (p.1, p.2) (subst (λ lines. IsLineError c.args.options lines c.in_err-invalid.field-0.0) split c.in_err-invalid.ensures.error)
