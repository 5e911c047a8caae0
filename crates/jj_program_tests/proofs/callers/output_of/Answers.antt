use Rattle.std.proofs.Common.{ℕ, List, Some, true, ap, ◌∙◌, ◌≢◌}
use Rattle.std.proofs.lemmas.Result.{err_from_is_err_and}
use denote.Ref.{Bor}
use Rattle.jj_files.specs.WatchedFields.{watched_inner}
use Rattle.jj_filter.proofs.InMemory.{failed, fails_at, wrote}
use Rattle.jj_filter.specs.declared.failure.Failure.TheVariants.{WriteOutput}
use Rattle.jj_program.specs.Program.{OutputsOf, ReportsOf}
use Rattle.jj_program_tests.specs.Outputs.{CanFailBy}
use Rattle.jj_program_tests.proofs.InMemory.{not_closed}
use Rattle.jj_program_tests.proofs.callers.output_of.Goals as goal

pub returns-clause-done : goal.returns-clause-done
returns-clause-done c =
    wrote (OutputsOf c.args.command) (ReportsOf c.args.command) c.args.input.now (watched_inner c.new-reader.result).now (ap (λ (s : Bor (List ℕ)). s.now) c.new-reader.ensures.inner)
    (Some (watched_inner c.run.new.reader).now) (watched_inner c.new-writer.result).items (watched_inner c.run.new.writer).items c.into_inner.result.items
    (ap (λ v. v.items) c.new-writer.ensures.inner ∙ c.new.ensures.items) (ap (λ v. v.items) c.into_inner.ensures) _ c.in_ok-run.ensures.ends

pub returns-in_err-run-clause-fails : goal.returns-in_err-run-clause-fails
returns-in_err-run-clause-fails c =
    let p = err_from_is_err_and c.from_residual.result c.from_residual.ensures.1 in
    fails_at (CanFailBy c.args.command c.args.input.now) c.from_residual.result p.0 c.in_err-run.field-0.0 p.1 p.2
    (failed (OutputsOf c.args.command) (ReportsOf c.args.command) c.args.input.now (watched_inner c.new-reader.result).now (ap (λ (s : Bor (List ℕ)). s.now) c.new-reader.ensures.inner)
    (Some (watched_inner c.run.new.reader).now) (Some (watched_inner c.new-writer.result).items) (Some (watched_inner c.run.new.writer).items) c.in_err-run.field-0.0 c.in_err-run.ensures.ends)

pub returns-in_err-run-clause-never_closed : goal.returns-in_err-run-clause-never_closed
returns-in_err-run-clause-never_closed c =
    let p = err_from_is_err_and c.from_residual.result c.from_residual.ensures.1 in
    fails_at (λ failure. failure ≢ WriteOutput true) c.from_residual.result p.0 c.in_err-run.field-0.0 p.1 p.2
    (not_closed (Unit {0}) c.in_err-run.field-0.0 c.in_err-run.ensures.closed)
