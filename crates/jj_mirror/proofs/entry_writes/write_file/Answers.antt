use Rattle.std.proofs.Common.{◌≡◌, ap}
use Rattle.std.proofs.lemmas.Result.{err_from_is_err_and}
use Rattle.jj_mirror.specs.Entries.{LogEntryValue}
use Rattle.jj_mirror.proofs.EntryErrors.{file_added, file_error}
use Rattle.jj_mirror.proofs.entry_writes.write_file.Goals as goal

pub returns-in_err-id-clause-error : goal.returns-in_err-id-clause-error
returns-in_err-id-clause-error c =
    let bytes : c.args.entry.now.bytes ≡ c.deref.result.now = cc (ap (λ (e : LogEntryValue). e.bytes) c.entry.view_is, c.deref.ensures.value) in
    let p = err_from_is_err_and c.from_residual.result c.from_residual.ensures.1 in
    rw p.1 (file_error c.args.backend.now c.args.entry.now c.deref.result.now c.in_err-id.field-0.0 p.0 c.requires.id_length c.requires.kind bytes c.in_err-id.ensures.error p.2)

pub returns-clause-ok : goal.returns-clause-ok
returns-clause-ok c =
    let bytes : c.args.entry.now.bytes ≡ c.deref.result.now = cc (ap (λ (e : LogEntryValue). e.bytes) c.entry.view_is, c.deref.ensures.value) in
    file_added c.args.backend.now c.write_file.new.self c.args.entry.now c.deref.result.now c.in_ok-id.id c.requires.id_length c.requires.kind bytes c.in_ok-id.ensures.id c.in_ok-check_id.ensures.ok
    c.in_ok-id.ensures.ok c.in_ok-id.ensures.frame
