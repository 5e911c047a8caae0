use Rattle.jj_temp_files_tests.proofs.WriteErrors.{error_at_path_or_temp}
use Rattle.jj_temp_files_tests.proofs.callers.store_object.Goals as goal

pub returns-clause-error : goal.returns-clause-error
returns-clause-error g c =
    error_at_path_or_temp g.A.FileAccess.may_create g.A.FileAccess.may_write g.A.FileAccess.may_sync
    g.A.FileAccess.may_rename g.A.FileAccess.may_remove
    c.args.dir.now c.args.names.now c.write_file.new.names c.args.path.now c.args.object.now
    c.args.files.now c.write_file.new.files c.write_file.result c.write_file.ensures.failed
