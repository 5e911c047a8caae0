use Rattle.jj_temp_files.proofs.CrashLemmas.{persisted, persisted_contents, persisted_elsewhere}
use Rattle.jj_temp_files.proofs.whole_files.persist_whole.Goals as goal

pub returns-in-Ok-clause-crash : goal.returns-in-Ok-clause-crash
returns-in-Ok-clause-crash g c = λ created apart.
    persisted g.A.CrashSafe.moment g.A.CrashSafe.left_since g.A.CrashSafe.contents g.A.CrashSafe.may_leave
    g.A.CrashSafe.created_at g.A.CrashSafe.written g.A.FileAccess.may_sync g.A.FileAccess.may_rename g.A.FileAccess.may_remove
    g.met.A.CrashSafe.syncs g.met.A.CrashSafe.renames g.met.A.CrashSafe.removes
    c.args.temp_file c.args.path.now created apart c.args.files.now c.persist_temp_file.new.files c.persist_temp_file.result c.persist_temp_file.ensures

pub returns-in-Ok-clause-others : goal.returns-in-Ok-clause-others
returns-in-Ok-clause-others g c = λ other not_path not_temp.
    persisted_elsewhere g.A.CrashSafe.moment g.A.CrashSafe.left_since g.A.CrashSafe.contents g.A.CrashSafe.may_leave
    g.A.CrashSafe.created_at g.A.CrashSafe.written g.A.FileAccess.may_sync g.A.FileAccess.may_rename g.A.FileAccess.may_remove
    g.met.A.CrashSafe.syncs g.met.A.CrashSafe.renames g.met.A.CrashSafe.removes
    c.args.temp_file c.args.path.now other not_path not_temp c.args.files.now c.persist_temp_file.new.files c.persist_temp_file.result c.persist_temp_file.ensures

pub returns-in-Ok-clause-contents : goal.returns-in-Ok-clause-contents
returns-in-Ok-clause-contents g c = λ apart.
    let replaced = persisted_contents g.A.CrashSafe.moment g.A.CrashSafe.left_since g.A.CrashSafe.contents g.A.CrashSafe.may_leave
    g.A.CrashSafe.created_at g.A.CrashSafe.written g.A.FileAccess.may_sync g.A.FileAccess.may_rename g.A.FileAccess.may_remove
    g.met.A.CrashSafe.syncs g.met.A.CrashSafe.renames g.met.A.CrashSafe.removes
    c.args.temp_file c.args.path.now apart c.args.files.now c.persist_temp_file.new.files c.persist_temp_file.result c.persist_temp_file.ensures in
    rw c.in-Ok.is at replaced

pub returns-in-Err-clause-crash : goal.returns-in-Err-clause-crash
returns-in-Err-clause-crash g c = λ created apart.
    persisted g.A.CrashSafe.moment g.A.CrashSafe.left_since g.A.CrashSafe.contents g.A.CrashSafe.may_leave
    g.A.CrashSafe.created_at g.A.CrashSafe.written g.A.FileAccess.may_sync g.A.FileAccess.may_rename g.A.FileAccess.may_remove
    g.met.A.CrashSafe.syncs g.met.A.CrashSafe.renames g.met.A.CrashSafe.removes
    c.args.temp_file c.args.path.now created apart c.args.files.now c.persist_temp_file.new.files c.persist_temp_file.result c.persist_temp_file.ensures

pub returns-in-Err-clause-others : goal.returns-in-Err-clause-others
returns-in-Err-clause-others g c = λ other not_path not_temp.
    persisted_elsewhere g.A.CrashSafe.moment g.A.CrashSafe.left_since g.A.CrashSafe.contents g.A.CrashSafe.may_leave
    g.A.CrashSafe.created_at g.A.CrashSafe.written g.A.FileAccess.may_sync g.A.FileAccess.may_rename g.A.FileAccess.may_remove
    g.met.A.CrashSafe.syncs g.met.A.CrashSafe.renames g.met.A.CrashSafe.removes
    c.args.temp_file c.args.path.now other not_path not_temp c.args.files.now c.persist_temp_file.new.files c.persist_temp_file.result c.persist_temp_file.ensures

pub returns-in-Err-clause-contents : goal.returns-in-Err-clause-contents
returns-in-Err-clause-contents g c = λ apart.
    let replaced = persisted_contents g.A.CrashSafe.moment g.A.CrashSafe.left_since g.A.CrashSafe.contents g.A.CrashSafe.may_leave
    g.A.CrashSafe.created_at g.A.CrashSafe.written g.A.FileAccess.may_sync g.A.FileAccess.may_rename g.A.FileAccess.may_remove
    g.met.A.CrashSafe.syncs g.met.A.CrashSafe.renames g.met.A.CrashSafe.removes
    c.args.temp_file c.args.path.now apart c.args.files.now c.persist_temp_file.new.files c.persist_temp_file.result c.persist_temp_file.ensures in
    rw c.in-Err.is at replaced
