use Rattle.jj_paths_tests.proofs.EmptiedDirs.{created, emptied, tells_ok}
use Rattle.jj_paths_tests.proofs.fs_callers.make_empty_dir.Goals as goal

pub returns-in_err-create_or_reuse_dir-clause-changes : goal.returns-in_err-create_or_reuse_dir-clause-changes
returns-in_err-create_or_reuse_dir-clause-changes g c =
    let D = g.D.DirAccess in
    created D.is_directory D.may_create D.may_remove D.may_list c.args.path.now c.args.dirs.now c.create_or_reuse_dir.new.dirs _ c.create_or_reuse_dir.ensures

pub returns-in_err-remove_dir_contents-clause-changes : goal.returns-in_err-remove_dir_contents-clause-changes
returns-in_err-remove_dir_contents-clause-changes g c =
    let D = g.D.DirAccess in
    let made = created D.is_directory D.may_create D.may_remove D.may_list c.args.path.now c.args.dirs.now c.create_or_reuse_dir.new.dirs _ c.create_or_reuse_dir.ensures in
    emptied D.is_directory D.may_create D.may_remove D.may_list c.args.path.now c.args.dirs.now c.create_or_reuse_dir.new.dirs c.remove_dir_contents.new.dirs _ made
    c.remove_dir_contents.ensures

pub returns-clause-empty : goal.returns-clause-empty
returns-clause-empty g c =
    let D = g.D.DirAccess in
    tells_ok D.is_directory D.may_create D.may_remove D.may_list c.args.path.now c.remove_dir_contents.new.dirs _ c.is_empty_dir.ensures

pub returns-clause-changes : goal.returns-clause-changes
returns-clause-changes g c =
    let D = g.D.DirAccess in
    let made = created D.is_directory D.may_create D.may_remove D.may_list c.args.path.now c.args.dirs.now c.create_or_reuse_dir.new.dirs _ c.create_or_reuse_dir.ensures in
    emptied D.is_directory D.may_create D.may_remove D.may_list c.args.path.now c.args.dirs.now c.create_or_reuse_dir.new.dirs c.remove_dir_contents.new.dirs _ made
    c.remove_dir_contents.ensures
