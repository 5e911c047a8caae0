use Rattle.std.proofs.Common.{◌≡◌, subst, List, ℕ, Option, Some, string_bytes, inl}
use Rattle.jj_temp_files.specs.Crashes.{ReplacesFile}
use Rattle.jj_temp_files.proofs.CrashLemmas.{changes_twice, unchanged_more, untouched_twice, is_other, leaves_old_or}
use Rattle.jj_temp_files.specs.TempNames.{CreatesTempFile}
use Rattle.jj_temp_files.proofs.WriteErrorLemmas.{unfilled}
use Rattle.jj_temp_files.proofs.whole_files.write_file.Goals as goal

pub returns-in-Err-clause-any_moment : goal.returns-in-Err-clause-any_moment
returns-in-Err-clause-any_moment g c = λ absent.
    leaves_old_or g.A.CrashSafe.moment g.A.CrashSafe.left_since g.A.CrashSafe.may_leave g.A.CrashSafe.only_now
    c.args.files.now c.create_empty.new.files c.args.path.now c.args.bytes.now
    (unchanged_more g.A.CrashSafe.moment g.A.CrashSafe.left_since c.args.files.now c.create_empty.new.files c.args.path.now
    (λ left. left ≡ Some c.args.bytes.now) (c.create_empty.ensures.others c.args.path.now absent).crash)

pub returns-in-Err-clause-contents : goal.returns-in-Err-clause-contents
returns-in-Err-clause-contents g c = λ absent. inl (c.create_empty.ensures.others c.args.path.now absent).now

pub returns-in-Err-clause-others : goal.returns-in-Err-clause-others
returns-in-Err-clause-others g c = λ other not_path absent. c.create_empty.ensures.others other absent

pub returns-in-Ok-clause-any_moment : goal.returns-in-Ok-clause-any_moment
returns-in-Ok-clause-any_moment g c = λ absent.
    let made = c.in-Ok.ensures.created in
    let apart = is_other c.args.dir.now (string_bytes c.in-Ok.temp_file.path) c.args.path.now made.0 absent in
    let created = c.create_empty.ensures.others c.args.path.now absent in
    leaves_old_or g.A.CrashSafe.moment g.A.CrashSafe.left_since g.A.CrashSafe.may_leave g.A.CrashSafe.only_now
    c.args.files.now c.fill_and_persist.new.files c.args.path.now c.args.bytes.now
    (changes_twice g.A.CrashSafe.moment g.A.CrashSafe.left_since c.args.files.now c.create_empty.new.files c.fill_and_persist.new.files c.args.path.now (λ left. left ≡ Some c.args.bytes.now)
    (unchanged_more g.A.CrashSafe.moment g.A.CrashSafe.left_since c.args.files.now c.create_empty.new.files c.args.path.now (λ left. left ≡ Some c.args.bytes.now) created.crash)
    (c.fill_and_persist.ensures.crash made.1 apart))

pub returns-in-Ok-clause-contents : goal.returns-in-Ok-clause-contents
returns-in-Ok-clause-contents g c = λ absent.
    let made = c.in-Ok.ensures.created in
    let apart = is_other c.args.dir.now (string_bytes c.in-Ok.temp_file.path) c.args.path.now made.0 absent in
    let created = c.create_empty.ensures.others c.args.path.now absent in
    let P : Option (List ℕ) → Type 0 = λ o. ReplacesFile o (Some c.args.bytes.now) c.fill_and_persist.result (g.A.CrashSafe.contents c.fill_and_persist.new.files c.args.path.now) in
    subst P created.now (c.fill_and_persist.ensures.contents made.1 apart)

pub returns-in-Ok-clause-others : goal.returns-in-Ok-clause-others
returns-in-Ok-clause-others g c = λ other not_path absent.
    let made = c.in-Ok.ensures.created in
    untouched_twice g.A.CrashSafe.moment g.A.CrashSafe.left_since g.A.CrashSafe.contents c.args.files.now c.create_empty.new.files c.fill_and_persist.new.files other
    (c.create_empty.ensures.others other absent)
    (c.fill_and_persist.ensures.others made.1 other not_path (is_other c.args.dir.now (string_bytes c.in-Ok.temp_file.path) other made.0 absent))

pub returns-in-Err-clause-failed : goal.returns-in-Err-clause-failed
returns-in-Err-clause-failed g c =
    let P : _ → Type 0 = λ r. CreatesTempFile g.A.FileAccess.may_create c.args.dir.now c.args.names.now c.args.files.now r c.create_empty.new.names c.create_empty.new.files in
    inl (subst P c.in-Err.is c.create_empty.ensures.calls)

pub returns-in-Ok-clause-failed : goal.returns-in-Ok-clause-failed
returns-in-Ok-clause-failed g c =
    let P : _ → Type 0 = λ r. CreatesTempFile g.A.FileAccess.may_create c.args.dir.now c.args.names.now c.args.files.now r c.create_empty.new.names c.create_empty.new.files in
    unfilled g.A.FileAccess.may_create g.A.FileAccess.may_write g.A.FileAccess.may_sync g.A.FileAccess.may_rename g.A.FileAccess.may_remove
    c.args.dir.now c.args.names.now c.create_empty.new.names c.args.path.now c.args.bytes.now c.in-Ok.temp_file
    c.args.files.now c.create_empty.new.files c.fill_and_persist.new.files (subst P c.in-Ok.is c.create_empty.ensures.calls)
    c.fill_and_persist.result c.fill_and_persist.ensures.failed
