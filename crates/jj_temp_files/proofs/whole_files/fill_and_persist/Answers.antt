use Rattle.std.proofs.Common.{◌≡◌, ◌∙◌, ◌++◌, ap, sym, subst, List, ℕ, Option, Some, string_bytes}
use Rattle.jj_temp_files.specs.Crashes.{Changes, ReplacesFile}
use Rattle.jj_temp_files.proofs.CrashLemmas.{changes_twice, unchanged_more, untouched_twice, kept_after_error}
use Rattle.jj_temp_files.proofs.WriteErrorLemmas.{unwritten, unpersisted}
use Rattle.jj_temp_files.proofs.whole_files.fill_and_persist.Goals as goal

pub returns-in-Ok-clause-crash : goal.returns-in-Ok-clause-crash
returns-in-Ok-clause-crash g c = λ empty apart.
    let wrote = c.write_all.ensures.others c.args.path.now (λ equal. apart (equal ∙ empty.path)) in
    let whole = c.in-Ok.ensures.written ∙ ap (λ (w : List ℕ). w ++ c.args.bytes.now) empty.empty in
    let P : List ℕ → Type 0 = λ w. Changes g.A.CrashSafe.moment g.A.CrashSafe.left_since c.write_all.new.files c.persist_whole.new.files c.args.path.now (λ left. left ≡ Some w) in
    let persisted = subst P whole (c.persist_whole.ensures.crash (c.write_all.ensures.created ∙ empty.path ∙ ap string_bytes (sym c.write_all.ensures.path)) (λ equal. apart (equal ∙ ap string_bytes c.write_all.ensures.path))) in
    changes_twice g.A.CrashSafe.moment g.A.CrashSafe.left_since c.args.files.now c.write_all.new.files c.persist_whole.new.files c.args.path.now (λ left. left ≡ Some c.args.bytes.now)
    (unchanged_more g.A.CrashSafe.moment g.A.CrashSafe.left_since c.args.files.now c.write_all.new.files c.args.path.now (λ left. left ≡ Some c.args.bytes.now) wrote.crash) persisted

pub returns-in-Ok-clause-contents : goal.returns-in-Ok-clause-contents
returns-in-Ok-clause-contents g c = λ empty apart.
    let wrote = c.write_all.ensures.others c.args.path.now (λ equal. apart (equal ∙ empty.path)) in
    let whole = c.in-Ok.ensures.written ∙ ap (λ (w : List ℕ). w ++ c.args.bytes.now) empty.empty in
    let same_path = ap string_bytes c.write_all.ensures.path in
    let before = ap (λ p. g.A.CrashSafe.contents c.args.files.now p) empty.path ∙ empty.there ∙ ap (λ w. Some w) (sym empty.empty) in
    let there = ap (λ p. g.A.CrashSafe.contents c.write_all.new.files p) (same_path ∙ sym empty.path) ∙ c.in-Ok.ensures.contents before ∙ ap (λ w. Some w) whole in
    let replaced = c.persist_whole.ensures.contents (λ equal. apart (equal ∙ same_path)) in
    let P : Option (List ℕ) → Type 0 = λ o. ReplacesFile o (g.A.CrashSafe.contents c.write_all.new.files (string_bytes c.write_all.new.temp_file.path)) c.persist_whole.result (g.A.CrashSafe.contents c.persist_whole.new.files c.args.path.now) in
    let Q : Option (List ℕ) → Type 0 = λ o. ReplacesFile (g.A.CrashSafe.contents c.args.files.now c.args.path.now) o c.persist_whole.result (g.A.CrashSafe.contents c.persist_whole.new.files c.args.path.now) in
    subst Q there (subst P wrote.now replaced)

pub returns-in-Ok-clause-others : goal.returns-in-Ok-clause-others
returns-in-Ok-clause-others g c = λ empty other not_path not_temp.
    untouched_twice g.A.CrashSafe.moment g.A.CrashSafe.left_since g.A.CrashSafe.contents c.args.files.now c.write_all.new.files c.persist_whole.new.files other
    (c.write_all.ensures.others other (λ equal. not_temp (equal ∙ empty.path)))
    (c.persist_whole.ensures.others other not_path (λ equal. not_temp (equal ∙ ap string_bytes c.write_all.ensures.path)))

pub returns-in-Err-clause-crash : goal.returns-in-Err-clause-crash
returns-in-Err-clause-crash g c = λ empty apart.
    let wrote = c.write_all.ensures.others c.args.path.now (λ equal. apart (equal ∙ empty.path)) in
    let removed = g.met.A.CrashSafe.removes c.write_all.new.files c.close.new.files (string_bytes c.write_all.new.temp_file.path) c.close.ensures.0 c.close.ensures.1 c.args.path.now (λ equal. apart (equal ∙ ap string_bytes c.write_all.ensures.path)) in
    unchanged_more g.A.CrashSafe.moment g.A.CrashSafe.left_since c.args.files.now c.close.new.files c.args.path.now (λ left. left ≡ Some c.args.bytes.now)
    (untouched_twice g.A.CrashSafe.moment g.A.CrashSafe.left_since g.A.CrashSafe.contents c.args.files.now c.write_all.new.files c.close.new.files c.args.path.now wrote removed).crash

pub returns-in-Err-clause-contents : goal.returns-in-Err-clause-contents
returns-in-Err-clause-contents g c = λ empty apart.
    let wrote = c.write_all.ensures.others c.args.path.now (λ equal. apart (equal ∙ empty.path)) in
    let removed = g.met.A.CrashSafe.removes c.write_all.new.files c.close.new.files (string_bytes c.write_all.new.temp_file.path) c.close.ensures.0 c.close.ensures.1 c.args.path.now (λ equal. apart (equal ∙ ap string_bytes c.write_all.ensures.path)) in
    kept_after_error c.args.path.now c.in-Err.error c.context.result
    (g.A.CrashSafe.contents c.args.files.now c.args.path.now) (Some c.args.bytes.now)
    (g.A.CrashSafe.contents c.close.new.files c.args.path.now) c.context.ensures (removed.now ∙ wrote.now)

pub returns-in-Err-clause-others : goal.returns-in-Err-clause-others
returns-in-Err-clause-others g c = λ empty other not_path not_temp.
    untouched_twice g.A.CrashSafe.moment g.A.CrashSafe.left_since g.A.CrashSafe.contents c.args.files.now c.write_all.new.files c.close.new.files other
    (c.write_all.ensures.others other (λ equal. not_temp (equal ∙ empty.path)))
    (g.met.A.CrashSafe.removes c.write_all.new.files c.close.new.files (string_bytes c.write_all.new.temp_file.path) c.close.ensures.0 c.close.ensures.1 other (λ equal. not_temp (equal ∙ ap string_bytes c.write_all.ensures.path)))

pub returns-in-Ok-clause-failed : goal.returns-in-Ok-clause-failed
returns-in-Ok-clause-failed g c =
    unpersisted g.A.FileAccess.may_write g.A.FileAccess.may_sync g.A.FileAccess.may_rename g.A.FileAccess.may_remove
    c.args.temp_file c.write_all.new.temp_file c.write_all.ensures.path c.args.path.now c.args.bytes.now
    c.args.files.now c.write_all.new.files c.persist_whole.new.files c.in-Ok.ensures.all
    c.persist_whole.result c.persist_whole.ensures.failed

pub returns-in-Err-clause-failed : goal.returns-in-Err-clause-failed
returns-in-Err-clause-failed g c =
    unwritten g.A.FileAccess.may_write g.A.FileAccess.may_sync g.A.FileAccess.may_rename g.A.FileAccess.may_remove
    c.args.temp_file c.write_all.new.temp_file c.write_all.ensures.path c.args.path.now c.args.bytes.now
    c.args.files.now c.write_all.new.files c.close.new.files c.in-Err.error c.in-Err.ensures.failed
    c.close.ensures.0 c.close.ensures.1 c.context.result c.context.ensures
