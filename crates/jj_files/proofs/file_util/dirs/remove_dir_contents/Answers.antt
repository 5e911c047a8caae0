use Rattle.std.proofs.Common.{Ok, ℕ, List, map, take, drop, suc, string_bytes, inl, inr, sym, subst, arith, add-one, take-append-drop}
use Rattle.std.proofs.lemmas.Result.{err_from_is_err_and}
use Rattle.jj_files.specs.Directories.{RemovesEach}
use Rattle.jj_files.proofs.Removals.{removed, not_removed, removes_one_more, take_mapped, split_at_index}
use Rattle.jj_files.proofs.file_util.dirs.remove_dir_contents.Goals as goal

pub returns-in_err-entry : goal.returns-in_err-entry
returns-in_err-entry g c =
    let names = map string_bytes c.deref-name-items.result.now in
    let p = err_from_is_err_and c.from_residual-in_err-entry.result c.from_residual-in_err-entry.ensures.1 in
    let whole = sym (take-append-drop c.loop-name.name-index names) in
    rw p.1 (inr (inr (p.2, (take c.loop-name.name-index names, drop c.loop-name.name-index names, subst (λ l. g.D.DirAccess.may_list c.args.dirs.now c.args.path.now (Ok l)) whole c.loop-name.invariant.0, c.loop-name.invariant.1))))

pub returns-in_err-context : goal.returns-in_err-context
returns-in_err-context g c =
    let items = c.deref-name-items.result.now in
    let i = c.loop-name.name-index in
    let split = split_at_index string_bytes items i c.name-item.result (omega arith) c.name-item.is in
    let p = err_from_is_err_and c.from_residual-in_err-context.result c.from_residual-in_err-context.ensures.1 in
    let failed = not_removed g.D.DirAccess.may_remove c.args.path.now (string_bytes c.name-item.result) c.as_str.result.now (string_bytes c.in_ok-entry.entry) c.as_str-in-loop-name.result.now c.as_str-in-loop-name-2.result.now c.loop-name.dirs c.remove_file.new.self c.remove_file.result
    c.as_str.ensures.value c.in_ok-entry.ensures c.as_str-in-loop-name.ensures.value c.as_str-in-loop-name-2.ensures.value c.remove_file.ensures c.in_err-context.field-0.0 c.in_err-context.ensures in
    let Listed : List (List ℕ) → Type 0 = λ l. g.D.DirAccess.may_list c.args.dirs.now c.args.path.now (Ok l) in
    rw (p.1, p.2) (inr (inl (take i (map string_bytes items), drop (suc i) (map string_bytes items), string_bytes c.name-item.result, failed.0, c.loop-name.dirs, subst Listed split c.loop-name.invariant.0, c.loop-name.invariant.1, failed.1, failed.2)))

pub loop-name-preserved : goal.loop-name-preserved
loop-name-preserved g c =
    let done = removed g.D.DirAccess.may_remove c.args.path.now (string_bytes c.name-item.result) c.as_str.result.now (string_bytes c.in_ok-entry.entry) c.as_str-in-loop-name.result.now c.as_str-in-loop-name-2.result.now c.loop-name.dirs c.remove_file.new.self c.remove_file.result
    c.as_str.ensures.value c.in_ok-entry.ensures c.as_str-in-loop-name.ensures.value c.as_str-in-loop-name-2.ensures.value c.remove_file.ensures c.in_ok-context.field-0 c.in_ok-context.ensures in
    let before = take c.loop-name.name-index (map string_bytes c.deref-name-items.result.now) in
    let each = removes_one_more g.D.DirAccess.may_remove c.args.path.now before (string_bytes c.name-item.result) c.args.dirs.now c.loop-name.dirs c.remove_file.new.self c.loop-name.invariant.1 done in
    let more = take_mapped string_bytes c.deref-name-items.result.now c.loop-name.name-index c.name-item.result (omega arith) c.name-item.is in
    let P : List (List ℕ) → Type 0 = λ l. RemovesEach g.D.DirAccess.may_remove c.args.path.now l c.args.dirs.now c.remove_file.new.self in
    (c.loop-name.invariant.0, rw add-one (subst P (sym more) each))
