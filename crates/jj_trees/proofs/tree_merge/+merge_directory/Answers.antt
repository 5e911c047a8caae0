use Rattle.std.proofs.Common.{◌≡◌, ◌∙◌, ◌-◌, ◌++◌, ◌∷◌, [], length, refl, sym, ap, subst, arith, is_some}
use Rattle.std.proofs.lemmas.Result.{err_from_is_err_and}
use Rattle.jj_merges.specs.Merge.{IsOdd}
use Rattle.std.specs.Vec.Iter.{into_iter_items}
use Rattle.jj_paths.specs.Names.{path_of}
use Rattle.jj_paths.specs.Paths.{Name}
use Rattle.std.specs.Option.{option_eq}
use Rattle.jj_trees.specs.declared.tree_merge.rows.Row.{Row}
use Rattle.jj_backend.specs.MergedTreeValues.{Values}
use Rattle.jj_trees.specs.DirectoryMerges.{IsReadAt, FailsAt, conflict_entries}
use Rattle.jj_backend.specs.contracts.backend.tree_value.TreeValuePartialEq.TheImpl as tree_values
use Rattle.jj_trees.proofs.Merging.{same_values, passed_none, error_here, error_too_deep}
use Rattle.jj_trees.proofs.Passing.{rows_start, rows_next, next_row, row_length, same_sides}
use Rattle.jj_trees.proofs.Rounds.{rows_passed, row_here, row_entered, row_error, rows_ended, no_row, all_rows}
use Rattle.jj_trees.proofs.tree_merge.+merge_directory.Goals as goal
use Rattle.jj_trees.proofs.tree_merge.+merge_directory.Goals.{in_default, in-Some-subdirectory+in_ok-merge_directory}

abbrev pub parts : Row → Name × Values
parts row = (row.name, row.values.items)

pub loop-row-init : goal.loop-row-init
loop-row-init g t c = record {
  can = tt;
  ends = tt;
  rows = rows_start parts _ _ _ _ (c.deref.ensures.value ∙ c.in_ok-trees.ensures.entries) c.into_iter-row-iterator.ensures.into_iter_gives.0 c.in_ok-rows.ensures;
  passed = passed_none (option_eq tree_values.eq-value.it) same_values (g.B.Backend.objects c.args.backend.now).trees c.args.same_change c.args.labels.now (IsReadAt (g.B.Backend.objects c.args.backend.now).trees (g.B.Backend.may_read_tree c.args.backend.now))
      (FailsAt (g.B.Backend.objects c.args.backend.now).trees (g.B.Backend.may_read_tree c.args.backend.now) (g.B.Backend.may_fail c.args.backend.now))
      _ c.args.values.now (path_of c.args.dir) c.args.merged.now.resolved.items (conflict_entries c.args.merged.now.conflicts.items);
}

pub merge_path-requires-clause-odd : goal.merge_path-requires-clause-odd
merge_path-requires-clause-odd g t c =
    let next = next_row c.loop-row.row-iterator c.next.result c.next.new.self c.in-Some.row c.in-Some.is c.next.ensures.steps in
    subst IsOdd (sym (row_length (g.B.Backend.objects c.args.backend.now).trees parts c.args.values.now c.loop-row.yielded c.in-Some.row (into_iter_items c.next.new.self)
    (rows_next parts _ c.loop-row.yielded _ _ next c.loop-row.invariant.rows))) c.requires.odd

pub merge_path-requires-clause-sides : goal.merge_path-requires-clause-sides
merge_path-requires-clause-sides g t c =
    let next = next_row c.loop-row.row-iterator c.next.result c.next.new.self c.in-Some.row c.in-Some.is c.next.ensures.steps in
    same_sides _ _ _ (row_length (g.B.Backend.objects c.args.backend.now).trees parts c.args.values.now c.loop-row.yielded c.in-Some.row (into_iter_items c.next.new.self)
    (rows_next parts _ c.loop-row.yielded _ _ next c.loop-row.invariant.rows)) c.requires.sides

pub merge_directory-requires : goal.merge_directory-requires
merge_directory-requires g t c =
    let next = next_row c.loop-row.row-iterator c.next.result c.next.new.self c.in-Some.row c.in-Some.is c.next.ensures.steps in
    let subdirectory = rw c.in-Some-subdirectory.is at c.in_ok-subdirectory.ensures.subdirectory in
    let same : length c.deref-in-Some-subdirectory.result.now ≡ length c.args.values.now =
    ap length (c.deref-in-Some-subdirectory.ensures.value ∙ subdirectory.1)
    ∙ row_length (g.B.Backend.objects c.args.backend.now).trees parts c.args.values.now c.loop-row.yielded c.in-Some.row (into_iter_items c.next.new.self)
    (rows_next parts _ c.loop-row.yielded _ _ next c.loop-row.invariant.rows) in
    λ κs outlives. (omega arith, (outlives, (subst IsOdd (sym same) c.requires.odd, same_sides _ _ _ same c.requires.sides)))

pub returns-then-levels-eq0-clause-error : goal.returns-then-levels-eq0-clause-error
returns-then-levels-eq0-clause-error g t c =
    error_too_deep (option_eq tree_values.eq-value.it) same_values (g.B.Backend.objects c.args.backend.now).trees c.args.same_change c.args.labels.now
    (IsReadAt (g.B.Backend.objects c.args.backend.now).trees (g.B.Backend.may_read_tree c.args.backend.now))
    (FailsAt (g.B.Backend.objects c.args.backend.now).trees (g.B.Backend.may_read_tree c.args.backend.now) (g.B.Backend.may_fail c.args.backend.now))
    c.args.levels c.args.values.now (path_of c.args.dir) c.args.levels _ (omega arith) c.too_deep_error.ensures

pub returns-in_err-trees-clause-error : goal.returns-in_err-trees-clause-error
returns-in_err-trees-clause-error g t c =
    let p = err_from_is_err_and c.from_residual.result c.from_residual.ensures.1 in
    rw (p.1, p.2)
    (error_here (option_eq tree_values.eq-value.it) same_values (g.B.Backend.objects c.args.backend.now).trees c.args.same_change c.args.labels.now
    (IsReadAt (g.B.Backend.objects c.args.backend.now).trees (g.B.Backend.may_read_tree c.args.backend.now))
    (FailsAt (g.B.Backend.objects c.args.backend.now).trees (g.B.Backend.may_read_tree c.args.backend.now) (g.B.Backend.may_fail c.args.backend.now))
    c.args.levels c.args.values.now (path_of c.args.dir) c.args.levels _ c.in_err-trees.ensures.error)

pub returns-in_err-merge_directory-clause-error : goal.returns-in_err-merge_directory-clause-error
returns-in_err-merge_directory-clause-error g t c =
    let next = next_row c.loop-row.row-iterator c.next.result c.next.new.self c.in-Some.row c.in-Some.is c.next.ensures.steps in
    let subdirectory = rw c.in-Some-subdirectory.is at c.in_ok-subdirectory.ensures.subdirectory in
    let p = err_from_is_err_and c.from_residual-in_err-merge_directory.result c.from_residual-in_err-merge_directory.ensures.1 in
    let at : c.in_ok-path.path ≡ path_of c.args.dir ++ c.in-Some.row.name ∷ [] = c.in_ok-path.ensures ∙ ap (λ n. path_of c.args.dir ++ n ∷ []) c.as_component.ensures in
    rw (p.1, p.2)
    (row_error (option_eq tree_values.eq-value.it) same_values (g.B.Backend.objects c.args.backend.now).trees c.args.same_change c.args.labels.now (IsReadAt (g.B.Backend.objects c.args.backend.now).trees (g.B.Backend.may_read_tree c.args.backend.now))
    (FailsAt (g.B.Backend.objects c.args.backend.now).trees (g.B.Backend.may_read_tree c.args.backend.now) (g.B.Backend.may_fail c.args.backend.now))
    (c.args.levels - 1) c.args.values.now (path_of c.args.dir) parts c.loop-row.yielded c.in-Some.row (into_iter_items c.next.new.self)
    (rows_next parts _ c.loop-row.yielded _ _ next c.loop-row.invariant.rows) c.args.levels _
    c.deref-in-Some-subdirectory.result.now (path_of c.as_path-dir.result) (omega arith) (c.deref-in-Some-subdirectory.ensures.value ∙ subdirectory.1)
    (c.as_path-dir.ensures ∙ subdirectory.0 ∙ at) subdirectory.2
    c.in_err-merge_directory.ensures.error)

pub loop-row-preserved : goal.loop-row-preserved
loop-row-preserved g t c =
    let next = next_row c.loop-row.row-iterator c.next.result c.next.new.self c.in-Some.row c.in-Some.is c.next.ensures.steps in
    let rows = rows_next parts _ c.loop-row.yielded _ _ next c.loop-row.invariant.rows in
    let at : c.in_ok-path.path ≡ path_of c.args.dir ++ c.in-Some.row.name ∷ [] = c.in_ok-path.ensures ∙ ap (λ n. path_of c.args.dir ++ n ∷ []) c.as_component.ensures in
    record {
      can = tt;
      ends = tt;
      rows = rows_passed parts _ c.loop-row.yielded c.in-Some.row (into_iter_items c.next.new.self) rows;
      passed = elim c.match-subdirectory.branch [
        | in_default w ↦
            rw w.merged-is
            (row_here (option_eq tree_values.eq-value.it) same_values _ _ _ _ _ _ _ _ parts c.loop-row.yielded c.in-Some.row (into_iter_items c.next.new.self) rows
            _ _ _ _ _ _ c.loop-row.invariant.passed c.in_ok-path.path at (c.in_ok-subdirectory.ensures.appended (ap is_some w.in_default.is)))
        | in-Some-subdirectory+in_ok-merge_directory w ↦
            let subdirectory = rw w.in-Some-subdirectory.is at c.in_ok-subdirectory.ensures.subdirectory in
            rw w.merged-is
            (row_entered (option_eq tree_values.eq-value.it) same_values (g.B.Backend.objects c.args.backend.now).trees c.args.same_change c.args.labels.now (IsReadAt (g.B.Backend.objects c.args.backend.now).trees (g.B.Backend.may_read_tree c.args.backend.now))
            (FailsAt (g.B.Backend.objects c.args.backend.now).trees (g.B.Backend.may_read_tree c.args.backend.now) (g.B.Backend.may_fail c.args.backend.now))
            (c.args.levels - 1) c.args.values.now (path_of c.args.dir) parts c.loop-row.yielded c.in-Some.row (into_iter_items c.next.new.self) rows
            c.args.merged.now.resolved.items c.loop-row.merged.resolved.items w.merge_directory.new.merged.resolved.items
            (conflict_entries c.args.merged.now.conflicts.items) (conflict_entries c.loop-row.merged.conflicts.items)
            (conflict_entries w.merge_directory.new.merged.conflicts.items) c.loop-row.invariant.passed
            (path_of w.as_path-dir.result) (w.as_path-dir.ensures ∙ subdirectory.0 ∙ at)
            w.deref-in-Some-subdirectory.result.now (w.deref-in-Some-subdirectory.ensures.value ∙ subdirectory.1) subdirectory.2
            c.merge_path.new.merged.resolved.items (conflict_entries c.merge_path.new.merged.conflicts.items) subdirectory.3 (ap conflict_entries subdirectory.4)
            w.in_ok-merge_directory.ensures.merge w.in_ok-merge_directory.ensures.within)
      ];
    }

pub returns : goal.returns
returns g t c =
    let merged = all_rows (option_eq tree_values.eq-value.it) same_values (g.B.Backend.objects c.args.backend.now).trees c.args.same_change c.args.labels.now (IsReadAt (g.B.Backend.objects c.args.backend.now).trees (g.B.Backend.may_read_tree c.args.backend.now))
    (FailsAt (g.B.Backend.objects c.args.backend.now).trees (g.B.Backend.may_read_tree c.args.backend.now) (g.B.Backend.may_fail c.args.backend.now))
    (c.args.levels - 1) c.args.values.now (path_of c.args.dir) parts refl c.requires.odd c.loop-row.yielded
    (rows_ended parts _ c.loop-row.yielded _ (no_row c.loop-row.row-iterator c.next.result c.next.new.self c.in-None.is c.next.ensures.steps) c.loop-row.invariant.rows)
    c.args.merged.now.resolved.items c.loop-row.merged.resolved.items
    (conflict_entries c.args.merged.now.conflicts.items) (conflict_entries c.loop-row.merged.conflicts.items) c.loop-row.invariant.passed in
    record { merge = merged.0; within = merged.1 c.in_ok-trees.ensures.read c.args.levels (omega arith); error = tt }
