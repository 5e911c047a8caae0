use Rattle.std.proofs.Common.{◌∙◌, ap, subst, map, Some, None, List, Option}
use Rattle.std.specs.Vec.{with_items}
use Rattle.jj_paths.specs.Names.{name_of}
use Rattle.jj_paths.specs.Paths.{Name}
use Rattle.jj_backend.specs.declared.backend.tree_value.TreeValue.{TreeValue}
use Rattle.jj_trees.specs.FirstNames.{first_name, first_value, IsMinName}
use Rattle.jj_backend.specs.Trees.{entries_left}
use Rattle.jj_trees.specs.declared.tree_merge.rows.Row.{Row}
use Rattle.jj_trees.proofs.PassedNames.{start, row_more, fewer_left, left_in, each_ascends, all_passed}
use Rattle.jj_trees.proofs.tree_merge.rows.merge_rows.Goals as goal

abbrev pub parts : Row → Name × List (Option TreeValue)
parts row = (row.name, row.values.items)

pub loop-name-init : goal.loop-name-init
loop-name-init c =
    start entries_left parts c.args.trees.now c.in_ok-remaining_lists.remaining_lists.items c.new-rows.result.items c.in_ok-remaining_lists.ensures.entries
    c.new-rows.ensures.items (each_ascends c.args.trees.now c.in_ok-remaining_lists.ensures.ascending)

pub loop-name-smaller : goal.loop-name-smaller
loop-name-smaller c =
    fewer_left entries_left parts c.loop-name.remaining_lists.items (with_items c.loop-name.remaining_lists c.remove_values.new.remaining_lists).items (name_of c.in-Some.name)
    (subst (λ l. IsMinName (Some (name_of c.in-Some.name)) (map first_name (map entries_left l))) c.deref.ensures.value c.in-Some.ensures)
    (left_in entries_left (name_of c.in-Some.name) c.loop-name.remaining_lists c.deref_mut.result.now c.remove_values.new.remaining_lists c.deref_mut.ensures.value c.remove_values.auto.remaining_lists
    c.in_ok-values.ensures.left)

pub loop-name-preserved : goal.loop-name-preserved
loop-name-preserved c =
    let name = name_of c.in-Some.name in
    let row : Row = record { name = c.in_ok-to_owned.field-0; values = c.in_ok-values.values } in
    row_more entries_left parts c.loop-name.remaining_lists.items (with_items c.loop-name.remaining_lists c.remove_values.new.remaining_lists).items name
    (subst (λ l. IsMinName (Some name) (map first_name (map entries_left l))) c.deref.ensures.value c.in-Some.ensures)
    (left_in entries_left name c.loop-name.remaining_lists c.deref_mut.result.now c.remove_values.new.remaining_lists c.deref_mut.ensures.value c.remove_values.auto.remaining_lists c.in_ok-values.ensures.left)
    c.args.trees.now c.loop-name.rows.items c.push.new.self.items row c.loop-name.invariant
    (λ i. (c.in_ok-to_owned.ensures i, (c.in_ok-values.ensures.values ∙ ap (λ l. map (first_value name) (map entries_left l)) c.deref_mut.ensures.value) i))
    c.in_ok-push.ensures.items

pub returns : goal.returns
returns c =
    all_passed _ _ _ c.loop-name.invariant
    (subst (λ l. IsMinName None (map first_name (map entries_left l))) c.deref.ensures.value c.in_default.ensures)
