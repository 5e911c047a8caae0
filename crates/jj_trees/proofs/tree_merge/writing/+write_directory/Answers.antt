use Rattle.std.proofs.Common.{◌≡◌, ◌∙◌, ◌-◌, ◌+◌, ◌<◌, ◌++◌, ◌∷◌, [], inr, Some, length, get_or, take, sym, ap, subst, arith}
use Rattle.std.proofs.lemmas.Result.{IfErr-weaker, err_from_is_err_and}
use Rattle.jj_paths.specs.Names.{path_of}
use Rattle.jj_paths.specs.Tree.{branches_of, children, child, none}
use Rattle.jj_backend.specs.Objects.{tree_object}
use Rattle.jj_trees.specs.WrittenTrees.{AddsTrees}
use Rattle.jj_trees.specs.PathTries.{AreStored, IsNodeError}
use Rattle.jj_trees.proofs.StoredTries.{adds_none, child_at, stored_all, is_sorted-stored, stored_ok, adds_more, leaf_pushed, directory_pushed}
use Rattle.jj_trees.proofs.TrieValues.{too_deep_node, leaf_error, child_error}
use Rattle.jj_trees.proofs.NodeWrites.{WritesChildren, no_children, leaf_next, directory_next, stopped_below, all_written}
use Rattle.jj_trees.proofs.tree_merge.writing.+write_directory.Goals as goal
use Rattle.jj_trees.proofs.tree_merge.writing.+write_directory.Goals.{in-Some+in_ok-push_entry-in-Some, in-None+in_ok-path-in-None+in_ok-id-in-None+in_ok-push_entry-in-None}

pub returns-then-levels-eq0-clause-error : goal.returns-then-levels-eq0-clause-error
returns-then-levels-eq0-clause-error g t c =
    too_deep_node g.B.Backend.objects g.B.Backend.may_fail_to_write c.args.backend.now c.args.node.now c.args.levels c.too_deep_error.result c.requires c.if-levels-eq0.true c.too_deep_error.ensures

pub returns-in_err-value-clause-error : goal.returns-in_err-value-clause-error
returns-in_err-value-clause-error g t c =
    let listed = c.entries-name-items.ensures.listed in
    let x = c.loop-name-item.result in
    let lt : c.loop-name.name-index < length (children c.args.node.now.branches) = omega (arith, ap length listed, c.loop-name-test.true) in
    let is : get_or (children c.args.node.now.branches) c.loop-name.name-index x ≡ x = ap (λ l. get_or l c.loop-name.name-index x) (sym listed) ∙ sym c.loop-name-item.is in
    let at : child c.args.node.now.branches x.0 ≡ Some x.1 = child_at c.args.node.now.branches c.loop-name.name-index x c.entries-name-items.ensures.by_name lt is in
    let p = err_from_is_err_and c.from_residual.result c.from_residual.ensures.1 in
    rw (p.1, p.2) (leaf_error g.B.Backend.objects g.B.Backend.may_fail_to_write c.args.backend.now c.args.node.now x.1 x.0 c.args.levels _ at c.in_err-value.ensures.error)

pub returns-in_err-id-in-None-clause-error : goal.returns-in_err-id-in-None-clause-error
returns-in_err-id-in-None-clause-error g t c =
    let listed = c.entries-name-items.ensures.listed in
    let x = c.loop-name-item.result in
    let lt : c.loop-name.name-index < length (children c.args.node.now.branches) = omega (arith, ap length listed, c.loop-name-test.true) in
    let is : get_or (children c.args.node.now.branches) c.loop-name.name-index x ≡ x = ap (λ l. get_or l c.loop-name.name-index x) (sym listed) ∙ sym c.loop-name-item.is in
    let at : child c.args.node.now.branches x.0 ≡ Some x.1 = child_at c.args.node.now.branches c.loop-name.name-index x c.entries-name-items.ensures.by_name lt is in
    let below : c.args.levels - 1 + 1 ≡ c.args.levels = omega arith in
    let p = err_from_is_err_and c.from_residual-in_err-id-in-None.result c.from_residual-in_err-id-in-None.ensures.1 in
    rw (p.1, p.2)
    (child_error g.B.Backend.objects g.B.Backend.may_fail_to_write c.args.backend.now c.loop-name.backend c.args.node.now x.1 x.0 (c.args.levels - 1) c.args.levels _ at below c.loop-name.invariant.added
    c.in_err-id-in-None.ensures.error)

pub loop-name-preserved : goal.loop-name-preserved
loop-name-preserved g t c =
    let b = c.args.node.now.branches in
    let x = c.loop-name-item.result in
    let lt : c.loop-name.name-index < length (children b) = omega (arith, ap length c.entries-name-items.ensures.listed, c.loop-name-test.true) in
    let is : get_or (children b) c.loop-name.name-index x ≡ x = ap (λ l. get_or l c.loop-name.name-index x) (sym c.entries-name-items.ensures.listed) ∙ sym c.loop-name-item.is in
    let at : child b x.0 ≡ Some x.1 = child_at b c.loop-name.name-index x c.entries-name-items.ensures.by_name lt is in
    let start = g.B.Backend.objects c.args.backend.now in
    elim c.match-branch-2.branch [
      | in-Some+in_ok-push_entry-in-Some w ↦
          record {
            stored = subst (λ s. AreStored (g.B.Backend.objects s).trees (branches_of (take (c.loop-name.name-index + 1) (children b))) c.match-branch-2.entries.items) (sym w.backend-is)
                (leaf_pushed (g.B.Backend.objects c.loop-name.backend).trees b c.loop-name.name-index x c.loop-name.entries.items c.match-branch-2.entries.items c.in_ok-value.field-0 w.in-Some.value
                lt is c.loop-name.invariant.stored c.in_ok-value.ensures.value w.in-Some.is c.in_ok-value.ensures.leaf (ap (λ l. l.items) w.entries-is ∙ w.in_ok-push_entry-in-Some.ensures));
            added = subst (λ s. AddsTrees start (g.B.Backend.objects s)) (sym w.backend-is) c.loop-name.invariant.added;
            writes = subst (λ s. WritesChildren g.B.Backend.may_write (g.B.Backend.objects s).trees (path_of c.args.dir) c.args.node.now (take (c.loop-name.name-index + 1) (children b)) c.match-branch-2.entries.items c.args.backend.now s) (sym w.backend-is)
                (leaf_next g.B.Backend.may_write (path_of c.args.dir) c.args.node.now c.loop-name.name-index x lt is (g.B.Backend.objects c.loop-name.backend).trees c.loop-name.entries.items c.match-branch-2.entries.items c.in_ok-value.field-0 w.in-Some.value
                c.args.backend.now c.loop-name.backend c.in_ok-value.ensures.value w.in-Some.is c.in_ok-value.ensures.leaf (ap (λ l. l.items) w.entries-is ∙ w.in_ok-push_entry-in-Some.ensures) c.loop-name.invariant.writes);
          }
      | in-None+in_ok-path-in-None+in_ok-id-in-None+in_ok-push_entry-in-None w ↦
          record {
            stored = subst (λ s. AreStored (g.B.Backend.objects s).trees (branches_of (take (c.loop-name.name-index + 1) (children b))) c.match-branch-2.entries.items) (sym w.backend-is)
                (directory_pushed (g.B.Backend.objects c.loop-name.backend) (g.B.Backend.objects w.write_directory.new.backend) b c.loop-name.name-index x c.loop-name.entries.items c.match-branch-2.entries.items
                c.in_ok-value.field-0 w.in_ok-id-in-None.id lt is c.loop-name.invariant.stored c.in_ok-value.ensures.value w.in-None.is w.in_ok-id-in-None.ensures.objects w.in_ok-id-in-None.ensures.stored
                (ap (λ l. l.items) w.entries-is ∙ w.in_ok-push_entry-in-None.ensures));
            added = subst (λ s. AddsTrees start (g.B.Backend.objects s)) (sym w.backend-is)
                (adds_more start (g.B.Backend.objects c.loop-name.backend) (g.B.Backend.objects w.write_directory.new.backend) c.loop-name.invariant.added w.in_ok-id-in-None.ensures.objects);
            writes = subst (λ s. WritesChildren g.B.Backend.may_write (g.B.Backend.objects s).trees (path_of c.args.dir) c.args.node.now (take (c.loop-name.name-index + 1) (children b)) c.match-branch-2.entries.items c.args.backend.now s) (sym w.backend-is)
                (directory_next g.B.Backend.may_write (path_of c.args.dir) c.args.node.now c.loop-name.name-index x lt is (g.B.Backend.objects c.loop-name.backend).trees (g.B.Backend.objects w.write_directory.new.backend).trees
                w.in_ok-id-in-None.ensures.objects.kept (path_of w.as_path.result) c.loop-name.entries.items c.match-branch-2.entries.items w.in_ok-id-in-None.id
                c.args.backend.now c.loop-name.backend w.write_directory.new.backend
                (w.as_path.ensures ∙ w.in_ok-path-in-None.ensures ∙ ap (λ n. path_of c.args.dir ++ n ∷ []) w.as_component.ensures) at (ap (λ l. l.items) w.entries-is ∙ w.in_ok-push_entry-in-None.ensures) c.loop-name.invariant.writes w.in_ok-id-in-None.ensures.writes);
          }
    ]

pub from_sorted_entries-tree-requires : goal.from_sorted_entries-tree-requires
from_sorted_entries-tree-requires g t c =
    let all : c.loop-name.name-index ≡ length (children c.args.node.now.branches) = omega (arith, ap length c.entries-name-items.ensures.listed, c.loop-name-test.false, c.loop-name.auto.name-index-end) in
    is_sorted-stored (g.B.Backend.objects c.loop-name.backend).trees c.args.node.now.branches c.loop-name.entries.items
    (stored_all (g.B.Backend.objects c.loop-name.backend).trees c.args.node.now.branches c.loop-name.name-index c.loop-name.entries.items all c.loop-name.invariant.stored)
    ∙ c.entries-name-items.ensures.by_name

pub returns-clause-stored : goal.returns-clause-stored
returns-clause-stored g t c =
    let all : c.loop-name.name-index ≡ length (children c.args.node.now.branches) = omega (arith, ap length c.entries-name-items.ensures.listed, c.loop-name-test.false, c.loop-name.auto.name-index-end) in
    stored_ok (g.B.Backend.objects c.loop-name.backend) (g.B.Backend.objects c.write_tree.new.self) c.args.node.now.branches c.loop-name.entries.items c.from_sorted_entries-tree.result c.write_tree.result
    c.from_sorted_entries-tree.ensures
    (stored_all (g.B.Backend.objects c.loop-name.backend).trees c.args.node.now.branches c.loop-name.name-index c.loop-name.entries.items all c.loop-name.invariant.stored)
    c.write_tree.ensures.ok

pub loop-name-init : goal.loop-name-init
loop-name-init g t c =
    let start = g.B.Backend.objects c.args.backend.now in
    record {
      stored = subst (AreStored start.trees none) (sym c.new-entries.ensures.items) tt;
      added = adds_none start;
      writes = subst (λ l. WritesChildren g.B.Backend.may_write start.trees (path_of c.args.dir) c.args.node.now [] l c.args.backend.now c.args.backend.now) (sym c.new-entries.ensures.items)
          (no_children g.B.Backend.may_write start.trees (path_of c.args.dir) c.args.node.now c.args.backend.now);
    }

pub returns-in_err-id-in-None-clause-writes : goal.returns-in_err-id-in-None-clause-writes
returns-in_err-id-in-None-clause-writes g t c =
    let b = c.args.node.now.branches in
    let x = c.loop-name-item.result in
    let listed = c.entries-name-items.ensures.listed in
    let lt : c.loop-name.name-index < length (children b) = omega (arith, ap length listed, c.loop-name-test.true) in
    let is : get_or (children b) c.loop-name.name-index x ≡ x = ap (λ l. get_or l c.loop-name.name-index x) (sym listed) ∙ sym c.loop-name-item.is in
    let at : child b x.0 ≡ Some x.1 = child_at b c.loop-name.name-index x c.entries-name-items.ensures.by_name lt is in
    let p = err_from_is_err_and c.from_residual-in_err-id-in-None.result c.from_residual-in_err-id-in-None.ensures.1 in
    stopped_below g.B.Backend.may_write (g.B.Backend.objects c.loop-name.backend).trees (g.B.Backend.objects c.write_directory.new.backend).trees (path_of c.args.dir) (path_of c.as_path.result) c.args.node.now
    (take c.loop-name.name-index (children b)) c.loop-name.entries.items x c.args.backend.now c.loop-name.backend c.write_directory.new.backend c.from_residual-in_err-id-in-None.result c.write_directory.result p.0 p.1
    (c.as_path.ensures ∙ c.in_ok-path-in-None.ensures ∙ ap (λ n. path_of c.args.dir ++ n ∷ []) c.as_component.ensures) at c.loop-name.invariant.writes c.write_directory.ensures.writes

pub returns-in_err-push_entry-in-None-clause-writes : goal.returns-in_err-push_entry-in-None-clause-writes
returns-in_err-push_entry-in-None-clause-writes g t c =
    let b = c.args.node.now.branches in
    let x = c.loop-name-item.result in
    let listed = c.entries-name-items.ensures.listed in
    let lt : c.loop-name.name-index < length (children b) = omega (arith, ap length listed, c.loop-name-test.true) in
    let is : get_or (children b) c.loop-name.name-index x ≡ x = ap (λ l. get_or l c.loop-name.name-index x) (sym listed) ∙ sym c.loop-name-item.is in
    let at : child b x.0 ≡ Some x.1 = child_at b c.loop-name.name-index x c.entries-name-items.ensures.by_name lt is in
    let p = err_from_is_err_and c.from_residual-in_err-push_entry-in-None.result c.from_residual-in_err-push_entry-in-None.ensures.1 in
    stopped_below g.B.Backend.may_write (g.B.Backend.objects c.loop-name.backend).trees (g.B.Backend.objects c.write_directory.new.backend).trees (path_of c.args.dir) (path_of c.as_path.result) c.args.node.now
    (take c.loop-name.name-index (children b)) c.loop-name.entries.items x c.args.backend.now c.loop-name.backend c.write_directory.new.backend c.from_residual-in_err-push_entry-in-None.result c.write_directory.result p.0 p.1
    (c.as_path.ensures ∙ c.in_ok-path-in-None.ensures ∙ ap (λ n. path_of c.args.dir ++ n ∷ []) c.as_component.ensures) at c.loop-name.invariant.writes c.write_directory.ensures.writes

pub returns-clause-error : goal.returns-clause-error
returns-clause-error g t c =
    IfErr-weaker c.write_tree.result (g.B.Backend.may_fail_to_write c.loop-name.backend (tree_object c.from_sorted_entries-tree.result))
    (IsNodeError g.B.Backend.objects g.B.Backend.may_fail_to_write c.args.backend.now c.args.node.now c.args.levels)
    (λ e h. inr (inr (inr (c.loop-name.backend, c.from_sorted_entries-tree.result, c.loop-name.invariant.added, h)))) c.write_tree.ensures.error

pub returns-clause-writes : goal.returns-clause-writes
returns-clause-writes g t c =
    let b = c.args.node.now.branches in
    let all : c.loop-name.name-index ≡ length (children b) = omega (arith, ap length c.entries-name-items.ensures.listed, c.loop-name-test.false, c.loop-name.auto.name-index-end) in
    let sorted = is_sorted-stored (g.B.Backend.objects c.loop-name.backend).trees b c.loop-name.entries.items
    (stored_all (g.B.Backend.objects c.loop-name.backend).trees b c.loop-name.name-index c.loop-name.entries.items all c.loop-name.invariant.stored)
    ∙ c.entries-name-items.ensures.by_name in
    all_written g.B.Backend.may_write (g.B.Backend.objects c.loop-name.backend) (g.B.Backend.objects c.write_tree.new.self) (path_of c.args.dir) c.args.node.now c.loop-name.name-index c.loop-name.entries.items
    c.from_sorted_entries-tree.result c.args.backend.now c.loop-name.backend c.write_tree.new.self c.write_tree.result c.requires all c.from_sorted_entries-tree.ensures sorted c.write_tree.ensures.ok c.write_tree.ensures.at_path
    c.loop-name.invariant.writes
