use Rattle.std.proofs.Common.{◌≡◌, ◌∙◌, [], Some, map, refl, subst, sym}
use Rattle.jj_backend.specs.declared.backend.tree_value.TreeValue.TheVariants.{Tree}
use Rattle.jj_fast_import.specs.Values.{change_value}
use Rattle.jj_tree_builder.specs.Changes.{files_at}
use Rattle.jj_tree_builder.proofs.EntryMaps.{is_none_from}
use Rattle.jj_import.specs.AppliedChanges.{AreApplied, files_of, table_of}
use Rattle.jj_import.proofs.AppliedLater.{applied_first}
use Rattle.jj_import.proofs.Extensions.{extended_more, extended_none, extended_trees}
use Rattle.jj_import.proofs.changes.change_tree.Goals as goal

pub loop-change-init : goal.loop-change-init
loop-change-init g c = record {
  files = λ objects extended end h. h;
  objects = extended_none (g.B.Backend.objects c.args.backend.now);
  same = refl;
}

pub loop-change-preserved : goal.loop-change-preserved
loop-change-preserved g c = record {
  files = λ objects extended end h.
      c.loop-change.invariant.files objects (extended_more (g.B.Backend.objects c.loop-change.backend) (g.B.Backend.objects c.apply.new.backend) objects c.apply.ensures.objects extended) end
      (applied_first objects (table_of c.args.marks.now) c.loop-change.rest.now c.in-Some.others.now c.in-Some.change.now (files_of objects.trees c.loop-change.builder) (files_of objects.trees c.in_ok-next.next) end
      c.in-Some.ensures.cases (c.in_ok-next.ensures.change objects extended) h);
  objects = extended_more (g.B.Backend.objects c.args.backend.now) (g.B.Backend.objects c.loop-change.backend) (g.B.Backend.objects c.apply.new.backend) c.loop-change.invariant.objects c.apply.ensures.objects;
  same = c.apply.ensures.fixed ∙ c.loop-change.invariant.same;
}

pub returns-in_err-next-clause-objects : goal.returns-in_err-next-clause-objects
returns-in_err-next-clause-objects g c =
    extended_more (g.B.Backend.objects c.args.backend.now) (g.B.Backend.objects c.loop-change.backend) (g.B.Backend.objects c.apply.new.backend) c.loop-change.invariant.objects c.apply.ensures.objects

pub returns-in_err-id-clause-objects : goal.returns-in_err-id-clause-objects
returns-in_err-id-clause-objects g c =
    extended_more (g.B.Backend.objects c.args.backend.now) (g.B.Backend.objects c.loop-change.backend) (g.B.Backend.objects c.write_tree.new.backend) c.loop-change.invariant.objects
    (extended_trees (g.B.Backend.objects c.loop-change.backend) (g.B.Backend.objects c.write_tree.new.backend) c.write_tree.ensures.objects)

pub returns-clause-objects : goal.returns-clause-objects
returns-clause-objects g c =
    extended_more (g.B.Backend.objects c.args.backend.now) (g.B.Backend.objects c.loop-change.backend) (g.B.Backend.objects c.write_tree.new.backend) c.loop-change.invariant.objects
    (extended_trees (g.B.Backend.objects c.loop-change.backend) (g.B.Backend.objects c.write_tree.new.backend) c.write_tree.ensures.objects)

pub returns-clause-files : goal.returns-clause-files
returns-clause-files g c = λ objects extended.
    let marks = table_of c.args.marks.now in
    let end = files_at objects.trees (Some (Tree c.in_ok-id.id)) in
    let none : c.loop-change.rest.now ≡ [] = is_none_from c.loop-change.rest.now c.split_first.result c.in_default.is c.split_first.ensures.variant in
    subst (λ builder. AreApplied objects marks (map change_value c.args.changes.now) (files_of objects.trees builder) end) c.new-builder.ensures
    (c.loop-change.invariant.files objects
    (extended_more (g.B.Backend.objects c.loop-change.backend) (g.B.Backend.objects c.write_tree.new.backend) objects
    (extended_trees (g.B.Backend.objects c.loop-change.backend) (g.B.Backend.objects c.write_tree.new.backend) c.write_tree.ensures.objects) extended)
    end
    (subst (λ changes. AreApplied objects marks (map change_value changes) (files_of objects.trees c.loop-change.builder) end) (sym none)
    (c.in_ok-id.ensures.files objects.trees extended.trees)))
