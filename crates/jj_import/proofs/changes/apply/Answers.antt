use Rattle.std.proofs.Common.{◌∙◌, ap, subst, sym}
use Rattle.jj_paths.specs.Paths.{components}
use Rattle.jj_backend.specs.Objects.{Objects}
use Rattle.jj_fast_import.specs.Values.{change_value, content_value}
use Rattle.jj_tree_builder.specs.Changes.{TreeBuilderValue}
use Rattle.jj_import.specs.AppliedChanges.{IsApplied, IsCopied, IsRenamed, files_of, table_of}
use Rattle.jj_import.specs.Stored.{IsExtended}
use Rattle.jj_import.proofs.AppliedLater.{value_later}
use Rattle.jj_import.proofs.AppliedSteps.{deleted, deleted_all, if_ok, is_copied, is_renamed, modified}
use Rattle.jj_import.proofs.changes.apply.Goals as goal

pub returns-in_ok-set-in-Modify-clause-change : goal.returns-in_ok-set-in-Modify-clause-change
returns-in_ok-set-in-Modify-clause-change g c = λ objects extended.
    let marks = table_of c.args.marks.now in
    let content = content_value c.in-Modify.content in
    subst (λ change. IsApplied objects marks (change_value change) (files_of objects.trees c.args.earlier) (files_of objects.trees c.set.new.self)) (sym c.in-Modify.is)
    (modified objects marks c.in-Modify.mode content c.in-Modify.path.items c.in_ok-path-in-Modify.path c.in_ok-value-in-Modify.value c.args.earlier c.set.new.self
    (c.in_ok-path-in-Modify.ensures ∙ ap components c.deref.ensures.value)
    (value_later (g.B.Backend.objects c.value_of.new.backend) objects marks extended c.in-Modify.mode content c.in_ok-value-in-Modify.value c.in_ok-value-in-Modify.ensures.value)
    c.in_ok-set-in-Modify.ensures.set)

pub returns-in_ok-remove-in-Delete-clause-change : goal.returns-in_ok-remove-in-Delete-clause-change
returns-in_ok-remove-in-Delete-clause-change g c = λ objects extended.
    let marks = table_of c.args.marks.now in
    subst (λ change. IsApplied objects marks (change_value change) (files_of objects.trees c.args.earlier) (files_of objects.trees c.remove.new.self)) (sym c.in-Delete.is)
    (deleted objects marks c.in-Delete.path.items c.in_ok-path-in-Delete.path c.args.earlier c.remove.new.self
    (c.in_ok-path-in-Delete.ensures ∙ ap components c.deref-in-Delete.ensures.value) c.in_ok-remove-in-Delete.ensures.removed)

pub returns-in_ok-remove-in-DeleteAll-clause-change : goal.returns-in_ok-remove-in-DeleteAll-clause-change
returns-in_ok-remove-in-DeleteAll-clause-change g c = λ objects extended.
    let marks = table_of c.args.marks.now in
    subst (λ change. IsApplied objects marks (change_value change) (files_of objects.trees c.args.earlier) (files_of objects.trees c.remove-in-DeleteAll.new.self)) (sym c.in-DeleteAll.is)
    (deleted_all objects marks c.root.result c.args.earlier c.remove-in-DeleteAll.new.self c.root.ensures c.in_ok-remove-in-DeleteAll.ensures.removed)

pub returns-in_ok-to-in-Rename-clause-change : goal.returns-in_ok-to-in-Rename-clause-change
returns-in_ok-to-in-Rename-clause-change g c =
    let marks = table_of c.args.marks.now in
    if_ok c.rename.result
    (λ (later : TreeBuilderValue). (objects : Objects) → IsExtended (g.B.Backend.objects c.rename.new.backend) objects
    → IsRenamed objects.trees c.in_ok-from-in-Rename.from c.in_ok-to-in-Rename.to (files_of objects.trees c.args.earlier) (files_of objects.trees later))
    (λ (later : TreeBuilderValue). (objects : Objects) → IsExtended (g.B.Backend.objects c.rename.new.backend) objects
    → IsApplied objects marks (change_value c.args.change.now) (files_of objects.trees c.args.earlier) (files_of objects.trees later))
    (λ later h objects extended.
    subst (λ change. IsApplied objects marks (change_value change) (files_of objects.trees c.args.earlier) (files_of objects.trees later)) (sym c.in-Rename.is)
    (is_renamed objects marks c.in-Rename.from.items c.in-Rename.to.items c.in_ok-from-in-Rename.from c.in_ok-to-in-Rename.to (files_of objects.trees c.args.earlier) (files_of objects.trees later)
    (c.in_ok-from-in-Rename.ensures ∙ ap components c.deref-in-Rename.ensures.value) (c.in_ok-to-in-Rename.ensures ∙ ap components c.deref-in-Rename-2.ensures.value) (h objects extended)))
    c.rename.ensures.renamed

pub returns-in_ok-to-in-Copy-clause-change : goal.returns-in_ok-to-in-Copy-clause-change
returns-in_ok-to-in-Copy-clause-change g c =
    let marks = table_of c.args.marks.now in
    if_ok c.copy.result
    (λ (later : TreeBuilderValue). (objects : Objects) → IsExtended (g.B.Backend.objects c.copy.new.backend) objects
    → IsCopied objects.trees c.in_ok-from-in-Copy.from c.in_ok-to-in-Copy.to (files_of objects.trees c.args.earlier) (files_of objects.trees later))
    (λ (later : TreeBuilderValue). (objects : Objects) → IsExtended (g.B.Backend.objects c.copy.new.backend) objects
    → IsApplied objects marks (change_value c.args.change.now) (files_of objects.trees c.args.earlier) (files_of objects.trees later))
    (λ later h objects extended.
    subst (λ change. IsApplied objects marks (change_value change) (files_of objects.trees c.args.earlier) (files_of objects.trees later)) (sym c.in-Copy.is)
    (is_copied objects marks c.in-Copy.from.items c.in-Copy.to.items c.in_ok-from-in-Copy.from c.in_ok-to-in-Copy.to (files_of objects.trees c.args.earlier) (files_of objects.trees later)
    (c.in_ok-from-in-Copy.ensures ∙ ap components c.deref-in-Copy.ensures.value) (c.in_ok-to-in-Copy.ensures ∙ ap components c.deref-in-Copy-2.ensures.value) (h objects extended)))
    c.copy.ensures.copied
