use Rattle.std.proofs.Common.{◌≡◌, ◌∙◌, ℕ, List, Option, Some, map, ap, subst}
use Rattle.std.specs.Option.{option_map}
use Rattle.jj_backend.specs.Objects.{Objects}
use Rattle.jj_backend.specs.declared.backend.tree_value.TreeValue.TheVariants.{Tree}
use Rattle.jj_fast_import.specs.declared.command.Change.{Change}
use Rattle.jj_fast_import.specs.declared.command.Reference.{Reference}
use Rattle.jj_fast_import.specs.Values.{ReferenceValue, change_value, commit_value, reference_value}
use Rattle.jj_tree_builder.specs.Changes.{files_at}
use Rattle.jj_import.specs.AppliedChanges.{AreApplied}
use Rattle.jj_import.specs.ImportStates.{AreReferences, IsContinued, IsTreeBefore, parents_of, state_of}
use Rattle.jj_import.specs.Imported.{IsImported, imported_string}
use Rattle.jj_import.specs.Stored.{IsExtended}
use Rattle.jj_import.proofs.Extensions.{extended_more}
use Rattle.jj_import.proofs.NamedCommits.{copied_reference, tree_before_later}
use Rattle.jj_import.proofs.importer.Importer.write_commit.Goals as goal

pub returns-in_err-id-clause-objects : goal.returns-in_err-id-clause-objects
returns-in_err-id-clause-objects g c =
    extended_more (g.B.Backend.objects c.args.backend.now) (g.B.Backend.objects c.change_tree.new.backend) (g.B.Backend.objects c.write_record.new.backend) c.change_tree.ensures.objects c.write_record.ensures.objects

pub returns-clause-objects : goal.returns-clause-objects
returns-clause-objects g c =
    extended_more (g.B.Backend.objects c.args.backend.now) (g.B.Backend.objects c.change_tree.new.backend) (g.B.Backend.objects c.write_record.new.backend) c.change_tree.ensures.objects c.write_record.ensures.objects

pub returns-clause-commit : goal.returns-clause-commit
returns-clause-commit g c = λ objects extended.
    let before = g.B.Backend.objects c.args.backend.now in
    let with_tree = g.B.Backend.objects c.change_tree.new.backend in
    let state = state_of c.args.self.now in
    let first = c.in_ok-first.first in
    let tree = c.in_ok-tree.tree in
    let base = c.in_ok-base.base in
    let later : IsExtended with_tree objects = extended_more with_tree (g.B.Backend.objects c.write_record.new.backend) objects c.write_record.ensures.objects extended in
    let root : c.in_ok-root.root ≡ (g.B.Backend.fixed c.args.backend.now).root_commit_id = cc (c.in_ok-root.ensures.cases, c.root_commit_id.ensures.id) in
    let parents : c.in_ok-parents.parents.items ≡ parents_of first c.in_ok-merged.merged.items (g.B.Backend.fixed c.args.backend.now).root_commit_id =
    c.in_ok-parents.ensures ∙ ap (parents_of first c.in_ok-merged.merged.items) root in
    let from : option_map (λ r. reference_value r.now) c.as_ref.result ≡ option_map reference_value c.args.commit.now.from =
    copied_reference c.as_ref.result ∙ ap (option_map reference_value) c.as_ref.ensures.value in
    record {
      stored = c.in_ok-record.record;
      is_stored = extended.commits c.in_ok-id.id c.in_ok-record.record c.in_ok-id.ensures.commit;
      first = first;
      is_first = subst (λ (name : List ℕ). IsContinued state name (option_map reference_value c.args.commit.now.from) first) c.requires
          (subst (λ (f : Option ReferenceValue). IsContinued state c.args.ref_name.now f first) from c.in_ok-first.ensures);
      merged = c.in_ok-merged.merged.items;
      are_merged = subst (λ (rs : List Reference). AreReferences state (map reference_value rs) c.in_ok-merged.merged.items) c.deref.ensures.value c.in_ok-merged.ensures;
      tree = tree;
      has_parts = subst (λ (ps : List (List ℕ)). IsImported (commit_value c.args.commit.now) ps tree c.in_ok-record.record) parents c.in_ok-record.ensures;
      base = base;
      is_base = tree_before_later before objects (extended_more before with_tree objects c.change_tree.ensures.objects later) first base
          (subst (λ (f : Option (List ℕ)). IsTreeBefore before f base) c.as_ref-2.ensures.value c.in_ok-base.ensures);
      has_files = subst (λ (cs : List Change). AreApplied objects state.marks (map change_value cs) (files_at objects.trees (Some (Tree base))) (files_at objects.trees (Some (Tree tree))))
          c.deref-3.ensures.value (c.in_ok-tree.ensures.files objects later);
    }
