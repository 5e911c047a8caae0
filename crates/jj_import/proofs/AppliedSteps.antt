-- Changes of a stream, by the changes of a builder that apply them.
use Rattle.std.proofs.Common.{◌≡◌, ℕ, List, [], ◌∷◌, ◌++◌, Some, None, subst}
use Rattle.std.specs.Prelude.{Result, Ok, Err, IfOk}
use Rattle.jj_paths.specs.Paths.{Path, components}
use Rattle.jj_backend.specs.Objects.{Objects}
use Rattle.jj_backend.specs.declared.backend.tree_value.TreeValue.{TreeValue}
use Rattle.jj_fast_import.specs.declared.command.Mode.{Mode}
use Rattle.jj_fast_import.specs.Values.{ContentValue, Copies, Deletes, DeletesAll, Modifies, Renames}
use Rattle.jj_tree_builder.specs.Changes.{Files, TreeBuilderValue}
use Rattle.jj_import.specs.AppliedChanges.{IsApplied, IsCopied, IsPut, IsRenamed, IsValueOf, MarkTable, files_of}
use Rattle.jj_import.proofs.MovedFiles.{put_files}

module _ (objects : Objects) (marks : MarkTable) where
  pub modified : (mode : Mode) (content : ContentValue) (bytes : List ℕ) (path : Path) (value : TreeValue) (old new : TreeBuilderValue) → path ≡ components bytes
      → IsValueOf objects marks mode content value → new ≡ record old { changes = old.changes ++ (path, Some value) ∷ [] }
      → IsApplied objects marks (Modifies mode content bytes) (files_of objects.trees old) (files_of objects.trees new)
  modified mode content bytes path value old new e h k =
      (value, h, subst (λ p. IsPut objects.trees p (Some value) (files_of objects.trees old) (files_of objects.trees new)) e (put_files objects.trees old new path (Some value) k))

  pub deleted : (bytes : List ℕ) (path : Path) (old new : TreeBuilderValue) → path ≡ components bytes
      → new ≡ record old { changes = old.changes ++ (path, None) ∷ [] } → IsApplied objects marks (Deletes bytes) (files_of objects.trees old) (files_of objects.trees new)
  deleted bytes path old new e k =
      subst (λ p. IsPut objects.trees p None (files_of objects.trees old) (files_of objects.trees new)) e (put_files objects.trees old new path None k)

  pub deleted_all : (path : Path) (old new : TreeBuilderValue) → path ≡ []
      → new ≡ record old { changes = old.changes ++ (path, None) ∷ [] } → IsApplied objects marks DeletesAll (files_of objects.trees old) (files_of objects.trees new)
  deleted_all path old new e k =
      subst (λ p. IsPut objects.trees p None (files_of objects.trees old) (files_of objects.trees new)) e (put_files objects.trees old new path None k)

  pub is_renamed : (from to : List ℕ) (p q : Path) (before after : Files) → p ≡ components from → q ≡ components to
      → IsRenamed objects.trees p q before after → IsApplied objects marks (Renames from to) before after
  is_renamed from to p q before after e f h =
      subst (λ y. IsRenamed objects.trees (components from) y before after) f (subst (λ x. IsRenamed objects.trees x q before after) e h)

  pub is_copied : (from to : List ℕ) (p q : Path) (before after : Files) → p ≡ components from → q ≡ components to
      → IsCopied objects.trees p q before after → IsApplied objects marks (Copies from to) before after
  is_copied from to p q before after e f h =
      subst (λ y. IsCopied objects.trees (components from) y before after) f (subst (λ x. IsCopied objects.trees x q before after) e h)

pub if_ok : {T E : Type 0} (r : Result T E) (P Q : T → Type 0) → ((x : T) → P x → Q x) → IfOk r P → IfOk r Q
if_ok (Ok x) P Q f h = f x h
if_ok (Err e) P Q f h = tt
