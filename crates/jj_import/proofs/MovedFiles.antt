-- Files after changes that are not written yet, and the values at paths of later stores.
use Rattle.std.proofs.Common.{◌≡◌, ◌∙◌, ℕ, List, [], ◌∷◌, ◌++◌, Option, Some, None, refl, sym, ap}
use Rattle.std.specs.Prelude.{option_and_then}
use Rattle.std.specs.Map.{lookup}
use Rattle.std.specs.Str.{bytes_eq}
use Rattle.jj_paths.specs.Paths.{Name, Path}
use Rattle.jj_backend.specs.Objects.{ById}
use Rattle.jj_backend.specs.Trees.{Entries}
use Rattle.jj_backend.specs.declared.backend.tree_value.TreeValue.{TreeValue}
use Rattle.jj_backend.specs.declared.backend.tree_value.TreeValue.TheVariants.{File, Symlink, Tree, GitSubmodule}
use Rattle.jj_trees.specs.TreeMerges.{child}
use Rattle.jj_trees.specs.WrittenTrees.{stored_at}
use Rattle.jj_tree_builder.proofs.ChangedFiles.{changed-append, put-cong}
use Rattle.jj_tree_builder.specs.Changes.{Files, IsGrown, TreeBuilderValue, changed, file_of, files_at, put}
use Rattle.jj_import.specs.AppliedChanges.{IsCopied, IsFound, IsPut, IsRenamed, files_of}

-- ---- values at paths

stored_at-none : (trees : ById Entries) (path : Path) → stored_at trees None path ≡ None
stored_at-none trees [] = refl
stored_at-none trees (name ∷ path) = stored_at-none trees path

stored_at-append : (trees : ById Entries) (value : Option TreeValue) (path rest : Path) → stored_at trees value (path ++ rest) ≡ stored_at trees (stored_at trees value path) rest
stored_at-append trees value [] rest = refl
stored_at-append trees value (name ∷ path) rest = stored_at-append trees (child trees name value) path rest

module _ (earlier later : ById Entries) (grown : IsGrown earlier later) where
  child_grown : (name : Name) (value : Option TreeValue) (v : TreeValue) → child earlier name value ≡ Some v → child later name value ≡ Some v
  child_grown name None v h = h
  child_grown name (Some (File id executable copy_id)) v h = h
  child_grown name (Some (Symlink id)) v h = h
  child_grown name (Some (GitSubmodule id)) v h = h
  child_grown name (Some (Tree id)) v h = of_entries (earlier id) refl h
    where
      found : Option Entries → Option TreeValue
      found o = option_and_then (λ entries. lookup (bytes_eq name) entries) o

      of_entries : (o : Option Entries) → earlier id ≡ o → option_and_then (λ entries. lookup (bytes_eq name) entries) o ≡ Some v
          → option_and_then (λ entries. lookup (bytes_eq name) entries) (later id) ≡ Some v
      of_entries None e k = let impossible : None ≡ Some v = k in absurd cc
      of_entries (Some entries) e k = ap (λ (o : Option Entries). option_and_then (λ entries. lookup (bytes_eq name) entries) o) (grown id entries e) ∙ k

  -- a value at a path is there in later stores
  pub stored_grown : (value : Option TreeValue) (path : Path) (found : TreeValue) → stored_at earlier value path ≡ Some found → stored_at later value path ≡ Some found
  stored_grown value [] found h = h
  stored_grown value (name ∷ rest) found h = by_child (λ v k. stored_grown (Some v) rest found k) (child earlier name value) refl h
    where
      by_child : ((v : TreeValue) → stored_at earlier (Some v) rest ≡ Some found → stored_at later (Some v) rest ≡ Some found)
          → (o : Option TreeValue) → child earlier name value ≡ o → stored_at earlier o rest ≡ Some found → stored_at later (child later name value) rest ≡ Some found
      by_child below None e k = let impossible : None ≡ Some found = sym (stored_at-none earlier rest) ∙ k in absurd cc
      by_child below (Some v) e k = ap (λ (o : Option TreeValue). stored_at later o rest) (child_grown name value v e) ∙ below v k

-- ---- builders

module _ (trees : ById Entries) where
  -- one more change
  pub put_files : (old new : TreeBuilderValue) (path : Path) (value : Option TreeValue) → new ≡ record old { changes = old.changes ++ (path, value) ∷ [] }
      → IsPut trees path value (files_of trees old) (files_of trees new)
  put_files old new path value e = λ place.
      ap (λ (b : TreeBuilderValue). files_of trees b place) e
      ∙ changed-append trees old.changes (path, value) (files_at trees (Some (Tree old.base))) place

  -- files that are equal before a change
  pub put_same : (path : Path) (value : Option TreeValue) (m n after : Files) → ((place : Path) → m place ≡ n place) → IsPut trees path value m after → IsPut trees path value n after
  put_same path value m n after same h = λ place. h place ∙ put-cong trees path value m n same place

  -- a builder without changes
  pub files_of-new : (base : List ℕ) (builder : TreeBuilderValue) → builder ≡ record { base = base; changes = [] } → (place : Path)
      → files_of trees builder place ≡ files_at trees (Some (Tree base)) place
  files_of-new base builder e place = ap (λ (b : TreeBuilderValue). files_of trees b place) e

  -- the value at a path has the files at it and below it
  pub found_at : (now : ById Entries) → IsGrown now trees → (base : List ℕ) (path : Path) (value : TreeValue) (files : Files)
      → Some value ≡ stored_at now (Some (Tree base)) path → ((place : Path) → files_at trees (Some (Tree base)) place ≡ files place) → IsFound trees path value files
  found_at now grown base path value files is same = λ rest.
      let there : stored_at trees (Some (Tree base)) path ≡ Some value = stored_grown now trees grown (Some (Tree base)) path value (sym is) in
      ap (λ (o : Option TreeValue). file_of (stored_at trees o rest)) (sym there)
      ∙ ap file_of (sym (stored_at-append trees (Some (Tree base)) path rest))
      ∙ same (path ++ rest)

  module _ (base : List ℕ) (before : Files) (same : (place : Path) → files_at trees (Some (Tree base)) place ≡ before place) (fresh : TreeBuilderValue) (is_fresh : fresh ≡ record { base = base; changes = [] }) where
    was : (place : Path) → files_of trees fresh place ≡ before place
    was place = files_of-new base fresh is_fresh place ∙ same place

    pub copied : (from to : Path) (value : TreeValue) (later : TreeBuilderValue) → IsFound trees from value before
        → later ≡ record fresh { changes = fresh.changes ++ (to, Some value) ∷ [] } → IsCopied trees from to before (files_of trees later)
    copied from to value later found e =
        (value, found, put_same to (Some value) (files_of trees fresh) before (files_of trees later) was (put_files fresh later to (Some value) e))

    pub renamed : (from to : Path) (value : TreeValue) (without later : TreeBuilderValue) → IsFound trees from value before
        → without ≡ record fresh { changes = fresh.changes ++ (from, None) ∷ [] } → later ≡ record without { changes = without.changes ++ (to, Some value) ∷ [] }
        → IsRenamed trees from to before (files_of trees later)
    renamed from to value without later found d e =
        let gone : IsPut trees from None before (files_of trees without) = put_same from None (files_of trees fresh) before (files_of trees without) was (put_files fresh without from None d) in
        (value, found, put_same to (Some value) (files_of trees without) (put trees from None before) (files_of trees later) gone (put_files without later to (Some value) e))
