-- The files of a tree after the changes of a commit.
-- Cited by contracts of public items: AreApplied, MarkTable, table_of.
use Rattle.std.specs.Prelude.{◌≡◌, ◌==◌, if◌then◌else◌, ℕ, true, false, List, [], ◌∷◌, ◌++◌, Option, Some, None}
use Rattle.jj_content.specs.Hex.{hex_digits, DecodesTo}
use Rattle.jj_paths.specs.Paths.{Path, components}
use Rattle.jj_backend.specs.Objects.{ById, Objects}
use Rattle.jj_backend.specs.Trees.{Entries}
use Rattle.jj_backend.specs.declared.backend.tree_value.TreeValue.{TreeValue}
use Rattle.jj_backend.specs.declared.backend.tree_value.TreeValue.TheVariants as values
use Rattle.jj_fast_import.specs.declared.command.Mode.{Mode}
use Rattle.jj_fast_import.specs.declared.command.Mode.TheVariants.{Normal, Executable, Symlink, Gitlink, Directory}
use Rattle.jj_fast_import.specs.Values.{ByMark, ByName, ContentValue, Stored, Inline, ChangeValue, Modifies, Deletes, Renames, Copies, DeletesAll, Notes}
use Rattle.jj_tree_builder.specs.Changes.{Files, TreeBuilderValue, changed, files_at, put}
use Rattle.std.specs.Ordering.{nat_cmp}
use Rattle.std.specs.BTreeMap.{get}
use Rattle.jj_import.specs.declared.marks.Marks.{Marks}
use Rattle.jj_import.specs.declared.marks.Marked.{Marked}
use Rattle.jj_import.specs.declared.marks.Marked.TheVariants as marked

-- the object of each mark: the id of a file or of a commit
abbrev pub MarkTable : Type 0
MarkTable = ℕ → Option Marked

abbrev pub table_of : Marks → MarkTable
table_of marks = λ mark. get nat_cmp marks.objects mark

-- the marks with one more, if there is one
abbrev pub with_mark : MarkTable → Option ℕ → Marked → MarkTable
with_mark marks None object = marks
with_mark marks (Some mark) object = λ other. if mark == other then Some object else marks other

-- the marks without one
abbrev pub without_mark : MarkTable → Option ℕ → MarkTable
without_mark marks None = marks
without_mark marks (Some mark) = λ other. if mark == other then None else marks other

-- the files of a tree with changes that are not written yet
abbrev pub files_of : ById Entries → TreeBuilderValue → Files
files_of trees builder =
    changed trees builder.changes (files_at trees (Some (values.Tree builder.base)))

-- the content is a commit of a submodule, by its id in hex digits
abbrev pub IsSubmodule : ContentValue → List ℕ → Type 0
IsSubmodule (Inline contents) id = ⊥
IsSubmodule (Stored (ByMark mark)) id = ⊥
IsSubmodule (Stored (ByName name)) id = DecodesTo hex_digits name id

module _ (trees : ById Entries) where
  -- the files after a value was put at a path; None removes what is there
  abbrev pub IsPut : Path → Option TreeValue → Files → Files → Type 0
  IsPut path value before after = (place : Path) → after place ≡ put trees path value before place

  -- the value is the file at the path, or a directory with the files below the path
  abbrev pub IsFound : Path → TreeValue → Files → Type 0
  IsFound path value files = (rest : Path) → files_at trees (Some value) rest ≡ files (path ++ rest)

  -- the file or the directory at one path is at another in place of it
  abbrev pub IsRenamed : Path → Path → Files → Files → Type 0
  IsRenamed from to before after = (value : TreeValue) × IsFound from value before
      × IsPut to (Some value) (put trees from None before) after

  -- the file or the directory at one path is also at another
  abbrev pub IsCopied : Path → Path → Files → Files → Type 0
  IsCopied from to before after = (value : TreeValue) × IsFound from value before
      × IsPut to (Some value) before after

-- the symbolic link has the content of the file as its target
abbrev pub IsLinkTo : Objects → List ℕ → List ℕ → Type 0
IsLinkTo objects link file = (target : List ℕ) × (objects.files file ≡ Some target)
    × (objects.symlinks link ≡ Some target)

module _ (objects : Objects) (marks : MarkTable) where
  -- the content is that of the file with this id
  abbrev pub IsFileOf : ContentValue → List ℕ → Type 0
  IsFileOf (Inline contents) id = objects.files id ≡ Some contents
  IsFileOf (Stored (ByMark mark)) id = marks mark ≡ Some (marked.File id)
  IsFileOf (Stored (ByName name)) id = ⊥

  -- the value has this mode and this content
  abbrev pub IsValueOf : Mode → ContentValue → TreeValue → Type 0
  IsValueOf Normal content value =
      (id : List ℕ) × IsFileOf content id × (value ≡ values.File id false [])
  IsValueOf Executable content value =
      (id : List ℕ) × IsFileOf content id × (value ≡ values.File id true [])
  IsValueOf Symlink content value = (link : List ℕ) × (file : List ℕ)
      × IsFileOf content file × IsLinkTo objects link file × (value ≡ values.Symlink link)
  IsValueOf Gitlink content value =
      (id : List ℕ) × IsSubmodule content id × (value ≡ values.GitSubmodule id)
  IsValueOf Directory content value = ⊥

  -- the change makes the later files of the earlier ones
  abbrev pub IsApplied : ChangeValue → Files → Files → Type 0
  IsApplied (Modifies mode content path) before after = (value : TreeValue)
      × IsValueOf mode content value
      × IsPut objects.trees (components path) (Some value) before after
  IsApplied (Deletes path) before after = IsPut objects.trees (components path) None before after
  IsApplied DeletesAll before after = IsPut objects.trees [] None before after
  IsApplied (Renames from to) before after =
      IsRenamed objects.trees (components from) (components to) before after
  IsApplied (Copies from to) before after =
      IsCopied objects.trees (components from) (components to) before after
  IsApplied (Notes content commit) before after = ⊥

  -- the changes, one after the other, make the later files of the earlier ones
  abbrev pub AreApplied : List ChangeValue → Files → Files → Type 0
  AreApplied [] before after = (place : Path) → after place ≡ before place
  AreApplied (change ∷ changes) before after = (between : Files)
      × IsApplied change before between × AreApplied changes between after
