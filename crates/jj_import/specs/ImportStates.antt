-- The state of an import, and the commit that a commit of a stream becomes.
-- Cited by contracts of public items: ImportState, IsImportedCommit, NamesValue, names_of,
-- state_of.
use Rattle.std.specs.Prelude.{◌≡◌, ◌⊎◌, ⊤, ℕ, if◌then◌else◌, Bool, true, false, is_some, IsSome, List, [], ◌∷◌, ◌++◌, codes, Option, Some, None}
use Rattle.std.specs.Option.{MatchOption, option_map, unwrap_or}
use Rattle.std.specs.BTreeMap.{get_by_text}
use Rattle.std.specs.Str.{bytes_eq}
use Rattle.jj_backend.specs.Objects.{ById, Objects, put}
use Rattle.jj_backend.specs.Records.{CommitValue}
use Rattle.jj_backend.specs.declared.backend.tree_value.TreeValue.TheVariants.{Tree}
use Rattle.jj_fast_import.specs.Values.{CommitValue as StreamCommit, ReferenceValue, ByMark, ByName}
use Rattle.jj_tree_builder.specs.Changes.{files_at}
use Rattle.jj_import.specs.AppliedChanges.{AreApplied, MarkTable, table_of, with_mark}
use Rattle.jj_import.specs.Imported.{IsImported, imported_string}
use Rattle.jj_import.specs.declared.importer.Importer.{Importer}
use Rattle.jj_import.specs.declared.names.Names.{Names}
use Rattle.jj_import.specs.declared.marks.Marked.TheVariants as marked

-- the commits that refs and Git's ids name
pub record NamesValue : Type 0 where
  pub refs : ById (List ℕ)
  pub git_ids : ById (List ℕ)

-- the objects of the stream's marks, the refs that it has set (None for one without a commit), and
-- the names at the start with those refs
pub record ImportState : Type 0 where
  pub marks : MarkTable
  pub stream_refs : ById (Option (List ℕ))
  pub names : NamesValue

abbrev pub names_of : Names → NamesValue
names_of names = record {
  refs = λ name. get_by_text names.refs name;
  git_ids = λ name. get_by_text names.git_ids name;
}

abbrev pub state_of : Importer → ImportState
state_of importer = record {
  marks = table_of importer.marks;
  stream_refs = λ name. get_by_text importer.stream_refs name;
  names = names_of importer.names;
}

-- the first of two values that is there
abbrev pub or_else : {V : Type 0} → Option V → Option V → Option V
or_else None other = other
or_else (Some value) other = Some value

-- the commit of a name: of a ref of the stream, of an earlier ref, or the one with this id of Git
abbrev pub commit_named : ImportState → List ℕ → Option (List ℕ)
commit_named state name = unwrap_or (state.stream_refs name)
    (or_else (state.names.refs name) (state.names.git_ids name))

-- the string is the name, or the name with `^0` after it, which says that it is that of a commit
abbrev pub IsNameIn : List ℕ → List ℕ → Type 0
IsNameIn text name = (text ≡ name) ⊎ (text ≡ name ++ codes "^0")

-- the reference is one to this commit
abbrev pub IsReference : ImportState → ReferenceValue → List ℕ → Type 0
IsReference state (ByMark mark) id = state.marks mark ≡ Some (marked.Commit id)
IsReference state (ByName bytes) id = (name : List ℕ) × IsNameIn (imported_string bytes) name
    × (commit_named state name ≡ Some id)

-- the reference is the mark of a blob
abbrev pub IsBlob : MarkTable → ReferenceValue → Type 0
IsBlob marks (ByMark mark) = (id : List ℕ) × (marks mark ≡ Some (marked.File id))
IsBlob marks (ByName name) = ⊥

-- the references are those to these commits, in this order
abbrev pub AreReferences : ImportState → List ReferenceValue → List (List ℕ) → Type 0
AreReferences state [] [] = ⊤
AreReferences state [] (id ∷ ids) = ⊥
AreReferences state (reference ∷ references) [] = ⊥
AreReferences state (reference ∷ references) (id ∷ ids) =
    IsReference state reference id × AreReferences state references ids

-- the commit that `from` names, and without it that of the ref in this stream
abbrev pub IsContinued : ImportState → List ℕ → Option ReferenceValue → Option (List ℕ) → Type 0
IsContinued state ref_name (Some from) first =
    (id : List ℕ) × IsReference state from id × (first ≡ Some id)
IsContinued state ref_name None first =
    first ≡ unwrap_or (state.stream_refs ref_name) None

-- the parents of a commit: the root commit, if there are no others
abbrev pub parents_of : Option (List ℕ) → List (List ℕ) → List ℕ → List (List ℕ)
parents_of (Some first) merged root = first ∷ merged
parents_of None [] root = root ∷ []
parents_of None (id ∷ merged) root = id ∷ merged

-- the tree is that of the parent, and without one the empty tree
abbrev pub IsTreeBefore : Objects → Option (List ℕ) → List ℕ → Type 0
IsTreeBefore objects None tree = objects.trees tree ≡ Some []
IsTreeBefore objects (Some parent) tree = (commit : CommitValue)
    × (objects.commits parent ≡ Some commit) × (commit.root_tree ≡ tree ∷ [])

-- the store has, under this id, the commit that the stream has in this state: with its parents,
-- author, committer and message, and a tree whose files are those of its first parent after its
-- changes
pub record IsImportedCommit (objects : Objects) (root : List ℕ) (state : ImportState)
    (commit : StreamCommit) (id : List ℕ) : Type 0 where
  pub stored : CommitValue
  pub is_stored : objects.commits id ≡ Some stored
  pub first : Option (List ℕ)
  pub is_first : IsContinued state (imported_string commit.ref_name) commit.from first
  pub merged : List (List ℕ)
  pub are_merged : AreReferences state commit.merges merged
  pub tree : List ℕ
  pub has_parts : IsImported commit (parents_of first merged root) tree stored
  pub base : List ℕ
  pub is_base : IsTreeBefore objects first base
  pub has_files : AreApplied objects state.marks commit.changes
      (files_at objects.trees (Some (Tree base))) (files_at objects.trees (Some (Tree tree)))

-- the commit that an id of Git names, if it is stored already
abbrev pub known_commit : ImportState → Option (List ℕ) → Option (List ℕ)
known_commit state None = None
known_commit state (Some git_id) = state.names.git_ids git_id

-- the id is that of the commit of the stream: of one that was stored before, by its id of Git, or
-- of one that is as the stream has it
abbrev pub IsStoredCommit : Objects → List ℕ → ImportState → StreamCommit → List ℕ → Type 0
IsStoredCommit objects root state commit id =
    MatchOption (known_commit state (option_map imported_string commit.original_oid))
    (IsImportedCommit objects root state commit id)
    (λ known. (id ≡ known) × IsSome (objects.commits known))

-- ---- changes of the state

-- the ids of Git with one more, if there is one; a known one names the commit that it named
abbrev pub with_git_id : ById (List ℕ) → Option (List ℕ) → List ℕ → ById (List ℕ)
with_git_id ids None id = ids
with_git_id ids (Some git_id) id =
    λ other. or_else (ids other) (if bytes_eq git_id other then Some id else None)

-- the ids of Git without one
abbrev pub without_git_id : ById (List ℕ) → Option (List ℕ) → ById (List ℕ)
without_git_id ids None = ids
without_git_id ids (Some git_id) = λ other. if bytes_eq git_id other then None else ids other

-- the ids of Git without one that is new
abbrev pub without_new_id : ById (List ℕ) → Option (List ℕ) → Bool → ById (List ℕ)
without_new_id ids git_id false = ids
without_new_id ids git_id true = without_git_id ids git_id

-- whether the name is there, and has a value
abbrev pub has_entry : {V : Type 0} → ById V → Option (List ℕ) → Bool
has_entry entries None = false
has_entry entries (Some name) = is_some (entries name)

-- the map with the value that a name had
abbrev pub with_old : {V : Type 0} → ById V → List ℕ → Option V → ById V
with_old entries name old =
    λ other. if bytes_eq name other then old else entries other

-- the state in which the mark, the ref and the id of Git name the commit too
abbrev pub with_commit : ImportState → Option ℕ → List ℕ → Option (List ℕ) → List ℕ → ImportState
with_commit state mark ref_name git_id id = record {
  marks = with_mark state.marks mark (marked.Commit id);
  stream_refs = put state.stream_refs ref_name (Some id);
  names = record {
    refs = put state.names.refs ref_name id;
    git_ids = with_git_id state.names.git_ids git_id id;
  };
}

-- the state in which the ref names the commit
abbrev pub with_ref : ImportState → List ℕ → List ℕ → ImportState
with_ref state ref_name id = with_commit state None ref_name None id

-- the state in which the mark names the file too
abbrev pub with_blob : ImportState → Option ℕ → List ℕ → ImportState
with_blob state mark id = record {
  marks = with_mark state.marks mark (marked.File id);
  stream_refs = state.stream_refs;
  names = state.names;
}

-- the state in which the ref has no commit in this stream
abbrev pub without_ref : ImportState → List ℕ → ImportState
without_ref state ref_name = record {
  marks = state.marks;
  stream_refs = put state.stream_refs ref_name None;
  names = state.names;
}

-- the states are equal, name by name
pub record IsSame (expected actual : ImportState) : Type 0 where
  pub marks : (mark : ℕ) → actual.marks mark ≡ expected.marks mark
  pub stream_refs : (name : List ℕ) → actual.stream_refs name ≡ expected.stream_refs name
  pub refs : (name : List ℕ) → actual.names.refs name ≡ expected.names.refs name
  pub git_ids : (name : List ℕ) → actual.names.git_ids name ≡ expected.names.git_ids name
