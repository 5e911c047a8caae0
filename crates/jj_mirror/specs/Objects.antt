-- The objects of a backend by their digests, and the objects whose entries replay takes.
-- Cited by contracts of public items: HasObject, IsDigestTaken, IsObject, IsReplayable, Stores.
use Rattle.std.specs.Prelude.{◌≡◌, ◌≢◌, ⊤, [], List, ℕ, Some}
use Rattle.std.specs.Str.{IsUtf8}
use Rattle.jj_backend.specs.Contents.{IsCopyHistory, IsCommit}
use Rattle.jj_backend.specs.Objects.{Object, file_object, symlink_object, copy_object, tree_object, commit_object, Objects}
use Rattle.jj_backend.specs.TreeLaws.{IsTree}
use Rattle.jj_mirror.specs.Entries.{entry_of}

-- the object is mapped from this id
abbrev pub Stores : Objects → List ℕ → Object → Type 0
Stores objects id (file_object contents) = objects.files id ≡ Some contents
Stores objects id (symlink_object target) = objects.symlinks id ≡ Some target
Stores objects id (copy_object history) = objects.copies id ≡ Some history
Stores objects id (tree_object entries) = objects.trees id ≡ Some entries
Stores objects id (commit_object c) = objects.commits id ≡ Some c

-- the object is stored under its digest
abbrev pub HasObject : Objects → Object → Type 0
HasObject objects object = Stores objects (entry_of object).id object

-- strings are UTF-8, and records are valid values
abbrev pub IsObject : Object → Type 0
IsObject (file_object contents) = ⊤
IsObject (symlink_object target) = IsUtf8 target
IsObject (copy_object history) = IsCopyHistory history
IsObject (tree_object entries) = IsTree entries
IsObject (commit_object c) = IsCommit c

-- the object is a commit without parents
abbrev pub IsParentless : Object → Type 0
IsParentless (commit_object c) = c.parents ≡ []
IsParentless _ = ⊥

-- a different object of the same kind is stored under the object's digest
abbrev pub IsDigestTaken : Objects → Object → Type 0
IsDigestTaken objects object = (other : Object) × ((entry_of other).kind ≡ (entry_of object).kind)
    × Stores objects (entry_of object).id other × (other ≢ object)

-- replay takes the entry of the object after those of these objects: it is a value of its kind, no
-- commit without parents, and no different object has its digest
abbrev pub IsReplayable : Objects → Object → Type 0
IsReplayable objects object =
    IsObject object × ¬ (IsParentless object) × ¬ (IsDigestTaken objects object)
