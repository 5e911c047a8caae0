-- The entries of a log of written objects.
-- Cited by contracts of public items: LogEntryValue, digest_of, entry_of, kind_name.
use Rattle.std.specs.Prelude.{ℕ, List, codes}
use Rattle.jj_content.specs.Blake2b.{blake2b}
use Rattle.jj_content.specs.Content.{string_content}
use Rattle.jj_backend.specs.Contents.{bytes_content, copy_history_content, commit_content}
use Rattle.jj_backend.specs.Objects.{Object, file_object, symlink_object, copy_object, tree_object, commit_object}
use Rattle.jj_backend.specs.TreeLaws.{tree_content}
use Rattle.jj_mirror.specs.declared.object_log.ObjectKind.{ObjectKind}
use Rattle.jj_mirror.specs.declared.object_log.ObjectKind.TheVariants.{File, Symlink, Copy, Tree, Commit}

-- the name of a kind of objects
abbrev pub kind_name : ObjectKind → List ℕ
kind_name File = codes "file"
kind_name Symlink = codes "symlink"
kind_name Copy = codes "copy"
kind_name Tree = codes "tree"
kind_name Commit = codes "commit"

-- the kind of an object, its digest, and its bytes
pub record LogEntryValue : Type 0 where
  pub kind : ObjectKind
  pub id : List ℕ
  pub bytes : List ℕ

-- the entry of a record, whose bytes are its content
abbrev pub record_entry : ObjectKind → List ℕ → LogEntryValue
record_entry kind content = record { kind = kind; id = blake2b content; bytes = content }

-- the entry of an object: the digest of its content, and its bytes
abbrev pub entry_of : Object → LogEntryValue
entry_of (file_object contents) =
    record { kind = File; id = blake2b (bytes_content contents); bytes = contents }
entry_of (symlink_object target) =
    record { kind = Symlink; id = blake2b (string_content target); bytes = target }
entry_of (copy_object history) = record_entry Copy (copy_history_content history)
entry_of (tree_object entries) = record_entry Tree (tree_content entries)
entry_of (commit_object c) = record_entry Commit (commit_content c)

-- the digest of the object of this kind with these bytes
abbrev pub digest_of : ObjectKind → List ℕ → List ℕ
digest_of File contents = blake2b (bytes_content contents)
digest_of Symlink target = blake2b (string_content target)
digest_of Copy content = blake2b content
digest_of Tree content = blake2b content
digest_of Commit content = blake2b content
