-- Trees as association lists from names to values, and the remaining items of their iterators.
-- Cited by contracts of public items: Entries, entries_left, entry_of, names_left, value_at.
use Rattle.std.specs.Prelude.{◌≡◌, ℕ, ◌<◌, List, map, length, Option, Some, slice_index_or}
use Rattle.std.specs.Map.{lookup}
use Rattle.std.specs.Str.{bytes_eq}
use Rattle.jj_paths.specs.Names.{name_of}
use Rattle.jj_paths.specs.Paths.{Name}
use Rattle.jj_backend.specs.declared.backend.tree.TreeEntriesNonRecursiveIterator.{TreeEntriesNonRecursiveIterator}
use Rattle.jj_backend.specs.declared.backend.tree.TreeEntry.{TreeEntry}
use Rattle.jj_backend.specs.declared.backend.tree.TreeNames.{TreeNames}
use Rattle.jj_backend.specs.declared.backend.tree_value.TreeValue.{TreeValue}

-- the entries of a directory in order of their names
abbrev pub Entries : Type 0
Entries = List (Name × TreeValue)

-- the value of the entry with this name
abbrev pub value_at : Entries → Name → Option TreeValue
value_at entries name = lookup (bytes_eq name) entries

-- the entry at this index has the name, and its value is the one that value_at finds
pub record IsEntryAt (entries : Entries) (name : Name) (index : ℕ) : Type 0 where
  pub in_range : index < length entries
  pub has_name : (d : Name × TreeValue) → (slice_index_or entries index d).0 ≡ name
  pub has_value : (d : Name × TreeValue) → value_at entries name
      ≡ Some (slice_index_or entries index d).1

-- the name and the value of an entry
abbrev pub entry_of : TreeEntry → Name × TreeValue
entry_of entry = (name_of entry.name, entry.value.now)

-- the entries, or the names, that an iterator has not yielded yet
abbrev pub entries_left : TreeEntriesNonRecursiveIterator → Entries
entries_left left = left.rest.now

-- the names that an iterator has not yielded yet
abbrev pub names_left : TreeNames → List Name
names_left left = map (λ entry. entry.0) (entries_left left.entries)
