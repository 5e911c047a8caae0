-- Tree values: their copy ids and content bytes.
-- Cited by contracts of public items: IsTreeValue, copy_id_of, tree_value_content.
use Rattle.std.specs.Prelude.{ℕ, Bool, List, ◌++◌, Option, Some, None, ⊤}
use Rattle.jj_content.specs.Content.{u32_content, bool_content}
use Rattle.jj_backend.specs.Contents.{AreBytes, bytes_content}
use Rattle.jj_backend.specs.declared.backend.tree_value.TreeValue.{TreeValue}
use Rattle.jj_backend.specs.declared.backend.tree_value.TreeValue.TheVariants.{File, Symlink, Tree, GitSubmodule}

-- the copy id of a file
abbrev pub copy_id_of : TreeValue → Option (List ℕ)
copy_id_of (File id executable copy) = Some copy
copy_id_of (Symlink id) = None
copy_id_of (Tree id) = None
copy_id_of (GitSubmodule id) = None

-- ---- content: the variant's number before its fields

-- the number of the variant of a tree value
abbrev pub variant_of : TreeValue → ℕ
variant_of (File id executable copy) = 0
variant_of (Symlink id) = 1
variant_of (Tree id) = 2
variant_of (GitSubmodule id) = 3

-- the content of a file: its id, its executable bit and its copy id
abbrev pub file_content : List ℕ → Bool → List ℕ → List ℕ
file_content id executable copy = bytes_content id
    ++ (bool_content executable ++ bytes_content copy)

-- the content of the fields of a tree value
abbrev pub fields_content : TreeValue → List ℕ
fields_content (File id executable copy) = file_content id executable copy
fields_content (Symlink id) = bytes_content id
fields_content (Tree id) = bytes_content id
fields_content (GitSubmodule id) = bytes_content id

-- the content of a tree value: the number of the variant, then the fields
abbrev pub tree_value_content : TreeValue → List ℕ
tree_value_content value = u32_content (variant_of value) ++ fields_content value

-- the ids of the tree value are bytes
abbrev pub IsTreeValue : TreeValue → Type 0
IsTreeValue (File id executable copy) = AreBytes id × (⊤ × AreBytes copy)
IsTreeValue (Symlink id) = AreBytes id
IsTreeValue (Tree id) = AreBytes id
IsTreeValue (GitSubmodule id) = AreBytes id
