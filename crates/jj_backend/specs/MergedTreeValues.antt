-- Merges of the tree values at one path: their classes, the fields of files, new file ids, and
-- descriptions of conflicts.
-- Cited by contracts of public items: CanTakeId, Values, are_file_like, are_trees, description,
-- executable_of, file_id_of, is_tree_or_absent, parts, with_file_ids.
use Rattle.std.specs.Prelude.{ℕ, Bool, true, false, not, List, [], ◌∷◌, ◌++◌, Option, Some, None, ⊤, codes}
use Rattle.std.specs.List.{list_all}
use Rattle.std.specs.Option.{option_map, option_and_then}
use Rattle.jj_content.specs.Hex.{hex}
use Rattle.jj_merges.specs.Labels.{labels_as_merge}
use Rattle.jj_merges.specs.Merge.{adds, removes}
use Rattle.jj_backend.specs.declared.backend.tree_value.TreeValue.{TreeValue}
use Rattle.jj_backend.specs.declared.backend.tree_value.TreeValue.TheVariants.{File, Symlink, Tree, GitSubmodule}

-- the terms of a merge of tree values; None is an absent value
abbrev pub Values : Type 0
Values = List (Option TreeValue)

-- ---- trees and files

-- the value is a tree
abbrev pub is_tree_value : TreeValue → Bool
is_tree_value (File id executable copy) = false
is_tree_value (Symlink id) = false
is_tree_value (Tree id) = true
is_tree_value (GitSubmodule id) = false

-- the value is a tree or absent
abbrev pub is_tree_or_absent : Option TreeValue → Bool
is_tree_or_absent None = true
is_tree_or_absent (Some value) = is_tree_value value

-- resolved to a tree, or unresolved with only trees among the present terms
abbrev pub are_trees : Values → Bool
are_trees [] = true
are_trees (None ∷ []) = false
are_trees (Some value ∷ []) = is_tree_value value
are_trees (first ∷ second ∷ values) = list_all is_tree_or_absent (first ∷ second ∷ values)

-- neither resolved to absent nor trees by are_trees
abbrev pub are_file_like : Values → Bool
are_file_like (None ∷ []) = false
are_file_like values = not (are_trees values)

-- ---- fields of files

-- the id of the file, none for another value
abbrev pub file_id_of : TreeValue → Option (List ℕ)
file_id_of (File id executable copy) = Some id
file_id_of (Symlink id) = None
file_id_of (Tree id) = None
file_id_of (GitSubmodule id) = None

-- the executable bit of the file, none for another value
abbrev pub executable_of : TreeValue → Option Bool
executable_of (File id executable copy) = Some executable
executable_of (Symlink id) = None
executable_of (Tree id) = None
executable_of (GitSubmodule id) = None

-- the field of a term: Some None for an absent term, None for a value without this field
abbrev pub part_at : {A : Type 0} → (TreeValue → Option A) → Option TreeValue → Option (Option A)
part_at part None = Some None
part_at part (Some value) = option_map Some (part value)

-- the fields of the terms in order, or None if a present term has no such field
abbrev pub parts : {A : Type 0} → (TreeValue → Option A) → Values → Option (List (Option A))
parts part [] = Some []
parts part (value ∷ values) =
    option_and_then (λ x. option_map (λ rest. x ∷ rest) (parts part values)) (part_at part value)

-- ---- new ids of files

-- a file can take an id; an absent value can take an id or none
abbrev pub CanTakeId : Option TreeValue → Option (List ℕ) → Type 0
CanTakeId None id = ⊤
CanTakeId (Some value) None = ⊥
CanTakeId (Some (File old executable copy)) (Some id) = ⊤
CanTakeId (Some (Symlink old)) (Some id) = ⊥
CanTakeId (Some (Tree old)) (Some id) = ⊥
CanTakeId (Some (GitSubmodule old)) (Some id) = ⊥

-- the file with this id; an absent value becomes a file that is neither executable nor a copy
abbrev pub with_file_id : Option TreeValue → Option (List ℕ) → Option TreeValue
with_file_id value None = None
with_file_id None (Some id) = Some (File id false [])
with_file_id (Some (File old executable copy)) (Some id) = Some (File id executable copy)
with_file_id (Some value) (Some id) = Some value

-- the values with these file ids, one after the other
abbrev pub with_file_ids : Values → List (Option (List ℕ)) → Values
with_file_ids [] ids = []
with_file_ids (value ∷ values) [] = []
with_file_ids (value ∷ values) (id ∷ ids) = with_file_id value id ∷ with_file_ids values ids

-- ---- descriptions of conflicts

-- the byte string LF
abbrev pub newline : List ℕ
newline = 10 ∷ []

-- a kind of value with the hex digits of its id
abbrev pub kind_and_id : List ℕ → List ℕ → List ℕ
kind_and_id kind id = kind ++ (codes " with id " ++ hex id)

-- the name of a kind of file, executable or not
abbrev pub file_kind : Bool → List ℕ
file_kind true = codes "executable file"
file_kind false = codes "file"

-- the kind and id of a tree value
abbrev pub value_string : TreeValue → List ℕ
value_string (File id executable copy) = kind_and_id (file_kind executable) id
value_string (Symlink id) = kind_and_id (codes "symlink") id
value_string (Tree id) = kind_and_id (codes "tree") id
value_string (GitSubmodule id) = kind_and_id (codes "Git submodule") id

-- a nonempty label in parentheses
abbrev pub label_string : List ℕ → List ℕ
label_string [] = []
label_string (c ∷ label) = codes " (" ++ ((c ∷ label) ++ codes ")")

-- the line of a term: verb, value and label; an absent term has no line
abbrev pub line : List ℕ → Option TreeValue → List ℕ → List ℕ
line done None label = []
line done (Some value) label = done ++ (value_string value ++ (label_string label ++ newline))

-- the lines of the terms, each with the label at the same index
abbrev pub lines : List ℕ → Values → List (List ℕ) → List ℕ
lines done [] labels = []
lines done (value ∷ values) [] = line done value [] ++ lines done values []
lines done (value ∷ values) (label ∷ labels) = line done value label ++ lines done values labels

-- a heading, the lines of the removes, and the lines of the adds
abbrev pub description : Values → List (List ℕ) → List ℕ
description values labels =
    codes "Conflict:" ++ (newline
    ++ (lines (codes "  Removing ") (removes values) (removes (labels_as_merge labels))
    ++ lines (codes "  Adding ") (adds values) (adds (labels_as_merge labels))))
