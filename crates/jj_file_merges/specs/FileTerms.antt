-- The files that the terms of a merge are.
-- Machinery of private functions and fields.
use Rattle.std.specs.Prelude.{◌≡◌, List, Option, Some, None, Any}
use Rattle.std.specs.List.{AllZip}
use Rattle.jj_backend.specs.MergedTreeValues.{Values}
use Rattle.jj_backend.specs.declared.backend.tree_value.TreeValue.{TreeValue}
use Rattle.jj_backend.specs.declared.backend.tree_value.TreeValue.TheVariants.{File, Symlink, Tree, GitSubmodule}
use Rattle.jj_file_merges.specs.declared.terms.FileTerm.{FileTerm}

-- the id, executable bit and copy id of a file, none for another value
abbrev pub file_term : Option TreeValue → Option FileTerm
file_term None = None
file_term (Some (File id executable copy_id)) =
    Some (record { id = id; executable = executable; copy_id = copy_id })
file_term (Some (Symlink id)) = None
file_term (Some (Tree id)) = None
file_term (Some (GitSubmodule id)) = None

-- the values are these files
abbrev pub AreFiles : Values → List FileTerm → Type 0
AreFiles = AllZip (λ value term. file_term value ≡ Some term)

-- a value is absent or no file
abbrev pub HasOther : Values → Type 0
HasOther = Any (λ value. file_term value ≡ None)
