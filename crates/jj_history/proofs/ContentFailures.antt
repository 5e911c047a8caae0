-- The error of a value at a path is one of the path.
use Rattle.std.proofs.Common.{◌∙◌, ℕ, List, Option, sym}
use Rattle.jj_paths.specs.Paths.{Path}
use Rattle.jj_backend.specs.Objects.{Objects}
use Rattle.jj_backend.specs.declared.backend.tree_value.TreeValue.{TreeValue}
use Rattle.jj_history.specs.FileContents.{IsContentError, IsValueAt, IsValueError}
use Rattle.jj_history.specs.declared.error.ContentError.{ContentError}
use Rattle.jj_history.specs.declared.error.ContentError.TheVariants.{Memory, Store, Conflict, Missing, Directory, Submodule}

pub value_error_of_content : (store : Objects) (id : List ℕ) (path : Path) (value : Option TreeValue) (error : ContentError) → IsValueAt store id path value → IsValueError value error → IsContentError store id path error
value_error_of_content store id path value Memory there is = tt
value_error_of_content store id path value (Store error) there is = tt
value_error_of_content store id path value Conflict there is = absurd is
value_error_of_content store id path value Missing there is = (there.0, there.1, sym is ∙ there.2)
value_error_of_content store id path value Directory there is = (is.0, (there.0, there.1, sym is.1 ∙ there.2))
value_error_of_content store id path value Submodule there is = (is.0, (there.0, there.1, sym is.1 ∙ there.2))
