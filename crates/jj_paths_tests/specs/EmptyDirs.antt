-- Making a directory that is empty.
-- Cited by contracts of public items: ChangesOnlyIn, IsDirError, IsEmptied, TellsEmpty.
use Rattle.std.specs.Prelude.{◌≡◌, ◌⊎◌, ⊤, ℕ, Bool, true, false, List, [], ◌∷◌, Result, Ok, MatchBool, string_bytes}
use Rattle.std.specs.Path.{path_join}
use Rattle.std.specs.declared.io.Error.{Error}
use Rattle.jj_files.specs.Directories.{CallRelation, CreatesOrReuses, ListRelation, RemovesEach}
use Rattle.jj_files.specs.declared.file_util.errors.PathError.{PathError}
use Rattle.jj_files.specs.declared.file_util.errors.PathError.TheVariants.{Invalid, Memory}

-- calls were made that create the directory or remove one of its entries, and no others
pub data ChangesOnlyIn {D : Type 0} (may_create may_remove : CallRelation D) (path : List ℕ)
    : D → D → Type 0 where
  none : {dirs : D} → ChangesOnlyIn may_create may_remove path dirs dirs
  create : {old between new : D} {result : Result (Unit {0}) Error}
      → ChangesOnlyIn may_create may_remove path old between → may_create between path result new
      → ChangesOnlyIn may_create may_remove path old new
  remove : {old between new : D} (name : List ℕ) {result : Result (Unit {0}) Error}
      → ChangesOnlyIn may_create may_remove path old between
      → may_remove between (path_join path name) result new
      → ChangesOnlyIn may_create may_remove path old new

-- the directory was created or there, and each entry that it listed was removed
abbrev pub IsEmptied : {D : Type 0} → (D → List ℕ → Bool) → CallRelation D → CallRelation D
    → ListRelation D → List ℕ → D → D → Type 0
IsEmptied {D} is_directory may_create may_remove may_list path old new =
    (between : D) × (names : List (List ℕ))
    × CreatesOrReuses is_directory may_create path old (Ok tt) between
    × may_list between path (Ok names) × RemovesEach may_remove path names between new

-- true if there is a directory that lists no entry, and false if there is none or it lists one
abbrev pub TellsEmpty : {D : Type 0} → (D → List ℕ → Bool) → ListRelation D → List ℕ → D → Bool
    → Type 0
TellsEmpty is_directory may_list path dirs empty =
    MatchBool empty ((is_directory dirs path ≡ true) × may_list dirs path (Ok []))
    ((is_directory dirs path ≡ false)
    ⊎ ((name : List ℕ) × (names : List (List ℕ)) × may_list dirs path (Ok (name ∷ names))))

-- the error has the path of the directory or of an entry, or it is out of memory
abbrev pub IsDirError : List ℕ → PathError → Type 0
IsDirError path (Invalid at cause) = (string_bytes at ≡ path)
    ⊎ ((name : List ℕ) × (string_bytes at ≡ path_join path name))
IsDirError path Memory = ⊤
