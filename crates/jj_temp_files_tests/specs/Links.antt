-- Symbolic links, and the executable bit of a file.
-- Cited by contracts of public items: HasFlippedBit, IsAtLink.
use Rattle.std.specs.Prelude.{◌≡◌, ◌⊎◌, ⊤, ℕ, List, Ok, bit_xor, string_bytes}
use Rattle.jj_files.specs.declared.file_util.errors.PathError.{PathError}
use Rattle.jj_files.specs.declared.file_util.errors.PathError.TheVariants.{Invalid, Memory}
use Rattle.jj_temp_files.specs.Checks.{SetModeRelation, StatRelation, permissions_of}
use Rattle.jj_temp_files.specs.declared.access.FileStatus.{FileStatus}

-- the error has the path of one of the links, or it is out of memory
abbrev pub IsAtLink : List ℕ → List ℕ → PathError → Type 0
IsAtLink first second (Invalid at cause) = (string_bytes at ≡ first) ⊎ (string_bytes at ≡ second)
IsAtLink first second Memory = ⊤

-- The bit with which the owner may run a file was flipped, and the permissions that were read then
-- are those that were read before, but for it.
pub record HasFlippedBit {S F : Type 0} (may_stat : StatRelation S F)
    (may_set_mode : SetModeRelation S F) (new : S) : Type 0 where
  pub old : S
  pub file : F
  pub before : FileStatus
  pub after : FileStatus
  pub read : may_stat old file (Ok before)
  pub set : may_set_mode old file (bit_xor (permissions_of before) 0o100) (Ok tt) new
  pub read_back : may_stat new file (Ok after)
  pub flipped : permissions_of after ≡ bit_xor (permissions_of before) 0o100
