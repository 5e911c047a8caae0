-- Files that are one.
-- Cited by contracts of public items: ComparesStatuses.
use Rattle.std.specs.Prelude.{◌≡◌, ◌↔◌, Bool, IsTrue, Result, Ok}
use Rattle.std.specs.declared.io.Error.{Error}
use Rattle.jj_temp_files.specs.declared.access.FileStatus.{FileStatus}

-- both statuses were read, and the result is whether their devices and numbers are equal
pub record ComparesStatuses (may_stat_first may_stat_second : Result FileStatus Error → Type 0)
    (same : Bool) : Type 0 where
  pub first : FileStatus
  pub second : FileStatus
  pub first_read : may_stat_first (Ok first)
  pub second_read : may_stat_second (Ok second)
  pub is_one : IsTrue same ↔ ((first.device ≡ second.device) × (first.inode ≡ second.inode))
