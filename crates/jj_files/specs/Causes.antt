-- The value of an error's cause in contracts.
-- Cited by contracts of public items: Cause.
use Rattle.std.specs.Prelude.{ℕ, List}
use Rattle.jj_files.specs.declared.file_util.errors.SourceKind.{SourceKind}

-- the cause of an error: its kind, and the bytes of its message
pub record Cause : Type 0 where
  pub kind : SourceKind
  pub message : List ℕ
