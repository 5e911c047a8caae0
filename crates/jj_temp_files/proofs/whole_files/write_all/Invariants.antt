-- The bytes that were written and the rest are all; the file has what was written, and nothing has
-- changed at other paths.
use Rattle.std.proofs.Common.{◌≡◌, ◌≢◌, ◌++◌, List, ℕ, Some, length}
use Rattle.jj_temp_files.specs.Crashes.{Untouched}
use Rattle.jj_temp_files.specs.WriteErrors.{WritesPieces}
use Rattle.jj_temp_files.proofs.whole_files.write_all.Given as goal

abbrev pub invariant-loop-rest : goal.invariant-loop-rest
invariant-loop-rest g l = record {
  created : g.A.CrashSafe.created_at l.temp_file.file ≡ g.A.CrashSafe.created_at l.fn.temp_file.file;
  path : l.temp_file.path ≡ l.fn.temp_file.path;
  bytes : g.A.CrashSafe.written l.temp_file.file ++ l.rest ≡ g.A.CrashSafe.written l.fn.temp_file.file ++ l.bytes;
  contents : g.A.CrashSafe.contents l.fn.files (g.A.CrashSafe.created_at l.fn.temp_file.file) ≡ Some (g.A.CrashSafe.written l.fn.temp_file.file)
      → g.A.CrashSafe.contents l.files (g.A.CrashSafe.created_at l.fn.temp_file.file) ≡ Some (g.A.CrashSafe.written l.temp_file.file);
  others : (other : List ℕ) → other ≢ g.A.CrashSafe.created_at l.fn.temp_file.file
      → Untouched g.A.CrashSafe.moment g.A.CrashSafe.left_since g.A.CrashSafe.contents l.fn.files l.files other;
  pieces : WritesPieces g.A.FileAccess.may_write l.fn.files l.fn.temp_file.file l.bytes l.files l.temp_file.file l.rest;
}

abbrev pub decreases-loop-rest : goal.decreases-loop-rest
decreases-loop-rest g l = length l.rest
