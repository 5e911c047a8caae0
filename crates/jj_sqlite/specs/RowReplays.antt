-- The result of replaying the rows of a log one at a time.
use Rattle.std.specs.Prelude.{◌≡◌, ◌<◌, ◌^◌, List, length, Result, Ok, Err, IfOk}
use Rattle.std.specs.List.{AllZip}
use Rattle.sqlite.specs.Order.{Row}
use Rattle.jj_decode.specs.contracts.records.commits.CommitReadContent.TheImpl as commit
use Rattle.jj_decode.specs.contracts.records.commits.CopyHistoryReadContent.TheImpl as copy
use Rattle.jj_decode.specs.contracts.records.trees.TreeReadContent.TheImpl as tree
use Rattle.jj_trees.specs.MemoryObjects.{MemoryBackendValue, digest_length}
use Rattle.jj_mirror.specs.Entries.{LogEntryValue}
use Rattle.jj_mirror.specs.Replays.{IsReplayResult}
use Rattle.jj_mirror.specs.declared.error.ReplayError.{ReplayError}
use Rattle.jj_sqlite.specs.Rows.{AreNumbered, IsGoodRow, IsReadError}
use Rattle.jj_sqlite.specs.declared.error.OpenError.{OpenError}
use Rattle.jj_sqlite.specs.declared.row_replay.Replayed.{Replayed}

-- SQLite can number so many rows, and the ids of the backend are whole digests
pub record IsInRange (replayed : Replayed) : Type 0 where
  pub count : replayed.count < 2 ^ 63
  pub whole : IfOk replayed.backend (λ backend. backend.id_length ≡ digest_length)

-- the result of replaying these entries
abbrev pub IsResult : List LogEntryValue → Result MemoryBackendValue ReplayError → Type 0
IsResult entries result =
    IsReplayResult copy.ghosts.errors tree.ghosts.errors commit.ghosts.errors entries result

-- So many rows are numbered from 1, each of them is an entry whose id is the digest of its object,
-- and their entries were replayed with this result.
pub record AreReplayed (rows : List Row) (replayed : Replayed) : Type 0 where
  pub entries : List LogEntryValue
  pub are_good : AllZip IsGoodRow rows entries
  pub are_numbered : AreNumbered rows
  pub are_counted : length rows ≡ replayed.count
  pub is_result : IsResult entries replayed.backend

-- the rows were replayed, or e is the error of the first of them that has one
abbrev pub IsRowReplay : List Row → Result Replayed OpenError → Type 0
IsRowReplay rows (Ok replayed) = AreReplayed rows replayed
IsRowReplay rows (Err e) = IsReadError rows e
