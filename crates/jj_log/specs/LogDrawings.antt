-- The drawing of the log of commits that are known by names, and its errors.
-- Cited by contracts of public items: AreLogRows, IsDrawing, IsLogError, IsStyledDrawing.
use Rattle.std.specs.Prelude.{ℕ, List, [], map}
use Rattle.jj_log.specs.Columns.{AreRows, node_of_row}
use Rattle.jj_log.specs.Drawing.{AreStyled}
use Rattle.jj_log.specs.Failures.{IsRowsError}
use Rattle.jj_log.specs.Labels.{label_of}
use Rattle.jj_log.specs.Logs.{IsGroupedLog}
use Rattle.jj_log.specs.Numbering.{AreNumbered, IsNumberingError}
use Rattle.jj_log.specs.declared.commits.Commit.{Commit}
use Rattle.jj_log.specs.declared.commits.NumberedCommit.{NumberedCommit}
use Rattle.jj_log.specs.declared.fault.LogError.{LogError}
use Rattle.jj_log.specs.declared.fault.LogError.TheVariants.{Memory, RepeatedName}
use Rattle.jj_log.specs.declared.layout.Row.{Row}
use Rattle.jj_log.specs.declared.style.Style.{Style}
use Rattle.jj_log.specs.declared.style.Style.TheVariants.{Ascii}

-- the rows, of at most `most` columns, of the log of the commits, which were numbered by their
-- names, with branches together
pub record AreLogRows (most : ℕ) (commits : List Commit) (rows : List Row) : Type 0 where
  pub numbered : List NumberedCommit
  pub are_numbered : AreNumbered commits numbered
  pub log : IsGroupedLog numbered (map node_of_row rows)
  pub last : List ℕ
  pub columns : AreRows most [] rows last

-- the rows of the log of the commits were drawn with the labels of the commits
pub record IsStyledDrawing (style : Style) (most : ℕ) (commits : List Commit) (drawing : List ℕ)
    : Type 0 where
  pub rows : List Row
  pub are_rows : AreLogRows most commits rows
  pub drawn : AreStyled style (label_of commits) rows drawing

-- the rows of the log of the commits were drawn in ASCII characters with the labels of the commits
abbrev pub IsDrawing : (most : ℕ) → List Commit → List ℕ → Type 0
IsDrawing = IsStyledDrawing Ascii

-- memory ran out, or two commits have one name, or else the numbered commits have an error
abbrev pub IsLogError : (most : ℕ) → List Commit → LogError → Type 0
IsLogError most commits Memory = IsNumberingError commits Memory
IsLogError most commits (RepeatedName i) = IsNumberingError commits (RepeatedName i)
IsLogError most commits error = (numbered : List NumberedCommit) × AreNumbered commits numbered
    × IsRowsError most numbered error
