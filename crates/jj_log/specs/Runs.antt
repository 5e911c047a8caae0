-- Drawings and faults of inputs.
-- Cited by contracts of public items: DrawingsOf, IsInputFault.
use Rattle.std.specs.Prelude.{◌≡◌, ◌⊎◌, ℕ, Bool, true, false, List, Ok, get_or}
use Rattle.std.specs.Str.{IsUtf8}
use Rattle.jj_log.specs.Fields.{IsFieldsFault, lines_of_fields}
use Rattle.jj_log.specs.InputLines.{AreCommitsOf, DrawsInput, IsParseFault}
use Rattle.jj_log.specs.Labels.{name_of}
use Rattle.jj_log.specs.LogDrawings.{AreLogRows, IsLogError}
use Rattle.jj_log.specs.Reports.{IsFaultAt}
use Rattle.jj_log.specs.declared.arguments.LogOptions.{LogOptions}
use Rattle.jj_log.specs.declared.commits.Commit.{Commit}
use Rattle.jj_log.specs.declared.fault.Fault.{Fault}
use Rattle.jj_log.specs.declared.fault.Fault.TheVariants.{NotUtf8}
use Rattle.jj_log.specs.declared.fault.LineFault.{LineFault}
use Rattle.jj_log.specs.declared.fault.LineFault.TheVariants.{RepeatedName, Cycle, TooWide}
use Rattle.jj_log.specs.declared.fields.Place.TheVariants.{Start}
use Rattle.jj_log.specs.declared.log.LogLayout.{LogLayout}
use Rattle.jj_log.specs.declared.fault.LogError.{LogError}
use Rattle.jj_log.specs.declared.fault.LogError.TheVariants.{RepeatedName as repeated_name, Cycle as cycle, TooWide as too_wide}

-- the log of the commits of the input has an error at one of them; the fault has its line and kind,
-- and quotes its name
abbrev pub IsLogFault : (most : ℕ) → (ℕ → LogError) → LineFault → List ℕ → Fault → Type 0
IsLogFault most error_at kind input fault = (commits : List Commit) × (numbers : List ℕ)
    × AreCommitsOf input commits numbers × (i : ℕ) × IsLogError most commits (error_at i)
    × IsFaultAt (get_or numbers i 0) kind (name_of commits i) fault

-- a fault of an input of lines that is drawn in at most `most` columns
abbrev pub IsLinesFault : (most : ℕ) → List ℕ → Fault → Type 0
IsLinesFault most input NotUtf8 = ¬ (IsUtf8 input)
IsLinesFault most input fault = IsParseFault input fault
    ⊎ IsLogFault most repeated_name RepeatedName input fault
    ⊎ IsLogFault most cycle Cycle input fault
    ⊎ IsLogFault most too_wide TooWide input fault

-- the lines of an input, which is those, or fields that end in NUL
abbrev pub AreLinesGiven : (nul : Bool) → (input lines : List ℕ) → Type 0
AreLinesGiven true input lines = lines_of_fields Start 0 input ≡ Ok lines
AreLinesGiven false input lines = lines ≡ input

-- a fault of an input that is drawn with these options
abbrev pub IsInputFault : LogOptions → List ℕ → Fault → Type 0
IsInputFault options input fault = ((options.nul ≡ true) × IsFieldsFault input fault)
    ⊎ ((lines : List ℕ) × AreLinesGiven options.nul input lines
    × IsLinesFault options.max_columns lines fault)

-- the layout has the commits of an input of lines and the rows of their log
abbrev pub IsLayoutOfLines : (most : ℕ) → List ℕ → LogLayout → Type 0
IsLayoutOfLines most input layout = (numbers : List ℕ)
    × AreCommitsOf input layout.commits.items numbers
    × AreLogRows most layout.commits.items layout.rows.items

-- those of an input that is read with these options
abbrev pub IsLayoutOf : LogOptions → List ℕ → LogLayout → Type 0
IsLayoutOf options input layout = (lines : List ℕ) × AreLinesGiven options.nul input lines
    × IsLayoutOfLines options.max_columns lines layout

-- the drawing of the commits of an input with these options
abbrev pub DrawsGiven : LogOptions → List ℕ → List ℕ → Type 0
DrawsGiven options input drawing = (lines : List ℕ) × AreLinesGiven options.nul input lines
    × DrawsInput options.style options.max_columns lines drawing

-- the drawing of the commits of an input with these options; a run has only one outcome
abbrev pub DrawingsOf : LogOptions → List ℕ → List ℕ → Unit {0} → Type 0
DrawingsOf options input drawing outcome = DrawsGiven options input drawing
