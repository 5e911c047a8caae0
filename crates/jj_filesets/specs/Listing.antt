-- Lists of paths: their lines, which of them are paths, and which of those are in a set.
-- Cited by contracts of public items: IsListError, PrintedLinesAreUnique, PrintsSet, invalid_count,
-- line_fault, lines_of.
use Rattle.std.specs.Prelude.{◌≡◌, ℕ, ◌+◌, ◌-◌, Bool, false, ◌==◌, ◌&&◌, nat_lt, if◌then◌else◌, List, [], ◌∷◌, ◌++◌, Option, Some, None, is_some, length, slice_index, slice_get, position, count_by, flat_map, string_bytes}
use Rattle.std.specs.List.{slice_split}
use Rattle.std.specs.Str.{is_utf8}
use Rattle.jj_excerpts.specs.Excerpts.{excerpt_of}
use Rattle.jj_paths.specs.Paths.{components, is_path_string}
use Rattle.jj_filesets.specs.declared.listing.LineFault.{LineFault}
use Rattle.jj_filesets.specs.declared.listing.LineFault.TheVariants.{Quoted, CarriageReturn, NotUtf8, Absolute, InvalidName}
use Rattle.jj_filesets.specs.declared.listing.ListError.{ListError}
use Rattle.jj_filesets.specs.declared.listing.ListError.TheVariants.{Line, Memory}
use Rattle.jj_filesets.specs.declared.listing.ListOptions.{ListOptions}
use Rattle.jj_filesets.specs.Expressions.{Spells}
use Rattle.jj_filesets.specs.PathStrings.{without_dot, is_absolute, is_relative}
use Rattle.jj_filesets.specs.Selection.{IsSelected, IsFileIn}
use Rattle.jj_filesets.specs.SyntaxTrees.{SyntaxTree}

-- 1. Lines.

-- NUL, or LF
abbrev pub separator : Bool → ℕ
separator nul = if nul then 0 else 10

-- the lines of a list; the part after the last separator is a line too
abbrev pub lines_of : Bool → List ℕ → List (List ℕ)
lines_of nul input = slice_split (λ b. b == separator nul) input

-- lines with their ends
abbrev pub ended_lines : ℕ → List (List ℕ) → List ℕ
ended_lines end lines = flat_map (λ line. line ++ end ∷ []) lines

-- 2. Lines that are paths.

-- whether the line is in double quotes
abbrev pub is_quoted : List ℕ → Bool
is_quoted line = nat_lt 1 (length line) && (slice_index line 0 == 34)
    && (slice_index line (length line - 1) == 34)

-- whether the line ends in a carriage return
abbrev pub ends_in_return : List ℕ → Bool
ends_in_return line = nat_lt 0 (length line) && (slice_index line (length line - 1) == 13)

-- why a string is no path, if it is none
abbrev pub path_fault : List ℕ → Option LineFault
path_fault path = if is_absolute path then Some Absolute
    else (if is_relative path && is_path_string path then None else Some InvalidName)

-- the fault of a line as a path, none if it is one
abbrev pub text_fault : List ℕ → Option LineFault
text_fault path = if is_utf8 path then path_fault path else Some NotUtf8

-- why a line is no path after `./` at its start, if it is none; a line that ends in NUL may be in
-- quotes and end in a carriage return
abbrev pub line_fault : Bool → List ℕ → Option LineFault
line_fault nul line = if nul then text_fault (without_dot line)
    else (if is_quoted line then Some Quoted
    else (if ends_in_return line then Some CarriageReturn else text_fault (without_dot line)))

-- the line is no path
abbrev pub is_invalid_line : Bool → List ℕ → Bool
is_invalid_line nul line = is_some (line_fault nul line)

-- the number of lines that are no paths
abbrev pub invalid_count : Bool → List (List ℕ) → ℕ
invalid_count nul lines = count_by (is_invalid_line nul) lines

-- 3. Selected lines.

-- the line is the path of a file in the set
abbrev pub IsLineIn : SyntaxTree → Bool → List ℕ → Type 0
IsLineIn set nul line = (line_fault nul line ≡ None)
    × IsFileIn set (components (without_dot line))

-- the output has the lines that are in the set, as they are and in order
abbrev pub PrintsSet : SyntaxTree → Bool → List ℕ → List ℕ → Type 0
PrintsSet set nul input output = (found : List (List ℕ))
    × IsSelected (IsLineIn set nul) (lines_of nul input) found
    × (output ≡ ended_lines (separator nul) found)

-- an expression, the ends of lines and a list determine the output
abbrev pub PrintedLinesAreUnique : Type 0
PrintedLinesAreUnique = (text : List ℕ) (first second : SyntaxTree) (nul : Bool)
    (input output other : List ℕ) → Spells text first → Spells text second
    → PrintsSet first nul input output → PrintsSet second nul input other → output ≡ other

-- 4. Errors.

-- the error quotes the line at this index, which has this fault
abbrev pub IsFaultOf : ℕ → List ℕ → LineFault → ListError → Type 0
IsFaultOf index line fault Memory = Unit {0}
IsFaultOf index line fault (Line number excerpt kind) =
    (number ≡ index + 1) × (string_bytes excerpt ≡ excerpt_of line) × (kind ≡ fault)

-- the error is that of the first line that is no path
abbrev pub IsFirstFault : Bool → List (List ℕ) → ListError → Type 0
IsFirstFault nul lines error = (index : ℕ) × (line : List ℕ) × (fault : LineFault)
    × (position (is_invalid_line nul) lines ≡ Some index) × (slice_get lines index ≡ Some line)
    × (line_fault nul line ≡ Some fault) × IsFaultOf index line fault error

-- an error of lines, which the options do not skip
abbrev pub IsLineError : ListOptions → List (List ℕ) → ListError → Type 0
IsLineError options lines Memory = Unit {0}
IsLineError options lines (Line number excerpt fault) = (options.skips_invalid ≡ false)
    × IsFirstFault options.nul lines (Line number excerpt fault)

-- the error names the first line that is no path, or memory ran out
abbrev pub IsListError : ListOptions → List ℕ → ListError → Type 0
IsListError options input error = IsLineError options (lines_of options.nul input) error
