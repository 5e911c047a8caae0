-- The lines of the input: commits with the names of their parents.
-- Cited by contracts of public items: AreCommitsOf, IsParseFault.
use Rattle.std.specs.Prelude.{◌≡◌, ℕ, ◌+◌, ◌==◌, Bool, true, false, not, List, [], ◌∷◌, ◌++◌}
use Rattle.std.specs.Prelude.{All, MatchOption, filter, map, reverse, length, string_bytes}
use Rattle.std.specs.List.{AllZip, slice_split}
use Rattle.jj_log.specs.LogDrawings.{IsStyledDrawing}
use Rattle.jj_log.specs.declared.commits.Commit.{Commit}
use Rattle.jj_log.specs.Reports.{IsFaultAt}
use Rattle.jj_log.specs.declared.fault.Fault.{Fault}
use Rattle.jj_log.specs.declared.fault.LineFault.{LineFault}
use Rattle.jj_log.specs.declared.fault.LineFault.TheVariants.{CarriageReturn, MissingParents, BadName}
use Rattle.jj_log.specs.declared.style.Style.{Style}

-- the byte is not in the string
abbrev pub Lacks : ℕ → List ℕ → Type 0
Lacks byte string = All (λ b. (b == byte) ≡ false) string

-- the string is cut at its first such byte
abbrev pub IsCutAt : ℕ → List ℕ → List ℕ → List ℕ → Type 0
IsCutAt byte string before after = (string ≡ before ++ byte ∷ after) × Lacks byte before

-- the parts between separators
abbrev pub parts_of : ℕ → List ℕ → List (List ℕ)
parts_of separator string = slice_split (λ b. b == separator) string

-- whether the byte string has a byte
abbrev pub is_nonempty : List ℕ → Bool
is_nonempty string = not (length string == 0)

-- the words of a string, separated by blanks
abbrev pub words_of : List ℕ → List (List ℕ)
words_of string = filter is_nonempty (parts_of 32 string)

-- the string as a word, unless it is empty
abbrev pub one_word : List ℕ → List (List ℕ)
one_word string = filter is_nonempty (string ∷ [])

-- a name is not empty and has no blank
abbrev pub IsName : List ℕ → Type 0
IsName string = (is_nonempty string ≡ true) × Lacks 32 string

-- the last byte of the line is a carriage return
abbrev pub EndsInReturn : List ℕ → Type 0
EndsInReturn line = (before : List ℕ) × (line ≡ before ++ 13 ∷ [])

-- a line: name TAB parents, and TAB label if the commit is visible
pub record IsCommitLine (line : List ℕ) (commit : Commit) : Type 0 where
  pub end : EndsInReturn line → ⊥
  pub fields : List ℕ
  pub cut : IsCutAt 9 line (string_bytes commit.name) fields
  pub name : IsName (string_bytes commit.name)
  pub field : List ℕ
  pub parents : map (λ parent. string_bytes parent) commit.parents.items ≡ words_of field
  pub label : MatchOption commit.label ((field ≡ fields) × Lacks 9 fields)
      (λ label. IsCutAt 9 fields field (string_bytes label))

-- the line ends in a carriage return, has no TAB, or no name before its first TAB
abbrev pub IsBadLine : List ℕ → LineFault → Type 0
IsBadLine line CarriageReturn = EndsInReturn line
IsBadLine line MissingParents = Lacks 9 line
IsBadLine line BadName = (name fields : List ℕ) × IsCutAt 9 line name fields × (IsName name → ⊥)
IsBadLine line fault = ⊥

-- the fault is that of the line with this number, and quotes it
abbrev pub IsLineFault : ℕ → List ℕ → Fault → Type 0
IsLineFault number line fault = (kind : LineFault) × IsBadLine line kind
    × IsFaultAt number kind line fault

-- a line with its number, unless it is empty
abbrev pub numbered_line : ℕ → List ℕ → List (ℕ × List ℕ)
numbered_line number [] = []
numbered_line number (byte ∷ rest) = (number, byte ∷ rest) ∷ []

-- the lines that are not empty, numbered from a number
abbrev pub numbered_lines : ℕ → List (List ℕ) → List (ℕ × List ℕ)
numbered_lines number [] = []
numbered_lines number (line ∷ lines) =
    numbered_line number line ++ numbered_lines (number + 1) lines

-- the lines of the input that are not empty, numbered from 1
abbrev pub commit_lines : List ℕ → List (ℕ × List ℕ)
commit_lines input = numbered_lines 1 (parts_of 10 input)

-- the commits of the lines that are not empty, the last first, and the numbers of these lines
pub record AreCommitsOf (input : List ℕ) (commits : List Commit) (numbers : List ℕ)
    : Type 0 where
  pub lines : AllZip IsCommitLine (map (λ l. l.1) (commit_lines input)) (reverse commits)
  pub numbered : reverse numbers ≡ map (λ l. l.0) (commit_lines input)

-- a commit is on the line
abbrev pub HasCommit : ℕ × List ℕ → Type 0
HasCommit line = (commit : Commit) × IsCommitLine line.1 commit

-- the fault is that of one of these lines, and those before it have commits
abbrev pub IsFaultOf : List (ℕ × List ℕ) → Fault → Type 0
IsFaultOf lines fault = (before : List (ℕ × List ℕ)) × (number : ℕ) × (line : List ℕ)
    × (later : List (ℕ × List ℕ)) × (lines ≡ before ++ (number, line) ∷ later)
    × All HasCommit before × IsLineFault number line fault

-- the first line of the input that has no commit has the fault
abbrev pub IsParseFault : List ℕ → Fault → Type 0
IsParseFault input fault = IsFaultOf (commit_lines input) fault

-- the drawing of the commits of the input in a style, in at most `most` columns
abbrev pub DrawsInput : Style → (most : ℕ) → List ℕ → List ℕ → Type 0
DrawsInput style most input drawing = (commits : List Commit) × (numbers : List ℕ)
    × AreCommitsOf input commits numbers × IsStyledDrawing style most commits drawing
