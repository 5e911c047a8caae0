-- Lines on standard error, and exit statuses.
-- Cited by contracts of public items: Reports, WritesLine, arguments_error_status,
-- arguments_error_text, failure_status, failure_text, report_line.
use Rattle.std.specs.Prelude.{◌≡◌, ◌++◌, ◌∷◌, [], ℕ, Bool, true, false, List, Option, codes}
use Rattle.std.specs.Io.KnownBytes.{Appends}
use Rattle.jj_files.specs.Streams.{AppendsPrefixOf}
use Rattle.jj_filter.specs.declared.arguments.ArgumentsError.{ArgumentsError}
use Rattle.jj_filter.specs.declared.arguments.ArgumentsError.TheVariants.{Memory as Memory', NotUtf8}
use Rattle.jj_filter.specs.declared.failure.Failure.{Failure}
use Rattle.jj_filter.specs.declared.failure.Failure.TheVariants.{ReadInput, Memory, WriteOutput, Input}

-- the message of a failure, given those of faults; none about an output that was closed
abbrev pub failure_text : {F : Type 0} → (F → List ℕ) → Failure F → List ℕ
failure_text text ReadInput = codes "cannot read input"
failure_text text Memory = codes "out of memory"
failure_text text (WriteOutput true) = []
failure_text text (WriteOutput false) = codes "cannot write output"
failure_text text (Input fault) = text fault

-- the exit status after a failure, given those of faults
abbrev pub failure_status : {F : Type 0} → (F → ℕ) → Failure F → ℕ
failure_status status (Input fault) = status fault
failure_status status failure = 1

-- the message of arguments that could not be read
abbrev pub arguments_error_text : ArgumentsError → List ℕ
arguments_error_text Memory' = codes "out of memory"
arguments_error_text NotUtf8 = codes "an argument is not UTF-8"

-- the exit status of arguments that could not be read: 2, or 1 out of memory
abbrev pub arguments_error_status : ArgumentsError → ℕ
arguments_error_status Memory' = 1
arguments_error_status NotUtf8 = 2

-- the line with a program's name and a message; none without a message
abbrev pub report_line : List ℕ → List ℕ → List ℕ
report_line program [] = []
report_line program (b ∷ bs) = program ++ codes ": " ++ (b ∷ bs) ++ 10 ∷ []

-- the line was appended, or a prefix of it by a sink that then failed
abbrev pub WritesLine : (old new : Option (List ℕ)) → (failed : Bool) → List ℕ → Type 0
WritesLine old new failed line =
    AppendsPrefixOf old new line × (failed ≡ false → Appends old new line)

-- the line was appended, or a prefix of it by a sink that then failed; an empty line changes
-- nothing
abbrev pub Reports : (old new : Option (List ℕ)) → (failed : Bool) → List ℕ → Type 0
Reports old new failed [] = new ≡ old
Reports old new failed (b ∷ bs) = WritesLine old new failed (b ∷ bs)
