-- Messages of faults, and the report of a run on standard error.
-- Cited by contracts of public items: IsFaultAt, fault_text, report_text, status_of.
use Rattle.std.specs.Prelude.{◌≡◌, ◌++◌, ℕ, [], List, Result, codes, string_bytes}
use Rattle.std.specs.Fmt.{decimal}
use Rattle.jj_excerpts.specs.Excerpts.{excerpt_of}
use Rattle.jj_filter.specs.Reports.{report_line}
use Rattle.jj_filter.specs.Runs.{ended_status, ended_text}
use Rattle.jj_filter.specs.declared.failure.Failure.{Failure}
use Rattle.jj_log.specs.declared.fault.Fault.{Fault}
use Rattle.jj_log.specs.declared.fault.Fault.TheVariants.{NotUtf8, Fields, Line}
use Rattle.jj_log.specs.declared.fault.LineFault.{LineFault}
use Rattle.jj_log.specs.declared.fault.LineFault.TheVariants.{CarriageReturn, MissingParents, BadName, RepeatedName, Cycle, TooWide}

-- the message of a fault of one line
abbrev pub line_fault_text : LineFault → List ℕ
line_fault_text CarriageReturn =
    codes "ends in a carriage return; the input has CRLF lines"
line_fault_text MissingParents = codes "no TAB after the name; TABs separate fields"
line_fault_text BadName = codes "no name, or one with a blank"
line_fault_text RepeatedName = codes "repeated name"
line_fault_text Cycle = codes "cycle of parents"
line_fault_text TooWide = codes "more columns than --columns allows"

-- the message of a fault of the input
abbrev pub fault_text : Fault → List ℕ
fault_text NotUtf8 = codes "input is not UTF-8"
fault_text (Fields at) = codes "byte " ++ decimal at
    ++ codes ": expected three fields a commit, each ended by NUL"
    ++ codes ", as of git log -z --format=%h%x00%p%x00%s"
fault_text (Line line kind quoted) =
    codes "line " ++ decimal line ++ string_bytes quoted ++ line_fault_text kind

-- the string as messages quote it after the number of a line
abbrev pub quoted_part : List ℕ → List ℕ
quoted_part string = codes ", " ++ excerpt_of string ++ codes ": "

-- the fault has this line and kind, and quotes the string
abbrev pub IsFaultAt : ℕ → LineFault → List ℕ → Fault → Type 0
IsFaultAt line kind string (Line at k quoted) =
    (at ≡ line) × (k ≡ kind) × (string_bytes quoted ≡ quoted_part string)
IsFaultAt line kind string fault = ⊥

-- the line that reports how a run ended, and its exit status
abbrev pub report_text : Result (Unit {0}) (Failure Fault) → List ℕ
report_text ended = report_line (codes "jj-log") (ended_text (λ _. []) fault_text ended)

-- the exit status of a run: 0 if it ended, 1 after a fault or a failure
abbrev pub status_of : Result (Unit {0}) (Failure Fault) → ℕ
status_of = ended_status (λ _. 0) (λ _. 1)
