-- Standard error and the status of a run.
-- Cited by contracts of public items: report_text, status_of, usage_text.
use Rattle.std.specs.Prelude.{ℕ, List, ◌++◌, codes, [], ◌∷◌, Result, string_bytes}
use Rattle.jj_program.specs.declared.fault.FaultReport.{FaultReport}
use Rattle.jj_filter.specs.Reports.{report_line}
use Rattle.jj_filter.specs.Runs.{ended_status, ended_text}
use Rattle.jj_filter.specs.declared.failure.Failure.{Failure}

-- the usage line
abbrev pub usage_text : List ℕ
usage_text = codes "usage: jj-core walk|merge|graph|hash" ++ 10 ∷ []

-- the line that reports how a run ended, and its exit status
abbrev pub report_text : Result (Unit {0}) (Failure FaultReport) → List ℕ
report_text ended =
    report_line (codes "jj-core") (ended_text (λ _. []) (λ report. string_bytes report.message) ended)

-- the exit status: 0 after a success, 1 after a failure
abbrev pub status_of : Result (Unit {0}) (Failure FaultReport) → ℕ
status_of = ended_status (λ _. 0) (λ _. 1)
