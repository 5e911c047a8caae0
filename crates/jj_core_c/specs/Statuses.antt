-- The statuses that exports return: a result, or the status of an error.
-- Cited by contracts of public items: Accepts, Returns.
use Rattle.std.specs.Prelude.{◌≡◌, ℕ, ℤ, pos, negsuc, Result, Ok, Err, MatchResult}
use Rattle.jj_core_c.specs.declared.error.Error.{Error}
use Rattle.jj_core_c.specs.declared.error.Error.TheVariants.{Memory, Ends, Length, Syntax, Terms, Conflict, Node, Cycle, Path, Expression, NoMatch, Ambiguous}

-- the status of an error: -1 to -12
abbrev pub code_of : Error → ℤ
code_of Memory = negsuc 0
code_of Ends = negsuc 1
code_of Length = negsuc 2
code_of Syntax = negsuc 3
code_of Terms = negsuc 4
code_of Conflict = negsuc 5
code_of Node = negsuc 6
code_of Cycle = negsuc 7
code_of Path = negsuc 8
code_of Expression = negsuc 9
code_of NoMatch = negsuc 10
code_of Ambiguous = negsuc 11

-- the status of an outcome
abbrev pub status_of : Result ℕ Error → ℤ
status_of (Ok n) = pos n
status_of (Err error) = code_of error

-- the status represents a result n with P n, or an error e with Q e
abbrev pub Returns : ℤ → (ℕ → Type 0) → (Error → Type 0) → Type 0
Returns status P Q = (outcome : Result ℕ Error) × (status ≡ status_of outcome)
    × MatchResult outcome P Q

-- the arguments of the call are valid, and the number has property P
abbrev pub Accepts : (IsValid : Type 0) → (ℕ → Type 0) → ℕ → Type 0
Accepts IsValid P n = IsValid × P n
