-- Runs of the program on a list in memory.
-- Cited by a contract of a caller: IsPrinted.
use Rattle.std.specs.Prelude.{◌≡◌, ◌⊎◌, ℕ, false, List, []}
use Rattle.jj_filesets.specs.Expressions.{Spells}
use Rattle.jj_filesets.specs.Listing.{PrintsSet, invalid_count, lines_of}
use Rattle.jj_filesets.specs.SyntaxTrees.{SyntaxTree}
use Rattle.jj_filesets_cli.specs.Runs.{IsExpressionFault}
use Rattle.jj_filesets_cli.specs.declared.fault.ExpressionFault.{ExpressionFault}

-- each line of the list is a path, and the output has the lines in the set of the expression
pub record PrintsFiles (expression list output : List ℕ) : Type 0 where
  pub set : SyntaxTree
  pub spelled : Spells expression set
  pub lines : PrintsSet set false list output
  pub valid : invalid_count false (lines_of false list) ≡ 0

-- the expression has a fault, and there is no output
pub record IsRefused (expression output : List ℕ) : Type 0 where
  pub fault : ExpressionFault
  pub cause : IsExpressionFault expression fault
  pub nothing : output ≡ []

-- the status is 0 and the files in the set are printed, or 2 and the expression has a fault, or 1
abbrev pub IsPrinted : (expression list : List ℕ) → (status : ℕ) → (output : List ℕ) → Type 0
IsPrinted expression list status output = ((status ≡ 0) × PrintsFiles expression list output)
    ⊎ ((status ≡ 2) × IsRefused expression output) ⊎ (status ≡ 1)
