-- Sets as private functions see them: the operations of lines, their compiled code, and matchers.
-- Machinery of private functions and fields.
use Rattle.std.specs.Prelude.{Bool, true, ◌&&◌, nat_lt, List, [], ◌∷◌, length, map, reverse, ℕ, zero, suc, not, if◌then◌else◌, ◌≡◌, slice_index_or}
use Rattle.jj_program.specs.declared.file_set.CodeStep.{CodeStep}
use Rattle.jj_program.specs.declared.file_set.CodeStep.TheVariants.{Test, ShortCircuit, Combine as Combine'}
use Rattle.jj_program.specs.declared.file_set.SetOp.{SetOp}
use Rattle.jj_program.specs.declared.file_set.SetOp.TheVariants.{Push, Combine}
use Rattle.jj_program.specs.declared.file_set.matcher.FileSet.{FileSet}
use Rattle.jj_program.specs.WalkCommand.{MatcherSpec, SetTree, combined_stack, leaf_spec, one, spec_of}
use Rattle.jj_program.specs.declared.file_set.Combination.{Combination}
use Rattle.jj_program.specs.declared.file_set.Combination.TheVariants.{Union, Difference, Intersection}
use Rattle.std.specs.List.{list_any}
use Rattle.jj_paths.specs.Paths.{Name, Path}
use Rattle.jj_matchers.specs.VisitSpecs.{VisitSpec}
use Rattle.jj_program.specs.declared.file_set.matcher.FileSet.TheVariants.{Nothing}

-- 1. The operations of lines.

-- the stack after these operations, which are listed last first
abbrev pub stack_of : List SetOp → List (SetTree FileSet)
stack_of [] = []
stack_of (Push set ∷ earlier) = one set ∷ stack_of earlier
stack_of (Combine combination ∷ earlier) = combined_stack combination (stack_of earlier)

-- the sets that operations in order leave, top first
abbrev pub sets_of : List SetOp → List (SetTree FileSet)
sets_of ops = stack_of (reverse ops)

-- each combination finds two sets
abbrev pub is_whole : List SetOp → Bool
is_whole [] = true
is_whole (Push set ∷ earlier) = is_whole earlier
is_whole (Combine combination ∷ earlier) =
    nat_lt 1 (length (stack_of earlier)) && is_whole earlier

-- 2. Code, listed last step first: a pass over it begins at the end of the list.

-- the code of operations, listed last first, inside combinations whose second operand is incomplete
abbrev pub code_along : List Combination → List SetOp → List CodeStep
code_along pending [] = []
code_along pending (Combine combination ∷ earlier) =
    Combine' combination ∷ code_along (combination ∷ pending) earlier
code_along [] (Push set ∷ earlier) = Test set ∷ code_along [] earlier
code_along (combination ∷ pending) (Push set ∷ earlier) =
    Test set ∷ ShortCircuit combination ∷ code_along pending earlier

-- whether the first operand determines the result, and the result if it does not
abbrev pub is_decided_by : Combination → Bool → Bool
is_decided_by Union first = first
is_decided_by Difference first = not first
is_decided_by Intersection first = not first

abbrev pub with_second : Combination → Bool → Bool
with_second Union second = second
with_second Difference second = not second
with_second Intersection second = second

-- the state of evaluation for a path after a step: how many enclosing combinations are
-- short-circuited, and the value of the last operand
abbrev pub after_step : Path → CodeStep → ℕ → Bool → ℕ × Bool
after_step path (Test set) zero is_in = (zero, (leaf_spec set).accepts path)
after_step path (ShortCircuit combination) zero is_in =
    (if is_decided_by combination is_in then 1 else 0, is_in)
after_step path (Combine' combination) zero is_in = (zero, with_second combination is_in)
after_step path (Test set) (suc skipped) is_in = (suc skipped, is_in)
after_step path (ShortCircuit combination) (suc skipped) is_in = (suc (suc skipped), is_in)
after_step path (Combine' combination) (suc skipped) is_in = (skipped, is_in)

-- the state after the code
abbrev pub pass_over : Path → List CodeStep → ℕ × Bool → ℕ × Bool
pass_over path [] pass = pass
pass_over path (step ∷ earlier) pass =
    let before : ℕ × Bool = pass_over path earlier pass in
    after_step path step before.0 before.1

-- 3. The set of code.

-- the sets of the operands that code leaves, last first
abbrev pub left_by : List CodeStep → List (SetTree FileSet)
left_by [] = []
left_by (Test set ∷ earlier) = one set ∷ left_by earlier
left_by (ShortCircuit combination ∷ earlier) = left_by earlier
left_by (Combine' combination ∷ earlier) = combined_stack combination (left_by earlier)

-- the last of them
abbrev pub made_by : List CodeStep → SetTree FileSet
made_by code = slice_index_or (left_by code) 0 (one Nothing)

-- their visits of a directory
abbrev pub visits_at : Path → List CodeStep → List VisitSpec
visits_at dir code = map (λ set. (spec_of set).visits dir) (left_by code)

-- two matchers accept the same paths, visit alike and mention the same names
pub record IsAlike (own set : MatcherSpec) : Type 0 where
  pub accepts : (path : Path) → own.accepts path ≡ set.accepts path
  pub visits : (dir : Path) → own.visits dir ≡ set.visits dir
  pub names : (test : Name → Bool) → list_any test own.names ≡ list_any test set.names

-- the matchers of two sets are alike
abbrev pub AreAlike : SetTree FileSet → SetTree FileSet → Type 0
AreAlike own set = IsAlike (spec_of own) (spec_of set)
