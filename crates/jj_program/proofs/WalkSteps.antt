-- Steps of `walk` by the action and the values of a line.
use Rattle.std.proofs.Common.{rules, ◌≡◌, ◌∙◌, ◌<◌, ◌≤◌, ℕ, true, false, cond, List, [], ◌∷◌, Result, Ok, Err, ap, arith, length, nat_lt, sym}
use Rattle.jj_globs.specs.GlobMeaning.{GlobSpec}
use Rattle.jj_paths.specs.Paths.{Path}
use Rattle.jj_program.specs.declared.fault.Fault.TheVariants.{Matchers}
use Rattle.jj_program.specs.declared.fault.LineFault.{LineFault}
use Rattle.jj_program.specs.declared.fault.LineFault.TheVariants.{EmptyStack}
use Rattle.jj_program.specs.declared.file_set.Combination.{Combination}
use Rattle.jj_program.specs.declared.file_set.matcher.FileSet.{FileSet}
use Rattle.jj_program.specs.declared.walk_command.WalkForm.{WalkForm}
use Rattle.jj_program.specs.declared.walk_command.WalkForm.TheVariants.{Combine}
use Rattle.jj_program.specs.Lines.{result_and_then}
use Rattle.jj_program.specs.WalkCommand.{SetTree, WalkState, combined_stack, only_set, walk_act, walk_line, walk_step}

-- the result of a line with these values
pub stepped : (fields : List (List ℕ)) (state : WalkState) (form : WalkForm) (paths : List Path) (globs : List GlobSpec) (result : Result WalkState LineFault)
    → walk_line fields ≡ Ok (form, paths, globs) → walk_act state form paths globs ≡ result → walk_step state fields ≡ result
stepped fields state form paths globs result parsed acts =
    ap (λ (r : Result (WalkForm × List Path × List GlobSpec) LineFault). result_and_then r (λ line. walk_act state line.0 line.1 line.2)) parsed ∙ acts

-- a combination of a stack of two sets, and one of a stack of fewer
pub combines : (state : WalkState) (k : Combination) (paths : List Path) (globs : List GlobSpec) → 2 ≤ length state.stack
    → walk_act state (Combine k) paths globs ≡ Ok (record { marks = state.marks; stack = combined_stack k state.stack })
combines state k paths globs two =
    let no : nat_lt (length state.stack) 2 ≡ false = search rules in
    ap (λ t. cond {A = Result WalkState LineFault} t (Err EmptyStack) (Ok (record { marks = state.marks; stack = combined_stack k state.stack }))) no

pub lacks_sets : (state : WalkState) (k : Combination) (paths : List Path) (globs : List GlobSpec) → length state.stack < 2 → walk_act state (Combine k) paths globs ≡ Err EmptyStack
lacks_sets state k paths globs few =
    let yes : nat_lt (length state.stack) 2 ≡ true = search rules in
    ap (λ t. cond {A = Result WalkState LineFault} t (Err EmptyStack) (Ok (record { marks = state.marks; stack = combined_stack k state.stack }))) yes

-- no or several sets at the end
pub leaves_many : (marks : List Path) (stack : List (SetTree FileSet)) (n : ℕ) → n ≡ length stack → (n ≡ 1 → ⊥) → only_set marks stack ≡ Err (Matchers n)
leaves_many marks [] n is many = ap (λ k. Err (Matchers k)) (sym is)
leaves_many marks (set ∷ []) n is many = absurd (many (omega arith))
leaves_many marks (set ∷ other ∷ stack) n is many = ap (λ k. Err (Matchers k)) (sym is)
