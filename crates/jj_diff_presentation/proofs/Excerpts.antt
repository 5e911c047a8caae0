-- The line of a patch that an error quotes.
use Rattle.std.proofs.Common.{◌≡◌, ℕ, ◌-◌, ◌<◌, ◌≤◌, true, false, List, [], ◌∷◌, length, take, drop, Option, Some, None, refl, sym, ap, ◌∙◌, arith}
use Rattle.std.proofs.lemmas.List.{drop_all}
use Rattle.jj_diff_presentation.specs.Lines.{is_terminated, split_lines}
use Rattle.jj_diff_presentation.specs.Applying.{without_newline, first_excerpt}
use Rattle.jj_diff_presentation.proofs.Booleans.{cond_true, cond_false}
use Rattle.jj_diff_presentation.proofs.Applying.{dropped_all}

pub newline_cut : (line : List ℕ) → is_terminated line ≡ true
    → take (length line - 1) line ≡ without_newline line
newline_cut line t = sym (cond_true (is_terminated line) (take (length line - 1) line) line t)

pub newline_none : (line : List ℕ) → is_terminated line ≡ false → line ≡ without_newline line
newline_none line f = sym (cond_false (is_terminated line) (take (length line - 1) line) line f)

-- fewer lines than are skipped
pub no_excerpt : (lines : List (List ℕ)) (k skipped : ℕ) → drop k lines ≡ [] → k ≤ skipped
    → first_excerpt (drop skipped lines) ≡ None
no_excerpt lines k skipped e le =
    ap first_excerpt (drop_all skipped lines (omega (arith, dropped_all lines k e)))

pub ruleset excerpt_steps = (newline_cut, newline_none)
