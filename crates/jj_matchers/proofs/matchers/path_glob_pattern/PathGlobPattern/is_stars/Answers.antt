use Rattle.std.proofs.Common.{◌≡◌, ◌∙◌, ap, sym, ℕ, Bool, false, ◌==◌, List, [], ◌∷◌, length}
use mathlib.Core.Bool.{false≢true}
use Rattle.std.specs.List.{list_all}
use Rattle.jj_matchers.specs.Patterns.{is_stars}
use Rattle.jj_matchers.proofs.matchers.path_glob_pattern.PathGlobPattern.is_stars.Goals as goal

some_stars : (text : List ℕ) (b : Bool) → (length text == 0) ≡ false → b ≡ list_all (λ c. c == 42) text → b ≡ is_stars text
some_stars [] b none e = absurd (false≢true (sym none))
some_stars (c ∷ text) b none e = e

pub returns-then-not-is_empty : goal.returns-then-not-is_empty
returns-then-not-is_empty c =
    some_stars c.as_bytes-text.result.now c.are_stars.result (sym c.if-not-is_empty.ensures) c.are_stars.ensures
    ∙ ap is_stars (c.as_bytes-text.ensures.value ∙ c.as_str.ensures)
