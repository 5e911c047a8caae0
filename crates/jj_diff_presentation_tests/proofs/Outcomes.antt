-- Outcomes of an application whose result is known.
use Rattle.std.proofs.Common.{◌≡◌, ℕ, List, Result, Ok, Err, Vec, Global, ap, ◌∙◌}
use Rattle.std.specs.Prelude.{IfOk}
use Rattle.jj_diff_presentation.specs.Applying.{applied, Gives}
use Rattle.jj_diff_presentation.specs.declared.unified.application.ApplyError.{ApplyError}
use Rattle.jj_diff_presentation.specs.declared.unified.application.ApplyError.TheVariants.{Memory, Fault}
use Rattle.jj_diff_presentation.specs.declared.unified.patch.PatchFault.{PatchFault}
use Rattle.jj_diff_presentation_tests.specs.Outcomes.{IsOutOfMemory}

same_from : (r : Result (Vec ℕ Global) ApplyError) (x : Result (List ℕ) PatchFault) (right : List ℕ)
    → Gives r x → x ≡ Ok right → IfOk r (λ bytes. bytes.items ≡ right)
same_from (Ok bytes) x right g e = cc
same_from (Err d) x right g e = tt

memory_from : (r : Result (Vec ℕ Global) ApplyError) (x : Result (List ℕ) PatchFault)
    (right : List ℕ) → Gives r x → x ≡ Ok right → IsOutOfMemory r
memory_from (Ok bytes) x right g e = tt
memory_from (Err (Memory d)) x right g e = tt
memory_from (Err (Fault f found)) x right g e = cc

pub same_bytes : (r : Result (Vec ℕ Global) ApplyError) (left patch text right : List ℕ)
    → Gives r (applied left patch) → patch ≡ text → applied left text ≡ Ok right
    → IfOk r (λ bytes. bytes.items ≡ right)
same_bytes r left patch text right g e law =
    same_from r (applied left patch) right g (ap (applied left) e ∙ law)

pub only_memory : (r : Result (Vec ℕ Global) ApplyError) (left patch text right : List ℕ)
    → Gives r (applied left patch) → patch ≡ text → applied left text ≡ Ok right
    → IsOutOfMemory r
only_memory r left patch text right g e law =
    memory_from r (applied left patch) right g (ap (applied left) e ∙ law)

pub ruleset outcome_steps = (same_bytes, only_memory)
