use Rattle.std.proofs.Common.{◌≡◌, ℕ, List, ap, sym, ◌∙◌, subst}
use mathlib.Core.Bool.{false≢true}
use Rattle.jj_globs.specs.GlobMeaning.{GlobSpec, IsMatch}
use Rattle.jj_globs_tests.specs.Selected.{none}
use Rattle.jj_globs_tests.proofs.Selecting.{takes_at, leaves_at}
use Rattle.jj_globs_tests.proofs.callers.selected.Goals as goal
use Rattle.jj_globs_tests.proofs.callers.selected.Goals.{then-is_match+in_ok-push, else-is_match}

same_match : (g g' : GlobSpec) (bytes bytes' : List ℕ) → g ≡ g' → bytes ≡ bytes' → IsMatch g bytes → IsMatch g' bytes'
same_match g g' bytes bytes' e f h = subst (λ x. IsMatch x bytes') e (subst (IsMatch g) f h)

pub loop-path-init : goal.loop-path-init
loop-path-init c = rw c.new-found.ensures.items none

pub loop-path-preserved : goal.loop-path-preserved
loop-path-preserved c =
    let glob = c.in_ok-glob.ensures.pattern in
    let bytes = c.as_bytes.ensures.value in
    elim c.if-is_match.branch [
      | then-is_match+in_ok-push w ↦
          takes_at _ (λ path. path.now) _ _ _ _ _ c.loop-path-test.true c.loop-path.invariant (same_match _ _ _ _ glob bytes (c.is_match.ensures.0 w.if-is_match.true))
          (ap (λ v. v.items) w.found-is ∙ w.in_ok-push.ensures.items)
      | else-is_match w ↦
          leaves_at _ (λ path. path.now) _ _ _ _ _ c.loop-path-test.true c.loop-path.invariant
          (λ h. false≢true (sym w.if-is_match.false ∙ c.is_match.ensures.1 (same_match _ _ _ _ (sym glob) (sym bytes) h)))
          (ap (λ v. v.items) w.found-is)
    ]
