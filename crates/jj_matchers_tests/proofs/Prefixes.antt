-- Walks with the difference of two sets of one prefix each.
use Rattle.std.proofs.Common.{◌≡◌, ◌≢◌, Bool, true, false, ◌&&◌, not, List, [], ◌∷◌, Contains, refl, ap, sym, subst, ◌∙◌}
use Rattle.std.specs.Prelude.{◌↔◌}
use mathlib.Core.Bool.{false≢true}
use Rattle.std.proofs.lemmas.Bool.{and_from, and_parts, false_from_ne_true}
use Rattle.jj_paths.specs.Paths.{Path, IsBelow}
use Rattle.jj_paths.specs.Tree.{Tree}
use Rattle.jj_matchers.specs.Marks.{IsMarkedTree}
use Rattle.jj_matchers.specs.Walk.{files_of}
use Rattle.jj_matchers.specs.PathLists.{has_prefix}
use Rattle.jj_matchers.specs.Laws.{FindsMarks}
use Rattle.jj_matchers.proofs.Singles.{HasBelow, one_prefix}

not_false : (b : Bool) → not b ≡ true → b ≡ false
not_false true e = absurd (false≢true e)
not_false false e = refl

-- membership in the difference
pub one_less_another : (wanted unwanted : List Path) (dir without path : Path) → HasBelow wanted dir → HasBelow unwanted without
    → ((has_prefix wanted path && not (has_prefix unwanted path)) ≡ true) ↔ (IsBelow path dir × (¬ IsBelow path without))
one_less_another wanted unwanted dir without path first second =
    let inside = one_prefix wanted dir path first in
    let outside = one_prefix unwanted without path second in (
      (λ h. let parts = and_parts (has_prefix wanted path) (not (has_prefix unwanted path)) h in
          (inside.0 parts.0, λ below. false≢true (sym (not_false (has_prefix unwanted path) parts.1) ∙ outside.1 below))),
      (λ (in', out). and_from (has_prefix wanted path) (not (has_prefix unwanted path)) (inside.1 in')
          (ap not (false_from_ne_true (has_prefix unwanted path) (λ e. out (outside.0 e))))),
    )

-- the files that a walk with the difference finds
pub found_below : (marks : List Path) (tree : Tree Bool) (wanted unwanted : List Path) (dir without : Path) (found : List Path) → FindsMarks → IsMarkedTree marks tree
    → HasBelow wanted dir → HasBelow unwanted without → found ≡ files_of (λ path. has_prefix wanted path && not (has_prefix unwanted path)) tree
    → (path : Path) → Contains found path ↔ (Contains marks path × (path ≢ []) × IsBelow path dir × (¬ IsBelow path without))
found_below marks tree wanted unwanted dir without found finds made first second is path =
    let files = finds marks tree made (λ path. has_prefix wanted path && not (has_prefix unwanted path)) path in
    let accepted = one_less_another wanted unwanted dir without path first second in (
      (λ h. let file = files.0 (subst (λ l. Contains l path) is h) in let below = accepted.0 file.2 in (file.0, file.1, below.0, below.1)),
      (λ (marked, not_root, in', out). subst (λ l. Contains l path) (sym is) (files.1 (marked, not_root, accepted.1 (in', out)))),
    )
