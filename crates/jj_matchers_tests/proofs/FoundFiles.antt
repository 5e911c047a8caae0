-- A walk finds the accepted marks below the root, for any description of the accepted paths.
use Rattle.std.proofs.Common.{◌≡◌, ◌≢◌, Bool, true, List, [], Contains, sym, subst}
use Rattle.std.specs.Prelude.{◌↔◌}
use Rattle.jj_paths.specs.Paths.{Path}
use Rattle.jj_paths.specs.Tree.{Tree}
use Rattle.jj_matchers.specs.Marks.{IsMarkedTree}
use Rattle.jj_matchers.specs.MarkWalk.{WalksMarks}
use Rattle.jj_matchers.specs.VisitSpecs.{VisitSpec}
use Rattle.jj_matchers.specs.Walk.{files_of}
use Rattle.jj_matchers.specs.Laws.{FindsMarks}

module _ (marks : List Path) (tree : Tree Bool) (found : List Path) (accepts : Path → Bool) (Has : Path → Type 0) where
  pub found_files : FindsMarks → IsMarkedTree marks tree → found ≡ files_of accepts tree → ((path : Path) → (accepts path ≡ true) ↔ Has path)
      → (path : Path) → Contains found path ↔ (Contains marks path × (path ≢ []) × Has path)
  found_files finds made is has path =
      let files = finds marks tree made accepts path in (
        (λ h. let file = files.0 (subst (λ l. Contains l path) is h) in (file.0, file.1, (has path).0 file.2)),
        (λ (marked, not_root, member). subst (λ l. Contains l path) (sym is) (files.1 (marked, not_root, (has path).1 member))),
      )

pub found_marks : (marks files entered : List Path) (accepts : Path → Bool) (visit : Path → VisitSpec) (Has : Path → Type 0) → WalksMarks accepts visit marks files entered
    → ((path : Path) → (accepts path ≡ true) ↔ Has path) → (path : Path) → Contains files path ↔ (Contains marks path × (path ≢ []) × Has path)
found_marks marks files entered accepts visit Has walks has path =
    let found = walks.found path in (
      (λ h. let file = found.0 h in (file.0, file.1, (has path).0 file.2)),
      (λ (marked, not_root, member). found.1 (marked, not_root, (has path).1 member)),
    )
