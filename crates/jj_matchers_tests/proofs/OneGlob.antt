-- A walk with one glob in a directory finds the marks below the directory whose rest it matches.
use Rattle.std.proofs.Common.{◌≡◌, Bool, true, false, List, [], ◌∷◌, ◌++◌, Contains, ap, sym, subst, ◌∙◌}
use Rattle.std.specs.Prelude.{◌↔◌}
use Rattle.jj_paths.specs.Paths.{Name, Path}
use Rattle.jj_paths.specs.Tree.{Tree}
use Rattle.jj_globs.specs.GlobMeaning.{GlobSpec}
use Rattle.jj_matchers.specs.Marks.{IsMarkedTree}
use Rattle.jj_matchers.specs.Walk.{files_of}
use Rattle.jj_matchers.specs.Patterns.{Patterns, is_accepted}
use Rattle.jj_matchers.specs.Laws.{FindsMarks}
use Rattle.jj_matchers.proofs.Singles.{HasMatchesOf, LiesBelow, accepts_one, one_pattern}

-- the set with one more pattern
abbrev pub with_pattern : Patterns → Path → GlobSpec → Patterns
with_pattern set dir glob = record { prefix_paths = set.prefix_paths; patterns = set.patterns ++ (dir, glob) ∷ [] }

-- a pattern that is added to an empty set is the only one
pub one_added : (empty added : Patterns) (dir : Path) (glob known : GlobSpec) → empty ≡ record { prefix_paths = false; patterns = [] } → glob ≡ known → added ≡ with_pattern empty dir glob
    → added ≡ one_pattern dir known
one_added empty added dir glob known none same is = is ∙ ap (λ set. with_pattern set dir glob) none ∙ ap (one_pattern dir) same

no_root : (dir : Path) (name : Name) (rest : Path) → dir ++ name ∷ rest ≡ [] → ⊥
no_root [] name rest e = cc
no_root (d ∷ dir) name rest e = cc

module _ (set : Patterns) (dir : Path) (glob : GlobSpec) (accepts : HasMatchesOf set (one_pattern dir glob)) where
  -- the files that a walk with it finds
  pub found_by_glob : (marks : List Path) (tree : Tree Bool) (found : List Path) → FindsMarks → IsMarkedTree marks tree → found ≡ files_of (is_accepted set) tree
      → (path : Path) → Contains found path ↔ (Contains marks path × LiesBelow dir glob path)
  found_by_glob marks tree found finds made is path =
      let files = finds marks tree made (is_accepted set) path in
      let decides = accepts_one set dir glob path accepts in (
        (λ h. let file = files.0 (subst (λ l. Contains l path) is h) in (file.0, decides.0 file.2)),
        (λ (marked, below). subst (λ l. Contains l path) (sym is)
            (files.1 (marked, (λ root. no_root dir below.0 below.1 (sym below.2 ∙ root)), decides.1 below))),
      )
