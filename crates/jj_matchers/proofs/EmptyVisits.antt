-- Soundness of a specific visit without names.
use Rattle.std.proofs.Common.{◌≡◌, Bool, true, false, List, [], ◌∷◌, ◌++◌, ap, sym, ◌∙◌}
use mathlib.Core.Bool.{false≢true}
use Rattle.std.proofs.lemmas.Bool.{false_from_ne_true}
use Rattle.jj_paths.specs.Paths.{Name, Path}
use Rattle.jj_matchers.specs.VisitSpecs.{NamesAll}
use Rattle.jj_matchers.specs.Visits.{is_among}

-- if neither set has a name, no path below the directory is accepted
pub none_accepted : (dirs files : List Name) → dirs ≡ [] → files ≡ [] → (accepts opens : Path → Bool) (dir : Path) → NamesAll accepts opens dir (is_among dirs) (is_among files) → (name : Name) (rest : Path) → accepts (dir ++ name ∷ rest) ≡ false
none_accepted dirs files no_dirs no_files accepts opens dir named name rest = false_from_ne_true (accepts (dir ++ name ∷ rest)) (refused rest)
  where
    refused : (rest : Path) → accepts (dir ++ name ∷ rest) ≡ true → ⊥
    refused [] h = false≢true (ap (λ (names : List Name). is_among names name) (sym no_files) ∙ named.files_named name h)
    refused (next ∷ rest) h = false≢true (ap (λ (names : List Name). is_among names name) (sym no_dirs) ∙ named.dirs_named name next rest h)
