-- The model of `Visit`, and soundness of a visit for a set of paths.
-- Cited by contracts of public items: IsSound, NamesAll, VisitSpec, all_recursively, nothing.
use Rattle.std.specs.Prelude.{◌≡◌, Bool, true, false, [], ◌∷◌, ◌++◌}
use Rattle.jj_paths.specs.Paths.{Name, Path}

-- everything below a directory; or only these children, as directories and as files; or nothing
pub data VisitSpec : Type 0 where
  all_recursively : VisitSpec
  specific : (Name → Bool) → (Name → Bool) → VisitSpec
  nothing : VisitSpec

-- soundness of a specific visit: each accepted child is among the files, the first name of each
-- accepted deeper path is among the directories, and each of these directories may be entered
pub record NamesAll (accepts opens : Path → Bool) (dir : Path)
    (dirs files : Name → Bool) : Type 0 where
  pub files_named : (name : Name) → accepts (dir ++ name ∷ []) ≡ true → files name ≡ true
  pub dirs_named : (name next : Name) (rest : Path) → accepts (dir ++ name ∷ next ∷ rest) ≡ true
      → dirs name ≡ true
  pub dirs_open : (name : Name) → dirs name ≡ true → opens (dir ++ name ∷ []) ≡ true

-- soundness of a visit of a directory: with `all_recursively` all paths strictly below it are
-- accepted, and with `nothing` none is
abbrev pub IsSound : (Path → Bool) → (Path → Bool) → Path → VisitSpec → Type 0
IsSound accepts opens dir all_recursively = (name : Name) (rest : Path)
    → (accepts (dir ++ name ∷ rest) ≡ true) × (opens (dir ++ name ∷ rest) ≡ true)
IsSound accepts opens dir (specific dirs files) = NamesAll accepts opens dir dirs files
IsSound accepts opens dir nothing = (name : Name) (rest : Path)
    → accepts (dir ++ name ∷ rest) ≡ false
