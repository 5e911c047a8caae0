-- The ancestors of a path: itself, then those of its parent.
use Rattle.std.proofs.Common.{◌≡◌, Option, Some, None, [], ◌∷◌, ◌++◌, map, MatchOption, refl, ap, sym, ◌∙◌}
use Rattle.jj_paths.specs.Paths.{Name, Path, ancestors}
use Rattle.jj_paths.specs.Names.{path_of}
use Rattle.jj_paths.specs.Iterators.{ancestors_from}
use Rattle.jj_paths.specs.declared.repo_path.RepoPath.{RepoPath}

ancestors-append : (above : Path) (name : Name) → ancestors (above ++ name ∷ []) ≡ (above ++ name ∷ []) ∷ ancestors above
ancestors-append [] name = refl
ancestors-append (first ∷ above) name = ap (λ l. map (λ prefix. first ∷ prefix) l ++ [] ∷ []) (ancestors-append above name)

pub ancestors-step : (path : Path) (above : Option RepoPath) → MatchOption above (path ≡ []) (λ a. (name : Name) × (path ≡ path_of a ++ name ∷ [])) → ancestors path ≡ path ∷ ancestors_from above
ancestors-step path None is = ap ancestors is ∙ ap (λ p. p ∷ []) (sym is)
ancestors-step path (Some a) (name, is) = ap ancestors is ∙ ancestors-append (path_of a) name ∙ ap (λ p. p ∷ ancestors (path_of a)) (sym is)
