-- The nodes on the way to a path are at the path and its ancestors.
use Rattle.std.proofs.Common.{◌≡◌, ℕ, zero, suc, ◌<◌, List, [], ◌∷◌, length, get_or, Option, Some, None, refl, ap, ◌∙◌, arith}
use Rattle.std.specs.Option.{option_and_then}
use Rattle.jj_paths.specs.Paths.{Path}
use Rattle.jj_paths.specs.Tree.{Tree, child, get, nodes_on, IsOnPath}

module _ {V : Type 0} where
  abbrev after : Option (Tree V) → Path → List (Tree V × Path)
  after o rest = elim o [ None ↦ [] | Some sub ↦ nodes_on sub rest ]

  pub nodes_on-parts : (tree : Tree V) (path : Path) (k : ℕ) (d : Tree V × Path) → k < length (nodes_on tree path) → IsOnPath tree path (get_or (nodes_on tree path) k d)
  nodes_on-parts tree [] zero d lt = ([], refl, refl)
  nodes_on-parts tree [] (suc k) d lt = absurd (omega (arith, lt))
  nodes_on-parts tree (name ∷ rest) zero d lt = ([], refl, refl)
  nodes_on-parts tree (name ∷ rest) (suc k) d lt = by_child (λ sub. nodes_on-parts sub rest k d) (child tree.branches name) refl (omega (arith, lt))
    where
      by_child : ((sub : Tree V) → k < length (nodes_on sub rest) → IsOnPath sub rest (get_or (nodes_on sub rest) k d)) → (o : Option (Tree V)) → child tree.branches name ≡ o → k < length (after o rest) → IsOnPath tree (name ∷ rest) (get_or (after o rest) k d)
      by_child later None is less = absurd (omega (arith, less))
      by_child later (Some sub) is less =
          let (prefix, e, g) = later sub less in
          (name ∷ prefix, ap (λ l. name ∷ l) e, ap (λ o. option_and_then (λ s. get s prefix) o) is ∙ g)
