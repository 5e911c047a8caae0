-- The way from a directory to what is below it.
use Rattle.std.proofs.Common.{◌≡◌, ◌≢◌, ◌∙◌, ℕ, List, [], ◌∷◌, ◌++◌, ap, refl, sym, append_assoc}
use Rattle.std.specs.Path.{path_components}
use Rattle.std.proofs.lemmas.List.{append_cancel_left}
use Rattle.jj_files.specs.PathComponents.{HasCommonPrefix, IsRelativeTo, relative_string}
use Rattle.jj_files.specs.PathJoining.{fs_text}

module _ (from to : List ℕ) (names : List (List ℕ)) (some : path_components from ≢ []) (is : path_components to ≡ path_components from ++ names) where
  left_names : (prefix from_left to_left : List (List ℕ)) → HasCommonPrefix from to prefix from_left to_left → to_left ≡ from_left ++ names
  left_names prefix from_left to_left h = append_cancel_left prefix to_left (from_left ++ names)
      (sym h.to_parts ∙ (is ∙ (ap (λ (l : List (List ℕ)). l ++ names) h.from_parts ∙ append_assoc prefix from_left names)))

  way_down : (prefix from_left to_left : List (List ℕ)) → HasCommonPrefix from to prefix from_left to_left → relative_string to prefix from_left to_left ≡ fs_text [] names
  way_down [] [] to_left h = absurd (some h.from_parts)
  way_down (first ∷ prefix) [] to_left h = ap (fs_text []) (left_names (first ∷ prefix) [] to_left h)
  way_down prefix (next ∷ from_left) to_left h = absurd (h.apart next from_left (from_left ++ names) refl (left_names prefix (next ∷ from_left) to_left h))

  pub below_way : (way : List ℕ) → IsRelativeTo from to way → way ≡ fs_text [] names
  below_way way h = h.4 ∙ way_down h.0 h.1 h.2 h.3
