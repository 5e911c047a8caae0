-- Proofs of the laws of paths and trees.
use Rattle.std.proofs.Common.{◌≡◌, ◌<◌, ◌≤◌, true, [], ◌∷◌, ◌++◌, length, Option, Some, None, IsSome, refl, sym, ap, ◌∙◌, arith}
use Rattle.std.specs.List.{list_all}
use Rattle.std.specs.Option.{option_and_then}
use Rattle.std.proofs.lemmas.Bool.{and_parts}
use Rattle.jj_paths.specs.Paths.{Name, Path, components, path_string, is_name}
use Rattle.jj_paths.specs.Tree.{Tree, child, get}
use Rattle.jj_paths.specs.Laws.{SplitUndoesJoin, LastNameIsUnique, HasAncestors}
use Rattle.jj_paths.proofs.PathStrings.{components-name, components-split, is_name-parts, slice_split-at_slash}

text-more : (name : Name) (rest : Path) → list_all is_name (name ∷ rest) ≡ true → 0 < length (path_string (name ∷ rest))
text-more name [] all = (is_name-parts name (and_parts (is_name name) _ all).0).0
text-more [] (next ∷ rest) all = omega arith
text-more (b ∷ bs) (next ∷ rest) all = omega arith

components-path_string : (path : Path) → list_all is_name path ≡ true → components (path_string path) ≡ path
components-path_string [] all = refl
components-path_string (name ∷ []) all = components-name name (and_parts (is_name name) _ all).0
components-path_string (name ∷ next ∷ rest) all =
    let parts = and_parts (is_name name) _ all in
    let plain = (is_name-parts name parts.0).1 in
    components-split (name ++ 47 ∷ path_string (next ∷ rest)) (text-more name (next ∷ rest) all)
    ∙ slice_split-at_slash name (path_string (next ∷ rest)) plain
    ∙ ap (λ l. name ∷ l) (sym (components-split (path_string (next ∷ rest)) (text-more next rest parts.1)) ∙ components-path_string (next ∷ rest) parts.1)

pub paths_give_back : SplitUndoesJoin
paths_give_back path all = let back = components-path_string path all in (back, ap (list_all is_name) back ∙ all)

pub last_name_laws : LastNameIsUnique
last_name_laws [] [] name last e = let same : name ≡ last = cc in (refl, same)
last_name_laws [] (x ∷ others) name last e = absurd (omega (arith, ap length e, longer others))
  where
    longer : (l : Path) → 1 ≤ length (l ++ last ∷ [])
    longer [] = omega arith
    longer (y ∷ l) = omega arith
last_name_laws (x ∷ above) [] name last e = absurd (omega (arith, ap length e, longer above))
  where
    longer : (l : Path) → 1 ≤ length (l ++ name ∷ [])
    longer [] = omega arith
    longer (y ∷ l) = omega arith
last_name_laws (x ∷ above) (y ∷ others) name last e =
    let first : x ≡ y = cc in
    let later : above ++ name ∷ [] ≡ others ++ last ∷ [] = cc in
    let same = last_name_laws above others name last later in
    (ap (λ n. n ∷ above) first ∙ ap (λ l. y ∷ l) same.0, same.1)

pub has_ancestors : (V : Type 0) → HasAncestors V
has_ancestors V tree [] rest there = refl
has_ancestors V tree (name ∷ prefix) rest there = by_child (λ sub. has_ancestors V sub prefix rest) (child tree.branches name) there
  where
    by_child : ((sub : Tree V) → IsSome (get sub (prefix ++ rest)) → IsSome (get sub prefix)) → (o : Option (Tree V)) → IsSome (option_and_then (λ s. get s (prefix ++ rest)) o) → IsSome (option_and_then (λ s. get s prefix) o)
    by_child later None h = h
    by_child later (Some sub) h = later sub h
