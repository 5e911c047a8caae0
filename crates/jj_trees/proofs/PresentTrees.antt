-- The test of whether the values that are present are trees.
use Rattle.std.proofs.Common.{◌≡◌, ℕ, ◌∷◌, [], Bool, true, false, List, map, Option, None, Some, refl, sym, true≢false}
use Rattle.std.specs.Prelude.{IfSome}
use Rattle.std.specs.List.{list_all}
use Rattle.std.specs.Option.{option_map}
use Rattle.std.proofs.lemmas.List.Elements.{All-nil, All-cons, All-head, All-tail}
use Rattle.jj_backend.specs.MergedTreeValues.{Values, is_tree_or_absent}
use Rattle.jj_backend.specs.declared.backend.tree_value.TreeValue.{TreeValue}
use Rattle.jj_backend.specs.declared.backend.tree_value.TreeValue.TheVariants.{File, Symlink, Tree, GitSubmodule}
use Rattle.jj_trees.specs.DirectoryMerges.{AreTreesOrAbsent}

abbrev IsTreeOrAbsent : Option TreeValue → Type 0
IsTreeOrAbsent v = IfSome v (λ value. (id : List ℕ) × (value ≡ Tree id))

abbrev pub passes : Values → Bool
passes values = list_all is_tree_or_absent (map (option_map (λ (value : TreeValue). value)) values)

pub trees_from_test : (values : Values) → passes values ≡ true → AreTreesOrAbsent values
trees_from_test [] h = All-nil IsTreeOrAbsent
trees_from_test (None ∷ values) h = All-cons IsTreeOrAbsent None values tt (trees_from_test values h)
trees_from_test (Some (Tree id) ∷ values) h = All-cons IsTreeOrAbsent (Some (Tree id)) values (id, refl) (trees_from_test values h)
trees_from_test (Some (File id executable copy_id) ∷ values) h = absurd (true≢false (sym h))
trees_from_test (Some (Symlink id) ∷ values) h = absurd (true≢false (sym h))
trees_from_test (Some (GitSubmodule id) ∷ values) h = absurd (true≢false (sym h))

not_tree : (value : TreeValue) → (id : List ℕ) × (value ≡ Tree id) → is_tree_or_absent (Some value) ≡ false → ⊥
not_tree (Tree id) h other = true≢false other
not_tree (File id executable copy_id) h other = let e = h.1 in cc
not_tree (Symlink id) h other = let e = h.1 in cc
not_tree (GitSubmodule id) h other = let e = h.1 in cc

pub not_trees_from_test : (values : Values) → passes values ≡ false → AreTreesOrAbsent values → ⊥
not_trees_from_test [] h all = true≢false h
not_trees_from_test (None ∷ values) h all = not_trees_from_test values h (All-tail IsTreeOrAbsent None values all)
not_trees_from_test (Some (Tree id) ∷ values) h all = not_trees_from_test values h (All-tail IsTreeOrAbsent (Some (Tree id)) values all)
not_trees_from_test (Some (File id executable copy_id) ∷ values) h all = not_tree (File id executable copy_id) (All-head IsTreeOrAbsent (Some (File id executable copy_id)) values all) refl
not_trees_from_test (Some (Symlink id) ∷ values) h all = not_tree (Symlink id) (All-head IsTreeOrAbsent (Some (Symlink id)) values all) refl
not_trees_from_test (Some (GitSubmodule id) ∷ values) h all = not_tree (GitSubmodule id) (All-head IsTreeOrAbsent (Some (GitSubmodule id)) values all) refl
