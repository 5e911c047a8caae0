-- Combinations of matchers that are alike, and stacks of them.
use Rattle.std.proofs.Common.{◌≡◌, ◌∙◌, Bool, List, [], ◌∷◌, ◌++◌, refl, arith, length, sym, subst, ◌||◌, ◌&&◌, not, if◌then◌else◌}
use Rattle.std.specs.List.{AllZip, list_any}
use Rattle.std.proofs.lemmas.List.Folds.{list_any-append}
use Rattle.jj_paths.specs.Paths.{Name}
use Rattle.jj_matchers.specs.VisitSpecs.{VisitSpec, all_recursively, specific, nothing}
use Rattle.jj_matchers.specs.Combined.{union_spec, difference_spec, intersection_spec}
use Rattle.jj_program.specs.declared.file_set.Combination.{Combination}
use Rattle.jj_program.specs.declared.file_set.Combination.TheVariants.{Union, Difference, Intersection}
use Rattle.jj_program.specs.declared.file_set.matcher.FileSet.{FileSet}
use Rattle.jj_program.specs.WalkCommand.{SetTree, MatcherSpec, combined_spec, combined_stack, spec_of}
use Rattle.jj_program.specs.SetCode.{AreAlike, IsAlike}

-- 1. Combinations.

-- the visit of an intersection depends on the set of names, not on their order
same_intersection : (names others : List Name) → ((test : Name → Bool) → list_any test names ≡ list_any test others) → (a b : VisitSpec) →
    intersection_spec names a b ≡ intersection_spec others a b
same_intersection names others same all_recursively b = refl
same_intersection names others same nothing b = refl
same_intersection names others same (specific dirs files) all_recursively = refl
same_intersection names others same (specific dirs files) nothing = refl
same_intersection names others same (specific dirs files) (specific other_dirs other_files) =
    let both_dirs : Name → Bool = λ name. dirs name && other_dirs name in
    let both_files : Name → Bool = λ name. files name && other_files name in
    λ i. if (both_dirs [] || same both_dirs i) || (both_files [] || same both_files i) then specific both_dirs both_files else nothing

module _ (m n s t : MatcherSpec) (first : IsAlike m s) (second : IsAlike n t) where
  all_names : (test : Name → Bool) → list_any test (m.names ++ n.names) ≡ list_any test (s.names ++ t.names)
  all_names test =
      list_any-append test m.names n.names
      ∙ (λ i. first.names test i || second.names test i)
      ∙ sym (list_any-append test s.names t.names)

  -- combinations of operands that are alike
  alike_combined : (k : Combination) → IsAlike (combined_spec k m n) (combined_spec k s t)
  alike_combined Union = record {
    accepts = λ path i. first.accepts path i || second.accepts path i;
    visits = λ dir i. union_spec (first.visits dir i) (second.visits dir i);
    names = all_names;
  }
  alike_combined Difference = record {
    accepts = λ path i. first.accepts path i && not (second.accepts path i);
    visits = λ dir i. difference_spec (first.visits dir i) (second.visits dir i);
    names = first.names;
  }
  alike_combined Intersection = record {
    accepts = λ path i. first.accepts path i && second.accepts path i;
    visits = λ dir.
        same_intersection (m.names ++ n.names) (s.names ++ t.names) all_names (m.visits dir) (n.visits dir)
        ∙ (λ i. intersection_spec (s.names ++ t.names) (first.visits dir i) (second.visits dir i));
    names = all_names;
  }

-- 2. Stacks of sets that are alike.

pub same_height : (own stack : List (SetTree FileSet)) → AllZip AreAlike own stack → length own ≡ length stack
same_height [] [] alike = refl
same_height [] (set ∷ stack) alike = absurd alike
same_height (own ∷ others) [] alike = absurd alike
same_height (own ∷ others) (set ∷ stack) alike = let more = same_height others stack alike.1 in omega (arith, more)

pub combined_alike : (k : Combination) (own stack : List (SetTree FileSet)) → AllZip AreAlike own stack → AllZip AreAlike (combined_stack k own) (combined_stack k stack)
combined_alike k [] [] alike = tt
combined_alike k [] (set ∷ stack) alike = absurd alike
combined_alike k (own ∷ others) [] alike = absurd alike
combined_alike k (own ∷ []) (set ∷ []) alike = tt
combined_alike k (own ∷ []) (set ∷ other ∷ stack) alike = absurd alike.1
combined_alike k (own ∷ next ∷ others) (set ∷ []) alike = absurd alike.1
combined_alike k (second ∷ first ∷ others) (other_second ∷ other_first ∷ stack) alike =
    (alike_combined (spec_of first) (spec_of second) (spec_of other_first) (spec_of other_second) alike.1.0 alike.0 k, alike.1.1)

-- a stack of one set
pub alike_only : (own : List (SetTree FileSet)) (made set : SetTree FileSet) → own ≡ made ∷ [] → AllZip AreAlike own (set ∷ []) → AreAlike made set
alike_only own made set is alike = (subst (λ l. AllZip AreAlike l (set ∷ [])) is alike).0
