-- The values of resolved paths and of conflicts so far, in the loops that insert them.
use Rattle.std.proofs.Common.{◌≡◌, ◌∙◌, ℕ, zero, suc, ◌+◌, ◌<◌, List, [], ◌∷◌, ◌++◌, take, drop, length, get_or, Option, Some, None, refl, sym, ap, subst, append_assoc, add-one, arith}
use Rattle.std.proofs.lemmas.List.{take-append-drop, take_more}
use Rattle.jj_paths.specs.Paths.{Path}
use Rattle.jj_backend.specs.MergedTreeValues.{Values}
use Rattle.jj_backend.specs.declared.backend.tree_value.TreeValue.{TreeValue}
use Rattle.jj_trees.specs.WrittenTrees.{PathValues, IsPrefixFree, chosen_values}
use Rattle.jj_trees.proofs.TrieValues.{prefix_before}

-- a conflict: its path, terms and labels
abbrev pub Conflict : Type 0
Conflict = Path × Values × List (List ℕ)

-- ---- resolved paths

pub resolved_more : (values xs : PathValues) (i : ℕ) (x d : Path × TreeValue) → i < length xs → get_or xs i d ≡ x → (values ++ take i xs) ++ x ∷ [] ≡ values ++ take (i + 1) xs
resolved_more values xs i x d lt is = append_assoc values (take i xs) (x ∷ []) ∙ ap (λ l. values ++ l) (ap (λ y. take i xs ++ y ∷ []) (sym is) ∙ sym (take_more xs i d lt))

-- one more value of a prefix-free list
pub resolved_prefix : (values xs : PathValues) (i : ℕ) (x d : Path × TreeValue) → i < length xs → get_or xs i d ≡ x → IsPrefixFree (values ++ xs) → IsPrefixFree ((values ++ take i xs) ++ x ∷ [])
resolved_prefix values xs i x d lt is free =
    subst IsPrefixFree (sym (resolved_more values xs i x d lt is))
    (prefix_before (values ++ take (i + 1) xs) (drop (i + 1) xs)
    (subst IsPrefixFree (ap (λ l. values ++ l) (sym (take-append-drop (i + 1) xs)) ∙ sym (append_assoc values (take (i + 1) xs) (drop (i + 1) xs))) free))

-- ---- conflicts

chosen_none : (conflicts : List Conflict) → chosen_values conflicts [] ≡ []
chosen_none [] = refl
chosen_none (c ∷ conflicts) = refl

chosen_split : (n : ℕ) (conflicts : List Conflict) (chosen : List (Option TreeValue)) → chosen_values conflicts chosen ≡ chosen_values (take n conflicts) (take n chosen) ++ chosen_values (drop n conflicts) (drop n chosen)
chosen_split zero conflicts chosen = refl
chosen_split (suc n) [] chosen = refl
chosen_split (suc n) (c ∷ conflicts) [] = sym (chosen_none (drop n conflicts))
chosen_split (suc n) (c ∷ conflicts) (None ∷ chosen) = chosen_split n conflicts chosen
chosen_split (suc n) (c ∷ conflicts) (Some v ∷ chosen) = λ i. (c.0, v) ∷ chosen_split n conflicts chosen i

present_suc : (i : ℕ) (conflicts : List Conflict) (chosen : List (Option TreeValue)) (v : TreeValue) (d : Conflict) (e : Option TreeValue) → i < length conflicts → i < length chosen → get_or chosen i e ≡ Some v
    → chosen_values (take (suc i) conflicts) (take (suc i) chosen) ≡ chosen_values (take i conflicts) (take i chosen) ++ ((get_or conflicts i d).0, v) ∷ []
present_suc i [] chosen v d e lt lt' is = absurd (omega arith)
present_suc i (c ∷ conflicts) [] v d e lt lt' is = absurd (omega arith)
present_suc zero (c ∷ conflicts) (None ∷ chosen) v d e lt lt' is = absurd cc
present_suc zero (c ∷ conflicts) (Some u ∷ chosen) v d e lt lt' is = let same : u ≡ v = cc in λ j. (c.0, same j) ∷ []
present_suc (suc i) (c ∷ conflicts) (None ∷ chosen) v d e lt lt' is = present_suc i conflicts chosen v d e (omega arith) (omega arith) is
present_suc (suc i) (c ∷ conflicts) (Some u ∷ chosen) v d e lt lt' is = λ j. (c.0, u) ∷ present_suc i conflicts chosen v d e (omega arith) (omega arith) is j

absent_suc : (i : ℕ) (conflicts : List Conflict) (chosen : List (Option TreeValue)) (e : Option TreeValue) → i < length chosen → get_or chosen i e ≡ None
    → chosen_values (take (suc i) conflicts) (take (suc i) chosen) ≡ chosen_values (take i conflicts) (take i chosen)
absent_suc i conflicts [] e lt is = absurd (omega arith)
absent_suc zero [] (o ∷ chosen) e lt is = refl
absent_suc (suc i) [] (o ∷ chosen) e lt is = refl
absent_suc zero (c ∷ conflicts) (None ∷ chosen) e lt is = refl
absent_suc zero (c ∷ conflicts) (Some u ∷ chosen) e lt is = absurd cc
absent_suc (suc i) (c ∷ conflicts) (None ∷ chosen) e lt is = absent_suc i conflicts chosen e (omega arith) is
absent_suc (suc i) (c ∷ conflicts) (Some u ∷ chosen) e lt is = λ j. (c.0, u) ∷ absent_suc i conflicts chosen e (omega arith) is j

module _ (values : PathValues) (conflicts : List Conflict) (chosen : List (Option TreeValue)) (i : ℕ) where
  -- the values to write after i conflicts
  abbrev pub so_far : ℕ → PathValues
  so_far n = values ++ chosen_values (take n conflicts) (take n chosen)

  pub absent_more : (e : Option TreeValue) → i < length chosen → get_or chosen i e ≡ None → so_far (i + 1) ≡ so_far i
  absent_more e lt is = rw add-one (ap (λ l. values ++ l) (absent_suc i conflicts chosen e lt is))

  pub present_more : (v : TreeValue) (path : Path) (d : Conflict) (e : Option TreeValue) → i < length conflicts → i < length chosen → get_or chosen i e ≡ Some v → (get_or conflicts i d).0 ≡ path
      → so_far i ++ (path, v) ∷ [] ≡ so_far (i + 1)
  present_more v path d e lt lt' is at =
      rw add-one
      (append_assoc values (chosen_values (take i conflicts) (take i chosen)) ((path, v) ∷ [])
      ∙ ap (λ l. values ++ l) (ap (λ p. chosen_values (take i conflicts) (take i chosen) ++ (p, v) ∷ []) (sym at) ∙ sym (present_suc i conflicts chosen v d e lt lt' is)))

  pub chosen_prefix : (v : TreeValue) (path : Path) (d : Conflict) (e : Option TreeValue) → i < length conflicts → i < length chosen → get_or chosen i e ≡ Some v → (get_or conflicts i d).0 ≡ path
      → IsPrefixFree (values ++ chosen_values conflicts chosen) → IsPrefixFree (so_far i ++ (path, v) ∷ [])
  chosen_prefix v path d e lt lt' is at free =
      subst IsPrefixFree (sym (present_more v path d e lt lt' is at))
      (prefix_before (so_far (i + 1)) (chosen_values (drop (i + 1) conflicts) (drop (i + 1) chosen))
      (subst IsPrefixFree (ap (λ l. values ++ l) (chosen_split (i + 1) conflicts chosen)
      ∙ sym (append_assoc values (chosen_values (take (i + 1) conflicts) (take (i + 1) chosen)) (chosen_values (drop (i + 1) conflicts) (drop (i + 1) chosen)))) free))
