-- The tree that a merge is written as has the outcome at each path, and nothing else.
use Rattle.std.proofs.Common.{◌≡◌, ◌≢◌, ◌⊎◌, inl, inr, ⊎_elim, ℕ, ◌<◌, Bool, List, [], ◌∷◌, map, length, Option, Some, None, refl, sym, ap, subst, ◌∙◌}
use Rattle.std.specs.Prelude.{Result, Ok, Err, IfOk, IfErr, Contains}
use Rattle.std.proofs.lemmas.List.Elements.{Contains-append_left, Contains-append_right, Contains-append_cases}
use Rattle.jj_paths.specs.Paths.{Path, IsBelow}
use Rattle.jj_merges.specs.declared.merge.SameChange.{SameChange}
use Rattle.jj_backend.specs.Objects.{ById, Object, Objects}
use Rattle.jj_backend.specs.Trees.{Entries}
use Rattle.jj_backend.specs.MergedTreeValues.{Values}
use Rattle.jj_backend.specs.declared.backend.tree_value.TreeValue.{TreeValue}
use Rattle.jj_backend.specs.declared.backend.tree_value.TreeValue.TheVariants.{Tree}
use Rattle.jj_backend.specs.declared.backend.errors.BackendError.{BackendError}
use Rattle.jj_backend.specs.declared.backend.errors.BackendError.TheVariants.{Memory}
use Rattle.jj_trees.specs.TreeMerges.{IsConflict, IsOpen, IsTreeMerge}
use Rattle.jj_trees.specs.WrittenTrees.{PathValues, IsTreeOf, IsTreeWriteError, IsWriteBackError, chosen_values, stored_at, values_to_write}
use Rattle.jj_trees.proofs.ChosenValues.{Conflict}
use Rattle.jj_trees.proofs.MergedPaths.{chosen_among, among_chosen, outcome_not_root, outcomes_apart, write_back_error, written_outcome}
use Rattle.jj_trees_tests.specs.Outcomes.{IsOutcome, side_term}

module _ (old : ById Entries) (eq : Option TreeValue → Option TreeValue → Bool) (same_change : SameChange) (values : Values) (side : ℕ)
    (resolved : PathValues) (conflicts : List Conflict) (merge : IsTreeMerge old eq same_change values [] resolved conflicts) where
  abbrev pub choose : Conflict → Option TreeValue
  choose c = side_term side c.1

  abbrev pub chosen : List (Option TreeValue)
  chosen = map choose conflicts

  abbrev Outcome : Path → Option TreeValue → Type 0
  Outcome = IsOutcome old eq same_change values side

  present_outcome : (v : Path × TreeValue) → Contains (values_to_write resolved conflicts chosen) v → Outcome v.0 (Some v.1)
  present_outcome v h = by_list (Contains-append_cases resolved (chosen_values conflicts chosen) v h)
    where
      by_list : Contains resolved v ⊎ Contains (chosen_values conflicts chosen) v → Outcome v.0 (Some v.1)
      by_list (inl c) = inl (v.1, (merge.resolves v.0 v.1).0 c, refl)
      by_list (inr c) =
          let r = among_chosen choose conflicts v c in
          inr (r.0.1, r.0.2, subst (λ p. IsConflict old eq same_change values [] p r.0.1 r.0.2) r.2 ((merge.conflicted r.0.0 r.0.1 r.0.2).0 r.1), sym r.3)

  -- a conflict has one outcome
  conflict_outcome : (path : Path) (terms : Values) (labels : List (List ℕ)) (o : Option TreeValue) → IsConflict old eq same_change values [] path terms labels
      → Outcome path o → o ≡ side_term side terms
  conflict_outcome path terms labels o c (inl r) = absurd (c.1 (Some r.0) r.1.1)
  conflict_outcome path terms labels o c (inr r) = r.3 ∙ ap (side_term side) (r.2.2 ∙ sym c.2)

  module _ (new : ById Entries) (id : List ℕ) (tree : IsTreeOf new (values_to_write resolved conflicts chosen) id) where
    -- a conflict whose side is absent
    absent_there : (path : Path) (terms : Values) (labels : List (List ℕ)) (o : Option TreeValue) → IsConflict old eq same_change values [] path terms labels
        → side_term side terms ≡ None → stored_at new (Some (Tree id)) path ≡ o → o ≡ None
    absent_there path terms labels None c none at = refl
    absent_there [] terms labels (Some v) c none at = absurd (outcome_not_root old eq same_change values [] c.0 refl)
    absent_there (name ∷ rest) terms labels (Some v) c none at =
        let path : Path = name ∷ rest in
        let r = tree.only name rest v at in
        let w : Path × TreeValue = r.1 in
        let there : Contains (values_to_write resolved conflicts chosen) w = (r.0, r.2, r.3) in
        let other = written_outcome old eq same_change values [] resolved conflicts chosen merge w there in
        let same : w.0 ≡ path = elim r.4 [ inl below ↦ outcomes_apart old eq same_change values w.0 path other c.0 below | inr above ↦ sym (outcomes_apart old eq same_change values path w.0 c.0 other above) ] in
        let e = conflict_outcome path terms labels (Some w.1) c (subst (λ p. Outcome p (Some w.1)) same (present_outcome w there)) ∙ none in
        absurd cc

    pub has_outcome : (path : Path) (o : Option TreeValue) → Outcome path o → stored_at new (Some (Tree id)) path ≡ o
    has_outcome path o (inl r) = tree.has path r.0 (Contains-append_left resolved (chosen_values conflicts chosen) (path, r.0) ((merge.resolves path r.0).1 r.1)) ∙ sym r.2
    has_outcome path o (inr r) = by_term (side_term side r.0) refl ∙ sym r.3
      where
        by_term : (t : Option TreeValue) → side_term side r.0 ≡ t → stored_at new (Some (Tree id)) path ≡ side_term side r.0
        by_term None at = absent_there path r.0 r.1 (stored_at new (Some (Tree id)) path) r.2 at refl ∙ sym at
        by_term (Some v) at =
            tree.has path v
            (Contains-append_right resolved (chosen_values conflicts chosen) (path, v) (chosen_among choose conflicts (path, r.0, r.1) v ((merge.conflicted path r.0 r.1).1 r.2) at)) ∙ sym at

    pub only_outcomes : (path : Path) (value : TreeValue) → path ≢ [] → stored_at new (Some (Tree id)) path ≡ Some value
        → (written : Path) × (present : TreeValue) × Outcome written (Some present) × (IsBelow written path ⊎ IsBelow path written)
    only_outcomes [] value not at = absurd (not refl)
    only_outcomes (name ∷ rest) value not at =
        let r = tree.only name rest value at in
        (r.1.0, r.1.1, present_outcome r.1 (r.0, r.2, r.3), r.4)

  -- ---- results of writing

  module _ (written : List (Option TreeValue)) (is_chosen : written ≡ chosen) where
    pub outcomes_ok : (new : ById Entries) (r : Result (List ℕ) BackendError) → IfOk r (IsTreeOf new (values_to_write resolved conflicts written))
        → IfOk r (λ id. (path : Path) (o : Option TreeValue) → Outcome path o → stored_at new (Some (Tree id)) path ≡ o)
    outcomes_ok new (Ok id) tree = has_outcome new id (subst (λ l. IsTreeOf new (values_to_write resolved conflicts l) id) is_chosen tree)
    outcomes_ok new (Err e) tree = tt

    pub only_ok : (new : ById Entries) (r : Result (List ℕ) BackendError) → IfOk r (IsTreeOf new (values_to_write resolved conflicts written))
        → IfOk r (λ id. (path : Path) (value : TreeValue) → path ≢ [] → stored_at new (Some (Tree id)) path ≡ Some value
        → (at : Path) × (present : TreeValue) × Outcome at (Some present) × (IsBelow at path ⊎ IsBelow path at))
    only_ok new (Ok id) tree = only_outcomes new id (subst (λ l. IsTreeOf new (values_to_write resolved conflicts l) id) is_chosen tree)
    only_ok new (Err e) tree = tt

  -- the merge's own cause of running out of memory is the cause of the write
  pub write_errors : {B : Type 0} (objects : B → Objects) (may_fail : B → Object → BackendError → Type 0) (state : B) (written : List (Option TreeValue))
      (Other : BackendError → Type 0) (r : Result (List ℕ) BackendError) → ((path : Path) → IsOpen old eq same_change values path → length path < 1024)
      → IfErr r (IsWriteBackError objects may_fail state (values_to_write resolved conflicts written))
      → IfErr r (λ e. ((e ≡ Memory) ⊎ Other e) ⊎ IsTreeWriteError objects may_fail state e)
  write_errors objects may_fail state written Other (Ok id) levels h = tt
  write_errors objects may_fail state written Other (Err e) levels h =
      ⊎_elim (λ memory. inl (inl memory)) (λ failed. inr failed)
      (write_back_error old eq same_change values [] resolved conflicts written merge objects may_fail state e levels h)

-- a merge without labels
pub unlabeled_merge : (trees : ById Entries) (eq : Option TreeValue → Option TreeValue → Bool) (same_change : SameChange) (values : Values) (labels : List (List ℕ))
    (resolved : PathValues) (conflicts : List Conflict) → labels ≡ [] → IsTreeMerge trees eq same_change values labels resolved conflicts
    → IsTreeMerge trees eq same_change values [] resolved conflicts
unlabeled_merge trees eq same_change values labels resolved conflicts none merge = subst (λ l. IsTreeMerge trees eq same_change values l resolved conflicts) none merge
