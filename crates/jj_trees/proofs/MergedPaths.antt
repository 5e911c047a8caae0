-- The paths of a merge: none is the root or below another.
use Rattle.std.proofs.Common.{◌≡◌, ◌≢◌, ◌⊎◌, inl, inr, ℕ, zero, suc, ◌<◌, ◌≤◌, Bool, List, [], ◌∷◌, ◌++◌, length, length-append, get_or, map, Option, Some, None, refl, sym, ap, subst, ◌∙◌, arith}
use Rattle.std.specs.Prelude.{All, AllPairs, Contains}
use Rattle.std.specs.Cmp.{tied_itself}
use Rattle.std.specs.declared.cmp.Ordering.TheVariants.{Less}
use Rattle.std.proofs.lemmas.List.Elements.{Contains-get_or, Contains-append_cases}
use Rattle.std.proofs.lemmas.List.Kept.{AllPairs-cons}
use Rattle.jj_paths.specs.Paths.{Path, IsBelow, path_cmp}
use Rattle.jj_paths.specs.Orders.{path_cmp_total}
use Rattle.jj_merges.specs.declared.merge.SameChange.{SameChange}
use Rattle.jj_backend.specs.Objects.{ById, Object, Objects}
use Rattle.jj_backend.specs.Trees.{Entries}
use Rattle.jj_backend.specs.MergedTreeValues.{Values}
use Rattle.jj_backend.specs.declared.backend.tree_value.TreeValue.{TreeValue}
use Rattle.jj_merges.specs.Resolution.{ResolvesTo}
use Rattle.jj_backend.specs.declared.backend.errors.BackendError.{BackendError}
use Rattle.jj_backend.specs.declared.backend.errors.BackendError.TheVariants.{Memory}
use Rattle.jj_trees.specs.TreeMerges.{child, values_at, IsOpen, HasOutcome, IsTreeMerge}
use Rattle.jj_trees.specs.DirectoryMerges.{HasOutcomeFrom, HasOutcomeBelow}
use Rattle.jj_trees.specs.WrittenTrees.{PathValues, IsPrefixFree, IsTreeWriteError, IsWriteBackError, chosen_values, values_to_write}
use Rattle.jj_trees.proofs.ChosenValues.{Conflict}
use Rattle.jj_trees.proofs.Joining.{AllPairs-append}
use Rattle.jj_trees.proofs.Roots.{outcome_below}

-- ---- values chosen for conflicts

-- the conflict that a value was chosen for
pub chosen_for : (conflicts : List Conflict) (chosen : List (Option TreeValue)) (v : Path × TreeValue)
    → Contains (chosen_values conflicts chosen) v → (c : Conflict) × Contains conflicts c × (c.0 ≡ v.0)
chosen_for [] chosen v h = let lt = h.1 in absurd (omega arith)
chosen_for (c ∷ conflicts) [] v h = let lt = h.1 in absurd (omega arith)
chosen_for (c ∷ conflicts) (None ∷ chosen) v h =
    let r = chosen_for conflicts chosen v h in
    let lt = r.1.1 in
    (r.0, (suc r.1.0, omega arith, r.1.2), r.2)
chosen_for (c ∷ conflicts) (Some x ∷ chosen) v (zero, lt, is) = (c, (0, omega arith, refl), ap (λ (y : Path × TreeValue). y.0) is)
chosen_for (c ∷ conflicts) (Some x ∷ chosen) v (suc k, lt, is) =
    let r = chosen_for conflicts chosen v (k, omega arith, is) in
    let within = r.1.1 in
    (r.0, (suc r.1.0, omega arith, r.1.2), r.2)

-- the values that a function chooses
module _ (choose : Conflict → Option TreeValue) where
  abbrev chosen_by : List Conflict → List (Option TreeValue)
  chosen_by conflicts = map choose conflicts

  first_chosen : (x c : Conflict) (v : TreeValue) → x ≡ c → choose c ≡ Some v
      → (o : Option TreeValue) → choose x ≡ o → (conflicts : List Conflict) → Contains (chosen_values (x ∷ conflicts) (o ∷ chosen_by conflicts)) (c.0, v)
  first_chosen x c v same is None at conflicts = let e : choose x ≡ choose c = ap choose same in absurd cc
  first_chosen x c v same is (Some u) at conflicts =
      let e : choose x ≡ choose c = ap choose same in
      let f : u ≡ v = cc in
      (0, omega arith, λ i. ((same i).0, f i))

  later_chosen : (x : Conflict) (v : Path × TreeValue) (conflicts : List Conflict) (o : Option TreeValue) → Contains (chosen_values conflicts (chosen_by conflicts)) v
      → Contains (chosen_values (x ∷ conflicts) (o ∷ chosen_by conflicts)) v
  later_chosen x v conflicts None h = h
  later_chosen x v conflicts (Some u) h = let lt = h.1 in (suc h.0, omega arith, h.2)

  pub chosen_among : (conflicts : List Conflict) (c : Conflict) (v : TreeValue) → Contains conflicts c → choose c ≡ Some v
      → Contains (chosen_values conflicts (map choose conflicts)) (c.0, v)
  chosen_among [] c v h is = let lt = h.1 in absurd (omega arith)
  chosen_among (x ∷ conflicts) c v (zero, lt, same) is = first_chosen x c v same is (choose x) refl conflicts
  chosen_among (x ∷ conflicts) c v (suc k, lt, same) is = later_chosen x (c.0, v) conflicts (choose x) (chosen_among conflicts c v (k, omega arith, same) is)

  -- the conflict that a value was chosen for
  abbrev IsChosenFrom : List Conflict → Path × TreeValue → Type 0
  IsChosenFrom conflicts v = (c : Conflict) × Contains conflicts c × (c.0 ≡ v.0) × (choose c ≡ Some v.1)

  chosen_later : (x : Conflict) (conflicts : List Conflict) (v : Path × TreeValue) → IsChosenFrom conflicts v → IsChosenFrom (x ∷ conflicts) v
  chosen_later x conflicts v r =
      let within = r.1.1 in
      (r.0, (suc r.1.0, omega arith, r.1.2), r.2, r.3)

  first_or_later : (x : Conflict) (conflicts : List Conflict) (v : Path × TreeValue) (o : Option TreeValue) → choose x ≡ o
      → (Contains (chosen_values conflicts (chosen_by conflicts)) v → IsChosenFrom conflicts v)
      → Contains (chosen_values (x ∷ conflicts) (o ∷ chosen_by conflicts)) v → IsChosenFrom (x ∷ conflicts) v
  first_or_later x conflicts v None at more h = chosen_later x conflicts v (more h)
  first_or_later x conflicts v (Some u) at more (zero, lt, same) = (x, (0, omega arith, refl), ap (λ (y : Path × TreeValue). y.0) same, at ∙ ap (λ (y : Path × TreeValue). Some y.1) same)
  first_or_later x conflicts v (Some u) at more (suc k, lt, same) = chosen_later x conflicts v (more (k, omega arith, same))

  pub among_chosen : (conflicts : List Conflict) (v : Path × TreeValue) → Contains (chosen_values conflicts (map choose conflicts)) v
      → (c : Conflict) × Contains conflicts c × (c.0 ≡ v.0) × (choose c ≡ Some v.1)
  among_chosen [] v h = let lt = h.1 in absurd (omega arith)
  among_chosen (x ∷ conflicts) v h = first_or_later x conflicts v (choose x) refl (among_chosen conflicts v) h

not_same : (p q : Path) → path_cmp p q ≡ Less → p ≢ q
not_same p q less is =
    let e = tied_itself path_cmp_total q in
    let f = sym (ap (λ (x : Path). path_cmp x q) is) ∙ less in
    absurd cc

chosen_distinct : (conflicts : List Conflict) (chosen : List (Option TreeValue)) → AllPairs (λ a b. path_cmp a.0 b.0 ≡ Less) conflicts
    → AllPairs (λ v w. v.0 ≢ w.0) (chosen_values conflicts chosen)
chosen_distinct [] chosen h = λ i j d lt within. absurd (omega arith)
chosen_distinct (c ∷ conflicts) [] h = λ i j d lt within. absurd (omega arith)
chosen_distinct (c ∷ conflicts) (None ∷ chosen) h = chosen_distinct conflicts chosen (λ i j d lt within. h (suc i) (suc j) d (omega arith) (omega arith))
chosen_distinct (c ∷ conflicts) (Some x ∷ chosen) h =
    AllPairs-cons (λ v w. v.0 ≢ w.0) (c.0, x) (chosen_values conflicts chosen) others
    (chosen_distinct conflicts chosen (λ i j d lt within. h (suc i) (suc j) d (omega arith) (omega arith)))
  where
    others : All (λ w. c.0 ≢ w.0) (chosen_values conflicts chosen)
    others = λ k d lt is.
        let r = chosen_for conflicts chosen (get_or (chosen_values conflicts chosen) k d) (Contains-get_or (chosen_values conflicts chosen) k d lt) in
        let later = r.1.1 in
        not_same c.0 r.0.0
        (subst (λ (y : Conflict). path_cmp c.0 y.0 ≡ Less) r.1.2 (h 0 (suc r.1.0) r.0 (omega arith) (omega arith)))
        (is ∙ sym r.2)

module _ (trees : ById Entries) (eq : Option TreeValue → Option TreeValue → Bool) (same_change : SameChange) where
  -- ---- paths with outcomes

  from_apart : (values : Values) (path base : Path) → HasOutcomeFrom trees eq same_change values path → HasOutcomeFrom trees eq same_change values base
      → IsBelow path base → path ≡ base
  from_apart values [] [] h k below = refl
  from_apart values [] (m ∷ base) h k below = let e : [] ≡ m ∷ (base ++ below.0) = below.1 in absurd cc
  from_apart values (n ∷ path) [] h k below = absurd (k h.0)
  from_apart values (n ∷ path) (m ∷ base) h k below =
      let e : n ∷ path ≡ m ∷ (base ++ below.0) = below.1 in
      let first : n ≡ m = cc in
      let rest : path ≡ base ++ below.0 = cc in
      let same : path ≡ base = from_apart (map (child trees n) values) path base h.1 (subst (λ x. HasOutcomeFrom trees eq same_change (map (child trees x) values) base) (sym first) k.1) (below.0, rest) in
      cc

  below_apart : (values : Values) (path base : Path) → HasOutcomeBelow trees eq same_change values path → HasOutcomeBelow trees eq same_change values base
      → IsBelow path base → path ≡ base
  below_apart values [] base h k below = absurd h
  below_apart values (n ∷ path) [] h k below = absurd k
  below_apart values (n ∷ path) (m ∷ base) h k below =
      let e : n ∷ path ≡ m ∷ (base ++ below.0) = below.1 in
      let first : n ≡ m = cc in
      let rest : path ≡ base ++ below.0 = cc in
      let same : path ≡ base = from_apart (map (child trees n) values) path base h (subst (λ x. HasOutcomeFrom trees eq same_change (map (child trees x) values) base) (sym first) k) (below.0, rest) in
      cc

  pub outcome_not_root : (values : Values) (path : Path) → HasOutcome trees eq same_change values path → path ≢ []
  outcome_not_root values path h is = subst (HasOutcomeBelow trees eq same_change values) is (outcome_below trees eq same_change values path h)

  pub outcomes_apart : (values : Values) (path base : Path) → HasOutcome trees eq same_change values path → HasOutcome trees eq same_change values base
      → IsBelow path base → path ≡ base
  outcomes_apart values path base h k =
      below_apart values path base (outcome_below trees eq same_change values path h) (outcome_below trees eq same_change values base k)

  -- ---- the lists of a merge

  module _ (values : Values) (labels : List (List ℕ)) (resolved : PathValues) (conflicts : List Conflict) (chosen : List (Option TreeValue))
      (m : IsTreeMerge trees eq same_change values labels resolved conflicts) where
    abbrev written : PathValues
    written = values_to_write resolved conflicts chosen

    pub written_outcome : (v : Path × TreeValue) → Contains written v → HasOutcome trees eq same_change values v.0
    written_outcome v h = by_list (Contains-append_cases resolved (chosen_values conflicts chosen) v h)
      where
        by_list : Contains resolved v ⊎ Contains (chosen_values conflicts chosen) v → HasOutcome trees eq same_change values v.0
        by_list (inl c) = ((m.resolves v.0 v.1).0 c).0
        by_list (inr c) =
            let r = chosen_for conflicts chosen v c in
            subst (HasOutcome trees eq same_change values) r.2 ((m.conflicted r.0.0 r.0.1 r.0.2).0 r.1).0

    across : (v w : Path × TreeValue) → Contains resolved v → Contains (chosen_values conflicts chosen) w → v.0 ≢ w.0
    across v w cv cw is =
        let r = chosen_for conflicts chosen w cw in
        let conflict = (m.conflicted r.0.0 r.0.1 r.0.2).0 r.1 in
        let here = (m.resolves v.0 v.1).0 cv in
        conflict.1 (Some v.1) (subst (λ p. ResolvesTo eq same_change (values_at trees values p) (Some v.1)) (is ∙ sym r.2) here.1)

    distinct : AllPairs (λ v w. v.0 ≢ w.0) written
    distinct =
        AllPairs-append (λ v w. v.0 ≢ w.0) resolved (chosen_values conflicts chosen)
        (λ i j d lt within. not_same (get_or resolved i d).0 (get_or resolved j d).0 (m.ascending.0 i j d lt within))
        (chosen_distinct conflicts chosen m.ascending.1) across

    pub prefix_free : IsPrefixFree written
    prefix_free = record {
      not_root = λ k d lt. outcome_not_root values (get_or written k d).0 (written_outcome (get_or written k d) (Contains-get_or written k d lt));
      apart = λ i j d lt within.
          let v : Path × TreeValue = get_or written i d in
          let w : Path × TreeValue = get_or written j d in
          let hv : HasOutcome trees eq same_change values v.0 = written_outcome v (Contains-get_or written i d (omega arith)) in
          let hw : HasOutcome trees eq same_change values w.0 = written_outcome w (Contains-get_or written j d within) in (
            λ below. distinct i j d lt within (outcomes_apart values v.0 w.0 hv hw below),
            λ below. distinct i j d lt within (sym (outcomes_apart values w.0 v.0 hw hv below)),
          );
    }

    pub within_levels : (levels : ℕ) → ((path : Path) → IsOpen trees eq same_change values path → length path < levels) → All (λ v. length v.0 ≤ levels) written
    within_levels levels h = λ k d lt.
        let v : Path × TreeValue = get_or written k d in
        let o = written_outcome v (Contains-get_or written k d lt) in
        let above = h o.0 o.3 in
        omega (arith, ap length o.2, length-append o.0 (o.1 ∷ []))

    -- so a merge is written back, except out of memory or where a tree cannot be written
    pub write_back_error : {B : Type 0} (objects : B → Objects) (may_fail : B → Object → BackendError → Type 0) (old : B) (e : BackendError)
        → ((path : Path) → IsOpen trees eq same_change values path → length path < 1024)
        → IsWriteBackError objects may_fail old written e → (e ≡ Memory) ⊎ IsTreeWriteError objects may_fail old e
    write_back_error objects may_fail old e h (inl memory) = inl memory
    write_back_error objects may_fail old e h (inr (inl (other, not_free))) = absurd (not_free prefix_free)
    write_back_error objects may_fail old e h (inr (inr (inl (message, is, (k, v, lt, at, long))))) =
        let short : length (get_or written k v).0 ≤ 1024 = within_levels 1024 h k v lt in
        let same : length (get_or written k v).0 ≡ length v.0 = ap (λ (y : Path × TreeValue). length y.0) at in
        absurd (omega arith)
    write_back_error objects may_fail old e h (inr (inr (inr failed))) = inr failed
