-- Heads after the neighbors of a list were removed one after the other.
use Rattle.std.proofs.Common.{◌≡◌, ℕ, Bool, append_assoc, List, [], ◌∷◌, ◌++◌, refl, sym, ◌∙◌, ap, subst, arith, inl, ◌⊎◌, ⊎_elim, true}
use Rattle.std.specs.Set.{is_member}
use Rattle.std.specs.List.{Contains}
use Rattle.std.proofs.lemmas.List.Elements.{Contains-append_left, Contains-append_right, Contains-push, Contains-push_cases}
use Rattle.jj_dag.specs.Graph.{HasEdge}
use Rattle.jj_dag.specs.HeadsSearch.{VisitsNeighbors, ReturnsNodeIds}
use Rattle.jj_dag.specs.HeadsSearch.VisitsNeighbors.{none, more}
use Rattle.jj_dag.specs.Walk.{AreNodes, GraphModel, IsEqualityOfNodes}
use Rattle.jj_dag.proofs.Heads.{HoldsSearch, adds_more, adds_one, holds_met, seen_is_node}
use Rattle.jj_dag.proofs.Plain.{nothing}
use Rattle.jj_dag.proofs.Walking.{numbers, numbers-push}

module _ {T ID : Type 0} {same : T → T → Bool} {eq : ID → ID → Bool} {is_id : T → ID → Type 0} {heads : List T} {visited : List ID} {queue : List T} where
  -- a pending node was pending before, or was found
  pub all_queued : {xs : List T} {heads2 : List T} {visited2 : List ID} {queue2 : List T} → VisitsNeighbors same eq is_id heads visited queue xs heads2 visited2 queue2
      → (b : T) → Contains queue2 b → Contains queue b ⊎ Contains xs b
  all_queued none b h = inl h
  all_queued {queue2 = queue3} (more {xs = xs} {queue2 = queue2} {visited2 = visited2} x i before told did) b h =
      adds_more queue xs queue2 queue3 x (all_queued before) (adds_one (is_member eq visited2 i) queue2 queue3 x did.known did.new) b h

  -- the neighbors of a pending node were found
  pub all_met : (w : GraphModel T ID) (starts met : List ℕ) (rooted : Bool) (a : ℕ) (zs : List ℕ) {xs : List T} {heads2 : List T} {visited2 : List ID} {queue2 : List T}
      → IsEqualityOfNodes w same → ReturnsNodeIds w eq is_id → ((b : ℕ) → w.is_node b ≡ true → AreNodes w (w.graph b)) → VisitsNeighbors same eq is_id heads visited queue xs heads2 visited2 queue2
      → HoldsSearch w starts met (a ∷ numbers w queue) rooted heads (is_member same heads) (is_member eq visited) → numbers w xs ++ zs ≡ w.graph a
      → (met2 : List ℕ) × HoldsSearch w starts met2 (a ∷ numbers w queue2) rooted heads2 (is_member same heads2) (is_member eq visited2) × ((b : ℕ) → Contains (numbers w xs) b → Contains met2 b)
  all_met w starts met rooted a zs stands knows closed none holds e = (met, holds, λ b h. absurd (nothing b h))
  all_met w starts met rooted a zs {heads2 = heads3} {visited2 = visited3} {queue2 = queue3} stands knows closed (more {xs = xs} {queue2 = queue2} y i before told did) holds e =
      let split = numbers-push w xs y in
      let whole : numbers w xs ++ (w.node y ∷ zs) ≡ w.graph a = sym (append_assoc (numbers w xs) (w.node y ∷ []) zs) ∙ ap (λ l. l ++ zs) (sym split) ∙ e in
      let old = all_met w starts met rooted a (w.node y ∷ zs) stands knows closed before holds whole in
      let edge : HasEdge w.graph a (w.node y) = subst (λ (l : List ℕ). Contains l (w.node y)) whole (Contains-append_right (numbers w xs) (w.node y ∷ zs) (w.node y) (0, omega arith, refl)) in
      let here = closed a (seen_is_node w old.1 a (old.1.searching.queued a (0, omega arith, refl))) (w.node y) edge in (
        old.0 ++ w.node y ∷ [],
        holds_met w same eq (a ∷ numbers w queue3) heads3 (is_member same heads3) (is_member eq visited3) a y i stands knows.apart closed old.1 (0, omega arith, refl) edge
            (knows.ids_match y i here told) did.keys did.leaves did.visits
            (λ t. ap (λ l. a ∷ numbers w l) (did.known t))
            (λ t. ap (λ l. a ∷ numbers w l) (did.new t) ∙ ap (λ l. a ∷ l) (numbers-push w queue2 y)),
        λ b h. ⊎_elim (λ o. Contains-append_left old.0 (w.node y ∷ []) b (old.2 b o)) (λ equal. subst (λ (n : ℕ). Contains (old.0 ++ w.node y ∷ []) n) equal (Contains-push old.0 (w.node y)))
            (Contains-push_cases (numbers w xs) (w.node y) b (rw split at h)),
      )
