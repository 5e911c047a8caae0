-- States after sides were added to the nodes of a list, one after the other.
use Rattle.std.proofs.Common.{◌≡◌, ℕ, Bool, true, append_assoc, List, [], ◌∷◌, ◌++◌, map, refl, sym, ◌∙◌, ap, subst, arith}
use Rattle.std.specs.List.{Contains}
use Rattle.std.proofs.lemmas.List.Elements.{Contains-append_left, Contains-append_right, Contains-push}
use Rattle.jj_dag.specs.declared.closest_common.NodeState.{NodeState}
use Rattle.jj_dag.specs.declared.closest_common.Sides.{Sides}
use Rattle.jj_dag.specs.CommonSearch.{IsStarting}
use Rattle.jj_dag.specs.Graph.{HasEdge}
use Rattle.jj_dag.specs.NodeStates.{RelaxesNodes, propagated, new_state}
use Rattle.jj_dag.specs.NodeStates.RelaxesNodes.{none, more}
use Rattle.jj_dag.specs.Walk.{AreNodes, GraphModel}
use Rattle.jj_dag.proofs.ClosestCommon.{Apart, HandsOn, hands_more, on_left, on_right, starting_left, starting_none, starting_right}
use Rattle.jj_dag.proofs.CommonStates.{states_more}
use Rattle.jj_dag.proofs.Walking.{numbers-push}

-- each id that `is_id` of a node is its id
abbrev pub Stand : {T ID : Type 0} → GraphModel T ID → (T → ID → Type 0) → Type 0
Stand {T} {ID} w is_id = (x : T) (i : ID) → w.is_node (w.node x) ≡ true → is_id x i → w.id i ≡ w.node x

module _ {T ID : Type 0} (w : GraphModel T ID) {eq : ID → ID → Bool} {is_id : T → ID → Type 0} where
  -- the nodes of the first set have their states
  pub all_left : {find : ID → NodeState} {pending : List T} {xs : List T} {find2 : ID → NodeState} {pending2 : List T} → Apart w eq → Stand w is_id → RelaxesNodes eq is_id (on_left w) find pending xs find2 pending2
      → IsStarting w [] [] pending find → AreNodes w (map w.node xs) → IsStarting w (map w.node xs) [] pending2 find2
  all_left apart stand none start nodes = start
  all_left {find2 = find2} {pending2 = pending2} apart stand (more {xs = xs} {find2 = find1} {pending2 = pending1} x i before told node) start nodes =
      let split = numbers-push w xs x in
      let here = nodes (w.node x) (rw split (Contains-push (map w.node xs) (w.node x))) in
      rw split (starting_left w eq (map w.node xs) [] pending1 pending2 find1 find2 x i apart
      (all_left apart stand before start (λ a h. nodes a (rw split (Contains-append_left (map w.node xs) (w.node x ∷ []) a h))))
      here (stand x i here told) node.states node.is_pending)

  -- and then the second
  pub all_right : {find : ID → NodeState} {pending : List T} (set1 : List ℕ) {xs : List T} {find2 : ID → NodeState} {pending2 : List T} → Apart w eq → Stand w is_id → RelaxesNodes eq is_id (on_right w) find pending xs find2 pending2
      → IsStarting w set1 [] pending find → AreNodes w (map w.node xs) → IsStarting w set1 (map w.node xs) pending2 find2
  all_right set1 apart stand none start nodes = start
  all_right set1 {find2 = find2} {pending2 = pending2} apart stand (more {xs = xs} {find2 = find1} {pending2 = pending1} x i before told node) start nodes =
      let split = numbers-push w xs x in
      let here = nodes (w.node x) (rw split (Contains-push (map w.node xs) (w.node x))) in
      rw split (starting_right w eq set1 (map w.node xs) pending1 pending2 find1 find2 x i apart
      (all_right set1 apart stand before start (λ a h. nodes a (rw split (Contains-append_left (map w.node xs) (w.node x ∷ []) a h))))
      here (stand x i here told) node.states node.is_pending)

  pub sets_marked : {find find1 find2 : ID → NodeState} {pending pending1 pending2 : List T} {xs ys : List T} → Apart w eq → Stand w is_id → pending ≡ [] → ((i : ID) → find i ≡ new_state)
      → RelaxesNodes eq is_id (on_left w) find pending xs find1 pending1 → RelaxesNodes eq is_id (on_right w) find1 pending1 ys find2 pending2
      → AreNodes w (map w.node xs) → AreNodes w (map w.node ys) → IsStarting w (map w.node xs) (map w.node ys) pending2 find2
  sets_marked {find} {pending = pending} {xs = xs} apart stand nobody unknown left right first second =
      all_right (map w.node xs) apart stand right (all_left apart stand left (starting_none w pending find nobody unknown) first) second

  -- a node that was popped passed its sides to its neighbors
  pub all_handed : {find : ID → NodeState} {pending : List T} (set1 set2 : List ℕ) (m : ℕ → Sides) (a : ℕ) (known : Sides) (common : List (ID × T)) (rooted : Bool) (zs : List ℕ) {xs : List T} {find2 : ID → NodeState} {pending2 : List T}
      → Apart w eq → Stand w is_id → ((b : ℕ) → w.is_node b ≡ true → AreNodes w (w.graph b)) → RelaxesNodes eq is_id (propagated known) find pending xs find2 pending2 → w.is_node a ≡ true
      → HandsOn w set1 set2 m a known pending common rooted find [] → map w.node xs ++ zs ≡ w.graph a
      → (m2 : ℕ → Sides) × HandsOn w set1 set2 m2 a known pending2 common rooted find2 (map w.node xs)
  all_handed set1 set2 m a known common rooted zs apart stand closed none is on e = (m, on)
  all_handed set1 set2 m a known common rooted zs {find2 = find2} {pending2 = pending2} apart stand closed (more {xs = xs} {find2 = find1} {pending2 = pending1} x i before told node) is on e =
      let split = numbers-push w xs x in
      let whole : map w.node xs ++ (w.node x ∷ zs) ≡ w.graph a = sym (append_assoc (map w.node xs) (w.node x ∷ []) zs) ∙ ap (λ l. l ++ zs) (sym split) ∙ e in
      let old = all_handed set1 set2 m a known common rooted (w.node x ∷ zs) apart stand closed before is on whole in
      let edge : HasEdge w.graph a (w.node x) = subst (λ (l : List ℕ). Contains l (w.node x)) whole (Contains-append_right (map w.node xs) (w.node x ∷ zs) (w.node x) (0, omega arith, refl)) in
      let here = closed a is (w.node x) edge in (
        states_more old.0 (w.node x) (propagated known),
        subst (λ yielded. HandsOn w set1 set2 (states_more old.0 (w.node x) (propagated known)) a known pending2 common rooted find2 yielded) (sym split)
            (hands_more w eq set1 set2 old.0 a known pending1 pending2 common rooted find1 find2 (map w.node xs) x i apart old.1 edge here (stand x i here told) node.states node.is_pending),
      )
