-- A depth-first search that collects the nodes that the starts reach.
use Rattle.std.proofs.Common.{◌≡◌, ◌⊎◌, inl, inr, ⊎_elim, ℕ, true, false, cond, List, [], ◌∷◌, ◌++◌, refl, sym, ◌∙◌, ap, subst, arith, eqb}
use Rattle.std.specs.Prelude.{◌↔◌}
use Rattle.std.specs.List.{Contains, IsDistinct}
use Rattle.std.specs.List.Sorted.{IsPermutation, IsSorted, IsStrictlyIncreasing}
use Rattle.std.specs.Ordering.{nat_cmp}
use Rattle.std.specs.Cmp.{nat_eq_equiv}
use Rattle.std.specs.Set.{is_member}
use Rattle.std.proofs.lemmas.List.Elements.{Contains-append_cases, Contains-append_left, Contains-append_right, Contains-push, Contains-push_cases}
use Rattle.std.proofs.lemmas.List.Sorted.{Contains-permutation, IsPermutation-sym, IsNonDecreasingBy-from_sort}
use Rattle.std.proofs.lemmas.Map.Keys.{IsDistinct-IsPermutation, IsDistinct-push, IsStrictlyIncreasing-from_distinct}
use Rattle.jj_dag.specs.Graph.{Graph, HasEdge, ReachedFrom}
use Rattle.jj_dag.specs.NodeSets.{Updates}
use Rattle.jj_dag.proofs.Plain.{or_cond}
use Rattle.jj_dag.proofs.Reaching.{Contains-reached, ReachedFrom-edge}
use Rattle.jj_dag.proofs.Walking.{Decides-has, eqb-flip, has, has-push}

-- the search has found these nodes, others are pending
pub record IsSearching (g : Graph) (starts keys pending found : List ℕ) : Type 0 where
  pub visited : (q : ℕ) → is_member eqb keys q ≡ has found q
  pub once : IsDistinct eqb found
  pub found_reached : (q : ℕ) → Contains found q → ReachedFrom g starts q
  pub pending_reached : (q : ℕ) → Contains pending q → ReachedFrom g starts q
  pub all_starts : (q : ℕ) → Contains starts q → Contains found q ⊎ Contains pending q
  pub all_neighbors : (a b : ℕ) → Contains found a → HasEdge g a b → Contains found b ⊎ Contains pending b

in_none : (x : ℕ) {A : Type 0} → Contains [] x → A
in_none x (k, below, at) = absurd (omega arith)

pub searching_start : (g : Graph) (starts keys pending : List ℕ) → keys ≡ [] → pending ≡ starts → IsSearching g starts keys pending []
unfolding IsDistinct
searching_start g starts keys pending none same = record {
  visited = λ q. ap (λ l. is_member eqb l q) none;
  once = tt;
  found_reached = λ q h. in_none q h;
  pending_reached = λ q h. (q, subst (λ l. Contains l q) same h, (0, refl));
  all_starts = λ q h. inr (subst (λ l. Contains l q) (sym same) h);
  all_neighbors = λ a b h edge. in_none a h;
}

module _ (g : Graph) (starts keys pending found rest : List ℕ) (node : ℕ) (k : IsSearching g starts keys pending found) (top : pending ≡ rest ++ node ∷ []) where
  at_node : ReachedFrom g starts node
  at_node = k.pending_reached node (subst (λ l. Contains l node) (sym top) (Contains-push rest node))

  still : (q : ℕ) → Contains rest q → ReachedFrom g starts q
  still q h = k.pending_reached q (subst (λ l. Contains l q) (sym top) (Contains-append_left rest (node ∷ []) q h))

  -- a pending node is below the top, or is the top
  where_is : (q : ℕ) → Contains found q ⊎ Contains pending q → (Contains found q ⊎ Contains rest q) ⊎ (node ≡ q)
  where_is q (inl h) = inl (inl h)
  where_is q (inr h) = ⊎_elim (λ below. inl (inr below)) (λ same. inr same) (Contains-push_cases rest node q (subst (λ l. Contains l q) top h))

  -- the top was found before
  pub searching_again : (new_keys : List ℕ) → new_keys ≡ keys → is_member eqb keys node ≡ true → IsSearching g starts new_keys rest found
  searching_again new_keys same_keys before =
      let here : Contains found node = (Decides-has found node).0 (sym (k.visited node) ∙ before) in
      record {
        visited = λ q. ap (λ l. is_member eqb l q) same_keys ∙ k.visited q;
        once = k.once;
        found_reached = k.found_reached;
        pending_reached = still;
        all_starts = λ q h. ⊎_elim (λ w. w) (λ same. inl (subst (λ n. Contains found n) same here)) (where_is q (k.all_starts q h));
        all_neighbors = λ a b h edge. ⊎_elim (λ w. w) (λ same. inl (subst (λ n. Contains found n) same here)) (where_is b (k.all_neighbors a b h edge));
      }

  -- the top is new
  pub searching_found : (new_keys new_pending new_found : List ℕ) → Updates eqb keys new_keys node true → is_member eqb keys node ≡ false → new_pending ≡ rest ++ g node → new_found ≡ found ++ node ∷ []
      → IsSearching g starts new_keys new_pending new_found
  searching_found new_keys new_pending new_found updates fresh more grown =
      let moved : (q : ℕ) → (Contains found q ⊎ Contains rest q) ⊎ (node ≡ q) → Contains new_found q ⊎ Contains new_pending q = λ q w.
      ⊎_elim (λ v. ⊎_elim (λ h. inl (subst (λ l. Contains l q) (sym grown) (Contains-append_left found (node ∷ []) q h))) (λ h. inr (subst (λ l. Contains l q) (sym more) (Contains-append_left rest (g node) q h))) v)
      (λ same. inl (subst (λ l. Contains l q) (sym grown) (subst (λ n. Contains (found ++ node ∷ []) n) same (Contains-push found node)))) w in
      record {
        visited = λ q. updates q ∙ ap (λ b. cond (eqb node q) true b) (k.visited q) ∙ ap (λ b. cond b true (has found q)) (eqb-flip node q) ∙ or_cond (eqb q node) (has found q) ∙ sym (has-push found node q) ∙ ap (λ l. has l q) (sym grown);
        once = subst (IsDistinct eqb) (sym grown) (IsDistinct-push nat_eq_equiv found node k.once (sym (k.visited node) ∙ fresh));
        found_reached = λ q h. ⊎_elim (λ old. k.found_reached q old) (λ same. subst (ReachedFrom g starts) same at_node) (Contains-push_cases found node q (subst (λ l. Contains l q) grown h));
        pending_reached = λ q h. ⊎_elim (λ old. still q old) (λ edge. ReachedFrom-edge g starts node q at_node edge) (Contains-append_cases rest (g node) q (subst (λ l. Contains l q) more h));
        all_starts = λ q h. moved q (where_is q (k.all_starts q h));
        all_neighbors = λ a b h edge. ⊎_elim (λ old. moved b (where_is b (k.all_neighbors a b old edge)))
            (λ same. inr (subst (λ l. Contains l b) (sym more) (Contains-append_right rest (g node) b (subst (λ n. HasEdge g n b) (sym same) edge)))) (Contains-push_cases found node a (subst (λ l. Contains l a) grown h));
      }

-- without pending nodes these are the nodes reached
pub searched : (g : Graph) (starts keys pending found : List ℕ) → IsSearching g starts keys pending found → pending ≡ [] → (q : ℕ) → Contains found q ↔ ReachedFrom g starts q
searched g starts keys pending found k none q =
    let done : (b : ℕ) → Contains found b ⊎ Contains pending b → Contains found b = λ b w. ⊎_elim (λ h. h) (λ h. in_none b (subst (λ l. Contains l b) none h)) w in (
      k.found_reached q,
      λ (a, at, (n, path)). Contains-reached g found (λ x y h edge. done y (k.all_neighbors x y h edge)) n a q (done a (k.all_starts a at)) path,
    )

-- reordering keeps the set
pub reached_permuted : (g : Graph) (starts found sorted : List ℕ) → IsPermutation found sorted → ((q : ℕ) → Contains found q ↔ ReachedFrom g starts q) → (q : ℕ) → Contains sorted q ↔ ReachedFrom g starts q
reached_permuted g starts found sorted moved k q =
    ((λ h. (k q).0 (Contains-permutation sorted found q (IsPermutation-sym found sorted moved) h)), λ h. Contains-permutation found sorted q moved ((k q).1 h))

pub distinct_rising : (found sorted : List ℕ) → IsPermutation found sorted → IsSorted nat_cmp sorted → IsDistinct eqb found → IsStrictlyIncreasing sorted
distinct_rising found sorted moved in_order once = IsStrictlyIncreasing-from_distinct sorted (IsNonDecreasingBy-from_sort (λ x. x) sorted in_order) (IsDistinct-IsPermutation eqb eqb-flip found sorted moved once)
