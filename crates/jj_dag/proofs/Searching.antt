-- The search for the maximal nodes of a set: which nodes were found as neighbors, and which are
-- pending.
use Rattle.std.proofs.Common.{◌≡◌, ℕ, zero, suc, Bool, true, false, cond, List, [], ◌∷◌, ◌++◌, refl, sym, subst, inl, inr, ◌⊎◌, ⊎_elim}
use Rattle.std.specs.List.{Contains}
use Rattle.std.proofs.lemmas.List.Elements.{Contains-append_left, Contains-append_right, Contains-append_cases, Contains-push, Contains-push_cases}
use Rattle.std.specs.List.Sorted.{IsPermutation}
use Rattle.std.proofs.lemmas.List.Sorted.{Contains-permutation, IsPermutation-sym}
use Rattle.std.specs.Set.{remove_key}
use Rattle.jj_dag.specs.Graph.{Graph, HasEdge, IsWalkOfLength, Reaches, StrictlyReaches, ReachedFrom, IsAcyclicFrom, IsMaximal}
use Rattle.jj_dag.proofs.Reaching.{Reaches-trans, Reaches-then_strictly, edge_then_Reaches}

-- a start, or a node that was found
abbrev pub Seen : List ℕ → List ℕ → ℕ → Type 0
Seen starts met a = Contains starts a ⊎ Contains met a

pub record IsSearching (g : Graph) (starts met queue : List ℕ) (rooted : Bool) : Type 0 where
  -- a node that was found is strictly reached from a start
  pub reached : (b : ℕ) → Contains met b → (a : ℕ) × Contains starts a × StrictlyReaches g a b
  pub queued : (a : ℕ) → Contains queue a → Seen starts met a
  -- the neighbors of a node that is not pending were found
  pub explored : (a : ℕ) → Seen starts met a → Contains queue a ⊎ ((b : ℕ) → HasEdge g a b → Contains met b)
  -- until a root comes, each node reaches a pending one
  pub leads : rooted ≡ false → IsAcyclicFrom g starts → (a : ℕ) → Seen starts met a → (z : ℕ) × Contains queue z × Reaches g a z

pub seen_reached : {g : Graph} {starts met queue : List ℕ} {rooted : Bool} → IsSearching g starts met queue rooted → (a : ℕ) → Seen starts met a → ReachedFrom g starts a
seen_reached k a (inl h) = (a, h, (0, refl))
seen_reached k a (inr h) = let r = k.reached a h in (r.0, r.1, (suc r.2.0, r.2.1))

seen_before : (starts met : List ℕ) (y : ℕ) (Waits : ℕ → Type 0) → Seen starts met y ⊎ Waits y → (a : ℕ) → Seen starts (met ++ y ∷ []) a → Seen starts met a ⊎ Waits a
seen_before starts met y Waits known a (inl h) = inl (inl h)
seen_before starts met y Waits known a (inr h) =
    ⊎_elim (λ old. inl (inr old)) (λ same. subst (λ (n : ℕ). Seen starts met n ⊎ Waits n) same known) (Contains-push_cases met y a h)

-- a neighbor of a pending node is found
pub search_met : (g : Graph) (starts met queue queue2 : List ℕ) (rooted : Bool) (w y : ℕ) → IsSearching g starts met queue rooted → Contains queue w → HasEdge g w y
    → ((a : ℕ) → Contains queue a → Contains queue2 a) → ((a : ℕ) → Contains queue2 a → Contains queue a ⊎ (y ≡ a)) → Seen starts met y ⊎ Contains queue2 y
    → IsSearching g starts (met ++ y ∷ []) queue2 rooted
search_met g starts met queue queue2 rooted w y k at edge keeps adds known =
    let first : (a : ℕ) × Contains starts a × StrictlyReaches g a y =
    ⊎_elim (λ start. (w, start, (0, (y, edge, refl)))) (λ old. let r = k.reached w old in (r.0, r.1, Reaches-then_strictly g r.0 w y (suc r.2.0) r.2.1 (0, (y, edge, refl)))) (k.queued w at) in
    record {
      reached = λ b h. ⊎_elim (λ old. k.reached b old) (λ same. subst (λ (n : ℕ). (a : ℕ) × Contains starts a × StrictlyReaches g a n) same first) (Contains-push_cases met y b h);
      queued = λ a h. ⊎_elim (λ old. lift a (k.queued a old)) (λ same. subst (λ (n : ℕ). Seen starts (met ++ y ∷ []) n) same (inr (Contains-push met y))) (adds a h);
      explored = λ a s. ⊎_elim (λ old. ⊎_elim (λ queued. inl (keeps a queued)) (λ done. inr (λ b e. Contains-append_left met (y ∷ []) b (done b e))) (k.explored a old)) (λ queued. inl queued)
          (seen_before starts met y (λ n. Contains queue2 n) known a s);
      leads = λ none acyclic a s. ⊎_elim (λ old. let l = k.leads none acyclic a old in (l.0, keeps l.0 l.1, l.2)) (λ queued. (a, queued, (0, refl)))
          (seen_before starts met y (λ n. Contains queue2 n) known a s);
    }
  where
    lift : (a : ℕ) → Seen starts met a → Seen starts (met ++ y ∷ []) a
    lift a (inl h) = inl h
    lift a (inr h) = inr (Contains-append_left met (y ∷ []) a h)

-- a node, all of whose neighbors were found, is no longer pending
pub search_asked : (g : Graph) (starts met queue queue2 : List ℕ) (rooted rooted2 : Bool) (w : ℕ) → IsSearching g starts met queue rooted → Contains queue w
    → ((a : ℕ) → Contains queue a → Contains queue2 a ⊎ (a ≡ w)) → ((a : ℕ) → Contains queue2 a → Contains queue a) → ((b : ℕ) → HasEdge g w b → Contains met b)
    → (rooted2 ≡ false → (rooted ≡ false) × ((y : ℕ) × HasEdge g w y))
    → IsSearching g starts met queue2 rooted2
search_asked g starts met queue queue2 rooted rooted2 w k at leaves keeps all more = record {
  reached = k.reached;
  queued = λ a h. k.queued a (keeps a h);
  explored = λ a s. ⊎_elim (λ queued. ⊎_elim (λ still. inl still) (λ same. inr (subst (λ (n : ℕ). (b : ℕ) → HasEdge g n b → Contains met b) (sym same) all)) (leaves a queued)) (λ done. inr done) (k.explored a s);
  leads = λ none acyclic a s.
      let old = k.leads (more none).0 acyclic a s in
      ⊎_elim (λ still. (old.0, still, old.2))
      (λ same.
      let step = (more none).1 in
      let next = k.leads (more none).0 acyclic step.0 (inr (all step.0 step.1)) in
      let here : Reaches g a w = subst (λ (n : ℕ). Reaches g a n) same old.2 in
      ⊎_elim (λ still. let way = edge_then_Reaches g w step.0 next.0 step.1 next.2 in (next.0, still, Reaches-trans g a w next.0 here.0 here.1 (suc way.0, way.1)))
      (λ round. absurd (acyclic w (seen_reached k w (k.queued w at)) (edge_then_Reaches g w step.0 w step.1 (subst (λ (n : ℕ). Reaches g step.0 n) round next.2))))
      (leaves next.0 next.1))
      (leaves old.0 old.1);
}

-- a path from a node that was seen ends at one that was found, or goes on from a pending one
goes_on : {g : Graph} {starts met queue : List ℕ} {rooted : Bool} (h : ℕ) → IsSearching g starts met queue rooted → (n a : ℕ) → Seen starts met a → IsWalkOfLength g a h (suc n)
    → Contains met h ⊎ ((z : ℕ) × Contains queue z × StrictlyReaches g z h)
goes_on {met = met} h k zero a s (c, e, p) = ⊎_elim (λ queued. inr (a, queued, (0, (c, e, p)))) (λ done. inl (subst (λ (x : ℕ). Contains met x) p (done c e))) (k.explored a s)
goes_on h k (suc n) a s (c, e, p) = ⊎_elim (λ queued. inr (a, queued, (suc n, (c, e, p)))) (λ done. goes_on h k n c (inr (done c e)) p) (k.explored a s)

-- If at most one node is pending, and none if a root was found, no start strictly reaches a start
-- that was not found.
pub search_done : (g : Graph) (starts met queue : List ℕ) (rooted : Bool) → IsSearching g starts met queue rooted
    → ((a b : ℕ) → Contains queue a → Contains queue b → a ≡ b) → ((a : ℕ) → Contains queue a → rooted ≡ false) → IsAcyclicFrom g starts
    → (h : ℕ) → Contains starts h → (Contains met h → ⊥) → (b : ℕ) → Contains starts b → StrictlyReaches g b h → ⊥
search_done g starts met queue rooted k one no_root acyclic h start fresh b from (n, p) =
    ⊎_elim (λ m. fresh m)
    (λ w.
    let l = k.leads (no_root w.0 w.1) acyclic h (inl start) in
    let last : l.0 ≡ w.0 = one l.0 w.0 l.1 w.1 in
    let back : Reaches g h w.0 = subst (λ (x : ℕ). Reaches g h x) last l.2 in
    let away = w.2 in
    let round = Reaches-trans g away.1.0 h w.0 away.0 away.1.2 back in
    acyclic w.0 (seen_reached k w.0 (k.queued w.0 w.1)) (edge_then_Reaches g w.0 away.1.0 w.0 away.1.1 round))
    (goes_on h k n b (inl from) p)

-- so the starts that were not found are the maximal ones
pub search_maximal : (g : Graph) (starts met queue : List ℕ) (rooted : Bool) → IsSearching g starts met queue rooted
    → ((a b : ℕ) → Contains queue a → Contains queue b → a ≡ b) → ((a : ℕ) → Contains queue a → rooted ≡ false) → IsAcyclicFrom g starts
    → (a : ℕ) → Contains starts a → (Contains met a → ⊥) → IsMaximal g (Contains starts) a
search_maximal g starts met queue rooted k one no_root acyclic a start fresh = (start, λ b from other way. search_done g starts met queue rooted k one no_root acyclic a start fresh b from way)

pub met_not_maximal : {g : Graph} {starts met queue : List ℕ} {rooted : Bool} → IsSearching g starts met queue rooted → IsAcyclicFrom g starts → (a : ℕ) → Contains met a → IsMaximal g (Contains starts) a → ⊥
met_not_maximal {g} k acyclic a h maximal =
    let r = k.reached a h in
    maximal.1 r.0 r.1 (λ same. acyclic r.0 (r.0, r.1, (0, refl)) (subst (λ (n : ℕ). StrictlyReaches g r.0 n) (sym same) r.2)) r.2

-- ---- the keys of a set

Contains-removed : {K : Type 0} (test : K → Bool) (xs : List K) (x : K) → Contains (remove_key test xs) x → Contains xs x
Contains-removed test [] x h = h
Contains-removed {K} test (y ∷ xs) x h =
    let P : Bool → Type 0 = λ b. Contains (cond b xs (y ∷ remove_key test xs)) x → Contains (y ∷ xs) x in
    elim (test y) as P [
      | true ↦ λ l. Contains-append_right (y ∷ []) xs x l
      | false ↦ λ l. ⊎_elim (λ first. Contains-append_left (y ∷ []) xs x first) (λ rest. Contains-append_right (y ∷ []) xs x (Contains-removed test xs x rest)) (Contains-append_cases (y ∷ []) (remove_key test xs) x l)
    ] h

pub Contains-kept : {K : Type 0} (test : K → Bool) (old new : List K) → IsPermutation (remove_key test old) new → (x : K) → Contains new x → Contains old x
Contains-kept test old new moved x h = Contains-removed test old x (Contains-permutation new (remove_key test old) x (IsPermutation-sym (remove_key test old) new moved) h)
