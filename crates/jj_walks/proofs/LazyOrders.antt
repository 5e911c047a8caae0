-- A topological order that grows chunk by chunk.
use Rattle.std.proofs.Common.{◌≡◌, ℕ, zero, suc, List, [], ◌∷◌, ◌++◌, refl, sym, ◌∙◌, ap, subst, inl, inr, ◌⊎◌, ⊎_elim, append_assoc, eqb}
use Rattle.std.specs.List.{Contains, IsDistinct}
use Rattle.std.proofs.lemmas.List.Elements.{Contains-append_left, Contains-append_right, Contains-append_cases}
use Rattle.jj_walks.specs.Chunks.{IsChunkOfAnyGraph, IsOrderPrefix, ContinuesFrom, LeadsForward}
use Rattle.jj_dag.specs.Graph.{Graph, HasEdge, IsWalkOfLength, Reaches, StrictlyReaches, ReachedFrom, ReachesCycle, IsAcyclicFrom, IsTopologicalOrder}
use Rattle.jj_dag.proofs.Reaching.{Contains-split, Contains-reached, Reaches-trans, edge_then_Reaches}
use Rattle.jj_dag.proofs.ReadyOrders.{here, at_split, twice}
use Rattle.jj_dag.proofs.Plain.{nothing, one_distinct, only}

-- an index into the concatenation of two lists is in the first or in the second
split_append : (xs ys front back : List ℕ) (a : ℕ) → xs ++ ys ≡ front ++ a ∷ back
    → ((rest : List ℕ) × (xs ≡ front ++ a ∷ rest) × (back ≡ rest ++ ys)) ⊎ ((mid : List ℕ) × (front ≡ xs ++ mid) × (ys ≡ mid ++ a ∷ back))
split_append [] ys front back a e = inr (front, refl, e)
split_append (x ∷ xs) ys [] back a e =
    let head : x ≡ a = cc in
    let tail : xs ++ ys ≡ back = cc in
    inl (xs, ap (λ n. n ∷ xs) head, sym tail)
split_append (x ∷ xs) ys (f ∷ front) back a e =
    let head : x ≡ f = cc in
    let tail : xs ++ ys ≡ front ++ a ∷ back = cc in
    ⊎_elim (λ l. inl (l.0, ap (λ l. x ∷ l) l.1 ∙ ap (λ n. n ∷ (front ++ a ∷ l.0)) head, l.2))
    (λ r. inr (r.0, ap (λ l. f ∷ l) r.1 ∙ ap (λ n. n ∷ (xs ++ r.0)) (sym head), r.2)) (split_append xs ys front back a tail)

strictly_then : (g : Graph) (a b c : ℕ) → StrictlyReaches g a b → Reaches g b c → StrictlyReaches g a c
strictly_then g a b c (n, (d, e, p)) r = edge_then_Reaches g a d c e (Reaches-trans g d b c n p r)

-- in a list without repetition no node precedes itself
once_alone : (xs front back : List ℕ) (a : ℕ) → IsDistinct eqb xs → xs ≡ front ++ a ∷ back → Contains front a → ⊥
once_alone xs front back a once e h =
    let f = Contains-split front a h in
    let whole : xs ≡ f.0 ++ a ∷ (f.1 ++ a ∷ back) = e ∙ ap (λ l. l ++ a ∷ back) f.2 ∙ append_assoc f.0 (a ∷ f.1) (a ∷ back) in
    twice xs f.0 (f.1 ++ a ∷ back) a once whole (at_split f.1 a back)

-- ---- the beginning

pub begun_none : (g : Graph) (starts : List ℕ) → IsOrderPrefix g starts []
begun_none g starts = record {
  reached = λ a h. absurd (nothing a h);
  repeated = λ front back a e h. absurd (empty front back a e);
}
  where
    empty : (front back : List ℕ) (a : ℕ) → [] ≡ front ++ a ∷ back → ⊥
    empty [] back a e = cc
    empty (f ∷ front) back a e = cc

pub leads_none : (g : Graph) (starts : List ℕ) → ContinuesFrom g starts [] starts
leads_none g starts = record {
  starts_visited = λ a h. inr h;
  left_reached = λ a h. (a, h, (0, refl));
  forward = λ front back a b e edge. absurd (nothing a (subst (λ (l : List ℕ). Contains l a) (sym e) (at_split front a back)));
  above = λ a b h r. absurd (nothing a h);
}

-- ---- one more chunk

pub begun_more : (g : Graph) (starts order left chunk : List ℕ) → IsOrderPrefix g starts order → ContinuesFrom g starts order left → IsDistinct eqb chunk
    → ((a : ℕ) → Contains chunk a → ReachedFrom g left a) → IsOrderPrefix g starts (order ++ chunk)
begun_more g starts order left chunk begun leads once reached = record {
  reached = λ a h. ⊎_elim (λ l. begun.reached a l) (λ r. from_left a (reached a r)) (Contains-append_cases order chunk a h);
  repeated = λ front back a e h. elim (split_append order chunk front back a e) [
    | inl l ↦ begun.repeated front l.0 a l.1 h
    | inr r ↦ ⊎_elim
        (λ before.
        let from = reached a (subst (λ (l : List ℕ). Contains l a) (sym r.2) (at_split r.0 a back)) in
        strictly_then g a from.0 a (leads.above a from.0 before from.1) from.2)
        (λ within. absurd (once_alone chunk r.0 back a once r.2 within))
        (Contains-append_cases order r.0 a (subst (λ (l : List ℕ). Contains l a) r.1 h))
  ];
}
  where
    from_left : (a : ℕ) → ReachedFrom g left a → ReachedFrom g starts a
    from_left a (s, at, (n, p)) = let first = leads.left_reached s at in (first.0, first.1, Reaches-trans g first.0 s a first.2.0 first.2.1 (n, p))

pub leads_more : (g : Graph) (starts order left chunk left2 : List ℕ) → ContinuesFrom g starts order left → IsChunkOfAnyGraph g left chunk left2 → ContinuesFrom g starts (order ++ chunk) left2
leads_more g starts order left chunk left2 leads stretch = record {
  starts_visited = λ a h. ⊎_elim (λ l. inl (Contains-append_left order chunk a l)) (λ r. inl (Contains-append_right order chunk a (stretch.has_starts a r))) (leads.starts_visited a h);
  left_reached = λ a h.
      let from = stretch.reached a (inr h) in
      let first = leads.left_reached from.0 from.1 in
      (first.0, first.1, Reaches-trans g first.0 from.0 a first.2.0 first.2.1 from.2);
  forward = λ front back a b e edge. elim (split_append order chunk front back a e) [
    | inl l ↦ inl (subst (λ (k : List ℕ). Contains k b) (sym l.2)
        (⊎_elim (λ in_rest. Contains-append_left l.0 chunk b in_rest) (λ out. Contains-append_right l.0 chunk b (stretch.has_starts b out)) (leads.forward front l.0 a b l.1 edge)))
    | inr r ↦ stretch.forward r.0 back a b r.2 edge
  ];
  above = λ a b h r. ⊎_elim
      (λ old. let from = stretch.reached b (inr r) in strictly_then g a from.0 b (leads.above a from.0 old from.1) from.2)
      (λ new. stretch.above a b new r) (Contains-append_cases order chunk a h);
}

-- a chunk of one node leaves its neighbors
pub one_stretch : (g : Graph) (a : ℕ) → IsChunkOfAnyGraph g (a ∷ []) (a ∷ []) (g a)
one_stretch g a = record {
  once = one_distinct a;
  has_starts = λ b h. h;
  reached = λ b h. ⊎_elim (λ l. (b, l, (0, refl))) (λ e. (a, here a [], (1, (b, e, refl)))) h;
  forward = λ front back b c e edge. inr (subst (λ (n : ℕ). HasEdge g n c) (sym (only a b (subst (λ (l : List ℕ). Contains l b) (sym e) (at_split front b back)))) edge);
  above = λ b c h edge. (0, (c, subst (λ (n : ℕ). HasEdge g n c) (only a b h) edge, refl));
}

-- ---- the end

behind : (g : Graph) (order : List ℕ) → LeadsForward g order [] → (n : ℕ) (front back : List ℕ) (a b : ℕ) → order ≡ front ++ a ∷ back → IsWalkOfLength g a b (suc n) → Contains back b
behind g order forward zero front back a b e (c, edge, p) =
    subst (λ (m : ℕ). Contains back m) p (⊎_elim (λ l. l) (λ r. absurd (nothing c r)) (forward front back a c e edge))
behind g order forward (suc n) front back a b e (c, edge, p) =
    let at : Contains back c = ⊎_elim (λ l. l) (λ r. absurd (nothing c r)) (forward front back a c e edge) in
    let s = Contains-split back c at in
    let whole : order ≡ (front ++ a ∷ s.0) ++ c ∷ s.1 = e ∙ ap (λ l. front ++ a ∷ l) s.2 ∙ sym (append_assoc front (a ∷ s.0) (c ∷ s.1)) in
    let deeper : Contains s.1 b = behind g order forward n (front ++ a ∷ s.0) s.1 c b whole p in
    subst (λ (l : List ℕ). Contains l b) (sym s.2) (Contains-append_right s.0 (c ∷ s.1) b (Contains-append_right (c ∷ []) s.1 b deeper))

pub ended_all : (g : Graph) (starts order : List ℕ) → ContinuesFrom g starts order [] → (a : ℕ) → ReachedFrom g starts a → Contains order a
ended_all g starts order leads a (s, at, (m, p)) =
    let first : Contains order s = ⊎_elim (λ l. l) (λ r. absurd (nothing s r)) (leads.starts_visited s at) in
    Contains-reached g order closed m s a first p
  where
    closed : (b c : ℕ) → Contains order b → HasEdge g b c → Contains order c
    closed b c h edge =
        let split = Contains-split order b h in
        subst (λ (l : List ℕ). Contains l c) (sym split.2)
        (Contains-append_right split.0 (b ∷ split.1) c (Contains-append_right (b ∷ []) split.1 c (behind g order leads.forward 0 split.0 split.1 b c split.2 (c, edge, refl))))

pub ended_acyclic : (g : Graph) (starts order : List ℕ) → ContinuesFrom g starts order [] → IsDistinct eqb order → IsAcyclicFrom g starts
ended_acyclic g starts order leads once a (s, at, (m, p)) (n, path) =
    let split = Contains-split order a (ended_all g starts order leads a (s, at, (m, p))) in
    twice order split.0 split.1 a once split.2 (behind g order leads.forward n split.0 split.1 a a split.2 path)

pub ended_order : (g : Graph) (starts order : List ℕ) → IsOrderPrefix g starts order → ContinuesFrom g starts order [] → IsDistinct eqb order → IsTopologicalOrder g starts order
ended_order g starts order begun leads once = record {
  all = λ a. (λ h. begun.reached a h, λ r. ended_all g starts order leads a r);
  once = once;
  before = λ a b h (n, path).
      let split = Contains-split order a h in
      (split.0, split.1, split.2, behind g order leads.forward n split.0 split.1 a b split.2 path);
}

-- a repeated node is on a cycle
pub again_cycle : (g : Graph) (starts order front back : List ℕ) (a : ℕ) → IsOrderPrefix g starts order → order ≡ front ++ a ∷ back → Contains front a → ReachedFrom g starts a × ReachesCycle g starts
again_cycle g starts order front back a begun e h =
    let reached = begun.reached a (subst (λ (l : List ℕ). Contains l a) (sym e) (at_split front a back)) in
    (reached, (a, (reached, begun.repeated front back a e h)))
