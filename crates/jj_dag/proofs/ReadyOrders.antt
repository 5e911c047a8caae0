-- A list that takes the greatest ready node until all are taken is the greatest child-first list;
-- where it gets stuck there is a cycle.
use Rattle.std.proofs.Common.{◌≡◌, ◌≢◌, ◌↔◌, ℕ, zero, suc, ◌+◌, ◌≤◌, true, false, List, [], ◌∷◌, ◌++◌, length, refl, sym, ◌∙◌, ap, subst, arith, eqb, inl, inr, ◌⊎◌, ⊎_elim, true≢false, append_assoc, length-append}
use Rattle.std.specs.List.{Contains, IsDistinct, AllByRecursion}
use Rattle.std.proofs.lemmas.Bool.Decides.{Decides-eqb}
use Rattle.std.proofs.lemmas.List.Elements.{Contains-append_left, Contains-append_right, Contains-append_cases, All-contains, All-from_recursion}
use Rattle.jj_dag.specs.Graph.{Graph, HasEdge, IsWalkOfLength, Reaches, StrictlyReaches, ReachedFrom, IsAcyclicFrom, IsTopologicalOrder}
use Rattle.jj_dag.specs.ReadyNodes.{IsReady, TakesGreatestReady, IsStuck}
use Rattle.jj_dag.proofs.TakingReady.{only_one}
use Rattle.jj_dag.proofs.Reaching.{Contains-split, ReachedFrom-edge, edge_then_Reaches}

-- ---- lists without repeats

pub here : {X : Type 0} (x : X) (xs : List X) → Contains (x ∷ xs) x
here x xs = (0, omega arith, refl)

pub later : {X : Type 0} (x : X) (xs : List X) (y : X) → Contains xs y → Contains (x ∷ xs) y
later x xs y h = Contains-append_right (x ∷ []) xs y h

pub at_split : {X : Type 0} (front : List X) (a : X) (back : List X) → Contains (front ++ a ∷ back) a
at_split front a back = Contains-append_right front (a ∷ back) a (here a back)

-- each element is new when it comes
pub distinct : (xs : List ℕ) → ((front back : List ℕ) (a : ℕ) → xs ≡ front ++ a ∷ back → Contains front a → ⊥) → IsDistinct eqb xs
unfolding IsDistinct
distinct [] h = tt
distinct (x ∷ xs) h = (
  absent xs (λ k. let s = Contains-split xs x k in h (x ∷ s.0) s.1 x (ap (λ l. x ∷ l) s.2) (here x s.0)),
  distinct xs (λ front back a e k. h (x ∷ front) back a (ap (λ l. x ∷ l) e) (later x front a k)),
)
  where
    absent : (ys : List ℕ) → (Contains ys x → ⊥) → AllByRecursion (λ y. eqb x y ≡ false) ys
    absent [] k = tt
    absent (y ∷ ys) k = (
      elim (eqb x y) as (λ t. eqb x y ≡ t → eqb x y ≡ false) [
        | true ↦ λ e. absurd (k (let s : x ≡ y = (Decides-eqb x y).0 e in subst (λ (n : ℕ). Contains (y ∷ ys) n) (sym s) (here y ys)))
        | false ↦ λ e. e
      ] refl,
      absent ys (λ r. k (later y ys x r)),
    )

not_again : (x : ℕ) (xs : List ℕ) → IsDistinct eqb (x ∷ xs) → Contains xs x → ⊥
unfolding IsDistinct
not_again x xs d h = true≢false (sym ((Decides-eqb x x).1 refl) ∙ All-contains (λ y. eqb x y ≡ false) xs x (All-from_recursion (λ y. eqb x y ≡ false) xs d.0) h)

pub tail_distinct : (x : ℕ) (xs : List ℕ) → IsDistinct eqb (x ∷ xs) → IsDistinct eqb xs
unfolding IsDistinct
tail_distinct x xs d = d.1

-- no element comes again
pub twice : (xs front back : List ℕ) (a : ℕ) → IsDistinct eqb xs → xs ≡ front ++ a ∷ back → Contains back a → ⊥
twice [] [] back a d e h = absurd cc
twice [] (y ∷ front) back a d e h = absurd cc
twice (x ∷ xs) [] back a d e h =
    let same : x ≡ a = cc in
    let rest : back ≡ xs = cc in
    not_again x xs d (subst (λ (n : ℕ). Contains xs n) (sym same) (subst (λ (l : List ℕ). Contains l a) rest h))
twice (x ∷ xs) (y ∷ front) back a d e h = let t : xs ≡ front ++ a ∷ back = cc in twice xs front back a (tail_distinct x xs d) t h

-- a node before some b is before the only b
stands_in_front : (xs f k front lows : List ℕ) (p b : ℕ) → IsDistinct eqb xs → xs ≡ f ++ p ∷ k → Contains k b → xs ≡ front ++ b ∷ lows → Contains front p
stands_in_front [] [] k front lows p b d e c h = absurd cc
stands_in_front [] (y ∷ f) k front lows p b d e c h = absurd cc
stands_in_front (x ∷ xs) [] k [] lows p b d e c h =
    let same : x ≡ b = cc in
    let rest : k ≡ xs = cc in
    absurd (not_again x xs d (subst (λ (n : ℕ). Contains xs n) (sym same) (subst (λ (l : List ℕ). Contains l b) rest c)))
stands_in_front (x ∷ xs) (y ∷ f) k [] lows p b d e c h =
    let same : x ≡ b = cc in
    let rest : f ++ p ∷ k ≡ xs = cc in
    absurd (not_again x xs d (subst (λ (n : ℕ). Contains xs n) (sym same) (subst (λ (l : List ℕ). Contains l b) rest (Contains-append_right f (p ∷ k) b (later p k b c)))))
stands_in_front (x ∷ xs) [] k (z ∷ front) lows p b d e c h =
    let same : z ≡ p = cc in
    subst (λ (n : ℕ). Contains (z ∷ front) n) same (here z front)
stands_in_front (x ∷ xs) (y ∷ f) k (z ∷ front) lows p b d e c h =
    let a : xs ≡ f ++ p ∷ k = cc in
    let s : xs ≡ front ++ b ∷ lows = cc in
    later z front p (stands_in_front xs f k front lows p b (tail_distinct x xs d) a c s)

-- ---- child-first lists

-- a child-first list has no cycle
pub IsAcyclicFrom-from_child_first : (g : Graph) (starts order : List ℕ) → IsTopologicalOrder g starts order → IsAcyclicFrom g starts
IsAcyclicFrom-from_child_first g starts order k a reached cycle =
    let b = k.before a a ((k.all a).1 reached) cycle in
    twice order b.0 b.1 a k.once b.2 b.3

module _ (g : Graph) (starts : List ℕ) (IsNode : ℕ → Type 0) (NotBelow : ℕ → ℕ → Type 0) (nodes : (a : ℕ) → IsNode a ↔ ReachedFrom g starts a) where
  node_edge : (a b : ℕ) → IsNode a → HasEdge g a b → IsNode b
  node_edge a b h e = (nodes b).1 (ReachedFrom-edge g starts a b ((nodes a).0 h) e)

  -- all nodes that strictly reach a node are before it
  in_front : (order : List ℕ) → TakesGreatestReady g IsNode NotBelow order → (n : ℕ) (front back : List ℕ) (a b : ℕ) → order ≡ front ++ b ∷ back → IsNode a → IsWalkOfLength g a b (suc n) → Contains front a
  in_front order k zero front back a b e node (c, edge, p) = (k.ready front back b e).2 a node (subst (λ (x : ℕ). HasEdge g a x) p edge)
  in_front order k (suc n) front back a b e node (c, edge, p) =
      let s = Contains-split front c (in_front order k n front back c b e (node_edge a c node edge) p) in
      let whole : order ≡ s.0 ++ c ∷ (s.1 ++ b ∷ back) = e ∙ ap (λ l. l ++ b ∷ back) s.2 ∙ append_assoc s.0 (c ∷ s.1) (b ∷ back) in
      let first = (k.ready s.0 (s.1 ++ b ∷ back) c whole).2 a node edge in
      subst (λ (l : List ℕ). Contains l a) (sym s.2) (Contains-append_left s.0 (c ∷ s.1) a first)

  pub IsTopologicalOrder-from_taken : (order : List ℕ) → TakesGreatestReady g IsNode NotBelow order → ((a : ℕ) → IsNode a → Contains order a) → IsTopologicalOrder g starts order
  IsTopologicalOrder-from_taken order k all = record {
    all = λ a. (λ h. (nodes a).0 (taken a h), λ r. all a ((nodes a).1 r));
    once = distinct order (λ front back a e. (k.ready front back a e).1);
    before = λ a b h s.
        let reached = Contains_reached (s.0 + 1) a b (taken a h) (subst (λ (n : ℕ). IsWalkOfLength g a b n) (let e : suc s.0 ≡ s.0 + 1 = omega arith in e) s.1) in
        let split = Contains-split order b (all b reached) in
        let front = in_front order k s.0 split.0 split.1 a b split.2 (taken a h) s.1 in
        let cut = Contains-split split.0 a front in
        (cut.0, cut.1 ++ b ∷ split.1, split.2 ∙ ap (λ l. l ++ b ∷ split.1) cut.2 ∙ append_assoc cut.0 (a ∷ cut.1) (b ∷ split.1), at_split cut.1 b split.1);
  }
    where
      taken : (a : ℕ) → Contains order a → IsNode a
      taken a h = let s = Contains-split order a h in (k.ready s.0 s.1 a s.2).0

      Contains_reached : (n : ℕ) (a b : ℕ) → IsNode a → IsWalkOfLength g a b n → IsNode b
      Contains_reached zero a b h p = subst (λ (x : ℕ). IsNode x) p h
      Contains_reached (suc n) a b h (c, edge, p) = Contains_reached n c b (node_edge a c h edge) p

  -- the node that another child-first list has at the first difference was ready too
  pub NotBelow-from_taken : (order : List ℕ) → TakesGreatestReady g IsNode NotBelow order → (other : List ℕ) → IsTopologicalOrder g starts other → (front highs lows : List ℕ) (a b : ℕ) → order ≡ front ++ a ∷ highs → other ≡ front ++ b ∷ lows → NotBelow a b
  NotBelow-from_taken order k other o front highs lows a b e f =
      let in_b : Contains other b = subst (λ (l : List ℕ). Contains l b) (sym f) (at_split front b lows) in
      let is_b = (nodes b).1 ((o.all b).0 in_b) in
      let ready_b : IsReady g IsNode front b = (
        is_b,
        λ h. let s = Contains-split front b h in
            let whole : other ≡ s.0 ++ b ∷ (s.1 ++ b ∷ lows) = f ∙ ap (λ l. l ++ b ∷ lows) s.2 ∙ append_assoc s.0 (b ∷ s.1) (b ∷ lows) in
            twice other s.0 (s.1 ++ b ∷ lows) b o.once whole (at_split s.1 b lows),
        λ c is_c edge.
            let in_c = (o.all c).1 ((nodes c).0 is_c) in
            let s = o.before c b in_c (0, (b, edge, refl)) in
            stands_in_front other s.0 s.1 front lows c b o.once s.2 s.3 f,
      ) in
      k.greatest front highs a b e ready_b

-- ---- where the order is stuck

-- from a node that is not taken one goes back along edges, each time to another one, until one
-- comes again
pub cycle_back : (g : Graph) (IsLeft : ℕ → Type 0) → ((a : ℕ) → IsLeft a → (c : ℕ) × IsLeft c × HasEdge g c a)
    → (room : ℕ) (others : List ℕ) → length others ≤ room → (a : ℕ) → IsLeft a → ((b : ℕ) → IsLeft b → Contains others b ⊎ Reaches g a b) → (c : ℕ) × IsLeft c × StrictlyReaches g c c
cycle_back g IsLeft back zero others short a left seen =
    let p = back a left in
    ⊎_elim (λ (k, lt, e). absurd (omega arith)) (λ r. (p.0, p.1, edge_then_Reaches g p.0 a p.0 p.2 r)) (seen p.0 p.1)
cycle_back g IsLeft back (suc room) others short a left seen =
    let p = back a left in
    ⊎_elim (λ h.
    let s = Contains-split others p.0 h in
    let len : length others ≡ length s.0 + suc (length s.1) = ap length s.2 ∙ length-append s.0 (p.0 ∷ s.1) in
    let len2 : length (s.0 ++ s.1) ≡ length s.0 + length s.1 = length-append s.0 s.1 in
    cycle_back g IsLeft back room (s.0 ++ s.1) (omega arith) p.0 p.1 (λ b is_b. elim (seen b is_b) [
      | inl l ↦ elim (Contains-append_cases s.0 (p.0 ∷ s.1) b (subst (λ (l : List ℕ). Contains l b) s.2 l)) [
        | inl f ↦ inl (Contains-append_left s.0 s.1 b f)
        | inr q ↦ elim (Contains-append_cases (p.0 ∷ []) s.1 b q) [
          | inl o ↦ inr (0, only_one p.0 b o)
          | inr t ↦ inl (Contains-append_right s.0 s.1 b t)
        ]
      ]
      | inr r ↦ inr (suc r.0, (a, p.2, r.1))
    ]))
    (λ r. (p.0, p.1, edge_then_Reaches g p.0 a p.0 p.2 r)) (seen p.0 p.1)

-- where nodes are left and each has an edge from another one, there is a cycle among them
pub cycle_from_stuck : (g : Graph) (IsNode : ℕ → Type 0) (all order : List ℕ) → ((a : ℕ) → IsNode a → Contains all a) → IsStuck g IsNode order
    → (a : ℕ) → IsNode a → (Contains order a → ⊥) → (c : ℕ) × IsNode c × StrictlyReaches g c c
cycle_from_stuck g IsNode all order complete stuck a is out =
    let r = cycle_back g (λ b. IsNode b × (Contains order b → ⊥)) (λ b (is_b, out_b). let s = stuck b is_b out_b in (s.0, (s.1, s.2), s.3)) (length all) all (omega arith) a (is, out) (λ b (is_b, out_b). inl (complete b is_b)) in
    (r.0, r.1.0, r.2)
