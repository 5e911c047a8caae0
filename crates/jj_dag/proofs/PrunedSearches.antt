-- A depth-first search for maximal nodes that expands only nodes above the least rank of the starts.
use Rattle.std.proofs.Common.{◌≡◌, ◌⊎◌, inl, inr, ⊎_elim, ℕ, zero, suc, ◌<◌, ◌≤◌, ◌==◌, ◌&&◌, ◌||◌, Bool, true, false, not, cond, List, [], ◌∷◌, ◌++◌, refl, sym, ◌∙◌, ap, subst, arith, eqb, true≢false, All}
use Rattle.std.specs.List.{Contains, IsDistinct}
use Rattle.std.specs.Set.{is_member}
use Rattle.std.proofs.lemmas.Bool.{and_parts}
use Rattle.std.proofs.lemmas.Bool.Decides.{Decides-eqb}
use Rattle.std.proofs.lemmas.List.Elements.{All-contains, Contains-append_left, Contains-push, Contains-push_cases}
use Rattle.jj_dag.specs.Graph.{AreMaximalElements, Graph, HasEdge, IsWalkOfLength, ReachedFrom, StrictlyReaches}
use Rattle.jj_dag.specs.NodeSets.{Updates}
use Rattle.jj_dag.specs.PrunedSearches.{VisitsList}
use Rattle.jj_dag.specs.Ranks.{AreRanks}
use Rattle.jj_dag.proofs.Plain.{nothing, or_cond}
use Rattle.jj_dag.proofs.RankedNodes.{ranks_above, strictly_below}
use Rattle.jj_dag.proofs.Reaching.{ReachedFrom-edge, Reaches-then_edge}
use Rattle.jj_dag.proofs.Walking.{Contains-from_has, eqb-flip, has-from_Contains, has-push}

-- ---- tests

true_or_false : (b : Bool) → (b ≡ true) ⊎ (b ≡ false)
true_or_false true = inl refl
true_or_false false = inr refl

removed_one : (t k s : Bool) → cond t false (k && not s) ≡ (k && not (t || s))
removed_one true true s = refl
removed_one true false s = refl
removed_one false k s = refl

was_removed : (k s : Bool) → (k && not s) ≡ false → k ≡ true → s ≡ true
was_removed true true e is = refl
was_removed true false e is = absurd (true≢false e)
was_removed false s e is = absurd (true≢false (sym is))

stays_removed : (k s : Bool) → k ≡ false → (k && not s) ≡ false
stays_removed true s e = absurd (true≢false e)
stays_removed false s e = refl

now_removed : (k s : Bool) → s ≡ true → (k && not s) ≡ false
now_removed true true e = refl
now_removed false true e = refl
now_removed k false e = absurd (true≢false (sym e))

-- ---- a set with one key more

set_here : (before after : List ℕ) (key : ℕ) → Updates eqb before after key true → is_member eqb after key ≡ true
set_here before after key updates = updates key ∙ ap (λ t. cond t true (is_member eqb before key)) ((Decides-eqb key key).1 refl)

set_kept : (before after : List ℕ) (key q : ℕ) → Updates eqb before after key true → is_member eqb before q ≡ true → is_member eqb after q ≡ true
set_kept before after key q updates was = updates q ∙ ap (cond (key == q) true) was ∙ both (key == q)
  where
    both : (t : Bool) → cond t true true ≡ true
    both true = refl
    both false = refl

set_cases : (before after : List ℕ) (key q : ℕ) → Updates eqb before after key true → is_member eqb after q ≡ true → (key ≡ q) ⊎ (is_member eqb before q ≡ true)
set_cases before after key q updates is =
    ⊎_elim
    (λ same. inl ((Decides-eqb key q).0 same))
    (λ other. inr (sym (ap (λ t. cond t true (is_member eqb before q)) other) ∙ sym (updates q) ∙ is))
    (true_or_false (key == q))

-- the nodes of a list are inserted, one more
pub inserted_more : (seen seen2 keys keys2 : List ℕ) (x : ℕ) → ((q : ℕ) → is_member eqb keys q ≡ is_member eqb seen q) → seen2 ≡ seen ++ x ∷ [] → Updates eqb keys keys2 x true → (q : ℕ) → is_member eqb keys2 q ≡ is_member eqb seen2 q
inserted_more seen seen2 keys keys2 x same grown updates q =
    updates q ∙ ap (cond (x == q) true) (same q) ∙ or_cond (x == q) (is_member eqb seen q) ∙ ap (λ t. t || is_member eqb seen q) (eqb-flip x q) ∙ sym (has-push seen x q) ∙ ap (λ l. is_member eqb l q) (sym grown)

-- ---- the neighbors of a node

pub visits_none : (rank : ℕ → ℕ) (least : ℕ) (keys pending : List ℕ) → VisitsList rank least [] keys keys pending pending
visits_none rank least keys pending = record {
  removed = λ x. unchanged (is_member eqb keys x);
  kept = λ x h. h;
  added = λ x h. inl h;
  above = λ x h. absurd (nothing x h);
}
  where
    unchanged : (k : Bool) → k ≡ (k && not false)
    unchanged true = refl
    unchanged false = refl

-- one neighbor more, which is pending now if it ranks above
pub visits_more : (rank : ℕ → ℕ) (least : ℕ) (seen seen2 keys keys1 keys2 pending pending1 pending2 : List ℕ) (x : ℕ) → VisitsList rank least seen keys keys1 pending pending1 → seen2 ≡ seen ++ x ∷ []
    → Updates eqb keys1 keys2 x false → (pending2 ≡ pending1 ++ x ∷ []) ⊎ ((pending2 ≡ pending1) × (least < rank x → ⊥)) → VisitsList rank least seen2 keys keys2 pending pending2
visits_more rank least seen seen2 keys keys1 keys2 pending pending1 pending2 x k grown updates puts =
    let stays : (y : ℕ) → Contains pending1 y → Contains pending2 y = λ y h.
    ⊎_elim (λ put. subst (λ l. Contains l y) (sym put) (Contains-append_left pending1 (x ∷ []) y h)) (λ same. subst (λ l. Contains l y) (sym same.0) h) puts in
    record {
      removed = λ y.
          updates y ∙ ap (cond (x == y) false) (k.removed y) ∙ removed_one (x == y) (is_member eqb keys y) (is_member eqb seen y)
          ∙ ap (λ t. is_member eqb keys y && not (t || is_member eqb seen y)) (eqb-flip x y) ∙ ap (λ t. is_member eqb keys y && not t) (sym (has-push seen x y)) ∙ ap (λ l. is_member eqb keys y && not (is_member eqb l y)) (sym grown);
      kept = λ y h. stays y (k.kept y h);
      added = λ y h.
          let old : Contains pending1 y → Contains pending y ⊎ Contains seen2 y = λ was.
          ⊎_elim (λ p. inl p) (λ s. inr (subst (λ l. Contains l y) (sym grown) (Contains-append_left seen (x ∷ []) y s))) (k.added y was) in
          ⊎_elim
          (λ put. ⊎_elim old (λ same. inr (subst (λ l. Contains l y) (sym grown) (subst (λ n. Contains (seen ++ x ∷ []) n) same (Contains-push seen x)))) (Contains-push_cases pending1 x y (subst (λ l. Contains l y) put h)))
          (λ kept. old (subst (λ l. Contains l y) kept.0 h))
          puts;
      above = λ y h more.
          ⊎_elim
          (λ was. stays y (k.above y was more))
          (λ same. ⊎_elim
          (λ put. subst (λ l. Contains l y) (sym put) (subst (λ n. Contains (pending1 ++ x ∷ []) n) same (Contains-push pending1 x)))
          (λ kept. absurd (kept.1 (subst (λ n. least < rank n) (sym same) more)))
          puts)
          (Contains-push_cases seen x y (subst (λ l. Contains l y) grown h));
    }

-- ---- the search

-- The keys are starts, and each start that is no key is below another. Nodes visited had all their
-- neighbors removed from the keys, and those that rank above `least` are visited or pending.
pub record IsPruned (g : Graph) (rank : ℕ → ℕ) (least : ℕ) (starts keys visited pending : List ℕ) : Type 0 where
  pub are_starts : (q : ℕ) → is_member eqb keys q ≡ true → Contains starts q
  pub lost : (q : ℕ) → Contains starts q → is_member eqb keys q ≡ false → (s : ℕ) × Contains starts s × StrictlyReaches g s q
  pub visited_reached : (q : ℕ) → is_member eqb visited q ≡ true → ReachedFrom g starts q
  pub pending_reached : (q : ℕ) → Contains pending q → ReachedFrom g starts q
  pub all_starts : (q : ℕ) → Contains starts q → (is_member eqb visited q ≡ true) ⊎ Contains pending q
  pub passed : (a b : ℕ) → is_member eqb visited a ≡ true → HasEdge g a b → (is_member eqb keys b ≡ false) × (least < rank b → (is_member eqb visited b ≡ true) ⊎ Contains pending b)

pub pruned_start : (g : Graph) (rank : ℕ → ℕ) (least : ℕ) (starts keys visited pending : List ℕ) → ((q : ℕ) → is_member eqb keys q ≡ is_member eqb starts q) → visited ≡ [] → pending ≡ starts → IsPruned g rank least starts keys visited pending
pruned_start g rank least starts keys visited pending same none all =
    let nobody : (q : ℕ) → is_member eqb visited q ≡ true → ⊥ = λ q is. true≢false (sym is ∙ ap (λ l. is_member eqb l q) none) in
    record {
      are_starts = λ q is. Contains-from_has starts q (sym (same q) ∙ is);
      lost = λ q at is. absurd (true≢false (sym (has-from_Contains starts q at) ∙ sym (same q) ∙ is));
      visited_reached = λ q is. absurd (nobody q is);
      pending_reached = λ q h. (q, subst (λ l. Contains l q) all h, (0, refl));
      all_starts = λ q h. inr (subst (λ l. Contains l q) (sym all) h);
      passed = λ a b is edge. absurd (nobody a is);
    }

module _ (g : Graph) (rank : ℕ → ℕ) (least : ℕ) (starts keys visited pending rest : List ℕ) (node : ℕ) (k : IsPruned g rank least starts keys visited pending) (top : pending ≡ rest ++ node ∷ []) where
  still : (q : ℕ) → Contains rest q → Contains pending q
  still q h = subst (λ l. Contains l q) (sym top) (Contains-append_left rest (node ∷ []) q h)

  at_node : ReachedFrom g starts node
  at_node = k.pending_reached node (subst (λ l. Contains l node) (sym top) (Contains-push rest node))

  -- the top was visited before
  pub pruned_again : (visited2 : List ℕ) → visited2 ≡ visited → is_member eqb visited node ≡ true → IsPruned g rank least starts keys visited2 rest
  pruned_again visited2 same before =
      let moved : (q : ℕ) → (is_member eqb visited q ≡ true) ⊎ Contains pending q → (is_member eqb visited q ≡ true) ⊎ Contains rest q = λ q w.
      ⊎_elim (λ v. inl v) (λ p. ⊎_elim (λ r. inr r) (λ is. inl (subst (λ n. is_member eqb visited n ≡ true) is before)) (Contains-push_cases rest node q (subst (λ l. Contains l q) top p))) w in
      subst (λ l. IsPruned g rank least starts keys l rest) (sym same) (record {
        are_starts = k.are_starts;
        lost = k.lost;
        visited_reached = k.visited_reached;
        pending_reached = λ q h. k.pending_reached q (still q h);
        all_starts = λ q h. moved q (k.all_starts q h);
        passed = λ a b is edge. let p = k.passed a b is edge in (p.0, (λ more. moved b (p.1 more)));
      })

  -- the top is new, and its neighbors are visited
  pub pruned_visited : (visited2 keys2 rest2 : List ℕ) → Updates eqb visited visited2 node true → VisitsList rank least (g node) keys keys2 rest rest2 → IsPruned g rank least starts keys2 visited2 rest2
  pruned_visited visited2 keys2 rest2 updates v =
      let moved : (q : ℕ) → (is_member eqb visited q ≡ true) ⊎ Contains pending q → (is_member eqb visited2 q ≡ true) ⊎ Contains rest2 q = λ q w.
      ⊎_elim
      (λ was. inl (set_kept visited visited2 node q updates was))
      (λ p. ⊎_elim (λ r. inr (v.kept q r)) (λ is. inl (subst (λ n. is_member eqb visited2 n ≡ true) is (set_here visited visited2 node updates))) (Contains-push_cases rest node q (subst (λ l. Contains l q) top p)))
      w in
      record {
        are_starts = λ q is. k.are_starts q (and_parts (is_member eqb keys q) (not (is_member eqb (g node) q)) (sym (v.removed q) ∙ is)).0;
        lost = λ q at is.
            ⊎_elim
            (λ was.
            let edge : HasEdge g node q = Contains-from_has (g node) q (was_removed (is_member eqb keys q) (is_member eqb (g node) q) (sym (v.removed q) ∙ is) was) in
            let (s, start, way) = at_node in
            (s, start, Reaches-then_edge g s node q way edge))
            (λ gone. k.lost q at gone)
            (true_or_false (is_member eqb keys q));
        visited_reached = λ q is. ⊎_elim (λ same. subst (ReachedFrom g starts) same at_node) (λ was. k.visited_reached q was) (set_cases visited visited2 node q updates is);
        pending_reached = λ q h. ⊎_elim (λ was. k.pending_reached q (still q was)) (λ edge. ReachedFrom-edge g starts node q at_node edge) (v.added q h);
        all_starts = λ q h. moved q (k.all_starts q h);
        passed = λ a b is edge.
            ⊎_elim
            (λ same.
            let here : HasEdge g node b = subst (λ n. HasEdge g n b) (sym same) edge in
            (v.removed b ∙ now_removed (is_member eqb keys b) (is_member eqb (g node) b) (has-from_Contains (g node) b here), (λ more. inr (v.above b here more))))
            (λ was.
            let p = k.passed a b was edge in
            (v.removed b ∙ stays_removed (is_member eqb keys b) (is_member eqb (g node) b) p.0, (λ more. moved b (p.1 more))))
            (set_cases visited visited2 node a updates is);
      }

-- the keys are the heads when no node is pending
module _ (g : Graph) (rank : ℕ → ℕ) (ranks : AreRanks g rank) (least : ℕ) (starts keys visited : List ℕ) (k : IsPruned g rank least starts keys visited []) where
  removed_below : (n a b : ℕ) → is_member eqb visited a ≡ true → IsWalkOfLength g a b (suc n) → least ≤ rank b → is_member eqb keys b ≡ false
  removed_below zero a b is (c, edge, same) low = subst (λ q. is_member eqb keys q ≡ false) same (k.passed a c is edge).0
  removed_below (suc n) a b is (c, edge, way) low =
      let higher = ranks_above g rank ranks n c b way in
      let seen : is_member eqb visited c ≡ true = ⊎_elim (λ v. v) (λ h. absurd (nothing c h)) ((k.passed a c is edge).1 (omega (arith, higher, low))) in
      removed_below n c b seen way low

  pub pruned_end : All (λ start. least ≤ rank start) starts → IsDistinct eqb keys → AreMaximalElements g starts keys
  pruned_end low once = record {
    all = λ a. (
      (λ h. (
        k.are_starts a (has-from_Contains keys a h),
        λ b start other (n, way).
            let seen : is_member eqb visited b ≡ true = ⊎_elim (λ v. v) (λ p. absurd (nothing b p)) (k.all_starts b start) in
            let gone = removed_below n b a seen way (All-contains (λ s. least ≤ rank s) starts a low (k.are_starts a (has-from_Contains keys a h))) in
            true≢false (sym (has-from_Contains keys a h) ∙ gone),
      )),
      (λ (at, maximal).
          ⊎_elim
          (λ is. Contains-from_has keys a is)
          (λ gone.
          let (s, start, way) = k.lost a at gone in
          absurd (maximal s start (λ same. let above = strictly_below g rank ranks s a way in let equal = ap rank same in absurd (omega (arith, above, equal))) way))
          (true_or_false (is_member eqb keys a))),
    );
    once = once;
  }
