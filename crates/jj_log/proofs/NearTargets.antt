-- The targets of a commit are those of its parents that are left out, and its other parents.
use Rattle.std.proofs.Common.{◌≡◌, ◌↔◌, inl, inr, ℕ, zero, suc, ◌<◌, ◌≤◌, ◌==◌, length, set, drop, get_or, Bool, true, false, true≢false, List, [], ◌∷◌, ◌++◌, refl, sym, ◌∙◌, ap, subst, arith, eqb, ⊎_elim}
use Rattle.std.specs.List.{Contains, IsDistinct}
use Rattle.std.proofs.Math.Seq.{drop-cons}
use Rattle.std.proofs.lemmas.List.{drop_all}
use Rattle.std.proofs.lemmas.List.Elements.{Contains-get_or, Contains-append_left, Contains-append_right, Contains-append_cases}
use Rattle.jj_walks.proofs.Expanding.{at_first, first_or_rest}
use Rattle.jj_walks.specs.declared.graph.GraphEdgeType.{GraphEdgeType}
use Rattle.jj_walks.specs.declared.graph.GraphEdgeType.TheVariants.{Missing, Direct, Indirect}
use Rattle.jj_log.specs.Edges.{AreTargets, IsOfType, LeadsTo, parent, over}
use Rattle.jj_log.specs.Numbers.{is_elided, parents_of}
use Rattle.jj_log.specs.Targets.{AddsNew, AddsVia, HasVia, IsVia, targets_at}
use Rattle.jj_log.specs.declared.commits.NumberedCommit.{NumberedCommit}
use Rattle.std.specs.Global.{Global}
use Rattle.std.specs.declared.vec.Vec.{Vec}
use Rattle.std.proofs.lemmas.Bool.Decides.{Decides-eqb}
use Rattle.std.proofs.lemmas.Map.Keys.{IsDistinct-tail}
use Rattle.jj_dag.specs.Graph.{Precedes}
use Rattle.jj_dag.proofs.ReadyOrders.{twice}
use Rattle.jj_log.specs.Orders.{IsCommitOrder}
use Rattle.jj_log.specs.Numbers.{is_visible}
use Rattle.jj_log.specs.Targets.{KnowsTargets}
use Rattle.jj_log.proofs.Lists.{nothing}

module _ (commits : List NumberedCommit) where
  pub via_none : HasVia commits [] []
  unfolding IsDistinct
  via_none = record { all = λ t. (nothing, λ (p, h, via). nothing h); once = tt }

  pub adds_via : (p : ℕ) (added old new : List ℕ) → ((t : ℕ) → Contains added t ↔ IsVia commits t p) → AddsNew added old new → AddsVia commits p old new
  adds_via p added old new is more = record {
    all = λ t. ((λ h. ⊎_elim inl (λ one. inr ((is t).0 one)) ((more.all t).0 h)), ⊎_elim (λ h. (more.all t).1 (inl h)) (λ via. (more.all t).1 (inr ((is t).1 via))));
    once = more.once;
  }

  pub via_more : (parents before targets new : List ℕ) (p : ℕ) → parents ≡ before ++ p ∷ [] → HasVia commits before targets → AddsVia commits p targets new → HasVia commits parents new
  via_more parents before targets new p same k more = subst (λ (l : List ℕ). HasVia commits l new) (sym same) (record {
    all = λ t. (
      (λ h. ⊎_elim (λ old. let (q, at, via) = (k.all t).0 old in (q, Contains-append_left before (p ∷ []) q at, via)) (λ via. (p, Contains-append_right before (p ∷ []) p (at_first p []), via)) ((more.all t).0 h)),
      λ (q, at, via). (more.all t).1 (⊎_elim (λ old. inl ((k.all t).1 (q, old, via))) (λ last. inr (⊎_elim (λ e. subst (IsVia commits t) (sym e) via) nothing (first_or_rest p [] q last))) (Contains-append_cases before (p ∷ []) q at)),
    );
    once = more.once k.once;
  })

  leads_via : (n t : ℕ) → LeadsTo commits t n → (p : ℕ) × Contains (parents_of commits n) p × IsVia commits t p
  leads_via n t (parent at kept) = (t, at, inl (kept, refl))
  leads_via n t (over {m = m} at elided more) = (m, at, inr (elided, more))

  via_leads : (n t p : ℕ) → Contains (parents_of commits n) p → IsVia commits t p → LeadsTo commits t n
  via_leads n t p at (inl (kept, same)) = parent (subst (Contains (parents_of commits n)) same at) (subst (λ m. is_elided commits m ≡ false) same kept)
  via_leads n t p at (inr (elided, more)) = over at elided more

  pub targets_via : (n : ℕ) (targets : List ℕ) → HasVia commits (parents_of commits n) targets → AreTargets commits n targets
  targets_via n targets k = record {
    all = λ t. ((λ h. let (p, at, via) = (k.all t).0 h in via_leads n t p at via), λ leads. (k.all t).1 (leads_via n t leads));
    once = k.once;
  }

  -- a parent that is not left out
  pub via_itself : (p : ℕ) → is_elided commits p ≡ false → (t : ℕ) → Contains (p ∷ []) t ↔ IsVia commits t p
  via_itself p kept t = (
    (λ h. ⊎_elim (λ same. inl (kept, same)) nothing (first_or_rest p [] t h)),
    ⊎_elim (λ (k, same). subst (λ z. Contains (p ∷ []) z) same (at_first p [])) (λ (elided, more). absurd (true≢false (sym elided ∙ kept))),
  )

  -- one that is
  pub via_elided : (p : ℕ) (targets : List ℕ) → is_elided commits p ≡ true → AreTargets commits p targets → (t : ℕ) → Contains targets t ↔ IsVia commits t p
  via_elided p targets elided k t = (
    (λ h. inr (elided, (k.all t).0 h)),
    ⊎_elim (λ (kept, same). absurd (true≢false (sym elided ∙ kept))) (λ (e, more). (k.all t).1 more),
  )

-- the type of an edge, by other lists of the same parents
pub same_type : (commits : List NumberedCommit) (ps qs : List ℕ) (ty : GraphEdgeType) (t : ℕ) → ((p : ℕ) → Contains ps p ↔ Contains qs p) → IsOfType commits ps ty t → IsOfType commits qs ty t
same_type commits ps qs Missing t same h = h
same_type commits ps qs Direct t same (visible, at) = (visible, (same t).0 at)
same_type commits ps qs Indirect t same (visible, none) = (visible, λ at. none ((same t).1 at))

-- the members of a set that these were inserted into when it was empty
pub just_added : (added new : List ℕ) → AddsNew added [] new → (t : ℕ) → Contains new t ↔ Contains added t
just_added added new more t = ((λ h. ⊎_elim nothing (λ at. at) ((more.all t).0 h)), λ at. (more.all t).1 (inr at))

-- a target is not left out
pub kept : (commits : List NumberedCommit) (t n : ℕ) → LeadsTo commits t n → is_elided commits t ≡ false
kept commits t n (parent at visible) = visible
kept commits t n (over {m = m} at elided more) = kept commits t m more

-- a commit that is left out, or visible, is in the list
pub elided_listed : (commits : List NumberedCommit) (n : ℕ) → is_elided commits n ≡ true → n < length commits
elided_listed [] n h = absurd cc
elided_listed (c ∷ commits) zero h = omega arith
elided_listed (c ∷ commits) (suc n) h = let k = elided_listed commits n h in omega arith

pub visible_listed : (commits : List NumberedCommit) (n : ℕ) → is_visible commits n ≡ true → n < length commits
visible_listed [] n h = absurd cc
visible_listed (c ∷ commits) zero h = omega arith
visible_listed (c ∷ commits) (suc n) h = let k = visible_listed commits n h in omega arith

-- the only index of an element splits its list
pub after_in_drop : (xs : List ℕ) (i a b : ℕ) → IsDistinct eqb xs → i < length xs → get_or xs i 0 ≡ a → Precedes xs a b → Contains (drop (suc i) xs) b
after_in_drop [] i a b once less is (front, back, same, after) = absurd (omega arith)
after_in_drop (x ∷ xs) zero a b once less is ([], back, same, after) =
    let rest : xs ≡ back = cc in
    subst (λ (l : List ℕ). Contains l b) (sym rest) after
after_in_drop (x ∷ xs) zero a b once less is (z ∷ front, back, same, after) =
    let rest : xs ≡ front ++ a ∷ back = cc in
    absurd (twice (x ∷ xs) [] xs x once refl (subst (λ (l : List ℕ). Contains l x) (sym rest) (subst (λ y. Contains (front ++ a ∷ back) y) (sym is) (Contains-append_right front (a ∷ back) a (at_first a back)))))
after_in_drop (x ∷ xs) (suc i) a b once less is ([], back, same, after) =
    let first : x ≡ a = cc in
    absurd (twice (x ∷ xs) [] xs x once refl (subst (λ y. Contains xs y) (is ∙ sym first) (Contains-get_or xs i 0 (omega arith))))
after_in_drop (x ∷ xs) (suc i) a b once less is (z ∷ front, back, same, after) =
    let rest : xs ≡ front ++ a ∷ back = cc in
    after_in_drop xs i a b (IsDistinct-tail eqb x xs once) (omega arith) is (front, back, rest, after)

pub targets_at_same : (known : List (Vec ℕ Global)) (n : ℕ) (v : Vec ℕ Global) → n < length known → targets_at (set known n v) n ≡ v.items
targets_at_same [] n v less = absurd (omega arith)
targets_at_same (w ∷ known) zero v less = refl
targets_at_same (w ∷ known) (suc n) v less = targets_at_same known n v (omega arith)

pub targets_at_other : (known : List (Vec ℕ Global)) (n m : ℕ) (v : Vec ℕ Global) → (n ≡ m → ⊥) → targets_at (set known n v) m ≡ targets_at known m
targets_at_other [] n m v other = refl
targets_at_other (w ∷ known) zero zero v other = absurd (other refl)
targets_at_other (w ∷ known) zero (suc m) v other = refl
targets_at_other (w ∷ known) (suc n) zero v other = refl
targets_at_other (w ∷ known) (suc n) (suc m) v other = targets_at_other known n m v (λ e. other (ap suc e))

module _ (commits : List NumberedCommit) (order : List ℕ) (sorted : IsCommitOrder commits order) where
  -- the parents of the commit at an index come after it
  pub parents_known : (known : List (Vec ℕ Global)) (i n : ℕ) → i < length order → get_or order i 0 ≡ n → KnowsTargets commits known (Contains (drop (suc i) order)) → KnowsTargets commits known (Contains (parents_of commits n))
  parents_known known i n less is done p at inside =
      done p (after_in_drop order i n p sorted.once less is (sorted.before n p (subst (Contains order) is (Contains-get_or order i 0 less)) (0, (p, at, refl)))) inside

  pub knows_more : (known new : List (Vec ℕ Global)) (i n : ℕ) → i < length order → get_or order i 0 ≡ n → ((m : ℕ) → (n ≡ m → ⊥) → targets_at new m ≡ targets_at known m) → (n < length commits → AreTargets commits n (targets_at new n))
      → KnowsTargets commits known (Contains (drop (suc i) order)) → KnowsTargets commits new (Contains (drop i order))
  knows_more known new i n less is others own done m at listed =
      by_case (n == m) refl
    where
      by_case : (b : Bool) → (n == m) ≡ b → AreTargets commits m (targets_at new m)
      by_case true e =
          let same : n ≡ m = (Decides-eqb n m).0 e in
          subst (λ k. AreTargets commits k (targets_at new k)) same (own (subst (λ k. k < length commits) (sym same) listed))
      by_case false e =
          let other : n ≡ m → ⊥ = λ same. true≢false (sym ((Decides-eqb n m).1 same) ∙ e) in
          let later : Contains (drop (suc i) order) m = ⊎_elim (λ first. absurd (other (sym is ∙ first))) (λ rest. rest) (first_or_rest (get_or order i 0) (drop (suc i) order) m (subst (λ (l : List ℕ). Contains l m) (drop-cons order i 0 less) at)) in
          subst (AreTargets commits m) (sym (others m other)) (done m later listed)

  pub knows_none : (known : List (Vec ℕ Global)) (i : ℕ) → length order ≤ i → KnowsTargets commits known (Contains (drop i order))
  knows_none known i all m at listed = nothing (subst (λ (l : List ℕ). Contains l m) (drop_all i order all) at)

  pub knows_all : (known : List (Vec ℕ Global)) (i : ℕ) → i ≡ 0 → KnowsTargets commits known (Contains (drop i order)) → KnowsTargets commits known (λ n. Unit {0})
  knows_all known i first done m any listed = done m (subst (λ k. Contains (drop k order) m) (sym first) (sorted.all m listed)) listed
