-- The search for the closest common nodes of two sets, on numbers: the states of the nodes while
-- some are open, and at the end.
use Rattle.std.proofs.Common.{◌≡◌, ℕ, zero, suc, ◌==◌, Bool, true, false, not, cond, ◌&&◌, ◌||◌, List, [], ◌∷◌, refl, sym, ◌∙◌, subst, arith, inl, inr, ◌⊎◌, ⊎_elim, true≢false, eqb}
use Rattle.std.specs.Prelude.{◌↔◌}
use Rattle.std.specs.List.{Contains, IsDistinct}
use Rattle.std.proofs.lemmas.Bool.Decides.{Decides-eqb}
use Rattle.std.proofs.lemmas.List.Elements.{Contains-append_right}
use Rattle.std.proofs.lemmas.Bool.{and_parts, or_cases, or_left, or_right}
use Rattle.jj_dag.specs.Graph.{Graph, HasEdge, IsWalkOfLength, Reaches, StrictlyReaches, ReachedFrom, IsMaximal}
use Rattle.jj_dag.specs.CommonNodes.{IsCommon, HasNoCommonCycle}
use Rattle.jj_dag.specs.declared.closest_common.Sides.{Sides}
use Rattle.jj_dag.specs.NodeStates.{union_of_sides, adds_side, propagated}
use Rattle.jj_dag.proofs.Walking.{has, has-from_Contains, Contains-from_has}
use Rattle.jj_dag.proofs.Reaching.{Reaches-trans, Reaches-then_strictly, edge_then_Reaches, ReachedFrom-edge}
use Rattle.jj_dag.proofs.Plain.{neither}

-- ---- tests

both_and : (a b : Bool) → a ≡ true → b ≡ true → (a && b) ≡ true
both_and true b e f = f
both_and false b e f = absurd (true≢false (sym e))

pub not_grown_left : (k r x : Bool) → ((r && not k) || x) ≡ false → (k || r) ≡ k
not_grown_left true r x e = refl
not_grown_left false true x e = absurd (true≢false e)
not_grown_left false false x e = refl

pub not_grown_right : (k r x : Bool) → (x || (r && not k)) ≡ false → (k || r) ≡ k
not_grown_right true r x e = refl
not_grown_right false r true e = absurd (true≢false e)
not_grown_right false true false e = absurd (true≢false e)
not_grown_right false false false e = refl

-- both sets reach a node with this state
abbrev pub IsBoth : Sides → Type 0
IsBoth k = (k.left ≡ true) × (k.right ≡ true)

-- where both are so after something was added and were not before, it has grown
both_grown : (k r : Sides) → IsBoth (union_of_sides k r) → IsBoth k ⊎ (adds_side k r ≡ true)
both_grown k r (l, h) =
    let P : Bool → Type 0 = λ b. adds_side k r ≡ b → IsBoth k ⊎ (adds_side k r ≡ true) in
    elim (adds_side k r) as P [
      | true ↦ λ e. inr e
      | false ↦ λ e. inl (sym (not_grown_left k.left r.left _ e) ∙ l, sym (not_grown_right k.right r.right _ e) ∙ h)
    ] refl

-- ---- one state more

abbrev pub states_more : (ℕ → Sides) → ℕ → Sides → ℕ → Sides
states_more m y r b = cond (b == y) (union_of_sides (m b) r) (m b)

pub at_mark : (m : ℕ → Sides) (y : ℕ) (r : Sides) (b : ℕ) (P : Sides → Type 0) → (b ≡ y → P (union_of_sides (m b) r)) → ((b ≡ y → ⊥) → P (m b)) → P (states_more m y r b)
at_mark m y r b P here there =
    let Q : Bool → Type 0 = λ t. b == y ≡ t → P (cond t (union_of_sides (m b) r) (m b)) in
    elim (b == y) as Q [ true ↦ λ e. here ((Decides-eqb b y).0 e) | false ↦ λ e. there (λ same. true≢false (sym ((Decides-eqb b y).1 same) ∙ e)) ] refl

kept_left : (m : ℕ → Sides) (y : ℕ) (r : Sides) (b : ℕ) → (m b).left ≡ true → (states_more m y r b).left ≡ true
kept_left m y r b h = at_mark m y r b (λ k. k.left ≡ true) (λ e. or_left (m b).left r.left h) (λ ne. h)

kept_right : (m : ℕ → Sides) (y : ℕ) (r : Sides) (b : ℕ) → (m b).right ≡ true → (states_more m y r b).right ≡ true
kept_right m y r b h = at_mark m y r b (λ k. k.right ≡ true) (λ e. or_left (m b).right r.right h) (λ ne. h)

kept_below : (m : ℕ → Sides) (y : ℕ) (r : Sides) (b : ℕ) → (m b).below ≡ true → (states_more m y r b).below ≡ true
kept_below m y r b h = at_mark m y r b (λ k. k.below ≡ true) (λ e. or_left (m b).below r.below h) (λ ne. h)

pub kept_both : (m : ℕ → Sides) (y : ℕ) (r : Sides) (b : ℕ) → IsBoth (m b) → IsBoth (states_more m y r b)
kept_both m y r b (l, h) = (kept_left m y r b l, kept_right m y r b h)

-- the state l of a neighbor includes what the state k of a node passes on
pub record Passes (k l : Sides) : Type 0 where
  pub left : k.left ≡ true → l.left ≡ true
  pub right : k.right ≡ true → l.right ≡ true
  pub below : IsBoth k → l.below ≡ true

pub passes_marked : (m : ℕ → Sides) (k : Sides) (y : ℕ) → Passes k (states_more m y (propagated k) y)
passes_marked m k y = record {
  left = λ h. at_mark m y (propagated k) y (λ l. l.left ≡ true) (λ e. or_right (m y).left k.left h) (λ ne. absurd (ne refl));
  right = λ h. at_mark m y (propagated k) y (λ l. l.right ≡ true) (λ e. or_right (m y).right k.right h) (λ ne. absurd (ne refl));
  below = λ (l, h). at_mark m y (propagated k) y (λ l. l.below ≡ true) (λ e. or_right (m y).below (k.left && k.right) (both_and k.left k.right l h)) (λ ne. absurd (ne refl));
}

pub passes_kept : (m : ℕ → Sides) (y : ℕ) (r k : Sides) (b : ℕ) → Passes k (m b) → Passes k (states_more m y r b)
passes_kept m y r k b p = record { left = λ h. kept_left m y r b (p.left h); right = λ h. kept_right m y r b (p.right h); below = λ h. kept_below m y r b (p.below h) }

module _ (g : Graph) (set1 set2 : List ℕ) where
  -- States are true. A node that is not open has passed on its state; the candidates are the common
  -- nodes that are not open. While no root was found, each node that both sides reach leads to an
  -- open one.
  pub record IsMarking (m : ℕ → Sides) (todo found : List ℕ) (rooted : Bool) : Type 0 where
    pub left : (a : ℕ) → (m a).left ≡ true → ReachedFrom g set1 a
    pub right : (a : ℕ) → (m a).right ≡ true → ReachedFrom g set2 a
    pub below : (a : ℕ) → (m a).below ≡ true → (c : ℕ) × IsCommon g set1 set2 c × StrictlyReaches g c a
    pub first : (a : ℕ) → Contains set1 a → (m a).left ≡ true
    pub second : (a : ℕ) → Contains set2 a → (m a).right ≡ true
    pub passed : (a b : ℕ) → (Contains todo a → ⊥) → HasEdge g a b → Passes (m a) (m b)
    pub common : (a : ℕ) → Contains found a ↔ (IsBoth (m a) × (Contains todo a → ⊥))
    pub once : IsDistinct eqb found
    pub leads : rooted ≡ false → HasNoCommonCycle g set1 set2 → (a : ℕ) → IsBoth (m a) → (w : ℕ) × Contains todo w × IsBoth (m w) × Reaches g a w

  pub is_common : {m : ℕ → Sides} {todo found : List ℕ} {rooted : Bool} → IsMarking m todo found rooted → (a : ℕ) → IsBoth (m a) → IsCommon g set1 set2 a
  is_common k a (l, h) = (k.left a l, k.right a h)

  -- ---- a neighbor of an open node gets its sides

  pub marking_more : {m : ℕ → Sides} {todo found : List ℕ} {rooted : Bool} (todo2 : List ℕ) (k : Sides) (a y : ℕ) → IsMarking m todo found rooted
      → ((k.left ≡ true) → (m a).left ≡ true) → ((k.right ≡ true) → (m a).right ≡ true) → HasEdge g a y
      → ((b : ℕ) → Contains todo b → Contains todo2 b) → ((b : ℕ) → Contains todo2 b → Contains todo b ⊎ ((b ≡ y) × (adds_side (m y) (propagated k) ≡ true)))
      → (adds_side (m y) (propagated k) ≡ true → Contains todo2 y) → IsMarking (states_more m y (propagated k)) todo2 found rooted
  marking_more {m} {todo} {found} {rooted} todo2 k a y s has_left has_right edge keeps adds grown =
      let r = propagated k in
      let m2 = states_more m y r in
      let unchanged : (c : ℕ) → (Contains todo2 c → ⊥) → ((m2 c).left ≡ (m c).left) × ((m2 c).right ≡ (m c).right) = λ c closed.
      let still : c ≡ y → adds_side (m c) r ≡ false = λ same.
      let P : Bool → Type 0 = λ t. adds_side (m c) r ≡ t → adds_side (m c) r ≡ false in
      elim (adds_side (m c) r) as P [ true ↦ λ e. absurd (closed (subst (λ n. Contains todo2 n) (sym same) (grown (subst (λ n. adds_side (m n) r ≡ true) same e)))) | false ↦ λ e. e ] refl in
      let to_left : (m2 c).left ≡ (m c).left = at_mark m y r c (λ l. l.left ≡ (m c).left) (λ same. not_grown_left (m c).left r.left _ (still same)) (λ ne. refl) in
      let to_right : (m2 c).right ≡ (m c).right = at_mark m y r c (λ l. l.right ≡ (m c).right) (λ same. not_grown_right (m c).right r.right _ (still same)) (λ ne. refl) in
      (to_left, to_right) in
      record {
        left = λ b. at_mark m y r b (λ l. l.left ≡ true → ReachedFrom g set1 b)
            (λ same h. ⊎_elim (s.left b) (λ new. subst (λ n. ReachedFrom g set1 n) (sym same) (ReachedFrom-edge g set1 a y (s.left a (has_left new)) edge)) (or_cases (m b).left k.left h)) (λ ne. s.left b);
        right = λ b. at_mark m y r b (λ l. l.right ≡ true → ReachedFrom g set2 b)
            (λ same h. ⊎_elim (s.right b) (λ new. subst (λ n. ReachedFrom g set2 n) (sym same) (ReachedFrom-edge g set2 a y (s.right a (has_right new)) edge)) (or_cases (m b).right k.right h)) (λ ne. s.right b);
        below = λ b. at_mark m y r b (λ l. l.below ≡ true → (c : ℕ) × IsCommon g set1 set2 c × StrictlyReaches g c b)
            (λ same h. ⊎_elim (s.below b)
            (λ new.
            let both = and_parts k.left k.right new in
            (a, is_common s a (has_left both.0, has_right both.1), (0, (b, subst (λ n. HasEdge g a n) (sym same) edge, refl))))
            (or_cases (m b).below (k.left && k.right) h)) (λ ne. s.below b);
        first = λ b h. kept_left m y r b (s.first b h);
        second = λ b h. kept_right m y r b (s.second b h);
        passed = λ c b closed e.
            let u = unchanged c closed in
            let p = s.passed c b (λ h. closed (keeps c h)) e in
            record {
              left = λ h. kept_left m y r b (p.left (sym u.0 ∙ h));
              right = λ h. kept_right m y r b (p.right (sym u.1 ∙ h));
              below = λ (l, h). kept_below m y r b (p.below (sym u.0 ∙ l, sym u.1 ∙ h));
            };
        common = λ c. (
          (λ h.
              let q = (s.common c).0 h in
              (kept_both m y r c q.0, (λ open_now. ⊎_elim q.1 (λ new. not_open_twice c new q.0) (adds c open_now)))),
          (λ (both, closed).
              let u = unchanged c closed in
              (s.common c).1 ((sym u.0 ∙ both.0, sym u.1 ∙ both.1), (λ h. closed (keeps c h)))),
        );
        once = s.once;
        leads = λ none acyclic c both.
            ⊎_elim
            (λ old. let w = s.leads none acyclic c old in (w.0, keeps w.0 w.1, kept_both m y r w.0 w.2, w.3))
            (λ new. (c, subst (λ n. Contains todo2 n) (sym new.0) (grown new.1), both, (0, refl)))
            (both_cases c both);
      }
    where
      not_open_twice : (c : ℕ) → (c ≡ y) × (adds_side (m y) (propagated k) ≡ true) → IsBoth (m c) → ⊥
      not_open_twice c (same, e) (l, h) =
          let l2 : (m y).left ≡ true = subst (λ n. (m n).left ≡ true) same l in
          let h2 : (m y).right ≡ true = subst (λ n. (m n).right ≡ true) same h in
          ⊎_elim
          (λ x. absurd (full (m y).left k.left l2 x))
          (λ x. absurd (full (m y).right k.right h2 x))
          (or_cases (k.left && not (m y).left) (k.right && not (m y).right) e)
        where
          full : (t r : Bool) → t ≡ true → (r && not t) ≡ true → ⊥
          full true true e f = true≢false (sym f)
          full true false e f = true≢false (sym f)
          full false r e f = true≢false (sym e)

      both_cases : (c : ℕ) → IsBoth (states_more m y (propagated k) c) → IsBoth (m c) ⊎ ((c ≡ y) × (adds_side (m y) (propagated k) ≡ true))
      both_cases c = at_mark m y (propagated k) c (λ l. IsBoth l → IsBoth (m c) ⊎ ((c ≡ y) × (adds_side (m y) (propagated k) ≡ true)))
          (λ same both. ⊎_elim (λ old. inl old) (λ new. inr (same, subst (λ n. adds_side (m n) (propagated k) ≡ true) same new)) (both_grown (m c) (propagated k) both)) (λ ne both. inl both)

  -- ---- an open node has passed on its state

  is_open : (todo : List ℕ) (c : ℕ) → Contains todo c ⊎ (Contains todo c → ⊥)
  is_open todo c =
      let P : Bool → Type 0 = λ t. has todo c ≡ t → Contains todo c ⊎ (Contains todo c → ⊥) in
      elim (has todo c) as P [ true ↦ λ e. inl (Contains-from_has todo c e) | false ↦ λ e. inr (λ h. true≢false (sym (has-from_Contains todo c h) ∙ e)) ] refl

  same_or_not : (a c : ℕ) → (c ≡ a) ⊎ (c ≡ a → ⊥)
  same_or_not a c =
      let P : Bool → Type 0 = λ t. c == a ≡ t → (c ≡ a) ⊎ (c ≡ a → ⊥) in
      elim (c == a) as P [ true ↦ λ e. inl ((Decides-eqb c a).0 e) | false ↦ λ e. inr (λ same. true≢false (sym ((Decides-eqb c a).1 same) ∙ e)) ] refl

  head_or_rest : (a : ℕ) (todo : List ℕ) (c : ℕ) → Contains (a ∷ todo) c → (a ≡ c) ⊎ Contains todo c
  head_or_rest a todo c (zero, lt, e) = inl e
  head_or_rest a todo c (suc n, lt, e) = inr (n, omega arith, e)

  pub marking_asked : {m : ℕ → Sides} {todo found : List ℕ} {rooted : Bool} (a : ℕ) (found2 : List ℕ) (is_root : Bool) → IsMarking m (a ∷ todo) found rooted
      → (Contains todo a → ⊥) → ((b : ℕ) → HasEdge g a b → Passes (m a) (m b))
      → ((c : ℕ) → Contains found2 c ↔ (Contains found c ⊎ ((c ≡ a) × IsBoth (m a)))) → IsDistinct eqb found2
      → (is_root ≡ false → (b : ℕ) × HasEdge g a b) → IsMarking m todo found2 (rooted || is_root)
  marking_asked {m} {todo} {found} {rooted} a found2 is_root s apart yielded finds once asked =
      let wide : (c : ℕ) → (Contains todo c → ⊥) → (c ≡ a → ⊥) → Contains (a ∷ todo) c → ⊥ = λ c closed ne h. ⊎_elim (λ same. ne (sym same)) closed (head_or_rest a todo c h) in
      record {
        left = s.left;
        right = s.right;
        below = s.below;
        first = s.first;
        second = s.second;
        passed = λ c b closed e. ⊎_elim (λ same. subst (λ n. Passes (m n) (m b)) (sym same) (yielded b (subst (λ n. HasEdge g n b) same e))) (λ ne. s.passed c b (wide c closed ne) e) (same_or_not a c);
        common = λ c. (
          (λ h. ⊎_elim
              (λ old. let q = (s.common c).0 old in (q.0, (λ open_now. q.1 (Contains-append_right (a ∷ []) todo c open_now))))
              (λ new. (subst (λ n. IsBoth (m n)) (sym new.0) new.1, (λ open_now. apart (subst (λ n. Contains todo n) new.0 open_now))))
              ((finds c).0 h)),
          (λ (both, closed). (finds c).1 (⊎_elim (λ same. inr (same, subst (λ n. IsBoth (m n)) same both)) (λ ne. inl ((s.common c).1 (both, wide c closed ne))) (same_or_not a c))),
        );
        once = once;
        leads = λ none acyclic c both.
            let parts = neither rooted is_root none in
            let w = s.leads parts.0 acyclic c both in
            ⊎_elim (λ at. goes_on parts.0 parts.1 acyclic c w.0 at w.2 w.3) (λ rest. (w.0, rest, w.2, w.3)) (head_or_rest a todo w.0 w.1);
      }
    where
      goes_on : rooted ≡ false → is_root ≡ false → HasNoCommonCycle g set1 set2 → (c w : ℕ) → a ≡ w → IsBoth (m w) → Reaches g c w → (v : ℕ) × Contains todo v × IsBoth (m v) × Reaches g c v
      goes_on none no_root acyclic c w at both way =
          let both_a : IsBoth (m a) = subst (λ n. IsBoth (m n)) (sym at) both in
          let way_a : Reaches g c a = subst (λ n. Reaches g c n) (sym at) way in
          let b = asked no_root in
          let p = yielded b.0 b.1 in
          let v = s.leads none acyclic b.0 (p.left both_a.0, p.right both_a.1) in
          ⊎_elim
          (λ round. absurd (acyclic a (is_common s a both_a) (edge_then_Reaches g a b.0 a b.1 (subst (λ n. Reaches g b.0 n) (sym round) v.3))))
          (λ rest. (v.0, rest, v.2, (let q = Reaches-then_strictly g c a v.0 way_a.0 way_a.1 (edge_then_Reaches g a b.0 v.0 b.1 v.3) in (suc q.0, q.1))))
          (head_or_rest a todo v.0 v.1)

  -- ---- the states at the end

  OpenAbove : List ℕ → ℕ → Type 0
  OpenAbove todo b = (w : ℕ) × Contains todo w × StrictlyReaches g w b

  on_left : {m : ℕ → Sides} {todo found : List ℕ} {rooted : Bool} → IsMarking m todo found rooted → (n c b : ℕ) → (m c).left ≡ true → IsWalkOfLength g c b n → ((m b).left ≡ true) ⊎ OpenAbove todo b
  unfolding OpenAbove
  on_left {m} k zero c b h p = inl (subst (λ x. (m x).left ≡ true) p h)
  on_left {m} {todo} k (suc n) c b h (d, e, p) =
      ⊎_elim (λ at. inr (c, at, (n, (d, e, p)))) (λ closed. on_left k n d b ((k.passed c d closed e).left h) p) (is_open todo c)

  on_right : {m : ℕ → Sides} {todo found : List ℕ} {rooted : Bool} → IsMarking m todo found rooted → (n c b : ℕ) → (m c).right ≡ true → IsWalkOfLength g c b n → ((m b).right ≡ true) ⊎ OpenAbove todo b
  unfolding OpenAbove
  on_right {m} k zero c b h p = inl (subst (λ x. (m x).right ≡ true) p h)
  on_right {m} {todo} k (suc n) c b h (d, e, p) =
      ⊎_elim (λ at. inr (c, at, (n, (d, e, p)))) (λ closed. on_right k n d b ((k.passed c d closed e).right h) p) (is_open todo c)

  below_both : {m : ℕ → Sides} {todo found : List ℕ} {rooted : Bool} → IsMarking m todo found rooted → (n c b : ℕ) → IsBoth (m c) → IsWalkOfLength g c b (suc n) → ((m b).below ≡ true) ⊎ OpenAbove todo b
  unfolding OpenAbove
  below_both {m} {todo} k zero c b h (d, e, p) =
      ⊎_elim (λ at. inr (c, at, (0, (d, e, p)))) (λ closed. inl (subst (λ x. (m x).below ≡ true) p ((k.passed c d closed e).below h))) (is_open todo c)
  below_both {m} {todo} k (suc n) c b h (d, e, p) =
      ⊎_elim (λ at. inr (c, at, (suc n, (d, e, p)))) (λ closed. let q = k.passed c d closed e in below_both k n d b (q.left h.0, q.right h.1) p) (is_open todo c)

  common_marked : {m : ℕ → Sides} {todo found : List ℕ} {rooted : Bool} → IsMarking m todo found rooted → (b : ℕ) → IsCommon g set1 set2 b → IsBoth (m b) ⊎ OpenAbove todo b
  common_marked k b ((s, at, (n, p)), (t, there, (o, q))) =
      ⊎_elim (λ l. ⊎_elim (λ r. inl (l, r)) (λ above. inr above) (on_right k o t b (k.second t there) q)) (λ above. inr above) (on_left k n s b (k.first s at) p)

  then_strictly : (w b a : ℕ) → StrictlyReaches g w b → StrictlyReaches g b a → StrictlyReaches g w a
  then_strictly w b a (n, p) q = Reaches-then_strictly g w b a (suc n) p q

  -- a node that a common node strictly reaches has the state, or an open node reaches it
  marked_or_open : {m : ℕ → Sides} {todo found : List ℕ} {rooted : Bool} → IsMarking m todo found rooted → (b a : ℕ) → IsCommon g set1 set2 b → StrictlyReaches g b a → ((m a).below ≡ true) ⊎ OpenAbove todo a
  unfolding OpenAbove
  marked_or_open k b a common (n, p) =
      ⊎_elim (λ both. below_both k n b a both p) (λ (w, at, way). inr (w, at, then_strictly w b a way (n, p))) (common_marked k b common)

  -- the end: at most one node is open, both sets reach it, and no root was found
  pub record IsAtEnd (m : ℕ → Sides) (todo found all : List ℕ) (rooted : Bool) : Type 0 where
    pub marking : IsMarking m todo found rooted
    pub one : (a b : ℕ) → Contains todo a → Contains todo b → a ≡ b
    pub last : (a : ℕ) → Contains todo a → IsBoth (m a) × (rooted ≡ false)
    pub either : (a : ℕ) → Contains all a ↔ (Contains found a ⊎ Contains todo a)
    pub each_once : IsDistinct eqb all

  pub end_common : {m : ℕ → Sides} {todo found all : List ℕ} {rooted : Bool} → IsAtEnd m todo found all rooted → (a : ℕ) → Contains all a → IsBoth (m a)
  end_common k a h = ⊎_elim (λ f. ((k.marking.common a).0 f).0) (λ o. (k.last a o).0) ((k.either a).0 h)

  -- an open node is not above a common one that was found
  not_above : {m : ℕ → Sides} {todo found all : List ℕ} {rooted : Bool} → IsAtEnd m todo found all rooted → HasNoCommonCycle g set1 set2 → (a : ℕ) → Contains all a → OpenAbove todo a → ⊥
  unfolding OpenAbove
  not_above k acyclic a h (w, at, way) =
      let last = k.last w at in
      let v = k.marking.leads last.1 acyclic a (end_common k a h) in
      acyclic w (is_common k.marking w last.0) (back w way v.0 (k.one v.0 w v.1 at) v.3)
    where
      back : (w : ℕ) → StrictlyReaches g w a → (v : ℕ) → v ≡ w → Reaches g a v → StrictlyReaches g w w
      back w (n, p) v same (o, q) =
          let r = Reaches-trans g w a v (suc n) p (o, q) in
          let s = strict w a v n p o q in
          subst (λ x. StrictlyReaches g w x) same s
        where
          strict : (w a v n : ℕ) → IsWalkOfLength g w a (suc n) → (o : ℕ) → IsWalkOfLength g a v o → StrictlyReaches g w v
          strict w a v n (d, e, p) o q = edge_then_Reaches g w d v e (Reaches-trans g d a v n p (o, q))

  pub end_maximal : {m : ℕ → Sides} {todo found all : List ℕ} {rooted : Bool} → IsAtEnd m todo found all rooted → HasNoCommonCycle g set1 set2
      → (a : ℕ) → Contains all a → (m a).below ≡ false → IsMaximal g (IsCommon g set1 set2) a
  end_maximal k acyclic a h fresh = (
    is_common k.marking a (end_common k a h),
    λ b common other way. ⊎_elim (λ marked. true≢false (sym marked ∙ fresh)) (λ above. not_above k acyclic a h above) (marked_or_open k.marking b a common way),
  )

  pub maximal_ends : {m : ℕ → Sides} {todo found all : List ℕ} {rooted : Bool} → IsAtEnd m todo found all rooted → HasNoCommonCycle g set1 set2
      → (a : ℕ) → IsMaximal g (IsCommon g set1 set2) a → Contains all a × ((m a).below ≡ false)
  unfolding OpenAbove
  maximal_ends {m} {todo} k acyclic a (common, maximal) =
      let alone : (c : ℕ) → IsCommon g set1 set2 c → StrictlyReaches g c a → ⊥ = λ c shared way.
      maximal c shared (λ same. acyclic a common (subst (λ x. StrictlyReaches g x a) same way)) way in
      let both : IsBoth (m a) = ⊎_elim (λ b. b) (λ (w, at, way). absurd (alone w (is_common k.marking w (k.last w at).0) way)) (common_marked k.marking a common) in
      let P : Bool → Type 0 = λ t. (m a).below ≡ t → (m a).below ≡ false in
      let fresh : (m a).below ≡ false = elim (m a).below as P [ true ↦ λ e. absurd (let c = k.marking.below a e in alone c.0 c.1 c.2) | false ↦ λ e. e ] refl in
      ((k.either a).1 (⊎_elim (λ o. inr o) (λ closed. inl ((k.marking.common a).1 (both, closed))) (is_open todo a)), fresh)

  -- ---- the end of a search in which no open node is above one that is not open

  -- a node with the first side passes it on to b, or an open node with it is above b
  on_left_open : {m : ℕ → Sides} {todo found : List ℕ} {rooted : Bool} → IsMarking m todo found rooted → (n c b : ℕ) → (m c).left ≡ true → IsWalkOfLength g c b n
      → ((m b).left ≡ true) ⊎ ((w : ℕ) × Contains todo w × ((m w).left ≡ true) × StrictlyReaches g w b)
  on_left_open {m} k zero c b h p = inl (subst (λ x. (m x).left ≡ true) p h)
  on_left_open {m} {todo} k (suc n) c b h (d, e, p) =
      ⊎_elim (λ at. inr (c, at, h, (n, (d, e, p)))) (λ closed. on_left_open k n d b ((k.passed c d closed e).left h) p) (is_open todo c)

  on_right_open : {m : ℕ → Sides} {todo found : List ℕ} {rooted : Bool} → IsMarking m todo found rooted → (n c b : ℕ) → (m c).right ≡ true → IsWalkOfLength g c b n
      → ((m b).right ≡ true) ⊎ ((w : ℕ) × Contains todo w × ((m w).right ≡ true) × StrictlyReaches g w b)
  on_right_open {m} k zero c b h p = inl (subst (λ x. (m x).right ≡ true) p h)
  on_right_open {m} {todo} k (suc n) c b h (d, e, p) =
      ⊎_elim (λ at. inr (c, at, h, (n, (d, e, p)))) (λ closed. on_right_open k n d b ((k.passed c d closed e).right h) p) (is_open todo c)

  -- One of the sides has no open node that is not below a common one.
  abbrev pub IsOneSided : (ℕ → Sides) → List ℕ → Type 0
  IsOneSided m todo = ((w : ℕ) → Contains todo w → (m w).left ≡ true → (m w).below ≡ true) ⊎ ((w : ℕ) → Contains todo w → (m w).right ≡ true → (m w).below ≡ true)

  -- no open node is above a node that has a side and is not open
  abbrev pub HasNoneAbove : (ℕ → Sides) → List ℕ → Type 0
  HasNoneAbove m todo = (a w : ℕ) → ((m a).left ≡ true) ⊎ ((m a).right ≡ true) → (Contains todo a → ⊥) → Contains todo w → StrictlyReaches g w a → ⊥

  pub found_maximal : {m : ℕ → Sides} {todo found : List ℕ} {rooted : Bool} → IsMarking m todo found rooted → HasNoneAbove m todo → (a : ℕ) → Contains found a → (m a).below ≡ false → IsMaximal g (IsCommon g set1 set2) a
  unfolding OpenAbove
  found_maximal k none a h fresh =
      let is = (k.common a).0 h in (
        is_common k a is.0,
        λ b common other way. ⊎_elim (λ marked. true≢false (sym marked ∙ fresh)) (λ (w, at, above). none a w (inl is.0.0) is.1 at above) (marked_or_open k b a common way),
      )

  pub maximal_found : {m : ℕ → Sides} {todo found : List ℕ} {rooted : Bool} → IsMarking m todo found rooted → HasNoneAbove m todo → IsOneSided m todo → ((a : ℕ) → StrictlyReaches g a a → ⊥)
      → (a : ℕ) → IsMaximal g (IsCommon g set1 set2) a → Contains found a × ((m a).below ≡ false)
  maximal_found {m} {todo} {found} k none stop acyclic a (((s, at, (n, p)), (t, there, (o, q))), maximal) =
      let alone : (c : ℕ) → IsCommon g set1 set2 c → StrictlyReaches g c a → ⊥ = λ c shared way. maximal c shared (λ same. acyclic a (subst (λ x. StrictlyReaches g x a) same way)) way in
      let lower : (w : ℕ) → (m w).below ≡ true → StrictlyReaches g w a → ⊥ = λ w is way. let (c, common, above) = k.below w is in alone c common (then_strictly c w a above way) in
      let P : Bool → Type 0 = λ b. (m a).below ≡ b → (m a).below ≡ false in
      let fresh : (m a).below ≡ false = elim (m a).below as P [ true ↦ λ e. absurd (let (c, common, above) = k.below a e in alone c common above) | false ↦ λ e. e ] refl in
      let finds : ((m a).left ≡ true) × ((m a).right ≡ true) × (Contains todo a → ⊥) = ⊎_elim
      (λ left_stop.
      let left : (m a).left ≡ true = ⊎_elim (λ l. l) (λ (w, open_now, has_left, way). absurd (lower w (left_stop w open_now has_left) way)) (on_left_open k n s a (k.first s at) p) in
      let closed : Contains todo a → ⊥ = λ h. true≢false (sym (left_stop a h left) ∙ fresh) in
      let right : (m a).right ≡ true = ⊎_elim (λ r. r) (λ (w, open_now, has_right, way). absurd (none a w (inl left) closed open_now way)) (on_right_open k o t a (k.second t there) q) in
      (left, right, closed))
      (λ right_stop.
      let right : (m a).right ≡ true = ⊎_elim (λ r. r) (λ (w, open_now, has_right, way). absurd (lower w (right_stop w open_now has_right) way)) (on_right_open k o t a (k.second t there) q) in
      let closed : Contains todo a → ⊥ = λ h. true≢false (sym (right_stop a h right) ∙ fresh) in
      let left : (m a).left ≡ true = ⊎_elim (λ l. l) (λ (w, open_now, has_left, way). absurd (none a w (inr right) closed open_now way)) (on_left_open k n s a (k.first s at) p) in
      (left, right, closed))
      stop in
      ((k.common a).1 ((finds.0, finds.1), finds.2), fresh)
