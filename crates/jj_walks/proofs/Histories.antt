-- The order of the nodes yielded in a history of a grouped graph.
use Rattle.std.proofs.Common.{arith, ◌≡◌, ◌<◌, Bool, true, false, not, cond, ◌⊎◌, inl, inr, None, Some, List, [], ◌∷◌, filter, find, count_by, refl, sym, ◌∙◌, ap, subst, ⊎_elim}
use Rattle.std.specs.Cmp.{IsEquivalence}
use Rattle.std.specs.List.{Contains, list_any, sum_by}
use Rattle.std.proofs.lemmas.List.Elements.{Contains-append_right, Contains-append_cases, Contains-push_cases}
use Rattle.std.proofs.lemmas.List.Sums.{sum_by-cons}
use Rattle.jj_walks.specs.Grouped.{Entry, History, Prioritized, Read, Yielded, IsHistory, pending_nodes, leads_to, read_nodes, yielded_nodes}
use Rattle.jj_walks.proofs.HistoryLists.{AreUnique, pending-unique, find-congr}
use Rattle.jj_walks.proofs.KeptHistories.{leads-none}

pub cons-cases : {X : Type 0} (xs : List X) (y x : X) → Contains (y ∷ xs) x → (y ≡ x) ⊎ Contains xs x
cons-cases xs y x k = ⊎_elim (λ a. ⊎_elim (λ n. absurd (nothing n)) (λ e. inl e) (Contains-push_cases [] y x a)) (λ a. inr a) (Contains-append_cases (y ∷ []) xs x k)
  where
    nothing : Contains [] x → ⊥
    nothing (i, less, e) = absurd (omega arith)

pub cons-first : {X : Type 0} (xs : List X) (y x : X) → y ≡ x → Contains (y ∷ xs) x
cons-first xs y x e = (0, omega arith, e)

pub cons-later : {X : Type 0} (xs : List X) (y x : X) → Contains xs x → Contains (y ∷ xs) x
cons-later xs y x k = Contains-append_right (y ∷ []) xs x k

module _ {N ID : Type 0} {eq : ID → ID → Bool} (laws : IsEquivalence eq) where
  pub none-found : (i : ID) (es : List (Entry N ID)) (c : Entry N ID) → find (λ f. eq f.id i) es ≡ None → Contains es c → eq c.id i ≡ false
  none-found i [] c h (k, less, e) = absurd (omega arith)
  none-found i (f ∷ es) c h k = go (none-found i es c) (eq f.id i) refl h
    where
      go : (find (λ f. eq f.id i) es ≡ None → Contains es c → eq c.id i ≡ false) → (b : Bool) → eq f.id i ≡ b → cond b (Some f) (find (λ f. eq f.id i) es) ≡ None → eq c.id i ≡ false
      go rest true is n = cc
      go rest false is n = ⊎_elim (λ e. ap (λ x. eq x.id i) (sym e) ∙ is) (rest n) (cons-cases es f c k)

  -- a pending node stays pending until its id is yielded
  stays-pending : (i : ID) (es : List (Entry N ID)) (e c : Entry N ID) → AreUnique eq es → find (λ f. eq f.id i) es ≡ Some e → Contains es c → (e ≡ c) ⊎ Contains (filter (λ f. not (eq i f.id)) es) c
  stays-pending i [] e c u h (k, less, x) = absurd (omega arith)
  stays-pending i (f ∷ es) e c (none, u) h k = go (stays-pending i es e c u) (eq f.id i) refl h (cons-cases es f c k)
    where
      out : (b : Bool) → eq f.id i ≡ b → filter (λ x. not (eq i x.id)) (f ∷ es) ≡ cond (not b) (f ∷ filter (λ x. not (eq i x.id)) es) (filter (λ x. not (eq i x.id)) es)
      out b is = ap (λ b. cond (not b) (f ∷ filter (λ x. not (eq i x.id)) es) (filter (λ x. not (eq i x.id)) es)) (laws.symm i f.id ∙ is)

      kept : (xs : List (Entry N ID)) → ((x : Entry N ID) → Contains xs x → eq x.id i ≡ false) → (x : Entry N ID) → Contains xs x → Contains (filter (λ x. not (eq i x.id)) xs) x
      kept xs all x k = subst (λ (l : List (Entry N ID)). Contains l x) (sym (same xs all)) k
        where
          same : (xs : List (Entry N ID)) → ((x : Entry N ID) → Contains xs x → eq x.id i ≡ false) → filter (λ x. not (eq i x.id)) xs ≡ xs
          same [] all = refl
          same (x ∷ xs) all =
              ap (λ b. cond (not b) (x ∷ filter (λ x. not (eq i x.id)) xs) (filter (λ x. not (eq i x.id)) xs)) (laws.symm i x.id ∙ all x (cons-first xs x x refl))
              ∙ ap (λ l. x ∷ l) (same xs (λ y m. all y (cons-later xs x y m)))

      go : (find (λ f. eq f.id i) es ≡ Some e → Contains es c → (e ≡ c) ⊎ Contains (filter (λ f. not (eq i f.id)) es) c) → (b : Bool) → eq f.id i ≡ b → cond b (Some f) (find (λ f. eq f.id i) es) ≡ Some e
          → (f ≡ c) ⊎ Contains es c → (e ≡ c) ⊎ Contains (filter (λ x. not (eq i x.id)) (f ∷ es)) c
      go rest true is found (inl first) = inl (cc)
      go rest true is found (inr later) =
          let alone : find (λ x. eq x.id i) es ≡ None = sym (find-congr eq laws f.id i es is) ∙ none in
          inr (subst (λ (l : List (Entry N ID)). Contains l c) (sym (out true is)) (kept es (λ x m. none-found i es x alone m) c later))
      go rest false is found (inl first) = inr (subst (λ (l : List (Entry N ID)). Contains l c) (sym (out false is)) (cons-first (filter (λ x. not (eq i x.id)) es) f c first))
      go rest false is found (inr later) = ⊎_elim (λ e. inl e) (λ m. inr (subst (λ (l : List (Entry N ID)). Contains l c) (sym (out false is)) (cons-later (filter (λ x. not (eq i x.id)) es) f c m))) (rest found later)

  -- each node that was read was yielded or is pending
  pub read-yielded_or_held : (h : History N ID) → IsHistory eq h → (c : Entry N ID) → Contains (read_nodes h) c → Contains (yielded_nodes h) c ⊎ Contains (pending_nodes eq h) c
  read-yielded_or_held [] k c (i, less, e) = absurd (omega arith)
  read-yielded_or_held (Prioritized i ∷ h) k c m = read-yielded_or_held h k c m
  read-yielded_or_held (Read e ∷ h) (none, k) c m =
      ⊎_elim (λ first. inr (cons-first (pending_nodes eq h) e c first))
      (λ later. ⊎_elim (λ g. inl g) (λ a. inr (cons-later (pending_nodes eq h) e c a)) (read-yielded_or_held h k c later))
      (cons-cases (read_nodes h) e c m)
  read-yielded_or_held (Yielded e ∷ h) (next, k) c m =
      ⊎_elim (λ g. inl (cons-later (yielded_nodes h) e c g))
      (λ a. ⊎_elim (λ same. inl (cons-first (yielded_nodes h) e c same)) (λ l. inr l) (stays-pending e.id (pending_nodes eq h) e c (pending-unique eq laws h k) next.pending a))
      (read-yielded_or_held h k c m)

  pub edge-counts : (i : ID) (es : List (Entry N ID)) (c : Entry N ID) → Contains es c → list_any (leads_to eq i) c.edges ≡ true → 0 < sum_by (λ e. count_by (leads_to eq i) e.edges) es
  edge-counts i [] c (k, less, e) any = absurd (omega arith)
  edge-counts i (f ∷ es) c k any =
      let whole = sum_by-cons (λ e. count_by (leads_to eq i) e.edges) f es in
      ⊎_elim (λ same. let one : 0 < count_by (leads_to eq i) f.edges = leads-none eq i f.edges (ap (λ x. list_any (leads_to eq i) x.edges) same ∙ any) in omega (arith, whole, one))
      (λ later. let rest = edge-counts i es c later any in omega (arith, whole, rest)) (cons-cases es f c k)

  -- if nothing is pending, each node that was read was yielded
  pub read-yielded : (h : History N ID) → IsHistory eq h → pending_nodes eq h ≡ [] → (c : Entry N ID) → Contains (read_nodes h) c → Contains (yielded_nodes h) c
  read-yielded h k none c m = ⊎_elim (λ g. g) (λ a. absurd (nothing (subst (λ (l : List (Entry N ID)). Contains l c) none a))) (read-yielded_or_held h k c m)
    where
      nothing : Contains [] c → ⊥
      nothing (i, less, e) = absurd (omega arith)
