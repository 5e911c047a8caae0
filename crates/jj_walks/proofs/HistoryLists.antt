-- The pending nodes of a history.
use Rattle.std.proofs.Common.{arith, ◌≡◌, ℕ, ◌+◌, ◌≤◌, Bool, true, false, not, cond, Option, None, Some, List, [], ◌∷◌, filter, find, count_by, refl, sym, ◌∙◌, ap, true≢false}
use Rattle.std.specs.Cmp.{IsEquivalence}
use Rattle.std.specs.List.{sum_by}
use Rattle.std.proofs.lemmas.List.Sums.{sum_by-cons}
use Rattle.jj_walks.specs.Grouped.{Entry, History, Prioritized, Read, Yielded, leads_to, pending_nodes, IsHistory}

pub congr-right : {ID : Type 0} {eq : ID → ID → Bool} → IsEquivalence eq → (x y z : ID) → eq x y ≡ true → eq z x ≡ eq z y
congr-right laws x y z e = laws.symm z x ∙ laws.congr x y z e ∙ laws.symm y z

module _ {N ID : Type 0} (eq : ID → ID → Bool) where
  -- no two entries have one id
  abbrev pub AreUnique : List (Entry N ID) → Type 0
  AreUnique [] = Unit {0}
  AreUnique (e ∷ es) = (find (λ f. eq f.id e.id) es ≡ None) × AreUnique es

  abbrev pub others : ID → List (Entry N ID) → List (Entry N ID)
  others i es = filter (λ f. not (eq i f.id)) es

  abbrev pub edges_in : ID → List (Entry N ID) → ℕ
  edges_in t es = sum_by (λ e. count_by (leads_to eq t) e.edges) es

  -- an entry that was found passes the test
  pub find-passes : (p : Entry N ID → Bool) (es : List (Entry N ID)) (e : Entry N ID) → find p es ≡ Some e → p e ≡ true
  find-passes p [] e h = cc
  find-passes p (f ∷ es) e h = go (find-passes p es e) (p f) refl h
    where
      go : (find p es ≡ Some e → p e ≡ true) → (b : Bool) → p f ≡ b → cond b (Some f) (find p es) ≡ Some e → p e ≡ true
      go rest true is k = let same : f ≡ e = cc in ap p (sym same) ∙ is
      go rest false is k = rest k

  -- the edges of an entry are among those of all
  pub edges-of_found : (t : ID) (p : Entry N ID → Bool) (es : List (Entry N ID)) (e : Entry N ID) → find p es ≡ Some e → count_by (leads_to eq t) e.edges ≤ edges_in t es
  edges-of_found t p [] e h = cc
  edges-of_found t p (f ∷ es) e h = go (edges-of_found t p es e) (p f) h
    where
      whole : edges_in t (f ∷ es) ≡ count_by (leads_to eq t) f.edges + edges_in t es
      whole = sum_by-cons (λ e. count_by (leads_to eq t) e.edges) f es

      go : (find p es ≡ Some e → count_by (leads_to eq t) e.edges ≤ edges_in t es) → (b : Bool) → cond b (Some f) (find p es) ≡ Some e → count_by (leads_to eq t) e.edges ≤ edges_in t (f ∷ es)
      go below true k = let same : f ≡ e = cc in let c : count_by (leads_to eq t) f.edges ≡ count_by (leads_to eq t) e.edges = ap (λ x. count_by (leads_to eq t) x.edges) same in omega (arith, whole, c)
      go below false k = let rest = below k in omega (arith, whole, rest)

  module _ (laws : IsEquivalence eq) where
    -- equal ids have one entry
    pub find-congr : (i j : ID) (es : List (Entry N ID)) → eq i j ≡ true → find (λ f. eq f.id i) es ≡ find (λ f. eq f.id j) es
    find-congr i j [] e = refl
    find-congr i j (f ∷ es) e = ap (λ b. cond b (Some f) (find (λ f. eq f.id i) es)) (congr-right laws i j f.id e) ∙ ap (λ o. cond (eq f.id j) (Some f) o) (find-congr i j es e)

    -- look-ups after the entries of an id were removed
    pub find-others : (i q : ID) (es : List (Entry N ID)) → find (λ f. eq f.id q) (others i es) ≡ cond (eq i q) None (find (λ f. eq f.id q) es)
    find-others i q [] = go (eq i q)
      where
        go : (b : Bool) → None ≡ cond {A = Option (Entry N ID)} b None None
        go true = refl
        go false = refl
    find-others i q (f ∷ es) = go (eq i f.id) refl (eq f.id q) refl (eq i q) refl (find-others i q es)
      where
        P : Entry N ID → Bool
        P = λ f. eq f.id q

        go : (b : Bool) → eq i f.id ≡ b → (d : Bool) → eq f.id q ≡ d → (r : Bool) → eq i q ≡ r → find P (others i es) ≡ cond r None (find P es)
            → find P (cond (not b) (f ∷ others i es) (others i es)) ≡ cond r None (cond d (Some f) (find P es))
        go true a true d true r k = k
        go true a true d false r k = absurd (true≢false (sym (laws.congr i f.id q a ∙ d) ∙ r))
        go true a false d true r k = k
        go true a false d false r k = k
        go false a true d true r k = absurd (true≢false (sym (congr-right laws f.id q i d ∙ r) ∙ a))
        go false a true d false r k = ap (λ b. cond b (Some f) (find P (others i es))) d
        go false a false d true r k = ap (λ b. cond b (Some f) (find P (others i es))) d ∙ k
        go false a false d false r k = ap (λ b. cond b (Some f) (find P (others i es))) d ∙ k

    others-unique : (i : ID) (es : List (Entry N ID)) → AreUnique es → AreUnique (others i es)
    others-unique i [] k = tt
    others-unique i (f ∷ es) (none, k) = go (others-unique i es k) (eq i f.id)
      where
        nothing : (b : Bool) → cond {A = Option (Entry N ID)} b None None ≡ None
        nothing true = refl
        nothing false = refl

        go : AreUnique (others i es) → (b : Bool) → AreUnique (cond (not b) (f ∷ others i es) (others i es))
        go rest true = rest
        go rest false = (find-others i f.id es ∙ ap (λ o. cond (eq i f.id) None o) none ∙ nothing (eq i f.id), rest)

    -- if no entry has the id, none is removed
    others-none : (i : ID) (es : List (Entry N ID)) → find (λ f. eq f.id i) es ≡ None → others i es ≡ es
    others-none i [] h = refl
    others-none i (f ∷ es) h = go (others-none i es) (eq f.id i) refl h
      where
        go : (find (λ f. eq f.id i) es ≡ None → others i es ≡ es) → (b : Bool) → eq f.id i ≡ b → cond b (Some f) (find (λ f. eq f.id i) es) ≡ None → others i (f ∷ es) ≡ f ∷ es
        go rest true is k = cc
        go rest false is k = ap (λ b. cond (not b) (f ∷ others i es) (others i es)) (laws.symm i f.id ∙ is) ∙ ap (λ l. f ∷ l) (rest k)

    -- the edges of the removed entry are no longer counted
    pub edges-others : (t i : ID) (es : List (Entry N ID)) (e : Entry N ID) → AreUnique es → find (λ f. eq f.id i) es ≡ Some e → edges_in t (others i es) + count_by (leads_to eq t) e.edges ≡ edges_in t es
    edges-others t i [] e k h = cc
    edges-others t i (f ∷ es) e (none, k) h = go (edges-others t i es e k) (eq f.id i) refl h
      where
        count : Entry N ID → ℕ
        count = λ e. count_by (leads_to eq t) e.edges

        whole : edges_in t (f ∷ es) ≡ count f + edges_in t es
        whole = sum_by-cons count f es

        go : (find (λ f. eq f.id i) es ≡ Some e → edges_in t (others i es) + count_by (leads_to eq t) e.edges ≡ edges_in t es) → (b : Bool) → eq f.id i ≡ b → cond b (Some f) (find (λ f. eq f.id i) es) ≡ Some e → edges_in t (others i (f ∷ es)) + count e ≡ edges_in t (f ∷ es)
        go below true is same =
            let here : f ≡ e = cc in
            let out : others i (f ∷ es) ≡ es = ap (λ b. cond (not b) (f ∷ others i es) (others i es)) (laws.symm i f.id ∙ is) ∙ others-none i es (sym (find-congr f.id i es is) ∙ none) in
            let a : edges_in t (others i (f ∷ es)) ≡ edges_in t es = ap (edges_in t) out in
            let b : count f ≡ count e = ap count here in
            omega (arith, a, b, whole)
        go below false is found =
            let out : others i (f ∷ es) ≡ f ∷ others i es = ap (λ b. cond (not b) (f ∷ others i es) (others i es)) (laws.symm i f.id ∙ is) in
            let a : edges_in t (others i (f ∷ es)) ≡ count f + edges_in t (others i es) = ap (edges_in t) out ∙ sum_by-cons count f (others i es) in
            let rest = below found in
            omega (arith, a, rest, whole)

    -- a history has at most one pending node per id
    pub pending-unique : (h : History N ID) → IsHistory eq h → AreUnique (pending_nodes eq h)
    pending-unique [] k = tt
    pending-unique (Prioritized i ∷ h) k = pending-unique h k
    pending-unique (Read e ∷ h) (none, k) = (none, pending-unique h k)
    pending-unique (Yielded e ∷ h) (next, k) = others-unique e.id (pending_nodes eq h) (pending-unique h k)
