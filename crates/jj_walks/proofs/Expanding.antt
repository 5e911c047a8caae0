-- The graph of the item lists that a run received, and searches in all graphs that agree with it.
use Rattle.std.proofs.Common.{◌≡◌, ◌⊎◌, inl, inr, ℕ, zero, suc, Bool, true, false, true≢false, cond, Result, Ok, Err, List, [], ◌∷◌, ◌++◌, map, reverse, refl, sym, ◌∙◌, ap, subst, arith, ◌==◌, ⊎_elim}
use Rattle.std.specs.List.{Contains}
use Rattle.std.proofs.lemmas.Bool.Decides.{Decides-eqb}
use Rattle.std.proofs.lemmas.List.{map-append, reverse-append}
use Rattle.std.proofs.lemmas.List.Elements.{Contains-append_left, Contains-append_right, Contains-push}
use Rattle.jj_dag.specs.FallibleGraphs.{IsWalkingItems, ok_items}
use Rattle.jj_dag.specs.Walk.{AreNodes, GraphModel}
use Rattle.jj_dag.proofs.Walking.{has, has-from_Contains}
use Rattle.jj_dag.proofs.FailingWalks.{Contains-ok_items, item_is_node, item_tested, walking_item_entered, walking_item_failed, walking_item_passed, walking_items_start}
use Rattle.jj_walks.specs.Expansions.{Expansion, HasItemsOf, expansions_graph, item_of}
use Rattle.jj_walks.specs.DfsOkSteps.{IsWalkingExpansions}

-- ---- lists

pub first_or_rest : {X : Type 0} (x : X) (xs : List X) (y : X) → Contains (x ∷ xs) y → (x ≡ y) ⊎ Contains xs y
first_or_rest x xs y (zero, lt, e) = inl e
first_or_rest x xs y (suc k, lt, e) = inr (k, omega arith, e)

pub in_rest : {X : Type 0} (x : X) (xs : List X) (y : X) → Contains xs y → Contains (x ∷ xs) y
in_rest x xs y h = Contains-append_right (x ∷ []) xs y h

pub at_first : {X : Type 0} (x : X) (xs : List X) → Contains (x ∷ xs) x
at_first x xs = Contains-append_left (x ∷ []) xs x (Contains-push [] x)

pub in_map : {X Y : Type 0} (f : X → Y) (xs : List X) (x : X) → Contains xs x → Contains (map f xs) (f x)
in_map f [] x (k, lt, e) = absurd (omega arith)
in_map {Y = Y} f (y ∷ xs) x h =
    ⊎_elim (λ here. subst (λ z. Contains (f y ∷ map f xs) (f z)) here (at_first (f y) (map f xs))) (λ there. in_rest (f y) (map f xs) (f x) (in_map f xs x there)) (first_or_rest y xs x h)

pub in_reverse : {X : Type 0} (xs : List X) (x : X) → Contains xs x → Contains (reverse xs) x
in_reverse [] x h = h
in_reverse {X} (y ∷ xs) x h =
    let turned : reverse (y ∷ xs) ≡ reverse xs ++ y ∷ [] = reverse-append (y ∷ []) xs in
    subst (λ (l : List X). Contains l x) (sym turned)
    (⊎_elim (λ here. subst (λ (z : X). Contains (reverse xs ++ y ∷ []) z) here (Contains-push (reverse xs) y)) (λ there. Contains-append_left (reverse xs) (y ∷ []) x (in_reverse xs x there)) (first_or_rest y xs x h))

-- ---- items and their numbers

module _ {T E : Type 0} (number : T → ℕ) where
  pub numbered_back : (xs : List (Result T E)) (a : ℕ) → Contains (map (item_of number) xs) (Ok a) → (x : T) × Contains xs (Ok x) × (number x ≡ a)
  numbered_back [] a (k, lt, e) = absurd (omega arith)
  numbered_back (Ok y ∷ xs) a (zero, lt, e) = (y, at_first (Ok y) xs, cc)
  numbered_back (Ok y ∷ xs) a (suc k, lt, e) = let q = numbered_back xs a (k, omega arith, e) in (q.0, in_rest (Ok y) xs (Ok q.0) q.1, q.2)
  numbered_back (Err y ∷ xs) a (zero, lt, e) = cc
  numbered_back (Err y ∷ xs) a (suc k, lt, e) = let q = numbered_back xs a (k, omega arith, e) in (q.0, in_rest (Err y) xs (Ok q.0) q.1, q.2)

  -- one more list: of its node, and unchanged for other nodes
  graph_at_new : (x : Expansion T E) (expansions : List (Expansion T E)) → expansions_graph number (x ∷ expansions) (number x.node) ≡ map (item_of number) x.items
  graph_at_new x expansions = ap (λ b. cond b (map (item_of number) x.items) (expansions_graph number expansions (number x.node))) ((Decides-eqb (number x.node) (number x.node)).1 refl)

  graph_at_old : (x : Expansion T E) (expansions : List (Expansion T E)) (a : ℕ) → (number x.node ≡ a → ⊥) → expansions_graph number (x ∷ expansions) a ≡ expansions_graph number expansions a
  graph_at_old x expansions a other =
      let P : Bool → Type 0 = λ b. number x.node == a ≡ b → cond b (map (item_of number) x.items) (expansions_graph number expansions a) ≡ expansions_graph number expansions a in
      elim (number x.node == a) as P [
        | true ↦ λ e. absurd (other ((Decides-eqb (number x.node) a).0 e))
        | false ↦ λ e. refl
      ] refl

  pub has_one_more : (x : Expansion T E) (expansions : List (Expansion T E)) → HasItemsOf number (expansions_graph number expansions) expansions
      → ((y : Expansion T E) → Contains expansions y → number x.node ≡ number y.node → ⊥)
      → HasItemsOf number (expansions_graph number (x ∷ expansions)) (x ∷ expansions)
  has_one_more x expansions k fresh y h =
      ⊎_elim (λ here. subst (λ (z : Expansion T E). expansions_graph number (x ∷ expansions) (number z.node) ≡ map (item_of number) z.items) here (graph_at_new x expansions))
      (λ there. graph_at_old x expansions (number y.node) (fresh y there) ∙ k y there)
      (first_or_rest x expansions y h)

-- ---- the search

module _ {T ID E : Type 0} (g : GraphModel T ID) where
  abbrev pub numbers : List (Result T E) → List (Result ℕ E)
  numbers xs = map (item_of g.node) xs

  on_top : (work rest : List (Result T E)) (x : Result T E) → work ≡ rest ++ x ∷ [] → numbers work ≡ numbers rest ++ item_of g.node x ∷ []
  on_top work rest x e = ap numbers e ∙ map-append (item_of g.node) rest (x ∷ [])

  pub expansions_start : {test : ID → Bool} (starts : List (Result T E)) → AreNodes g (ok_items (numbers starts)) → ((i : ID) → test i ≡ false) → IsWalkingExpansions g test [] starts starts []
  expansions_start starts nodes nothing = record {
    has_items = λ x h. absurd (omega (arith, h.1));
    walking = λ graph h. walking_items_start g graph (numbers starts) nodes nothing;
  }

  pub on_top_is_node : {test : ID → Bool} {expansions : List (Expansion T E)} {starts work yielded : List (Result T E)} (rest : List (Result T E)) (x : T)
      → IsWalkingExpansions g test expansions starts work yielded → work ≡ rest ++ Ok x ∷ [] → g.is_node (g.node x) ≡ true
  on_top_is_node {expansions = expansions} {work = work} rest x k e = item_is_node g (expansions_graph g.node expansions) (numbers rest) (g.node x) (k.walking _ k.has_items) (on_top work rest (Ok x) e)

  pub expansions_passed : {test : ID → Bool} {expansions : List (Expansion T E)} {starts work yielded : List (Result T E)} (rest : List (Result T E)) (x : T) (i : ID)
      → IsWalkingExpansions g test expansions starts work yielded → work ≡ rest ++ Ok x ∷ [] → g.id i ≡ g.node x → true ≡ test i → IsWalkingExpansions g test expansions starts rest yielded
  expansions_passed {work = work} rest x i k e same is = record {
    has_items = k.has_items;
    walking = λ graph h. walking_item_passed g graph (numbers rest) (g.node x) i (k.walking graph h) (on_top work rest (Ok x) e) same is;
  }

  pub expansions_failed : {test : ID → Bool} {expansions : List (Expansion T E)} {starts work yielded : List (Result T E)} (rest : List (Result T E)) (error : E)
      → IsWalkingExpansions g test expansions starts work yielded → work ≡ rest ++ Err error ∷ [] → IsWalkingExpansions g test expansions starts rest (yielded ++ Err error ∷ [])
  expansions_failed {test} {starts = starts} {work = work} {yielded = yielded} rest error k e = record {
    has_items = k.has_items;
    walking = λ graph h. subst (λ (l : List (Result ℕ E)). IsWalkingItems g graph (numbers starts) test (numbers rest) l) (sym (map-append (item_of g.node) yielded (Err error ∷ [])))
        (walking_item_failed g graph (numbers rest) error (k.walking graph h) (on_top work rest (Err error) e));
  }

  pub expansions_entered : {test : ID → Bool} {expansions : List (Expansion T E)} {starts work yielded : List (Result T E)} (eq : ID → ID → Bool) (test2 : ID → Bool)
      (rest : List (Result T E)) (x : T) (i : ID) (below : List (Result T E))
      → AreNodes g (ok_items (numbers below)) → ((i j : ID) → g.is_node (g.id i) ≡ true → g.is_node (g.id j) ≡ true → eq i j ≡ (g.id i == g.id j))
      → ((y : Expansion T E) → Contains expansions y → Contains yielded (Ok y.node))
      → IsWalkingExpansions g test expansions starts work yielded → work ≡ rest ++ Ok x ∷ [] → g.id i ≡ g.node x → false ≡ test i
      → ((q : ID) → test2 q ≡ cond (eq i q) true (test q))
      → IsWalkingExpansions g test2 (record { node = x; items = below } ∷ expansions) starts (rest ++ below) (yielded ++ Ok x ∷ [])
  expansions_entered {test} {expansions} {starts} {work} {yielded} eq test2 rest x i below nodes apart expanded k e same is updates =
      let new : Expansion T E = record { node = x; items = below } in
      let top : numbers work ≡ numbers rest ++ Ok (g.node x) ∷ [] = on_top work rest (Ok x) e in
      let none = item_tested g (expansions_graph g.node expansions) (numbers rest) (g.node x) i false (k.walking _ k.has_items) top same is in
      record {
        has_items = has_one_more g.node new expansions k.has_items (λ y h same_number.
            let yielded_at : Contains (numbers yielded) (Ok (g.node y.node)) = in_map (item_of g.node) yielded (Ok y.node) (expanded y h) in
            let sound_at = has-from_Contains (ok_items (numbers yielded)) (g.node y.node) (Contains-ok_items (numbers yielded) (g.node y.node) yielded_at) in
            true≢false (sym sound_at ∙ subst (λ (a : ℕ). has (ok_items (numbers yielded)) a ≡ false) same_number none));
        walking = λ graph h.
            let listed : graph (g.node x) ≡ numbers below = h new (at_first new expansions) in
            let before = k.walking graph (λ y at. h y (in_rest new expansions y at)) in
            let after = walking_item_entered g graph eq test2 (numbers rest) (g.node x) i (subst (λ (l : List (Result ℕ E)). AreNodes g (ok_items l)) (sym listed) nodes) apart before top same is updates in
            let work_is : numbers rest ++ graph (g.node x) ≡ numbers (rest ++ below) = ap (λ (l : List (Result ℕ E)). numbers rest ++ l) listed ∙ sym (map-append (item_of g.node) rest below) in
            let given_is : numbers yielded ++ Ok (g.node x) ∷ [] ≡ numbers (yielded ++ Ok x ∷ []) = sym (map-append (item_of g.node) yielded (Ok x ∷ [])) in
            subst (λ (l : List (Result ℕ E)). IsWalkingItems g graph (numbers starts) test2 l (numbers (yielded ++ Ok x ∷ []))) work_is
            (subst (λ (l : List (Result ℕ E)). IsWalkingItems g graph (numbers starts) test2 (numbers rest ++ graph (g.node x)) l) given_is after);
      }
