-- The greatest child-first order by a relation of its nodes.
use Rattle.std.proofs.Common.{◌≡◌, ◌≢◌, ℕ, zero, suc, ◌<◌, ◌≤◌, true, false, List, [], ◌∷◌, ◌++◌, length, map, get_or, refl, sym, ◌∙◌, ap, subst, arith, true≢false, Less, Equal, Greater, length-append, eqb}
use Rattle.std.specs.Prelude.{AllPairs}
use Rattle.std.specs.Cmp.{IsTotalOrder}
use Rattle.std.specs.List.{Contains, IsDistinct}
use Rattle.std.specs.Ordering.{is_lt, nat_cmp, ordering_reverse}
use Rattle.std.specs.declared.cmp.Ordering.{Ordering}
use Rattle.std.proofs.lemmas.Bool.Decides.{nat_tests}
use Rattle.std.proofs.lemmas.List.{map-append}
use Rattle.std.proofs.lemmas.List.Elements.{Contains-append_left}
use Rattle.jj_dag.specs.Graph.{IsGreatestTopologicalOrder, IsTopologicalOrder, Precedes, ReachedFrom, StrictlyReaches}
use Rattle.jj_dag.specs.GreatestOrder.{IsGreatestOrder}
use Rattle.jj_dag.specs.NodeGraph.{IsChildFirstOrder, IsGreatestChildFirstOrder, NodeGraph}
use Rattle.jj_dag.specs.Walk.{GraphModel, IsOrderedLike}
use Rattle.jj_dag.proofs.NodeGraphs.{Contains-from_map, numbers_graph, one_node, path_down, reached_down, reached_up}
use Rattle.jj_dag.proofs.ReadyOrders.{at_split, distinct, here, later}
use Rattle.jj_dag.proofs.Relabelled.{Contains-map}

-- where the images are split at one of them, so are the values
split_values : {A B : Type 0} (f : A → B) (xs : List A) (front back : List B) (b : B) → map f xs ≡ front ++ b ∷ back
    → (a : A) × (firsts others : List A) × (xs ≡ firsts ++ a ∷ others) × (map f firsts ≡ front) × (f a ≡ b)
split_values f [] [] back b e = absurd cc
split_values f [] (y ∷ front) back b e = absurd cc
split_values f (x ∷ xs) [] back b e = let first : f x ≡ b = cc in (x, [], xs, refl, refl, first)
split_values f (x ∷ xs) (y ∷ front) back b e =
    let first : f x ≡ y = cc in
    let rest : map f xs ≡ front ++ b ∷ back = cc in
    let r = split_values f xs front back b rest in
    (r.0, x ∷ r.1, r.2, ap (λ l. x ∷ l) r.3, ap (λ l. f x ∷ l) r.4 ∙ ap (λ z. z ∷ front) first, r.5)

-- an image is that of a value
value_of : {A B : Type 0} (f : A → B) (xs : List A) (b : B) → Contains (map f xs) b → (a : A) × (f a ≡ b) × Contains xs a
value_of f [] b (k, within, is) = absurd (omega arith)
value_of f (x ∷ xs) b (zero, within, is) = (x, is, here x xs)
value_of f (x ∷ xs) b (suc k, within, is) = let r = value_of f xs b (k, omega arith, is) in (r.0, r.1, later x xs r.0 r.2)

-- of two different values in a total order, the one that is not less is above
pub less_back : {K : Type 0} {R : K → K → Ordering} → IsTotalOrder R → ((x y : K) → R x y ≡ Equal → x ≡ y) → (x y : K) → x ≢ y → is_lt (R x y) ≡ false → R y x ≡ Less
less_back {R = R} total ties x y differ told = by (R x y) refl told
  where
    by : (r : Ordering) → R x y ≡ r → is_lt r ≡ false → R y x ≡ Less
    by Less e h = absurd (true≢false h)
    by Equal e h = absurd (differ (ties x y e))
    by Greater e h = total.antisymm y x ∙ ap ordering_reverse e

module _ {T ID : Type 0} (cmp : T → T → Ordering) (w : GraphModel T ID) (starts : List ℕ) (order : List T) (k : IsGreatestOrder cmp w starts order) where
  -- where another child-first list first differs, its node is below
  pub greatest_by : (Below : ℕ → ℕ → Type 0) → ((x y : T) → Contains order x → Contains order y → w.node x ≢ w.node y → is_lt (cmp x y) ≡ false → Below (w.node y) (w.node x))
      → (other : List ℕ) → IsTopologicalOrder w.graph starts other → (prefix highs lows : List ℕ) (a b : ℕ) → map w.node order ≡ prefix ++ a ∷ highs → other ≡ prefix ++ b ∷ lows → a ≢ b → Below b a
  greatest_by Below below other o prefix highs lows a b e f ne =
      let (x, front, back, split, same, is_x) = split_values w.node order prefix highs a e in
      let in_other : Contains other b = subst (λ (l : List ℕ). Contains l b) (sym f) (at_split prefix b lows) in
      let (y, is_y, in_y) = value_of w.node order b ((k.child_first.all b).1 ((o.all b).0 in_other)) in
      let in_x : Contains order x = subst (λ (l : List T). Contains l x) (sym split) (at_split front x back) in
      let there : other ≡ map w.node front ++ w.node y ∷ lows = f ∙ ap (λ l. l ++ b ∷ lows) (sym same) ∙ ap (λ n. map w.node front ++ n ∷ lows) (sym is_y) in
      let told = k.greatest other o front back x y lows split in_y there in
      let differ : w.node x ≢ w.node y = λ alike. ne (sym is_x ∙ alike ∙ is_y) in
      subst (λ n. Below n a) is_y (subst (Below (w.node y)) is_x (below x y in_x in_y differ told))

  -- nodes that are numbered in the order of their values
  pub greatest_numbers : IsOrderedLike w cmp → IsGreatestTopologicalOrder w.graph starts (map w.node order)
  greatest_numbers ordered = record {
    child_first = k.child_first;
    greatest = greatest_by (λ b a. b < a) (λ x y in_x in_y differ told.
        let rank = ordered x y (is_node x in_x) (is_node y in_y) in
        less (w.node x) (w.node y) differ (subst (λ o. is_lt o ≡ false) rank told));
  }
    where
      is_node : (x : T) → Contains order x → w.is_node (w.node x) ≡ true
      is_node x h = k.nodes (w.node x) (Contains-map w.node order x h)

      less : (a b : ℕ) → a ≢ b → is_lt (nat_cmp a b) ≡ false → b < a
      less a b ne h = let le : b ≤ a = grind (arith, nat_tests) in omega (arith, le, ne)

-- ---- nodes of any type, by numbers

at_end : {A : Type 0} (firsts others : List A) (x d : A) → get_or (firsts ++ x ∷ others) (length firsts) d ≡ x
at_end [] others x d = refl
at_end (y ∷ firsts) others x d = at_end firsts others x d

-- an element does not come again
no_repeat : {A : Type 0} (firsts others : List A) (x : A) → AllPairs (λ a b. a ≢ b) (firsts ++ x ∷ others) → Contains firsts x → ⊥
no_repeat [] others x once (i, less, is) = absurd (omega arith)
no_repeat (y ∷ firsts) others x once (zero, less, is) =
    let long = length-append firsts (x ∷ others) in
    once 0 (suc (length firsts)) x (omega arith) (omega (arith, long)) (is ∙ sym (at_end firsts others x x))
no_repeat (y ∷ firsts) others x once (suc i, less, is) =
    no_repeat firsts others x (λ j k d before within. once (suc j) (suc k) d (omega (arith, before)) (omega (arith, within))) (i, omega (arith, less), is)

module _ {A : Type 0} (g : NodeGraph A) (number : A → ℕ) (id_of : ℕ → A) (inverse : (a : A) → id_of (number a) ≡ a) where
  distinct_up : (xs : List A) → AllPairs (λ a b. a ≢ b) xs → IsDistinct eqb (map number xs)
  distinct_up xs once = distinct (map number xs) (λ front back n e h.
      let (x, firsts, others, split, same, is) = split_values number xs front back n e in
      let again : Contains (map number firsts) n = subst (λ (l : List ℕ). Contains l n) (sym same) h in
      let (y, is_y, in_y) = value_of number firsts n again in
      let one : y ≡ x = one_node g number id_of inverse y x (is_y ∙ sym is) in
      no_repeat firsts others x (subst (AllPairs (λ a b. a ≢ b)) split once) (subst (Contains firsts) one in_y))

  -- the numbers of a child-first list
  child_first_up : (starts order : List A) → IsChildFirstOrder g starts order → IsTopologicalOrder (numbers_graph g number id_of inverse) (map number starts) (map number order)
  child_first_up starts order k = record {
    all = λ n. (
      λ h. let r = Contains-from_map number order n h in subst (ReachedFrom (numbers_graph g number id_of inverse) (map number starts)) (sym r.1) (reached_up g number id_of inverse starts r.0 ((k.all r.0).0 r.2)),
      λ h. let r = reached_down g number id_of inverse starts n h in subst (Contains (map number order)) (sym r.1) (Contains-map number order r.0 ((k.all r.0).1 r.2)),
    );
    once = distinct_up order k.once;
    before = λ n m h s.
        let r = Contains-from_map number order n h in
        let far = subst (λ z. StrictlyReaches (numbers_graph g number id_of inverse) z m) r.1 s in
        let below = path_down g number id_of inverse (suc far.0) r.0 m far.1 in
        let (front, back, split, inside) = k.before r.0 below.0 r.2 (far.0, below.2) in
        let up : Precedes (map number order) (number r.0) (number below.0) = (map number front, map number back, ap (map number) split ∙ map-append number front (r.0 ∷ back), Contains-map number back below.0 inside) in
        subst (λ z. Precedes (map number order) z m) (sym r.1) (subst (Precedes (map number order) (number r.0)) (sym below.1) up);
  }

  -- some values have the numbers of their keys
  numbers_of : {T : Type 0} (node : T → ℕ) (key : T → A) (xs : List T) → ((x : T) → Contains xs x → node x ≡ number (key x)) → map node xs ≡ map number (map key xs)
  numbers_of node key [] h = refl
  numbers_of node key (x ∷ xs) h = ap (λ n. n ∷ map node xs) (h x (here x xs)) ∙ ap (λ l. number (key x) ∷ l) (numbers_of node key xs (λ y inside. h y (later x xs y inside)))

  -- the greatest list of values, whose nodes are the numbers of their keys
  pub greatest_nodes : {T : Type 0} (cmp : T → T → Ordering) (node : T → ℕ) (key : T → A) (IsBelow : A → A → Type 0) (starts : List A) (order : List T)
      → ((other : List ℕ) → IsTopologicalOrder (numbers_graph g number id_of inverse) (map number starts) other → (prefix highs : List T) (x y : T) (lows : List ℕ) → order ≡ prefix ++ x ∷ highs → Contains order y
      → other ≡ map node prefix ++ node y ∷ lows → is_lt (cmp x y) ≡ false)
      → ((x : T) → Contains order x → node x ≡ number (key x)) → ((x y : T) → key x ≢ key y → is_lt (cmp x y) ≡ false → IsBelow (key y) (key x))
      → IsChildFirstOrder g starts (map key order) → IsGreatestChildFirstOrder IsBelow g starts (map key order)
  greatest_nodes {T} cmp node key IsBelow starts order first nodes below child = record {
    child_first = child;
    greatest = λ other o prefix highs lows a b e f ne.
        let (x, front, back, split, same, is_x) = split_values key order prefix highs a e in
        let in_other : Contains other b = subst (λ (l : List A). Contains l b) (sym f) (at_split prefix b lows) in
        let (y, is_y, in_y) = value_of key order b ((child.all b).1 ((o.all b).0 in_other)) in
        let fronts : map node front ≡ map number prefix =
        numbers_of node key front (λ z h. nodes z (subst (λ (l : List T). Contains l z) (sym split) (Contains-append_left front (x ∷ back) z h))) ∙ ap (map number) same in
        let there : map number other ≡ map node front ++ node y ∷ map number lows =
        ap (map number) f ∙ map-append number prefix (b ∷ lows) ∙ ap (λ l. l ++ number b ∷ map number lows) (sym fronts)
        ∙ ap (λ n. map node front ++ n ∷ map number lows) (ap number (sym is_y) ∙ sym (nodes y in_y)) in
        let told = first (map number other) (child_first_up starts other o) front back x y (map number lows) split in_y there in
        let differ : key x ≢ key y = λ alike. ne (sym is_x ∙ alike ∙ is_y) in
        subst (λ z. IsBelow z a) is_y (subst (IsBelow (key y)) is_x (below x y differ told));
  }
