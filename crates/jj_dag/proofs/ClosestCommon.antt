-- Invariants of the map and the heap of a search for the closest common nodes.
use Rattle.std.proofs.Common.{◌≡◌, ℕ, zero, suc, ◌==◌, Bool, true, false, not, cond, ◌&&◌, ◌||◌, List, [], ◌∷◌, ◌++◌, map, refl, sym, ◌∙◌, ap, subst, arith, inl, inr, ◌⊎◌, ⊎_elim, true≢false, eqb}
use Rattle.std.specs.Prelude.{IsTrue}
use Rattle.std.specs.Bool.{MatchBool, one_answer}
use Rattle.std.specs.Cmp.{nat_eq_equiv}
use Rattle.std.specs.List.{Contains, IsDistinct, AllByRecursion, filter}
use Rattle.std.specs.List.Sorted.{IsPermutation}
use Rattle.std.proofs.lemmas.Bool.Decides.{Decides-eqb}
use Rattle.std.proofs.lemmas.List.{map-append}
use Rattle.std.proofs.lemmas.List.Elements.{Contains-append_left, Contains-append_right, Contains-append_cases, Contains-push, Contains-push_cases}
use Rattle.std.proofs.lemmas.List.Sorted.{IsPermutation-sym, IsPermutation-trans, IsPermutation-map, IsPermutation-to_front, Contains-permutation}
use Rattle.std.proofs.lemmas.Map.Keys.{IsDistinct-push, IsDistinct-head, IsDistinct-tail, IsDistinct-cons, IsDistinct-IsPermutation}
use Rattle.std.proofs.lemmas.Bool.{and_parts}
use Rattle.jj_dag.specs.declared.closest_common.Sides.{Sides}
use Rattle.jj_dag.specs.declared.closest_common.NodeState.{NodeState}
use Rattle.indexmap.specs.IndexMap.{insert_entry}
use Rattle.std.specs.Prelude.{if◌then◌else◌}
use Rattle.jj_dag.specs.CommonNodes.{HasNoCommonCycle, AreClosestCommon}
use Rattle.jj_dag.specs.CommonSearch.{KnowsStates, IsStarting, sides_of_sets}
use Rattle.jj_dag.specs.Graph.{HasEdge, ReachedFrom}
use Rattle.jj_dag.specs.NodeStates.{new_state, union_of_sides, adds_side, propagated, state_with, becomes_pending, no_longer_pending, closest_of}
use Rattle.jj_dag.specs.Walk.{GraphModel, AreNodes}
use Rattle.jj_dag.proofs.Collecting.{are_nodes}
use Rattle.jj_dag.proofs.CommonStates.{IsBoth, Passes, IsMarking, IsAtEnd, at_mark, states_more, marking_more, marking_asked, passes_marked, passes_kept, is_common, end_common, end_maximal, maximal_ends}
use Rattle.jj_dag.proofs.Reaching.{ReachedFrom-edge}
use Rattle.jj_dag.proofs.Walking.{has, has-push, has-from_Contains, Contains-from_has, Decides-has, eqb-flip}
use Rattle.jj_dag.proofs.Plain.{nothing}

-- ---- tests

or_false : (b : Bool) → (b || false) ≡ b
or_false true = refl
or_false false = refl

moved : (t h g : Bool) → g ≡ true → (t || h) ≡ (h || (t && g))
moved true true g e = refl
moved true false g e = sym e
moved false true g e = refl
moved false false g e = refl

absorbed : (h t g : Bool) → h ≡ true → h ≡ (h || (t && g))
absorbed true t g e = refl
absorbed false t g e = absurd (true≢false (sym e))

must_be_pending : (g v : Bool) → (g && not v) ≡ false → g ≡ true → v ≡ true
must_be_pending g true e f = refl
must_be_pending true false e f = absurd (true≢false e)
must_be_pending false false e f = absurd (true≢false (sym f))

pub is_false : (b : Bool) → not b ≡ true → b ≡ false
is_false true e = absurd (true≢false (sym e))
is_false false e = refl

true_not_false : {b : Bool} → b ≡ true → b ≡ false → ⊥
true_not_false e f = true≢false (sym e ∙ f)

-- ---- lists

has-permutation : (xs ys : List ℕ) → IsPermutation xs ys → (b : ℕ) → has ys b ≡ has xs b
has-permutation xs ys p b = one_answer (has ys b) (has xs b) (Decides-has ys b) ((λ e. Contains-permutation xs ys b p (Contains-from_has xs b e)), (λ h. has-from_Contains xs b (Contains-permutation ys xs b (IsPermutation-sym xs ys p) h)))

distinct_put : (xs ys : List ℕ) (y : ℕ) → IsPermutation (y ∷ xs) ys → IsDistinct eqb xs → has xs y ≡ false → IsDistinct eqb ys
distinct_put xs ys y p once fresh =
    IsDistinct-IsPermutation eqb eqb-flip (xs ++ y ∷ []) ys (IsPermutation-trans (xs ++ y ∷ []) (y ∷ xs) ys (IsPermutation-to_front xs y) p) (IsDistinct-push nat_eq_equiv xs y once fresh)

none_has : (y : ℕ) (xs : List ℕ) → AllByRecursion (λ z. eqb y z ≡ false) xs → has xs y ≡ false
none_has y [] a = refl
none_has y (x ∷ xs) a = ap (λ b. b || has xs y) a.0 ∙ none_has y xs a.1

all_apart : (y : ℕ) (p : ℕ → Bool) (xs : List ℕ) → AllByRecursion (λ z. eqb y z ≡ false) xs → AllByRecursion (λ z. eqb y z ≡ false) (filter p xs)
all_apart y p [] a = a
all_apart y p (x ∷ xs) a =
    let P : Bool → Type 0 = λ b. AllByRecursion (λ z. eqb y z ≡ false) (cond b (x ∷ filter p xs) (filter p xs)) in
    elim (p x) as P [ true ↦ (a.0, all_apart y p xs a.1) | false ↦ all_apart y p xs a.1 ]

pub distinct_filter : (p : ℕ → Bool) (xs : List ℕ) → IsDistinct eqb xs → IsDistinct eqb (filter p xs)
distinct_filter p [] once = once
distinct_filter p (x ∷ xs) once =
    let rest = distinct_filter p xs (IsDistinct-tail eqb x xs once) in
    let P : Bool → Type 0 = λ b. IsDistinct eqb (cond b (x ∷ filter p xs) (filter p xs)) in
    elim (p x) as P [ true ↦ IsDistinct-cons eqb x (filter p xs) (all_apart x p xs (IsDistinct-head eqb x xs once)) rest | false ↦ rest ]

head_or_rest : {A : Type 0} (x : A) (xs : List A) (a : A) → Contains (x ∷ xs) a → (x ≡ a) ⊎ Contains xs a
head_or_rest x xs a (zero, lt, e) = inl e
head_or_rest x xs a (suc n, lt, e) = inr (n, omega arith, e)

pub Contains-filtered : (p : ℕ → Bool) (xs : List ℕ) (a : ℕ) → Contains (filter p xs) a → Contains xs a × (p a ≡ true)
Contains-filtered p [] a (k, lt, e) = absurd (omega arith)
Contains-filtered p (x ∷ xs) a h =
    let later : Contains (filter p xs) a → Contains (x ∷ xs) a × (p a ≡ true) = λ l. let r = Contains-filtered p xs a l in (Contains-append_right (x ∷ []) xs a r.0, r.1) in
    let P : Bool → Type 0 = λ b. p x ≡ b → Contains (cond b (x ∷ filter p xs) (filter p xs)) a → Contains (x ∷ xs) a × (p a ≡ true) in
    elim (p x) as P [
      | true ↦ λ e l. ⊎_elim (λ same. ((0, omega arith, same), subst (λ n. p n ≡ true) same e)) later (head_or_rest x (filter p xs) a l)
      | false ↦ λ e l. later l
    ] refl h

pub Contains-passed : (p : ℕ → Bool) (xs : List ℕ) (a : ℕ) → Contains xs a → p a ≡ true → Contains (filter p xs) a
Contains-passed p [] a h e = h
Contains-passed p (x ∷ xs) a h e =
    let P : Bool → Type 0 = λ b. p x ≡ b → Contains (cond b (x ∷ filter p xs) (filter p xs)) a in
    elim (p x) as P [
      | true ↦ λ t. ⊎_elim (λ same. (0, omega arith, same)) (λ l. Contains-append_right (x ∷ []) (filter p xs) a (Contains-passed p xs a l e)) (head_or_rest x xs a h)
      | false ↦ λ t. ⊎_elim (λ same. absurd (true_not_false e (subst (λ n. p n ≡ false) same t))) (λ l. Contains-passed p xs a l e) (head_or_rest x xs a h)
    ] refl

-- a filter of values by a test of their numbers
filter_numbers : {A B : Type 0} (value : A → B) (number : B → ℕ) (p : A → Bool) (q : ℕ → Bool) (xs : List A) → ((x : A) → Contains xs x → p x ≡ q (number (value x)))
    → map number (map value (filter p xs)) ≡ filter q (map (λ x. number (value x)) xs)
filter_numbers value number p q [] same = refl
filter_numbers {A} value number p q (x ∷ xs) same =
    let rest = filter_numbers value number p q xs (λ y h. same y (Contains-append_right (x ∷ []) xs y h)) in
    let split : (b : Bool) → map number (map value (cond b (x ∷ filter p xs) (filter p xs))) ≡ cond b (number (value x) ∷ map number (map value (filter p xs))) (map number (map value (filter p xs))) =
    λ b. elim b as (λ b. map number (map value (cond b (x ∷ filter p xs) (filter p xs))) ≡ cond b (number (value x) ∷ map number (map value (filter p xs))) (map number (map value (filter p xs)))) [ true ↦ refl | false ↦ refl ] in
    split (p x) ∙ ap (λ b. cond b (number (value x) ∷ map number (map value (filter p xs))) (map number (map value (filter p xs)))) (same x (0, omega arith, refl))
    ∙ ap (λ l. cond (q (number (value x))) (number (value x) ∷ l) l) rest

-- a key that equals none of the keys goes last
pub insert_new : {K X : Type 0} (eq : K → K → Bool) (es : List (K × X)) (i : K) (x : X) → ((entry : K × X) → Contains es entry → eq i entry.0 ≡ false) → insert_entry eq es i x ≡ es ++ (i, x) ∷ []
insert_new eq [] i x apart = refl
insert_new eq (e ∷ es) i x apart =
    let no : eq i e.0 ≡ false = apart e (0, omega arith, refl) in
    let rest = insert_new eq es i x (λ entry h. apart entry (Contains-append_right (e ∷ []) es entry h)) in
    ap (λ t. if t then (e.0, x) ∷ es else e ∷ insert_entry eq es i x) no ∙ ap (λ l. e ∷ l) rest

module _ {T ID : Type 0} (w : GraphModel T ID) where
  abbrev pub Apart : (ID → ID → Bool) → Type 0
  Apart eq = (i j : ID) → w.is_node (w.id i) ≡ true → w.is_node (w.id j) ≡ true → eq i j ≡ (w.id i == w.id j)

  abbrev Numbers : List T → List ℕ
  Numbers xs = map w.node xs

  abbrev pub both_nodes : (xs ys : List ℕ) → AreNodes w xs → AreNodes w ys → AreNodes w (xs ++ ys)
  both_nodes xs ys first second = λ a h. ⊎_elim (first a) (second a) (Contains-append_cases xs ys a h)

  -- ---- sides are added to the state of a node

  -- by which one more may be pending
  abbrev pub Joins : (pending pending2 : List T) (y : ℕ) (known added : Sides) → Type 0
  Joins pending pending2 y known added = (b : ℕ) → has (map w.node pending2) b ≡ (has (map w.node pending) b || ((b == y) && adds_side known added))

  joins : (pending pending2 : List T) (x : T) (known added : Sides) (state : NodeState) → state ≡ record { sides = known; is_pending = has (map w.node pending) (w.node x) }
      → MatchBool (becomes_pending state added) (IsPermutation (x ∷ pending) pending2) (pending2 ≡ pending) → IsDistinct eqb (map w.node pending)
      → Joins pending pending2 (w.node x) known added × IsDistinct eqb (map w.node pending2)
  joins pending pending2 x known added state is puts once =
      let y = w.node x in
      let old = map w.node pending in
      let result : Type 0 = ((b : ℕ) → has (map w.node pending2) b ≡ (has old b || ((b == y) && adds_side known added))) × IsDistinct eqb (map w.node pending2) in
      let P : Bool → Type 0 = λ t. (adds_side known added && not (has old y)) ≡ t → MatchBool t (IsPermutation (x ∷ pending) pending2) (pending2 ≡ pending) → result in
      elim (adds_side known added && not (has old y)) as P [
        | true ↦ λ e p.
            let parts = and_parts (adds_side known added) (not (has old y)) e in
            let q = IsPermutation-map w.node (x ∷ pending) pending2 p in (
              (λ b. has-permutation (y ∷ old) (map w.node pending2) q b ∙ moved (b == y) (has old b) (adds_side known added) parts.0),
              distinct_put old (map w.node pending2) y q once (is_false (has old y) parts.1),
            )
        | false ↦ λ e same. (
          (λ b. ap (λ l. has (map w.node l) b) same ∙ stays b (b == y) (adds_side known added) refl refl e),
          subst (λ l. IsDistinct eqb (map w.node l)) (sym same) once,
        )
      ] refl (subst (λ k. MatchBool (becomes_pending k added) (IsPermutation (x ∷ pending) pending2) (pending2 ≡ pending)) is puts)
    where
      stays : (b : ℕ) (t g : Bool) → b == w.node x ≡ t → adds_side known added ≡ g → (adds_side known added && not (has (map w.node pending) (w.node x))) ≡ false
          → has (map w.node pending) b ≡ (has (map w.node pending) b || (t && g))
      stays b false g at is none = sym (or_false (has (map w.node pending) b))
      stays b true false at is none = sym (or_false (has (map w.node pending) b))
      stays b true true at is none =
          absorbed (has (map w.node pending) b) true true
          (subst (λ n. has (map w.node pending) n ≡ true) (sym ((Decides-eqb b (w.node x)).0 at)) (must_be_pending (adds_side known added) (has (map w.node pending) (w.node x)) none is))

  same_mark : (a b : Sides) (u v : Bool) → a ≡ b → u ≡ v → (let left : NodeState = record { sides = a; is_pending = u } in let right : NodeState = record { sides = b; is_pending = v } in left ≡ right)
  same_mark a b u v e f = let make : Sides → Bool → NodeState = λ r t. record { sides = r; is_pending = t } in ap (λ r. make r u) e ∙ ap (make b) f

  pub knows_more : (eq : ID → ID → Bool) (m : ℕ → Sides) (pending pending2 : List T) (find find2 : ID → NodeState) (x : T) (i : ID) (added : Sides) → Apart eq → KnowsStates w m pending find
      → w.is_node (w.node x) ≡ true → w.id i ≡ w.node x → ((q : ID) → find2 q ≡ cond (eq i q) (state_with (find i) added) (find q))
      → MatchBool (becomes_pending (find i) added) (IsPermutation (x ∷ pending) pending2) (pending2 ≡ pending)
      → KnowsStates w (states_more m (w.node x) added) pending2 find2 × Joins pending pending2 (w.node x) (m (w.node x)) added
  knows_more eq m pending pending2 find find2 x i added apart k here same updates puts =
      let y = w.node x in
      let here_id : w.is_node (w.id i) ≡ true = subst (λ n. w.is_node n ≡ true) (sym same) here in
      let old = map w.node pending in
      let is : find i ≡ record { sides = m y; is_pending = has old y } = k.knows i here_id ∙ ap (λ n. record { sides = m n; is_pending = has old n }) same in
      let more = joins pending pending2 x (m y) added (find i) is puts k.distinct in (
        record {
          knows = λ q there.
              let told : eq i q ≡ (w.id q == y) = apart i q here_id there ∙ ap (λ n. n == w.id q) same ∙ eqb-flip y (w.id q) in
              let new : NodeState = state_with (find i) added in
              let P : Bool → Type 0 = λ t. w.id q == y ≡ t
              → cond t new (find q) ≡ record { sides = cond t (union_of_sides (m (w.id q)) added) (m (w.id q)); is_pending = has (map w.node pending2) (w.id q) } in
              updates q ∙ ap (λ b. cond b new (find q)) told
              ∙ elim (w.id q == y) as P [
                | true ↦ λ e.
                    let at : w.id q ≡ y = (Decides-eqb (w.id q) y).0 e in
                    ap (λ state. state_with state added) is
                    ∙ same_mark (union_of_sides (m y) added) (union_of_sides (m (w.id q)) added) (has old y || adds_side (m y) added) (has (map w.node pending2) (w.id q)) (ap (λ n. union_of_sides (m n) added) (sym at))
                    (ap (λ n. has old n || adds_side (m y) added) (sym at) ∙ ap (λ t. has old (w.id q) || (t && adds_side (m y) added)) (sym e) ∙ sym (more.0 (w.id q)))
                | false ↦ λ e.
                    k.knows q there
                    ∙ same_mark (m (w.id q)) (m (w.id q)) (has old (w.id q)) (has (map w.node pending2) (w.id q)) refl
                    (sym (or_false (has old (w.id q))) ∙ ap (λ t. has old (w.id q) || (t && adds_side (m y) added)) (sym e) ∙ sym (more.0 (w.id q)))
              ] refl;
          distinct = more.1;
        },
        more.0,
      )

  -- ---- the sides are added to the nodes of the sets

  abbrev pub on_left : Sides
  on_left = record { left = true; right = false; below = false }

  abbrev pub on_right : Sides
  on_right = record { left = false; right = true; below = false }

  pub starting_none : (pending : List T) (find : ID → NodeState) → pending ≡ [] → ((i : ID) → find i ≡ new_state) → IsStarting w [] [] pending find
  unfolding IsDistinct
  starting_none pending find none unknown = rw none (record { states = record { knows = λ i h. unknown i; distinct = tt }; is_pending = λ b. refl })

  at_same : (b y : ℕ) (F : ℕ → Bool) → ((b == y) && F y) ≡ ((b == y) && F b)
  at_same b y F =
      let P : Bool → Type 0 = λ t. b == y ≡ t → (t && F y) ≡ (t && F b) in
      elim (b == y) as P [ true ↦ λ e. ap F (sym ((Decides-eqb b y).0 e)) | false ↦ λ e. refl ] refl

  left_mark : (t h g : Bool) → (let known : Sides = record { left = h; right = g; below = false } in let more : Sides = record { left = t || h; right = g; below = false } in cond t (union_of_sides known on_left) known ≡ more)
  left_mark true true true = refl
  left_mark true true false = refl
  left_mark true false true = refl
  left_mark true false false = refl
  left_mark false h g = refl

  right_mark : (t h g : Bool) → (let known : Sides = record { left = h; right = g; below = false } in let more : Sides = record { left = h; right = t || g; below = false } in cond t (union_of_sides known on_right) known ≡ more)
  right_mark true true true = refl
  right_mark true true false = refl
  right_mark true false true = refl
  right_mark true false false = refl
  right_mark false h g = refl

  left_pending : (t h g : Bool) → ((h || g) || (t && ((true && not h) || (false && not g)))) ≡ ((t || h) || g)
  left_pending true true g = refl
  left_pending true false true = refl
  left_pending true false false = refl
  left_pending false h g = or_false (h || g)

  right_pending : (t h g : Bool) → ((h || g) || (t && ((false && not h) || (true && not g)))) ≡ (h || (t || g))
  right_pending true true g = refl
  right_pending true false true = refl
  right_pending true false false = refl
  right_pending false h g = or_false (h || g)

  other_marks : (m m2 : ℕ → Sides) (pending : List T) (find : ID → NodeState) → ((b : ℕ) → m b ≡ m2 b) → KnowsStates w m pending find → KnowsStates w m2 pending find
  other_marks m m2 pending find same k = record {
    knows = λ i h. k.knows i h ∙ ap (λ r. record { sides = r; is_pending = has (map w.node pending) (w.id i) }) (same (w.id i));
    distinct = k.distinct;
  }

  pub starting_left : (eq : ID → ID → Bool) (set1 set2 : List ℕ) (pending pending2 : List T) (find find2 : ID → NodeState) (x : T) (i : ID) → Apart eq → IsStarting w set1 set2 pending find
      → w.is_node (w.node x) ≡ true → w.id i ≡ w.node x → ((q : ID) → find2 q ≡ cond (eq i q) (state_with (find i) on_left) (find q))
      → MatchBool (becomes_pending (find i) on_left) (IsPermutation (x ∷ pending) pending2) (pending2 ≡ pending) → IsStarting w (set1 ++ w.node x ∷ []) set2 pending2 find2
  starting_left eq set1 set2 pending pending2 find find2 x i apart k here same updates puts =
      let y = w.node x in
      let more = knows_more eq (sides_of_sets set1 set2) pending pending2 find find2 x i on_left apart k.states here same updates puts in
      record {
        states = other_marks (states_more (sides_of_sets set1 set2) y on_left) (sides_of_sets (set1 ++ y ∷ []) set2) pending2 find2
            (λ b. left_mark (b == y) (has set1 b) (has set2 b) ∙ ap (λ t. record { left = t; right = has set2 b; below = false }) (sym (has-push set1 y b))) more.0;
        is_pending = λ b.
            more.1 b ∙ ap (λ t. t || ((b == y) && adds_side (sides_of_sets set1 set2 y) on_left)) (k.is_pending b)
            ∙ ap (λ t. (has set1 b || has set2 b) || t) (at_same b y (λ n. adds_side (sides_of_sets set1 set2 n) on_left))
            ∙ left_pending (b == y) (has set1 b) (has set2 b) ∙ ap (λ t. t || has set2 b) (sym (has-push set1 y b));
      }

  pub starting_right : (eq : ID → ID → Bool) (set1 set2 : List ℕ) (pending pending2 : List T) (find find2 : ID → NodeState) (x : T) (i : ID) → Apart eq → IsStarting w set1 set2 pending find
      → w.is_node (w.node x) ≡ true → w.id i ≡ w.node x → ((q : ID) → find2 q ≡ cond (eq i q) (state_with (find i) on_right) (find q))
      → MatchBool (becomes_pending (find i) on_right) (IsPermutation (x ∷ pending) pending2) (pending2 ≡ pending) → IsStarting w set1 (set2 ++ w.node x ∷ []) pending2 find2
  starting_right eq set1 set2 pending pending2 find find2 x i apart k here same updates puts =
      let y = w.node x in
      let more = knows_more eq (sides_of_sets set1 set2) pending pending2 find find2 x i on_right apart k.states here same updates puts in
      record {
        states = other_marks (states_more (sides_of_sets set1 set2) y on_right) (sides_of_sets set1 (set2 ++ y ∷ [])) pending2 find2
            (λ b. right_mark (b == y) (has set1 b) (has set2 b) ∙ ap (λ t. record { left = has set1 b; right = t; below = false }) (sym (has-push set2 y b))) more.0;
        is_pending = λ b.
            more.1 b ∙ ap (λ t. t || ((b == y) && adds_side (sides_of_sets set1 set2 y) on_right)) (k.is_pending b)
            ∙ ap (λ t. (has set1 b || has set2 b) || t) (at_same b y (λ n. adds_side (sides_of_sets set1 set2 n) on_right))
            ∙ right_pending (b == y) (has set1 b) (has set2 b) ∙ ap (λ t. has set1 b || t) (sym (has-push set2 y b));
      }

  -- ---- the search

  pub record HoldsMarks (set1 set2 : List ℕ) (m : ℕ → Sides) (pending : List T) (common : List (ID × T)) (rooted : Bool) (find : ID → NodeState) : Type 0 where
    pub marking : IsMarking w.graph set1 set2 m (map w.node pending) (map (λ entry. w.node entry.1) common) rooted
    pub states : KnowsStates w m pending find
    pub ids : (entry : ID × T) → Contains common entry → w.id entry.0 ≡ w.node entry.1
    pub reached : (a : ℕ) → Contains (map w.node pending) a → ReachedFrom w.graph (set1 ++ set2) a

  or_true : (a b : Bool) → a ≡ true → (a || b) ≡ true
  or_true true b e = refl
  or_true false b e = absurd (true≢false (sym e))

  or_other : (a b : Bool) → b ≡ true → (a || b) ≡ true
  or_other true b e = refl
  or_other false b e = e

  or_one : (a b : Bool) → (a || b) ≡ true → (a ≡ true) ⊎ (b ≡ true)
  or_one true b e = inl refl
  or_one false b e = inr e

  pub started_holds : (set1 set2 : List ℕ) (pending : List T) (common : List (ID × T)) (find : ID → NodeState) → common ≡ [] → IsStarting w set1 set2 pending find
      → HoldsMarks set1 set2 (sides_of_sets set1 set2) pending common false find
  unfolding IsDistinct
  started_holds set1 set2 pending common find none k =
      let W = map w.node pending in
      let is_pending : (b : ℕ) → (has set1 b || has set2 b) ≡ true → Contains W b = λ b h. Contains-from_has W b (k.is_pending b ∙ h) in
      let nobody : (entry : ID × T) → Contains [] entry → ⊥ = λ entry (n, lt, e). omega arith in
      rw none (record {
        marking = record {
          left = λ a h. (a, Contains-from_has set1 a h, (0, refl));
          right = λ a h. (a, Contains-from_has set2 a h, (0, refl));
          below = λ a h. absurd (true≢false (sym h));
          first = λ a h. has-from_Contains set1 a h;
          second = λ a h. has-from_Contains set2 a h;
          passed = λ a b closed e. record {
            left = λ h. absurd (closed (is_pending a (or_true (has set1 a) (has set2 a) h)));
            right = λ h. absurd (closed (is_pending a (or_other (has set1 a) (has set2 a) h)));
            below = λ (l, h). absurd (closed (is_pending a (or_true (has set1 a) (has set2 a) l)));
          };
          common = λ a. ((λ h. absurd (nothing a h)), (λ (both, closed). absurd (closed (is_pending a (or_true (has set1 a) (has set2 a) both.0)))));
          once = tt;
          leads = λ rootless acyclic a both. (a, is_pending a (or_true (has set1 a) (has set2 a) both.0), both, (0, refl));
        };
        states = k.states;
        ids = λ entry h. absurd (nobody entry h);
        reached = λ a h. (
          a,
          ⊎_elim (λ l. Contains-append_left set1 set2 a (Contains-from_has set1 a l)) (λ r. Contains-append_right set1 set2 a (Contains-from_has set2 a r))
              (or_one (has set1 a) (has set2 a) (sym (k.is_pending a) ∙ has-from_Contains W a h)),
          (0, refl),
        );
      })

  -- the node a was popped, and its state was passed to its neighbors in `yielded`
  pub record HandsOn (set1 set2 : List ℕ) (m : ℕ → Sides) (a : ℕ) (known : Sides) (pending : List T) (common : List (ID × T)) (rooted : Bool) (find : ID → NodeState) (yielded : List ℕ) : Type 0 where
    pub marking : IsMarking w.graph set1 set2 m (a ∷ map w.node pending) (map (λ entry. w.node entry.1) common) rooted
    pub states : KnowsStates w m pending find
    pub ids : (entry : ID × T) → Contains common entry → w.id entry.0 ≡ w.node entry.1
    pub reached : (b : ℕ) → Contains (a ∷ map w.node pending) b → ReachedFrom w.graph (set1 ++ set2) b
    pub apart : has (map w.node pending) a ≡ false
    pub same_left : (m a).left ≡ known.left
    pub same_right : (m a).right ≡ known.right
    pub handed : (b : ℕ) → Contains yielded b → Passes known (m b)

  -- it is no longer pending
  hands_none : (eq : ID → ID → Bool) (set1 set2 : List ℕ) (m : ℕ → Sides) (pending pending2 : List T) (common : List (ID × T)) (rooted : Bool) (find find2 : ID → NodeState) (x : T) (i : ID) (known : Sides)
      → Apart eq → HoldsMarks set1 set2 m pending common rooted find → IsPermutation pending (x ∷ pending2) → w.is_node (w.node x) ≡ true → w.id i ≡ w.node x → known ≡ (find i).sides
      → (IsTrue (find i).is_pending → (q : ID) → find2 q ≡ cond (eq i q) (no_longer_pending (find i)) (find q)) → HandsOn set1 set2 m (w.node x) known pending2 common rooted find2 []
  hands_none eq set1 set2 m pending pending2 common rooted find find2 x i known apart k popped here same is updates =
      let y = w.node x in
      let W = map w.node pending in
      let later = map w.node pending2 in
      let moves : IsPermutation W (y ∷ later) = IsPermutation-map w.node pending (x ∷ pending2) popped in
      let to : (b : ℕ) → Contains W b → Contains (y ∷ later) b = λ b h. Contains-permutation W (y ∷ later) b moves h in
      let back : (b : ℕ) → Contains (y ∷ later) b → Contains W b = λ b h. Contains-permutation (y ∷ later) W b (IsPermutation-sym W (y ∷ later) moves) h in
      let once : IsDistinct eqb (y ∷ later) = IsDistinct-IsPermutation eqb eqb-flip W (y ∷ later) moves k.states.distinct in
      let fresh : has later y ≡ false = none_has y later (IsDistinct-head eqb y later once) in
      let here_id : w.is_node (w.id i) ≡ true = subst (λ n. w.is_node n ≡ true) (sym same) here in
      let state : find i ≡ record { sides = m y; is_pending = has W y } = k.states.knows i here_id ∙ ap (λ n. record { sides = m n; is_pending = has W n }) same in
      let was_queued : has W y ≡ true = has-from_Contains W y (back y (0, omega arith, refl)) in
      let told = updates (ap (λ state. state.is_pending) state ∙ was_queued) in
      let sides : known ≡ m y = is ∙ ap (λ state. state.sides) state in
      record {
        marking = record {
          left = k.marking.left;
          right = k.marking.right;
          below = k.marking.below;
          first = k.marking.first;
          second = k.marking.second;
          passed = λ c d closed e. k.marking.passed c d (λ h. closed (to c h)) e;
          common = λ c. ((λ h. let r = (k.marking.common c).0 h in (r.0, (λ at. r.1 (back c at)))), (λ (both, closed). (k.marking.common c).1 (both, (λ at. closed (to c at)))));
          once = k.marking.once;
          leads = λ rootless acyclic c both. let v = k.marking.leads rootless acyclic c both in (v.0, to v.0 v.1, v.2, v.3);
        };
        states = record {
          knows = λ q there.
              let equal : eq i q ≡ (w.id q == y) = apart i q here_id there ∙ ap (λ n. n == w.id q) same ∙ eqb-flip y (w.id q) in
              let new : NodeState = no_longer_pending (find i) in
              let P : Bool → Type 0 = λ t. w.id q == y ≡ t → cond t new (find q) ≡ record { sides = m (w.id q); is_pending = has later (w.id q) } in
              told q ∙ ap (λ b. cond b new (find q)) equal
              ∙ elim (w.id q == y) as P [
                | true ↦ λ e.
                    let at : w.id q ≡ y = (Decides-eqb (w.id q) y).0 e in
                    ap no_longer_pending state ∙ same_mark (m y) (m (w.id q)) false (has later (w.id q)) (ap m (sym at)) (sym fresh ∙ ap (has later) (sym at))
                | false ↦ λ e.
                    k.states.knows q there ∙ same_mark (m (w.id q)) (m (w.id q)) (has W (w.id q)) (has later (w.id q)) refl (sym (has-permutation W (y ∷ later) moves (w.id q)) ∙ ap (λ t. t || has later (w.id q)) e)
              ] refl;
          distinct = IsDistinct-tail eqb y later once;
        };
        ids = k.ids;
        reached = λ b h. k.reached b (back b h);
        apart = fresh;
        same_left = ap (λ r. r.left) (sym sides);
        same_right = ap (λ r. r.right) (sym sides);
        handed = λ b h. absurd (nothing b h);
      }

  -- a pending node is reached
  pub was_reached : {set1 set2 : List ℕ} {m : ℕ → Sides} {pending : List T} {common : List (ID × T)} {rooted : Bool} {find : ID → NodeState} (pending2 : List T) (x : T)
      → ((a : ℕ) → w.is_node a ≡ true → AreNodes w (w.graph a)) → AreNodes w set1 → AreNodes w set2 → HoldsMarks set1 set2 m pending common rooted find → IsPermutation pending (x ∷ pending2)
      → ReachedFrom w.graph (set1 ++ set2) (w.node x) × (w.is_node (w.node x) ≡ true)
  was_reached {set1} {set2} {pending = pending} pending2 x closed first second k popped =
      let W = map w.node pending in
      let moves : IsPermutation W (w.node x ∷ map w.node pending2) = IsPermutation-map w.node pending (x ∷ pending2) popped in
      let was_queued = Contains-permutation (w.node x ∷ map w.node pending2) W (w.node x) (IsPermutation-sym W (w.node x ∷ map w.node pending2) moves) (0, omega arith, refl) in
      let reached = k.reached (w.node x) was_queued in
      (reached, are_nodes {E = ℕ} w (λ a. []) (set1 ++ set2) closed (both_nodes set1 set2 first second) (w.node x) reached)

  -- the popped node is expanded: its neighbors get its sides
  pub asks : {set1 set2 : List ℕ} {m : ℕ → Sides} {pending pending2 : List T} {common : List (ID × T)} {rooted : Bool} {find : ID → NodeState} (eq : ID → ID → Bool) (find2 : ID → NodeState) (x : T) (i : ID) (known : Sides)
      → ((a : ℕ) → w.is_node a ≡ true → AreNodes w (w.graph a)) → Apart eq → AreNodes w set1 → AreNodes w set2 → HoldsMarks set1 set2 m pending common rooted find
      → IsPermutation pending (x ∷ pending2) → (w.is_node (w.node x) ≡ true → w.id i ≡ w.node x) → known ≡ (find i).sides
      → (IsTrue (find i).is_pending → (q : ID) → find2 q ≡ cond (eq i q) (no_longer_pending (find i)) (find q))
      → (w.is_node (w.node x) ≡ true) × (w.id i ≡ w.node x) × HandsOn set1 set2 m (w.node x) known pending2 common rooted find2 []
  asks {set1} {set2} {m} {pending} {pending2} {common} {rooted} {find} eq find2 x i known closed apart first second k popped named is updates =
      let here = (was_reached pending2 x closed first second k popped).1 in
      let same = named here in
      (here, same, hands_none eq set1 set2 m pending pending2 common rooted find find2 x i known apart k popped here same is updates)

  or_self : (b : Bool) → (b || b) ≡ b
  or_self true = refl
  or_self false = refl

  not_self : (b : Bool) → (b && not b) ≡ false
  not_self true = refl
  not_self false = refl

  and_false : (b : Bool) → (b && false) ≡ false
  and_false true = refl
  and_false false = refl

  full : (known added : Sides) → known.left ≡ added.left → known.right ≡ added.right → adds_side known (propagated added) ≡ false
  full known added l r =
      ap (λ t. (added.left && not t) || (added.right && not known.right)) l ∙ ap (λ t. (added.left && not added.left) || (added.right && not t)) r
      ∙ ap (λ t. t || (added.right && not added.right)) (not_self added.left) ∙ not_self added.right

  -- one neighbor more has it
  pub hands_more : (eq : ID → ID → Bool) (set1 set2 : List ℕ) (m : ℕ → Sides) (a : ℕ) (known : Sides) (pending pending2 : List T) (common : List (ID × T)) (rooted : Bool) (find find2 : ID → NodeState) (yielded : List ℕ) (x : T) (i : ID)
      → Apart eq → HandsOn set1 set2 m a known pending common rooted find yielded → HasEdge w.graph a (w.node x) → w.is_node (w.node x) ≡ true → w.id i ≡ w.node x
      → ((q : ID) → find2 q ≡ cond (eq i q) (state_with (find i) (propagated known)) (find q))
      → MatchBool (becomes_pending (find i) (propagated known)) (IsPermutation (x ∷ pending) pending2) (pending2 ≡ pending)
      → HandsOn set1 set2 (states_more m (w.node x) (propagated known)) a known pending2 common rooted find2 (yielded ++ w.node x ∷ [])
  hands_more eq set1 set2 m a known pending pending2 common rooted find find2 yielded x i apart k edge here same updates puts =
      let y = w.node x in
      let r = propagated known in
      let W = map w.node pending in
      let later = map w.node pending2 in
      let more = knows_more eq m pending pending2 find find2 x i r apart k.states here same updates puts in
      let keeps : (b : ℕ) → Contains (a ∷ W) b → Contains (a ∷ later) b = λ b h.
      ⊎_elim (λ first. (0, omega arith, first))
      (λ rest. Contains-append_right (a ∷ []) later b (Contains-from_has later b (more.1 b ∙ or_true (has W b) ((b == y) && adds_side (m y) r) (has-from_Contains W b rest))))
      (head_or_rest a W b h) in
      let adds : (b : ℕ) → Contains (a ∷ later) b → Contains (a ∷ W) b ⊎ ((b ≡ y) × (adds_side (m y) r ≡ true)) = λ b h.
      ⊎_elim (λ first. inl (0, omega arith, first))
      (λ rest. ⊎_elim (λ old. inl (Contains-append_right (a ∷ []) W b (Contains-from_has W b old)))
      (λ new. let parts = and_parts (b == y) (adds_side (m y) r) new in inr ((Decides-eqb b y).0 parts.0, parts.1))
      (or_one (has W b) ((b == y) && adds_side (m y) r) (sym (more.1 b) ∙ has-from_Contains later b rest)))
      (head_or_rest a later b h) in
      let grown : adds_side (m y) r ≡ true → Contains (a ∷ later) y = λ e.
      let t : (y == y) ≡ true = (Decides-eqb y y).1 refl in
      let f : ((y == y) && adds_side (m y) r) ≡ true = ap (λ b. b && adds_side (m y) r) t ∙ e in
      Contains-append_right (a ∷ []) later y (Contains-from_has later y (more.1 y ∙ or_other (has W y) ((y == y) && adds_side (m y) r) f)) in
      record {
        marking = marking_more w.graph set1 set2 (a ∷ later) known a y k.marking (λ h. k.same_left ∙ h) (λ h. k.same_right ∙ h) edge keeps adds grown;
        states = more.0;
        ids = k.ids;
        reached = λ b h. ⊎_elim (λ old. k.reached b old) (λ new. subst (λ n. ReachedFrom w.graph (set1 ++ set2) n) (sym new.0) (ReachedFrom-edge w.graph (set1 ++ set2) a y (k.reached a (0, omega arith, refl)) edge)) (adds b h);
        apart =
            more.1 a ∙ ap (λ t. t || ((a == y) && adds_side (m y) r)) k.apart ∙ at_same a y (λ n. adds_side (m n) r)
            ∙ ap (λ t. (a == y) && t) (full (m a) known k.same_left k.same_right) ∙ and_false (a == y);
        same_left = at_mark m y r a (λ l. l.left ≡ known.left) (λ at. ap (λ t. t || known.left) k.same_left ∙ or_self known.left) (λ ne. k.same_left);
        same_right = at_mark m y r a (λ l. l.right ≡ known.right) (λ at. ap (λ t. t || known.right) k.same_right ∙ or_self known.right) (λ ne. k.same_right);
        handed = λ b h. ⊎_elim (λ old. passes_kept m y r known b (k.handed b old)) (λ new. subst (λ n. Passes known (states_more m y r n)) new (passes_marked m known y)) (Contains-push_cases yielded y b h);
      }

  not_pending : {set1 set2 : List ℕ} {m : ℕ → Sides} {a : ℕ} {known : Sides} {pending : List T} {common : List (ID × T)} {rooted : Bool} {find : ID → NodeState} {yielded : List ℕ}
      → HandsOn set1 set2 m a known pending common rooted find yielded → Contains (map w.node pending) a → ⊥
  not_pending {a = a} {pending = pending} k h = true≢false (sym (has-from_Contains (map w.node pending) a h) ∙ k.apart)

  passes_all : {set1 set2 : List ℕ} {m : ℕ → Sides} {a : ℕ} {known : Sides} {pending : List T} {common : List (ID × T)} {rooted : Bool} {find : ID → NodeState} {yielded : List ℕ}
      → HandsOn set1 set2 m a known pending common rooted find yielded → ((b : ℕ) → HasEdge w.graph a b → Contains yielded b) → (b : ℕ) → HasEdge w.graph a b → Passes (m a) (m b)
  passes_all k all b edge =
      let p = k.handed b (all b edge) in
      record { left = λ h. p.left (sym k.same_left ∙ h); right = λ h. p.right (sym k.same_right ∙ h); below = λ (l, r). p.below (sym k.same_left ∙ l, sym k.same_right ∙ r) }

  not_found : {set1 set2 : List ℕ} {m : ℕ → Sides} {a : ℕ} {known : Sides} {pending : List T} {common : List (ID × T)} {rooted : Bool} {find : ID → NodeState} {yielded : List ℕ}
      → HandsOn set1 set2 m a known pending common rooted find yielded → has (map (λ entry. w.node entry.1) common) a ≡ false
  not_found {a = a} {common = common} k =
      let found = map (λ (entry : ID × T). w.node entry.1) common in
      let P : Bool → Type 0 = λ t. has found a ≡ t → t ≡ false in
      elim (has found a) as P [ true ↦ λ e. absurd (((k.marking.common a).0 (Contains-from_has found a e)).1 (0, omega arith, refl)) | false ↦ λ e. refl ] refl

  in_map : (entry : ID × T) (xs : List (ID × T)) → Contains xs entry → Contains (map (λ (e : ID × T). w.node e.1) xs) (w.node entry.1)
  in_map entry [] (n, lt, e) = absurd (omega arith)
  in_map entry (x ∷ xs) h = ⊎_elim (λ first. (0, omega arith, ap (λ (e : ID × T). w.node e.1) first)) (λ rest. Contains-append_right (w.node x.1 ∷ []) (map (λ (e : ID × T). w.node e.1) xs) (w.node entry.1) (in_map entry xs rest)) (head_or_rest x xs entry h)

  -- the id of the node is not among those of the candidates
  pub new_id : {set1 set2 : List ℕ} {m : ℕ → Sides} {known : Sides} {pending : List T} {common : List (ID × T)} {rooted : Bool} {find : ID → NodeState} {yielded : List ℕ} (eq : ID → ID → Bool) (x : T) (i : ID)
      → ((a : ℕ) → w.is_node a ≡ true → AreNodes w (w.graph a)) → Apart eq → AreNodes w set1 → HandsOn set1 set2 m (w.node x) known pending common rooted find yielded
      → w.is_node (w.node x) ≡ true → w.id i ≡ w.node x → (entry : ID × T) → Contains common entry → eq i entry.0 ≡ false
  new_id {set1 = set1} {common = common} eq x i closed apart nodes k here same entry h = by_test (eq i entry.0) refl
    where
      by_test : (t : Bool) → eq i entry.0 ≡ t → eq i entry.0 ≡ false
      by_test false e = e
      by_test true e =
          let a = w.node entry.1 in
          let found = map (λ (e : ID × T). w.node e.1) common in
          let listed : Contains found a = in_map entry common h in
          let is : w.is_node a ≡ true = are_nodes {E = ℕ} w (λ b. []) set1 closed nodes a (k.marking.left a ((k.marking.common a).0 listed).0.0) in
          let told = apart i entry.0 (subst (λ n. w.is_node n ≡ true) (sym same) here) (subst (λ n. w.is_node n ≡ true) (sym (k.ids entry h)) is) in
          let one : w.node x ≡ a = sym same ∙ (Decides-eqb (w.id i) (w.id entry.0)).0 (sym told ∙ e) ∙ k.ids entry h in
          absurd (true≢false (sym (has-from_Contains found (w.node x) (subst (Contains found) (sym one) listed)) ∙ not_found k))

  found_more : (common : List (ID × T)) (x : T) (i : ID) → map (λ (entry : ID × T). w.node entry.1) (common ++ (i, x) ∷ []) ≡ map (λ entry. w.node entry.1) common ++ w.node x ∷ []
  found_more common x i = map-append (λ (entry : ID × T). w.node entry.1) common ((i, x) ∷ [])

  pub ids_more : (common : List (ID × T)) (x : T) (i : ID) → ((entry : ID × T) → Contains common entry → w.id entry.0 ≡ w.node entry.1) → w.id i ≡ w.node x
      → (entry : ID × T) → Contains (common ++ (i, x) ∷ []) entry → w.id entry.0 ≡ w.node entry.1
  ids_more common x i ids same entry h = ⊎_elim (λ old. ids entry old) (λ new. subst (λ (e : ID × T). w.id e.0 ≡ w.node e.1) new same) (Contains-push_cases common (i, x) entry h)

  -- all its neighbors have it, and the node is common
  hands_common : {set1 set2 : List ℕ} {m : ℕ → Sides} {known : Sides} {pending : List T} {common : List (ID × T)} {rooted : Bool} {find : ID → NodeState} {yielded : List ℕ} (x : T) (i : ID) (is_root : Bool)
      → HandsOn set1 set2 m (w.node x) known pending common rooted find yielded → w.id i ≡ w.node x → IsBoth known
      → ((b : ℕ) → HasEdge w.graph (w.node x) b → Contains yielded b) → (is_root ≡ false → (b : ℕ) × HasEdge w.graph (w.node x) b)
      → HoldsMarks set1 set2 m pending (common ++ (i, x) ∷ []) (rooted || is_root) find
  hands_common {set1} {set2} {m} {known} {pending} {common} {rooted} {find} {yielded} x i is_root k same both all asked =
      let y = w.node x in
      let found = map (λ (entry : ID × T). w.node entry.1) common in
      let W = map w.node pending in
      let here : IsBoth (m y) = (k.same_left ∙ both.0, k.same_right ∙ both.1) in
      record {
        marking = rw (found_more common x i) (marking_asked w.graph set1 set2 y (found ++ y ∷ []) is_root k.marking (not_pending k) (passes_all k all)
            (λ c. (
              (λ h. ⊎_elim (λ old. inl old) (λ new. inr (sym new, here)) (Contains-push_cases found y c h)),
              (λ h. ⊎_elim (λ old. Contains-append_left found (y ∷ []) c old) (λ new. subst (λ n. Contains (found ++ y ∷ []) n) (sym new.0) (Contains-push found y)) h),
            ))
            (IsDistinct-push nat_eq_equiv found y k.marking.once (not_found k)) asked);
        states = k.states;
        ids = ids_more common x i k.ids same;
        reached = λ b h. k.reached b (Contains-append_right (y ∷ []) W b h);
      }

  -- all its neighbors have it, and the node is on one side
  hands_side : {set1 set2 : List ℕ} {m : ℕ → Sides} {a : ℕ} {known : Sides} {pending : List T} {common : List (ID × T)} {rooted : Bool} {find : ID → NodeState} {yielded : List ℕ} (is_root : Bool)
      → HandsOn set1 set2 m a known pending common rooted find yielded → (known.left && known.right) ≡ false
      → ((b : ℕ) → HasEdge w.graph a b → Contains yielded b) → (is_root ≡ false → (b : ℕ) × HasEdge w.graph a b)
      → HoldsMarks set1 set2 m pending common (rooted || is_root) find
  hands_side {set1} {set2} {m} {a} {known} {pending} {common} {rooted} {find} {yielded} is_root k side all asked =
      let found = map (λ (entry : ID × T). w.node entry.1) common in
      let W = map w.node pending in
      let not_both : (c : ℕ) → c ≡ a → IsBoth (m c) → ⊥ = λ c at (l, r).
      let left : known.left ≡ true = sym k.same_left ∙ subst (λ n. (m n).left ≡ true) at l in
      let right : known.right ≡ true = sym k.same_right ∙ subst (λ n. (m n).right ≡ true) at r in
      true≢false (sym (ap (λ t. t && known.right) left ∙ right) ∙ side) in
      record {
        marking = marking_asked w.graph set1 set2 a found is_root k.marking (not_pending k) (passes_all k all)
            (λ c. ((λ h. inl h), (λ h. ⊎_elim (λ old. old) (λ new. absurd (not_both c new.0 (subst (λ n. IsBoth (m n)) (sym new.0) new.1))) h)))
            k.marking.once asked;
        states = k.states;
        ids = k.ids;
        reached = λ b h. k.reached b (Contains-append_right (a ∷ []) W b h);
      }

  -- an expanded node, all of whose neighbors got its sides, becomes a candidate if both sets reach
  -- it
  pub hands_over : {set1 set2 : List ℕ} {m : ℕ → Sides} {known : Sides} {pending : List T} {common common2 : List (ID × T)} {rooted : Bool} {find : ID → NodeState} {yielded : List ℕ} (more : List (ID × T)) (x : T) (i : ID) (is_root : Bool)
      → HandsOn set1 set2 m (w.node x) known pending common rooted find yielded → w.id i ≡ w.node x → common2 ≡ cond (known.left && known.right) more common → more ≡ common ++ (i, x) ∷ []
      → ((b : ℕ) → HasEdge w.graph (w.node x) b → Contains yielded b) → (is_root ≡ false → (b : ℕ) × HasEdge w.graph (w.node x) b)
      → HoldsMarks set1 set2 m pending common2 (rooted || is_root) find
  hands_over {set1} {set2} {m} {known} {pending} {common} {common2} {rooted} {find} {yielded} more x i is_root k same kept added all asked = by (known.left && known.right) refl kept
    where
      Holds : List (ID × T) → Type 0
      Holds l = HoldsMarks set1 set2 m pending l (rooted || is_root) find

      by : (both : Bool) → (known.left && known.right) ≡ both → common2 ≡ cond both more common → Holds common2
      by true e is = subst Holds (sym (is ∙ added)) (hands_common x i is_root k same (and_parts known.left known.right e) all asked)
      by false e is = subst Holds (sym is) (hands_side is_root k e all asked)

  -- ---- the end

  -- one node was left, which both sets reach
  pub ends_early : {set1 set2 : List ℕ} {m : ℕ → Sides} {known : Sides} {pending : List T} {common : List (ID × T)} {rooted : Bool} {find : ID → NodeState} {yielded : List ℕ} (x : T) (i : ID)
      → HandsOn set1 set2 m (w.node x) known pending common rooted find yielded → pending ≡ [] → IsBoth known → rooted ≡ false
      → IsAtEnd w.graph set1 set2 m (w.node x ∷ []) (map (λ entry. w.node entry.1) common) (map (λ entry. w.node entry.1) (common ++ (i, x) ∷ [])) rooted
  ends_early {set1} {set2} {m} {known} {pending} {common} {rooted} {find} {yielded} x i k none both rootless =
      let y = w.node x in
      let found = map (λ (entry : ID × T). w.node entry.1) common in
      let alone : (b : ℕ) → Contains (y ∷ []) b → y ≡ b = λ b h. ⊎_elim (λ e. e) (λ r. absurd (nothing b r)) (head_or_rest y [] b h) in
      rw (found_more common x i) (record {
        marking = subst (λ l. IsMarking w.graph set1 set2 m (y ∷ map w.node l) found rooted) none k.marking;
        one = λ a b h g. sym (alone a h) ∙ alone b g;
        last = λ a h. (subst (λ n. IsBoth (m n)) (alone a h) (k.same_left ∙ both.0, k.same_right ∙ both.1), rootless);
        either = λ a. (
          (λ h. ⊎_elim (λ old. inl old) (λ new. inr (0, omega arith, new)) (Contains-push_cases found y a h)),
          (λ h. ⊎_elim (λ old. Contains-append_left found (y ∷ []) a old) (λ new. Contains-append_right found (y ∷ []) a new) h),
        );
        each_once = IsDistinct-push nat_eq_equiv found y k.marking.once (not_found k);
      })

  -- no node is pending
  pub ends : {set1 set2 : List ℕ} {m : ℕ → Sides} {pending : List T} {common : List (ID × T)} {rooted : Bool} {find : ID → NodeState} → HoldsMarks set1 set2 m pending common rooted find → pending ≡ []
      → IsAtEnd w.graph set1 set2 m [] (map (λ entry. w.node entry.1) common) (map (λ entry. w.node entry.1) common) rooted
  ends {set1} {set2} {m} {pending} {common} {rooted} {find} k none = record {
    marking = subst (λ l. IsMarking w.graph set1 set2 m (map w.node l) (map (λ (entry : ID × T). w.node entry.1) common) rooted) none k.marking;
    one = λ a b h. absurd (nothing a h);
    last = λ a h. absurd (nothing a h);
    either = λ a. ((λ h. inl h), (λ h. ⊎_elim (λ old. old) (λ new. absurd (nothing a new)) h));
    each_once = k.marking.once;
  }

  -- so the nodes without a common one above them are the closest ones
  pub closest_at_end : {set1 set2 : List ℕ} {m : ℕ → Sides} {pending : List T} {rooted : Bool} {find : ID → NodeState} (todo found : List ℕ) (all : List (ID × T))
      → IsAtEnd w.graph set1 set2 m todo found (map (λ entry. w.node entry.1) all) rooted → KnowsStates w m pending find → ((entry : ID × T) → Contains all entry → w.id entry.0 ≡ w.node entry.1)
      → ((a : ℕ) → w.is_node a ≡ true → AreNodes w (w.graph a)) → AreNodes w set1 → HasNoCommonCycle w.graph set1 set2
      → AreClosestCommon w.graph set1 set2 (map w.node (closest_of find all))
  closest_at_end {set1} {set2} {m} {pending} {rooted} {find} todo found all k states ids closed nodes acyclic =
      let number : ID × T → ℕ = λ entry. w.node entry.1 in
      let passes : ℕ → Bool = λ a. not (m a).below in
      let listed : (entry : ID × T) → Contains all entry → Contains (map number all) (w.node entry.1) = λ entry h. in_map entry all h in
      let is : (entry : ID × T) → Contains all entry → w.is_node (w.node entry.1) ≡ true = λ entry h.
      are_nodes {E = ℕ} w (λ a. []) set1 closed nodes (w.node entry.1) (is_common w.graph set1 set2 k.marking (w.node entry.1) (end_common w.graph set1 set2 k (w.node entry.1) (listed entry h))).0 in
      let same : (entry : ID × T) → Contains all entry → not (find entry.0).sides.below ≡ passes (w.node entry.1) = λ entry h.
      let here : w.is_node (w.id entry.0) ≡ true = subst (λ n. w.is_node n ≡ true) (sym (ids entry h)) (is entry h) in
      ap (λ state. not state.sides.below) (states.knows entry.0 here) ∙ ap passes (ids entry h) in
      let whole : map w.node (closest_of find all) ≡ filter passes (map number all) = filter_numbers (λ (entry : ID × T). entry.1) w.node (λ entry. not (find entry.0).sides.below) passes all same in
      rw whole (record {
        all = λ a. (
          (λ h. let r = Contains-filtered passes (map number all) a h in end_maximal w.graph set1 set2 k acyclic a r.0 (is_false (m a).below r.1)),
          (λ h. let r = maximal_ends w.graph set1 set2 k acyclic a h in Contains-passed passes (map number all) a r.0 (ap not r.1)),
        );
        once = distinct_filter passes (map number all) k.each_once;
      })
