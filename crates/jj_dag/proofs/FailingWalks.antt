-- Lemmas about depth-first walks over items that may fail.
use Rattle.std.proofs.Common.{◌≡◌, ℕ, zero, suc, Bool, true, false, cond, List, [], ◌∷◌, ◌++◌, map, reverse, refl, sym, ◌∙◌, ap, subst, arith, ◌==◌, append-nil, ⊎_elim, true≢false, Option, Result, Ok, Err}
use Rattle.std.proofs.lemmas.List.{reverse-append}
use Rattle.std.proofs.lemmas.List.Elements.{Contains-push, Contains-append_left, Contains-append_right, Contains-append_cases, filter_map-append}
use Rattle.std.specs.Iterator.{Yields, AlwaysYields}
use Rattle.std.proofs.lemmas.Iterator.{YieldsList}
use Rattle.std.specs.List.{Contains}
use Rattle.std.specs.Result.{result_ok}
use Rattle.jj_dag.specs.FallibleGraphs.{FallibleGraph, FalliblePreorder, ok_items, AreOkNodes, IsWalkingItems, BeginsWith}
use Rattle.jj_dag.specs.FallibleGraphs.FalliblePreorder.{ended, failed, passed, entered}
use Rattle.jj_dag.specs.Walk.{GraphModel, AreNodes}
use Rattle.jj_dag.proofs.Walking.{has, has-push, has-from_Contains, Contains-from_has, eqb-flip}
use Rattle.jj_dag.proofs.Plain.{or_cond}

-- ---- items that did not fail

pub ok_items-append : {X K : Type 0} (xs ys : List (Result X K)) → ok_items (xs ++ ys) ≡ ok_items xs ++ ok_items ys
ok_items-append xs ys = filter_map-append result_ok xs ys

pub Contains-ok_items : {K : Type 0} (xs : List (Result ℕ K)) (a : ℕ) → Contains xs (Ok a) → Contains (ok_items xs) a
Contains-ok_items [] a (k, lt, e) = absurd (omega arith)
Contains-ok_items (Ok x ∷ xs) a (zero, lt, e) = (0, omega arith, cc)
Contains-ok_items (Ok x ∷ xs) a (suc k, lt, e) = Contains-append_right (x ∷ []) (ok_items xs) a (Contains-ok_items xs a (k, omega arith, e))
Contains-ok_items (Err y ∷ xs) a (zero, lt, e) = cc
Contains-ok_items (Err y ∷ xs) a (suc k, lt, e) = Contains-ok_items xs a (k, omega arith, e)

pub Contains-from_ok_items : {X K : Type 0} (xs : List (Result X K)) (a : X) → Contains (ok_items xs) a → Contains xs (Ok a)
Contains-from_ok_items [] a (k, lt, e) = absurd (omega arith)
Contains-from_ok_items {X} {K} (Ok x ∷ xs) a (zero, lt, e) = let wrap : X → Result X K = λ n. Ok n in (0, omega arith, ap wrap e)
Contains-from_ok_items {X} {K} (Ok x ∷ xs) a (suc k, lt, e) = Contains-append_right {X = Result X K} (Ok x ∷ []) xs (Ok a) (Contains-from_ok_items xs a (k, omega arith, e))
Contains-from_ok_items {X} {K} (Err y ∷ xs) a h = Contains-append_right {X = Result X K} (Err y ∷ []) xs (Ok a) (Contains-from_ok_items xs a h)

-- ---- the walk

-- a walk over two lists is a walk over the one and then over the other
FalliblePreorder-append : {K : Type 0} (g : FallibleGraph K) (xs todo yielded out : List (Result ℕ K)) → FalliblePreorder g (xs ++ todo) yielded out
    → (mid : List (Result ℕ K)) × FalliblePreorder g xs yielded mid × FalliblePreorder g todo mid out
FalliblePreorder-append g [] todo yielded out p = (yielded, ended, p)
FalliblePreorder-append g (Err e ∷ xs) todo yielded out (failed p) =
    let q = FalliblePreorder-append g xs todo (yielded ++ Err e ∷ []) out p in (q.0, failed q.1, q.2)
FalliblePreorder-append g (Ok x ∷ xs) todo yielded out (passed h p) =
    let q = FalliblePreorder-append g xs todo yielded out p in (q.0, passed h q.1, q.2)
FalliblePreorder-append g (Ok x ∷ xs) todo yielded out (entered {below = below} h b p) =
    let q = FalliblePreorder-append g xs todo below out p in (q.0, entered h b q.1, q.2)

-- a walk has one result
pub FalliblePreorder-unique : {K : Type 0} (g : FallibleGraph K) (todo yielded a b : List (Result ℕ K)) → FalliblePreorder g todo yielded a → FalliblePreorder g todo yielded b → a ≡ b
FalliblePreorder-unique g [] yielded a b ended ended = refl
FalliblePreorder-unique g (Err e ∷ todo) yielded a b (failed p) (failed q) = FalliblePreorder-unique g todo (yielded ++ Err e ∷ []) a b p q
FalliblePreorder-unique g (Ok x ∷ todo) yielded a b (passed h p) (passed k q) = FalliblePreorder-unique g todo yielded a b p q
FalliblePreorder-unique g (Ok x ∷ todo) yielded a b (passed h p) (entered k m q) = absurd (k h)
FalliblePreorder-unique g (Ok x ∷ todo) yielded a b (entered h m p) (passed k q) = absurd (h k)
FalliblePreorder-unique {K} g (Ok x ∷ todo) yielded a b (entered {below = below} h m p) (entered {below = other} k n q) =
    let e : below ≡ other = FalliblePreorder-unique g (reverse (g x)) (yielded ++ Ok x ∷ []) below other m n in
    FalliblePreorder-unique g todo below a b p (subst (λ (l : List (Result ℕ K)). FalliblePreorder g todo l b) (sym e) q)

-- ---- the invariant of `dfs_ok`

module _ {T ID K : Type 0} (w : GraphModel T ID) (items : FallibleGraph K) where
  pub item_is_node : {starts : List (Result ℕ K)} {test : ID → Bool} {work yielded : List (Result ℕ K)} (rest : List (Result ℕ K)) (a : ℕ)
      → IsWalkingItems w items starts test work yielded → work ≡ rest ++ Ok a ∷ [] → w.is_node a ≡ true
  item_is_node {work = work} rest a k e =
      let ns : ok_items work ≡ ok_items rest ++ a ∷ [] = ap ok_items e ∙ ok_items-append rest (Ok a ∷ []) in
      k.nodes a (rw ns (Contains-push (ok_items rest) a))

  pub item_tested : {starts : List (Result ℕ K)} {test : ID → Bool} {work yielded : List (Result ℕ K)} (rest : List (Result ℕ K)) (a : ℕ) (i : ID) (b : Bool)
      → IsWalkingItems w items starts test work yielded → work ≡ rest ++ Ok a ∷ [] → w.id i ≡ a → b ≡ test i → has (ok_items yielded) a ≡ b
  item_tested {yielded = yielded} rest a i b walking e same is =
      let here : w.is_node (w.id i) ≡ true = rw same (item_is_node rest a walking e) in
      sym (ap (has (ok_items yielded)) same) ∙ sym (walking.knows i here) ∙ sym is

  pub walking_items_start : {test : ID → Bool} (starts : List (Result ℕ K)) → AreOkNodes w items starts → ((i : ID) → test i ≡ false) → IsWalkingItems w items starts test starts []
  walking_items_start starts nodes nothing = record { nodes = nodes; knows = λ i h. nothing i; rest = λ out p. p }

  keeps_nodes : {starts : List (Result ℕ K)} {test : ID → Bool} {work yielded : List (Result ℕ K)} (rest : List (Result ℕ K)) (x : Result ℕ K)
      → IsWalkingItems w items starts test work yielded → work ≡ rest ++ x ∷ [] → AreNodes w (ok_items rest)
  keeps_nodes {work = work} rest x k e =
      let ns : ok_items work ≡ ok_items rest ++ ok_items (x ∷ []) = ap ok_items e ∙ ok_items-append rest (x ∷ []) in
      λ a h. k.nodes a (rw ns (Contains-append_left (ok_items rest) (ok_items (x ∷ [])) a h))

  -- if the top of the work may be walked next, the rest is left
  continues : (starts work yielded rest : List (Result ℕ K)) (x : Result ℕ K) → work ≡ rest ++ x ∷ []
      → ((out : List (Result ℕ K)) → FalliblePreorder items (reverse work) yielded out → FalliblePreorder items (reverse starts) [] out)
      → (out : List (Result ℕ K)) → FalliblePreorder items (x ∷ reverse rest) yielded out → FalliblePreorder items (reverse starts) [] out
  continues starts work yielded rest x e k out p =
      let turned : reverse work ≡ x ∷ reverse rest = ap reverse e ∙ reverse-append rest (x ∷ []) in
      k out (subst (λ (l : List (Result ℕ K)). FalliblePreorder items l yielded out) (sym turned) p)

  pub walking_item_passed : {starts : List (Result ℕ K)} {test : ID → Bool} {work yielded : List (Result ℕ K)} (rest : List (Result ℕ K)) (a : ℕ) (i : ID)
      → IsWalkingItems w items starts test work yielded → work ≡ rest ++ Ok a ∷ [] → w.id i ≡ a → true ≡ test i → IsWalkingItems w items starts test rest yielded
  walking_item_passed {starts} {test} {work} {yielded} rest a i k e same is =
      let seen = Contains-from_ok_items yielded a (Contains-from_has (ok_items yielded) a (item_tested rest a i true k e same is)) in
      record { nodes = keeps_nodes rest (Ok a) k e; knows = k.knows; rest = λ out p. continues starts work yielded rest (Ok a) e k.rest out (passed seen p) }

  pub walking_item_failed : {starts : List (Result ℕ K)} {test : ID → Bool} {work yielded : List (Result ℕ K)} (rest : List (Result ℕ K)) (fault : K)
      → IsWalkingItems w items starts test work yielded → work ≡ rest ++ Err fault ∷ [] → IsWalkingItems w items starts test rest (yielded ++ Err fault ∷ [])
  walking_item_failed {starts} {test} {work} {yielded} rest fault k e =
      let same : ok_items (yielded ++ Err fault ∷ []) ≡ ok_items yielded = ok_items-append yielded (Err fault ∷ []) ∙ append-nil (ok_items yielded) in
      record {
        nodes = keeps_nodes rest (Err fault) k e;
        knows = λ i h. k.knows i h ∙ sym (ap (λ l. has l (w.id i)) same);
        rest = λ out p. continues starts work yielded rest (Err fault) e k.rest out (failed p);
      }

  pub walking_item_entered : {starts : List (Result ℕ K)} {test : ID → Bool} {work yielded : List (Result ℕ K)} (eq : ID → ID → Bool) (test2 : ID → Bool)
      (rest : List (Result ℕ K)) (a : ℕ) (i : ID)
      → AreNodes w (ok_items (items a)) → ((i j : ID) → w.is_node (w.id i) ≡ true → w.is_node (w.id j) ≡ true → eq i j ≡ (w.id i == w.id j))
      → IsWalkingItems w items starts test work yielded → work ≡ rest ++ Ok a ∷ [] → w.id i ≡ a → false ≡ test i
      → ((q : ID) → test2 q ≡ cond (eq i q) true (test q))
      → IsWalkingItems w items starts test2 (rest ++ items a) (yielded ++ Ok a ∷ [])
  walking_item_entered {starts} {test} {work} {yielded} eq test2 rest a i closed apart k e same is updates =
      let here : w.is_node a ≡ true = item_is_node rest a k e in
      let new : has (ok_items yielded) a ≡ false = item_tested rest a i false k e same is in
      let nodes2 : ok_items (yielded ++ Ok a ∷ []) ≡ ok_items yielded ++ a ∷ [] = ok_items-append yielded (Ok a ∷ []) in
      let fresh : Contains yielded (Ok a) → ⊥ = λ h. absurd (true≢false (sym (has-from_Contains (ok_items yielded) a (Contains-ok_items yielded a h)) ∙ new)) in
      record {
        nodes = λ b h. ⊎_elim (λ l. keeps_nodes rest (Ok a) k e b l) (λ r. closed b r)
            (Contains-append_cases (ok_items rest) (ok_items (items a)) b (rw (ok_items-append rest (items a)) at h));
        knows = λ j lt.
            let told : eq i j ≡ (w.id i == w.id j) = apart i j (rw same here) lt in
            let flip : (w.id i == w.id j) ≡ (w.id j == a) = rw same (eqb-flip a (w.id j)) in
            updates j ∙ ap (λ b. cond b true (test j)) (told ∙ flip) ∙ ap (λ b. cond (w.id j == a) true b) (k.knows j lt) ∙ or_cond (w.id j == a) (has (ok_items yielded) (w.id j))
            ∙ sym (has-push (ok_items yielded) a (w.id j)) ∙ sym (ap (λ l. has l (w.id j)) nodes2);
        rest = λ out p.
            let all = FalliblePreorder-append items (reverse (items a)) (reverse rest) (yielded ++ Ok a ∷ []) out
            (subst (λ (l : List (Result ℕ K)). FalliblePreorder items l (yielded ++ Ok a ∷ []) out) (reverse-append rest (items a)) p) in
            continues starts work yielded rest (Ok a) e k.rest out (entered fresh all.1 all.2);
      }

  -- if nothing is left to do, the walk is complete
  pub walked_items : {starts : List (Result ℕ K)} {test : ID → Bool} {work yielded : List (Result ℕ K)} → IsWalkingItems w items starts test work yielded → work ≡ []
      → FalliblePreorder items (reverse starts) [] yielded
  walked_items {yielded = yielded} k none =
      k.rest yielded (subst (λ (l : List (Result ℕ K)). FalliblePreorder items (reverse l) yielded yielded) (sym none) ended)

-- ---- prefixes of the items of an iterator

begun : {S A B : Type 0} (steps : S → Option A → S → Type 0) (v : A → B) (xs : List A) (ys : List B) (s t : S) → AlwaysYields steps v s ys → Yields steps s xs t → (rest : List B) × (ys ≡ map v xs ++ rest)
begun steps v [] ys s t h y = (ys, refl)
begun steps v (x ∷ xs) [] s t h (j, step, y) = absurd (h x j step)
begun steps v (x ∷ xs) (b ∷ ys) s t h (j, step, y) =
    let now = h.1 x j step in
    let more = begun steps v xs ys j t now.1 y in
    (more.0, cc (now.0, more.1))

-- the items that a value yields first are a prefix of its list
pub begun_are : {U S A B : Type 0} (becomes : U → S → Type 0) (steps : S → Option A → S → Type 0) (value : U) (xs : List A) (v : A → B) (ys : List B)
    → ((it : S) → becomes value it → YieldsList steps v it ys) → BeginsWith becomes steps value xs → (rest : List B) × (ys ≡ map v xs ++ rest)
begun_are becomes steps value xs v ys h d = begun steps v xs ys d.0 d.2.0 (h d.0 d.1).runs d.2.1
