-- The results of reads with the ids that were read, and the graph of such results.
use Rattle.std.proofs.Common.{◌≡◌, ◌⊎◌, inl, inr, ⊎_elim, ℕ, zero, suc, Bool, true, false, true≢false, cond, ◌==◌, Result, Ok, Err, List, [], ◌∷◌, ◌++◌, map, refl, sym, ◌∙◌, ap, subst, arith}
use Rattle.std.specs.Prelude.{filter_map, if◌then◌else◌}
use Rattle.std.specs.List.{Contains}
use Rattle.std.specs.Result.{result_err}
use Rattle.std.proofs.lemmas.Bool.Decides.{Decides-eqb}
use Rattle.jj_backend.specs.Objects.{Objects}
use Rattle.jj_backend.specs.declared.backend.errors.BackendError.{BackendError}
use Rattle.jj_backend.specs.declared.backend.errors.BackendError.TheVariants.{Memory}
use Rattle.jj_dag.specs.FallibleGraphs.{FallibleGraph}
use Rattle.jj_walks.specs.Expansions.{Expansion, expansions_graph, item_of}
use Rattle.jj_walks.proofs.Expanding.{at_first, first_or_rest, in_rest}
use Rattle.jj_store_walks.specs.ReadCommits.{IsReadFailure}
use Rattle.jj_store_walks.specs.ReadResults.{AreReads, IsReadOf}
use Rattle.jj_store_walks.specs.declared.read_commit.ReadCommit.{ReadCommit}
use Rattle.jj_store_walks.proofs.Commits.{node_of}
use Rattle.jj_store_walks.proofs.LabelledRuns.{plain}
use Rattle.jj_store_walks.proofs.ReadResults.{Item}

-- a failed read: the id and the error
abbrev pub Failure : Type 0
Failure = List ℕ × BackendError

abbrev pub Labelled : Type 0
Labelled = Result ℕ Failure

-- ---- errors among items

pub failures_in : {X K : Type 0} (xs : List (Result X K)) (e : K) → Contains xs (Err e) → Contains (filter_map result_err xs) e
failures_in [] e h = absurd (omega (arith, h.1))
failures_in (Ok x ∷ xs) e (zero, lt, is) = cc
failures_in (Ok x ∷ xs) e (suc k, lt, is) = failures_in xs e (k, omega arith, is)
failures_in (Err f ∷ xs) e (zero, lt, is) = (0, omega arith, cc)
failures_in (Err f ∷ xs) e (suc k, lt, is) = in_rest f (filter_map result_err xs) e (failures_in xs e (k, omega arith, is))

pub from_failures : {X K : Type 0} (xs : List (Result X K)) (e : K) → Contains (filter_map result_err xs) e → Contains xs (Err e)
from_failures [] e h = absurd (omega (arith, h.1))
from_failures (Ok x ∷ xs) e h = in_rest (Ok x) xs (Err e) (from_failures xs e h)
from_failures {X} {K} (Err f ∷ xs) e h =
    ⊎_elim (λ same. subst (λ (z : K). Contains (Err f ∷ xs) (Err z)) same (at_first (Err f) xs)) (λ later. in_rest (Err f) xs (Err e) (from_failures xs e later)) (first_or_rest f (filter_map result_err xs) e h)

pub errors_append : {X K : Type 0} (xs ys : List (Result X K)) → filter_map result_err (xs ++ ys) ≡ filter_map result_err xs ++ filter_map result_err ys
errors_append [] ys = refl
errors_append (Ok x ∷ xs) ys = errors_append xs ys
errors_append (Err e ∷ xs) ys = ap (λ l. e ∷ l) (errors_append xs ys)

pub errors_plain : (xs : List Labelled) → map (λ (f : Failure). f.1) (filter_map result_err xs) ≡ filter_map result_err (map plain xs)
errors_plain [] = refl
errors_plain (Ok a ∷ xs) = errors_plain xs
errors_plain (Err f ∷ xs) = ap (λ l. f.1 ∷ l) (errors_plain xs)

pub errors_numbered : {T E : Type 0} (number : T → ℕ) (xs : List (Result T E)) → filter_map result_err (map (item_of number) xs) ≡ filter_map result_err xs
errors_numbered number [] = refl
errors_numbered number (Ok x ∷ xs) = errors_numbered number xs
errors_numbered number (Err e ∷ xs) = ap (λ l. e ∷ l) (errors_numbered number xs)

-- ---- results with their ids

abbrev pub head_of : List (List ℕ) → List ℕ
head_of [] = []
head_of (id ∷ ids) = id

abbrev pub rest_of : List (List ℕ) → List (List ℕ)
rest_of [] = []
rest_of (id ∷ ids) = ids

module _ (may_fail : BackendError → Type 0) (store : Objects) where
  abbrev node : ReadCommit → ℕ
  node = node_of may_fail store

  -- the results of reading these ids, each error with its id
  abbrev pub labels : List (List ℕ) → List Item → List Labelled
  labels ids [] = []
  labels ids (Ok c ∷ xs) = Ok (node c) ∷ labels (rest_of ids) xs
  labels ids (Err e ∷ xs) = Err (head_of ids, e) ∷ labels (rest_of ids) xs

  pub labels_plain : (ids : List (List ℕ)) (xs : List Item) → map plain (labels ids xs) ≡ map (item_of node) xs
  labels_plain ids [] = refl
  labels_plain ids (Ok c ∷ xs) = ap (λ l. Ok (node c) ∷ l) (labels_plain (rest_of ids) xs)
  labels_plain ids (Err e ∷ xs) = ap (λ l. Err e ∷ l) (labels_plain (rest_of ids) xs)

  none_in : (ids : List (List ℕ)) (xs : List Item) (y : Labelled) {A : Type 0} → xs ≡ [] → Contains (labels ids xs) y → A
  none_in ids [] y same h = absurd (omega (arith, h.1))
  none_in ids (x ∷ xs) y same h = absurd cc

  -- a labelled error is one of reading this id
  pub labels_failed : (ids : List (List ℕ)) (xs : List Item) → AreReads may_fail store ids xs → (id : List ℕ) (e : BackendError) → Contains (labels ids xs) (Err (id, e)) → Contains ids id × IsReadFailure may_fail store e id
  labels_failed [] [] k id e h = absurd (omega (arith, h.1))
  labels_failed [] (x ∷ xs) k id e h = absurd k
  labels_failed (a ∷ ids) [] k id e h = absurd k
  labels_failed (a ∷ ids) (Ok c ∷ xs) (one, rest) id e h =
      ⊎_elim (λ same. absurd cc)
      (λ later. ⊎_elim (λ more. let q = labels_failed ids xs more id e later in (in_rest a ids id q.0, q.1)) (λ cut. none_in ids xs (Err (id, e)) cut.0 later) rest)
      (first_or_rest (Ok (node c)) (labels ids xs) (Err (id, e)) h)
  labels_failed (a ∷ ids) (Err f ∷ xs) (one, rest) id e h =
      ⊎_elim (λ same.
      let pair : (a, f) ≡ (id, e) = cc in
      let first : a ≡ id = ap (λ (p : Failure). p.0) pair in
      let second : f ≡ e = ap (λ (p : Failure). p.1) pair in
      (subst (λ z. Contains (a ∷ ids) z) first (at_first a ids), subst (λ z. IsReadFailure may_fail store e z) first (subst (λ z. IsReadFailure may_fail store z a) second one)))
      (λ later. ⊎_elim (λ more. let q = labels_failed ids xs more id e later in (in_rest a ids id q.0, q.1)) (λ cut. none_in ids xs (Err (id, e)) cut.0 later) rest)
      (first_or_rest (Err (a, f)) (labels ids xs) (Err (id, e)) h)

  -- an id was read, or its own read failed, or memory ran out
  abbrev pub IsCovered : List (List ℕ) → List Item → List ℕ → Type 0
  IsCovered ids xs id = ((c : ReadCommit) × Contains xs (Ok c) × (c.id ≡ id))
      ⊎ (((e : BackendError) × Contains (labels ids xs) (Err (id, e))) ⊎ Contains xs (Err Memory))

  covered_first : (a : List ℕ) (ids : List (List ℕ)) (x : Item) (xs : List Item) → IsReadOf may_fail store a x → IsCovered (a ∷ ids) (x ∷ xs) a
  covered_first a ids (Ok c) xs one = inl (c, at_first (Ok c) xs, one.0)
  covered_first a ids (Err e) xs one = inr (inl (e, at_first (Err (a, e)) (labels ids xs)))

  label_later : (a : List ℕ) (ids : List (List ℕ)) (x : Item) (xs : List Item) (y : Labelled) → Contains (labels ids xs) y → Contains (labels (a ∷ ids) (x ∷ xs)) y
  label_later a ids (Ok c) xs y h = in_rest (Ok (node c)) (labels ids xs) y h
  label_later a ids (Err e) xs y h = in_rest (Err (a, e)) (labels ids xs) y h

  covered_later : (a : List ℕ) (ids : List (List ℕ)) (x : Item) (xs : List Item) (id : List ℕ) → IsCovered ids xs id → IsCovered (a ∷ ids) (x ∷ xs) id
  covered_later a ids x xs id (inl (c, at, same)) = inl (c, in_rest x xs (Ok c) at, same)
  covered_later a ids x xs id (inr (inl (e, at))) = inr (inl (e, label_later a ids x xs (Err (id, e)) at))
  covered_later a ids x xs id (inr (inr memory)) = inr (inr (in_rest x xs (Err Memory) memory))

  pub covered : (ids : List (List ℕ)) (xs : List Item) → AreReads may_fail store ids xs → (id : List ℕ) → Contains ids id → IsCovered ids xs id
  covered [] [] k id h = absurd (omega (arith, h.1))
  covered [] (x ∷ xs) k id h = absurd k
  covered (a ∷ ids) [] k id h = absurd k
  covered (a ∷ ids) (x ∷ xs) (one, rest) id h =
      ⊎_elim (λ same. subst (λ z. IsCovered (a ∷ ids) (x ∷ xs) z) same (covered_first a ids x xs one))
      (λ later.
      ⊎_elim (λ more. covered_later a ids x xs id (covered ids xs more id later)) (λ cut. inr (inr (subst (λ (z : Item). Contains (x ∷ xs) z) cut.1 (at_first x xs)))) rest)
      (first_or_rest a ids id h)

  -- ---- the graph of the results of a run

  abbrev pub labelled_graph : List (Expansion ReadCommit BackendError) → FallibleGraph Failure
  labelled_graph [] a = []
  labelled_graph (x ∷ xs) a = if node x.node == a then labels x.node.commit.parents x.items else labelled_graph xs a

  pub graph_plain : (xs : List (Expansion ReadCommit BackendError)) (a : ℕ) → map plain (labelled_graph xs a) ≡ expansions_graph node xs a
  graph_plain [] a = refl
  graph_plain (x ∷ xs) a =
      let P : Bool → Type 0 = λ b. map plain (cond b (labels x.node.commit.parents x.items) (labelled_graph xs a)) ≡ cond b (map (item_of node) x.items) (expansions_graph node xs a) in
      elim (node x.node == a) as P [ true ↦ labels_plain x.node.commit.parents x.items | false ↦ graph_plain xs a ]

  -- the results of an expanded node are those of an expansion of the node
  abbrev HasLabels : List (Expansion ReadCommit BackendError) → List Labelled → ℕ → Type 0
  HasLabels xs found n = (y : Expansion ReadCommit BackendError) × Contains xs y × (node y.node ≡ n) × (found ≡ labels y.node.commit.parents y.items)

  pub labelled_at : (xs : List (Expansion ReadCommit BackendError)) (x : Expansion ReadCommit BackendError) → Contains xs x → HasLabels xs (labelled_graph xs (node x.node)) (node x.node)
  labelled_at [] x h = absurd (omega (arith, h.1))
  labelled_at (y ∷ xs) x h =
      let n = node x.node in
      let P : Bool → Type 0 = λ b. node y.node == n ≡ b → HasLabels (y ∷ xs) (cond b (labels y.node.commit.parents y.items) (labelled_graph xs n)) n in
      elim (node y.node == n) as P [
        | true ↦ λ e. (y, at_first y xs, (Decides-eqb (node y.node) n).0 e, refl)
        | false ↦ λ e. ⊎_elim (λ same. absurd (true≢false (sym ((Decides-eqb (node y.node) n).1 (ap (λ (z : Expansion ReadCommit BackendError). node z.node) same)) ∙ e)))
            (λ later. let q = labelled_at xs x later in (q.0, in_rest y xs q.0 q.1, q.2, q.3)) (first_or_rest y xs x h)
      ] refl

  -- an item of the graph is a result of an expansion
  pub labelled_from : (xs : List (Expansion ReadCommit BackendError)) (a : ℕ) (y : Labelled) → Contains (labelled_graph xs a) y
      → (x : Expansion ReadCommit BackendError) × Contains xs x × (node x.node ≡ a) × Contains (labels x.node.commit.parents x.items) y
  labelled_from [] a y h = absurd (omega (arith, h.1))
  labelled_from (x ∷ xs) a y h =
      let P : Bool → Type 0 = λ b. node x.node == a ≡ b → Contains (cond b (labels x.node.commit.parents x.items) (labelled_graph xs a)) y
      → (z : Expansion ReadCommit BackendError) × Contains (x ∷ xs) z × (node z.node ≡ a) × Contains (labels z.node.commit.parents z.items) y in
      elim (node x.node == a) as P [
        | true ↦ λ e at. (x, at_first x xs, (Decides-eqb (node x.node) a).0 e, at)
        | false ↦ λ e at. let q = labelled_from xs a y at in (q.0, in_rest x xs q.0 q.1, q.2, q.3)
      ] refl h
