-- The model of a list of commits: the number of a commit is its id, and that of any other value
-- is no id.
use Rattle.std.proofs.Common.{◌≡◌, ℕ, zero, suc, ◌+◌, ◌≤◌, Bool, true, false, cond, ◌&&◌, ◌==◌, List, [], ◌∷◌, map, Option, None, Some, is_some, refl, sym, ◌∙◌, ap, subst, arith, true≢false, eqb}
use Rattle.std.specs.List.{Contains, IsDistinct, AllByRecursion, filter_map, cons_option}
use Rattle.std.proofs.lemmas.Bool.Decides.{Decides-eqb}
use Rattle.std.proofs.lemmas.Slice.Eq.{slice_eq-Decides}
use Rattle.std.specs.String.{string_bytes, string_eq}
use Rattle.std.specs.Bool.{Decides, one_answer}
use Rattle.std.specs.Cmp.Lexicographic.{pointwise}
use Rattle.std.proofs.lemmas.Map.Keys.{IsDistinct-tail, IsDistinct-head}
use Rattle.std.proofs.lemmas.List.Elements.{Contains-append_right}
use denote.Ref.{Bor}
use Rattle.jj_dag.specs.Graph.{HasEdge, AreMaximalElements}
use Rattle.jj_dag.specs.CommonNodes.{AreClosestCommon}
use Rattle.jj_dag.specs.Walk.{GraphModel, AreNodes}
use Rattle.jj_dag.proofs.Collecting.{are_nodes}
use Rattle.jj_dag.proofs.Heads.{Contains-from_map, Contains-map}
use Rattle.jj_walks_tests.specs.declared.commits.Commit.{Commit}
use Rattle.jj_walks_tests.specs.Commits.{ids_of, commit_with, parents_in, parent_graph, is_same, has_commit}

-- ---- the commit of an id

pub found_id : (cs : List Commit) (n : ℕ) (d : Commit) → commit_with cs n ≡ Some d → d.id ≡ n
found_id [] n d e = absurd cc
found_id (c ∷ cs) n d e =
    let P : Bool → Type 0 = λ b. c.id == n ≡ b → cond b (Some c) (commit_with cs n) ≡ Some d → d.id ≡ n in
    elim (c.id == n) as P [
      | true ↦ λ t s. let q : c ≡ d = cc in ap (λ x. x.id) (sym q) ∙ (Decides-eqb c.id n).0 t
      | false ↦ λ t s. found_id cs n d s
    ] refl e

other_ids : (n : ℕ) (cs : List Commit) (c : Commit) → AllByRecursion (λ y. eqb n y ≡ false) (ids_of cs) → Contains cs c → (n == c.id) ≡ false
other_ids n [] c a (k, lt, e) = absurd (omega arith)
other_ids n (d ∷ cs) c a (zero, lt, e) = ap (λ x. n == x.id) (sym e) ∙ a.0
other_ids n (d ∷ cs) c a (suc k, lt, e) = other_ids n cs c a.1 (k, omega arith, e)

-- if the ids are distinct, a commit of the list is the one of its id
pub found_first : (cs : List Commit) (c : Commit) → IsDistinct eqb (ids_of cs) → Contains cs c → commit_with cs c.id ≡ Some c
found_first [] c once (k, lt, e) = absurd (omega arith)
found_first (d ∷ cs) c once (zero, lt, e) =
    let same : (d.id == c.id) ≡ true = (Decides-eqb d.id c.id).1 (ap (λ x. x.id) e) in
    ap (λ b. cond b (Some d) (commit_with cs c.id)) same ∙ ap (λ x. Some x) e
found_first (d ∷ cs) c once (suc k, lt, e) =
    let h : Contains cs c = (k, omega arith, e) in
    ap (λ b. cond b (Some d) (commit_with cs c.id)) (other_ids d.id cs c (IsDistinct-head eqb d.id (ids_of cs) once) h) ∙ found_first cs c (IsDistinct-tail eqb d.id (ids_of cs) once) h

-- a number that is no id
abbrev pub unused_id : List Commit → ℕ
unused_id [] = 0
unused_id (c ∷ cs) = suc (c.id + unused_id cs)

pub unused_lacks : (cs : List Commit) (n : ℕ) → unused_id cs ≤ n → commit_with cs n ≡ None
unused_lacks [] n le = refl
unused_lacks (c ∷ cs) n le =
    let P : Bool → Type 0 = λ b. c.id == n ≡ b → cond b (Some c) (commit_with cs n) ≡ None in
    elim (c.id == n) as P [
      | true ↦ λ t. let s : c.id ≡ n = (Decides-eqb c.id n).0 t in absurd (omega arith)
      | false ↦ λ t. unused_lacks cs n (omega arith)
    ] refl

-- the two commits have the same fields
abbrev pub Fields : Commit → Commit → Type 0
Fields c d = (c.id ≡ d.id) × (c.time ≡ d.time) × (c.parents.items ≡ d.parents.items) × (string_bytes c.text ≡ string_bytes d.text)

both : (a b : Bool) → (a && b) ≡ true → (a ≡ true) × (b ≡ true)
both true b e = (refl, e)
both false b e = absurd (true≢false (sym e))

all_four : (a b c d : Bool) → a ≡ true → b ≡ true → c ≡ true → d ≡ true → (a && (b && (c && d))) ≡ true
all_four a b c d p q r s = rw (p, q, r, s) refl

pub Decides-same : (c d : Commit) → Decides (is_same c d) (Fields c d)
Decides-same c d =
    let lists : Decides (pointwise eqb c.parents.items d.parents.items) (c.parents.items ≡ d.parents.items) = slice_eq-Decides Decides-eqb c.parents.items d.parents.items _ refl in
    let texts : Decides (string_eq c.text d.text) (string_bytes c.text ≡ string_bytes d.text) = slice_eq-Decides Decides-eqb (string_bytes c.text) (string_bytes d.text) _ refl in (
      λ e.
          let p = both _ _ e in
          let q = both _ _ p.1 in
          let r = both _ _ q.1 in
          ((Decides-eqb c.id d.id).0 q.0, (Decides-eqb c.time d.time).0 p.0, lists.0 r.0, texts.0 r.1),
      λ f. all_four _ _ _ _ ((Decides-eqb c.time d.time).1 f.1) ((Decides-eqb c.id d.id).1 f.0) (lists.1 f.2) (texts.1 f.3),
    )

same_self : (c : Commit) → is_same c c ≡ true
same_self c = (Decides-same c c).1 (refl, refl, refl, refl)

module _ (commits : List Commit) where
  pub found_has : (c : Commit) → commit_with commits c.id ≡ Some c → has_commit commits c ≡ true
  found_has c e = ap (λ o. elim o [ None ↦ false | Some d ↦ is_same d c ]) e ∙ same_self c

  pub has_found : (c : Commit) → has_commit commits c ≡ true → (d : Commit) × (commit_with commits c.id ≡ Some d) × Fields d c
  has_found c h =
      let P : Option Commit → Type 0 = λ o. commit_with commits c.id ≡ o → elim o [ None ↦ false | Some d ↦ is_same d c ] ≡ true
      → (d : Commit) × (commit_with commits c.id ≡ Some d) × Fields d c in
      elim (commit_with commits c.id) as P [
        | None ↦ λ e t. absurd (true≢false (sym t))
        | Some d ↦ λ e t. (d, e, (Decides-same d c).0 t)
      ] refl h

  abbrev pub node : Bor Commit → ℕ
  node x = cond (has_commit commits x.now) x.now.id (unused_id commits)

  -- the numbering, where commits lend their ids
  abbrev pub walk_of : GraphModel (Bor Commit) (Bor ℕ)
  walk_of = record { graph = parent_graph commits; is_node = λ n. is_some (commit_with commits n); node = node; id = λ i. i.now }

  pub node_id : (x : Bor Commit) → has_commit commits x.now ≡ true → node x ≡ x.now.id
  node_id x h = ap (λ b. cond b x.now.id (unused_id commits)) h

  pub node_has : (x : Bor Commit) → is_some (commit_with commits (node x)) ≡ true → has_commit commits x.now ≡ true
  node_has x h =
      let P : Bool → Type 0 = λ b. has_commit commits x.now ≡ b → b ≡ true in
      elim (has_commit commits x.now) as P [
        | true ↦ λ e. refl
        | false ↦ λ e.
            let none : commit_with commits (node x) ≡ None = ap (λ b. commit_with commits (cond b x.now.id (unused_id commits))) e ∙ unused_lacks commits (unused_id commits) (omega arith) in
            absurd (true≢false (sym h ∙ ap is_some none))
      ] refl

  pub node_stands : (x : Bor Commit) → is_some (commit_with commits (node x)) ≡ true → x.now.id ≡ node x
  node_stands x h = sym (node_id x (node_has x h))

  first_had : (p : ℕ) (d : Commit) (rest : List Commit) (c : Commit) → commit_with commits p ≡ Some d → (Contains rest c → has_commit commits c ≡ true) → Contains (d ∷ rest) c → has_commit commits c ≡ true
  first_had p d rest c e others (zero, lt, q) = subst (λ x. has_commit commits x ≡ true) q (found_has d (ap (commit_with commits) (found_id commits p d e) ∙ e))
  first_had p d rest c e others (suc k, lt, q) = others (k, omega arith, q)

  pub parents_had : (ps : List ℕ) (c : Commit) → Contains (filter_map (commit_with commits) ps) c → has_commit commits c ≡ true
  parents_had [] c (k, lt, e) = absurd (omega arith)
  parents_had (p ∷ ps) c h =
      let rest = filter_map (commit_with commits) ps in
      let P : Option Commit → Type 0 = λ o. commit_with commits p ≡ o → Contains (cons_option o rest) c → has_commit commits c ≡ true in
      elim (commit_with commits p) as P [ None ↦ λ e t. parents_had ps c t | Some d ↦ λ e t. first_had p d rest c e (parents_had ps c) t ] refl h

  pub numbers_had : (xs : List (Bor Commit)) → ((c : Commit) → Contains (map (λ x. x.now) xs) c → has_commit commits c ≡ true) → map node xs ≡ ids_of (map (λ x. x.now) xs)
  numbers_had [] h = refl
  numbers_had (x ∷ xs) h =
      ap (λ n. n ∷ map node xs) (node_id x (h x.now (0, omega arith, refl)))
      ∙ ap (λ l. x.now.id ∷ l) (numbers_had xs (λ c k. h c (Contains-append_right (x.now ∷ []) (map (λ y. y.now) xs) c k)))

  -- neighbors of nodes are nodes
  pub walk_closed : (n : ℕ) → is_some (commit_with commits n) ≡ true → AreNodes walk_of (parent_graph commits n)
  walk_closed n h b =
      let P : Option Commit → Type 0 = λ o. Contains (elim o [ None ↦ [] | Some c ↦ ids_of (parents_in commits c) ]) b → is_some (commit_with commits b) ≡ true in
      elim (commit_with commits n) as P [
        | None ↦ λ (k, lt, e). absurd (omega arith)
        | Some c ↦ λ k.
            let d = Contains-from_map (λ x. x.id) (parents_in commits c) b k in
            let f = has_found d.0 (parents_had c.parents.items d.0 d.1) in
            ap (λ m. is_some (commit_with commits m)) (sym d.2) ∙ ap is_some f.1
      ]

  -- the commits looked up for the parents of a node are its neighbors
  pub walk_neighbors : (x : Bor Commit) (xs : List (Bor Commit)) → is_some (commit_with commits (node x)) ≡ true → map (λ y. y.now) xs ≡ parents_in commits x.now → map node xs ≡ parent_graph commits (node x)
  walk_neighbors x xs h e =
      let has = node_has x h in
      let f = has_found x.now has in
      numbers_had xs (λ c k. parents_had x.now.parents.items c (subst (λ l. Contains l c) e k)) ∙ ap ids_of e ∙ ap (λ ps. ids_of (filter_map (commit_with commits) ps)) (sym f.2.2)
      ∙ sym (ap (λ o. elim o [ None ↦ [] | Some d ↦ ids_of (parents_in commits d) ]) (ap (commit_with commits) (node_id x has) ∙ f.1))

  -- the whole list as starts
  pub walk_starts : IsDistinct eqb (ids_of commits) → (xs : List (Bor Commit)) → map (λ y. y.now) xs ≡ commits → map node xs ≡ ids_of commits
  walk_starts once xs e = numbers_had xs (λ c k. found_has c (found_first commits c once (subst (λ l. Contains l c) e k))) ∙ ap ids_of e

  pub starts_are_nodes : IsDistinct eqb (ids_of commits) → AreNodes walk_of (ids_of commits)
  starts_are_nodes once a h =
      let c = Contains-from_map (λ x. x.id) commits a h in
      ap (λ m. is_some (commit_with commits m)) (sym c.2) ∙ ap is_some (found_first commits c.0 once c.1)

  -- a commit of the list has an edge to each of its parents in the list
  pub found_edge : (c p : Commit) → IsDistinct eqb (ids_of commits) → Contains commits c → Contains (parents_in commits c) p → HasEdge (parent_graph commits) c.id p.id
  found_edge c p once at h =
      subst (λ o. Contains (elim o [ None ↦ [] | Some d ↦ ids_of (parents_in commits d) ]) p.id) (sym (found_first commits c once at)) (Contains-map (λ x. x.id) (parents_in commits c) p h)

  has_same : (c d : Commit) → has_commit commits c ≡ true → Fields c d → has_commit commits d ≡ true
  has_same c d h f =
      let k = has_found c h in
      ap (λ o. elim o [ None ↦ false | Some e ↦ is_same e d ]) (ap (commit_with commits) (sym f.0) ∙ k.1) ∙ (Decides-same k.0 d).1 (k.2.0 ∙ f.0, k.2.1 ∙ f.1, k.2.2 ∙ f.2, k.2.3 ∙ f.3)

  -- a value has the fields of a node exactly if it has its number
  pub walk_stands : (x y : Bor Commit) → is_some (commit_with commits (node x)) ≡ true → is_same x.now y.now ≡ (node x == node y)
  walk_stands x y is =
      let hx = node_has x is in
      one_answer (is_same x.now y.now) (node x == node y) (Decides-same x.now y.now) (
        (λ e.
            let same : node x ≡ node y = (Decides-eqb (node x) (node y)).0 e in
            let hy = node_has y (subst (λ n. is_some (commit_with commits n) ≡ true) same is) in
            let ids : x.now.id ≡ y.now.id = sym (node_id x hx) ∙ same ∙ node_id y hy in
            let k = has_found x.now hx in
            let l = has_found y.now hy in
            let found : Some k.0 ≡ Some l.0 = sym k.1 ∙ ap (commit_with commits) ids ∙ l.1 in
            let one : k.0 ≡ l.0 = cc in
            (ids, sym k.2.1 ∙ ap (λ d. d.time) one ∙ l.2.1, sym k.2.2 ∙ ap (λ d. d.parents.items) one ∙ l.2.2, sym k.2.3 ∙ ap (λ d. string_bytes d.text) one ∙ l.2.3)),
        λ f. (Decides-eqb (node x) (node y)).1 (node_id x hx ∙ f.0 ∙ sym (node_id y (has_same x.now y.now hx f))),
      )

  -- values of nodes have their ids for their numbers
  pub ids_are : (ys : List (Bor Commit)) → ((x : Bor Commit) → Contains ys x → has_commit commits x.now ≡ true) → map node ys ≡ map (λ x. x.now.id) ys
  ids_are [] h = refl
  ids_are (y ∷ ys) h = ap (λ n. n ∷ map node ys) (node_id y (h y (0, omega arith, refl))) ∙ ap (λ l. y.now.id ∷ l) (ids_are ys (λ x k. h x (Contains-append_right (y ∷ []) ys x k)))

  pub maximal_ids : IsDistinct eqb (ids_of commits) → (xs : List (Bor Commit)) → AreMaximalElements (parent_graph commits) (ids_of commits) (map node xs)
      → AreMaximalElements (parent_graph commits) (ids_of commits) (map (λ x. x.now.id) xs)
  maximal_ids once xs m = subst (λ l. AreMaximalElements (parent_graph commits) (ids_of commits) l) (ids_are xs (λ x h. node_has x (starts_are_nodes once (node x) ((m.all (node x)).0 (Contains-map node xs x h)).0))) m

  -- a set of commits of the list, as starts
  pub set_starts : (set : List Commit) → ((c : Commit) → Contains set c → has_commit commits c ≡ true) → (xs : List (Bor Commit)) → map (λ y. y.now) xs ≡ set → map node xs ≡ ids_of set
  set_starts set had xs e = numbers_had xs (λ c k. had c (subst (λ l. Contains l c) e k)) ∙ ap ids_of e

  pub set_are_nodes : (set : List Commit) → ((c : Commit) → Contains set c → has_commit commits c ≡ true) → AreNodes walk_of (ids_of set)
  set_are_nodes set had a h =
      let c = Contains-from_map (λ x. x.id) set a h in
      ap (λ m. is_some (commit_with commits m)) (sym c.2) ∙ ap is_some (has_found c.0 (had c.0 c.1)).1

  -- nodes that are the closest common ones of two sets have their ids for their numbers
  pub closest_ids : (set1 set2 : List ℕ) → AreNodes walk_of set1 → (xs : List (Bor Commit)) → AreClosestCommon (parent_graph commits) set1 set2 (map node xs)
      → AreClosestCommon (parent_graph commits) set1 set2 (map (λ x. x.now.id) xs)
  closest_ids set1 set2 nodes xs m =
      subst (λ l. AreClosestCommon (parent_graph commits) set1 set2 l)
      (ids_are xs (λ x h. node_has x (are_nodes {E = ℕ} walk_of (λ a. []) set1 walk_closed nodes (node x) ((m.all (node x)).0 (Contains-map node xs x h)).0.0))) m
