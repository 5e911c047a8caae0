-- The stack of a postorder walk: an entry is a node, and whether its neighbors are above it.
use Rattle.std.proofs.Common.{◌≡◌, ℕ, Bool, true, false, cond, ◌||◌, ◌==◌, List, [], ◌∷◌, ◌++◌, map, reverse, refl, sym, ◌∙◌, ap, subst, true≢false, ⊎_elim, append-nil, arith, zero, suc}
use Rattle.std.specs.List.{Contains}
use Rattle.std.proofs.lemmas.Bool.Decides.{Decides-eqb}
use Rattle.std.proofs.lemmas.List.{reverse-append, map-append}
use Rattle.std.proofs.lemmas.List.Elements.{Contains-append_left, Contains-append_right, Contains-append_cases}
use Rattle.jj_dag.specs.Graph.{Graph, HasEdge, StrictlyReaches, ReachedFrom, OnCycleFrom, Postorder}
use Rattle.jj_dag.specs.Graph.Postorder.{ended as post_ended, passed as post_passed, entered as post_entered}
use Rattle.jj_dag.specs.Walk.{GraphModel, AreNodes}
use Rattle.jj_dag.proofs.Reaching.{Reaches-then_strictly, ReachedFrom-edge}
use Rattle.jj_dag.proofs.Walking.{has, has-push, has-from_Contains, Contains-from_has, eqb-flip, numbers}

-- the postorder of the entries, from the top, after the emitted nodes
pub data Unwinds (g : Graph) : (top : List (ℕ × Bool)) (yielded out : List ℕ) → Type 0 where
  ended : {yielded : List ℕ} → Unwinds g [] yielded yielded
  passed : {a : ℕ} {top : List (ℕ × Bool)} {yielded out : List ℕ} → Contains yielded a → Unwinds g top yielded out → Unwinds g ((a, false) ∷ top) yielded out
  entered : {a : ℕ} {top : List (ℕ × Bool)} {yielded below out : List ℕ} → (Contains yielded a → ⊥)
      → Postorder g (reverse (g a)) yielded below → Unwinds g top (below ++ a ∷ []) out → Unwinds g ((a, false) ∷ top) yielded out
  finished : {a : ℕ} {top : List (ℕ × Bool)} {yielded out : List ℕ} → Unwinds g top (yielded ++ a ∷ []) out → Unwinds g ((a, true) ∷ top) yielded out

abbrev pub unvisited : List ℕ → List (ℕ × Bool)
unvisited xs = map (λ a. (a, false)) xs

pub Unwinds-append : (g : Graph) (xs : List ℕ) (top : List (ℕ × Bool)) (yielded out : List ℕ) → Unwinds g (unvisited xs ++ top) yielded out
    → (mid : List ℕ) × Postorder g xs yielded mid × Unwinds g top mid out
Unwinds-append g [] top yielded out p = (yielded, post_ended, p)
Unwinds-append g (x ∷ xs) top yielded out (passed h p) =
    let q = Unwinds-append g xs top yielded out p in (q.0, post_passed h q.1, q.2)
Unwinds-append g (x ∷ xs) top yielded out (entered {below = below} h b p) =
    let q = Unwinds-append g xs top (below ++ x ∷ []) out p in (q.0, post_entered h b q.1, q.2)

pub Unwinds-finished : (g : Graph) (a : ℕ) (top : List (ℕ × Bool)) (yielded out : List ℕ) → Unwinds g ((a, true) ∷ top) yielded out → Unwinds g top (yielded ++ a ∷ []) out
Unwinds-finished g a top yielded out (finished p) = p

pub Unwinds-ended : (g : Graph) (yielded out : List ℕ) → Unwinds g [] yielded out → yielded ≡ out
Unwinds-ended g yielded out ended = refl

-- the nodes that are being visited, the last one first
abbrev pub visited_above : List (ℕ × Bool) → List ℕ
visited_above [] = []
visited_above ((a, f) ∷ top) = cond f (a ∷ visited_above top) (visited_above top)

pub visited_above-unvisited : (xs : List ℕ) (top : List (ℕ × Bool)) → visited_above (unvisited xs ++ top) ≡ visited_above top
visited_above-unvisited [] top = refl
visited_above-unvisited (x ∷ xs) top = visited_above-unvisited xs top

Contains-unvisited : (xs : List ℕ) (b : ℕ) (f : Bool) → Contains (unvisited xs) (b, f) → Contains xs b
Contains-unvisited [] b f (k, lt, e) = absurd (omega arith)
Contains-unvisited (x ∷ xs) b f (zero, lt, e) = (0, omega arith, ap (λ p. p.0) e)
Contains-unvisited (x ∷ xs) b f (suc k, lt, e) = Contains-append_right (x ∷ []) xs b (Contains-unvisited xs b f (k, omega arith, e))

Contains-from_reverse : (xs : List ℕ) (b : ℕ) → Contains (reverse xs) b → Contains xs b
Contains-from_reverse [] b h = h
Contains-from_reverse (x ∷ xs) b h =
    let P : List ℕ → Type 0 = λ l. Contains l b in
    ⊎_elim (λ l. Contains-append_right (x ∷ []) xs b (Contains-from_reverse xs b l)) (λ r. Contains-append_left (x ∷ []) xs b r)
    (Contains-append_cases (reverse xs) (x ∷ []) b (subst P (reverse-append (x ∷ []) xs) h))

Contains-one : (a b : ℕ) (f t : Bool) → Contains {X = ℕ × Bool} ((a, f) ∷ []) (b, t) → a ≡ b
Contains-one a b f t (zero, lt, e) = ap (λ p. p.0) e
Contains-one a b f t (suc k, lt, e) = absurd (omega arith)

never_finished : (xs : List ℕ) (b : ℕ) → Contains (unvisited xs) (b, true) → ⊥
never_finished [] b (k, lt, e) = absurd (omega arith)
never_finished (x ∷ xs) b (zero, lt, e) = let flag : false ≡ true = ap (λ p. p.1) e in absurd (true≢false (sym flag))
never_finished (x ∷ xs) b (suc k, lt, e) = never_finished xs b (k, omega arith, e)

finished_above : (top : List (ℕ × Bool)) (a : ℕ) → has (visited_above top) a ≡ true → Contains top (a, true)
finished_above [] a h = absurd (true≢false (sym h))
finished_above ((x, true) ∷ top) a h =
    let P : Bool → Type 0 = λ b. a == x ≡ b → Contains {X = ℕ × Bool} ((x, true) ∷ top) (a, true) in
    elim (a == x) as P [
      | true ↦ λ e. (0, omega arith, ap (λ (n : ℕ). (n, true)) (sym ((Decides-eqb a x).0 e)))
      | false ↦ λ e. Contains-append_right ((x, true) ∷ []) top (a, true) (finished_above top a (subst (λ b. (b || has (visited_above top) a) ≡ true) e h))
    ] refl
finished_above ((x, false) ∷ top) a h = Contains-append_right ((x, false) ∷ []) top (a, true) (finished_above top a h)

-- each entry is strictly reached from every entry below it whose neighbors were pushed above it
abbrev pub Hangs : Graph → List (ℕ × Bool) → Type 0
Hangs g [] = Unit {0}
Hangs g ((a, f) ∷ top) = ((c : ℕ) → Contains top (c, true) → StrictlyReaches g c a) × Hangs g top

hangs_starts : (g : Graph) (xs : List ℕ) → Hangs g (unvisited xs)
hangs_starts g [] = tt
hangs_starts g (x ∷ xs) = ((λ c h. absurd (never_finished xs c h)), hangs_starts g xs)

hangs_neighbors : (g : Graph) (a : ℕ) (top : List (ℕ × Bool)) → ((c : ℕ) → Contains top (c, true) → StrictlyReaches g c a) → Hangs g top
    → (xs : List ℕ) → ((b : ℕ) → Contains xs b → HasEdge g a b) → Hangs g (unvisited xs ++ (a, true) ∷ top)
hangs_neighbors g a top below hangs [] edges = (below, hangs)
hangs_neighbors g a top below hangs (x ∷ xs) edges =
    let edge : HasEdge g a x = edges x (0, omega arith, refl) in
    let through : (c : ℕ) → Contains (unvisited xs ++ (a, true) ∷ top) (c, true) → StrictlyReaches g c x = λ c h.
    ⊎_elim (λ l. absurd (never_finished xs c l))
    (λ r. ⊎_elim (λ l. (0, (x, subst (λ (n : ℕ). HasEdge g n x) (Contains-one a c true true l) edge, refl)))
    (λ t. let s = below c t in Reaches-then_strictly g c a x (suc s.0) s.1 (0, (x, edge, refl)))
    (Contains-append_cases ((a, true) ∷ []) top (c, true) r))
    (Contains-append_cases (unvisited xs) ((a, true) ∷ top) (c, true) h) in
    (through, hangs_neighbors g a top below hangs xs (λ b h. edges b (Contains-append_right (x ∷ []) xs b h)))

-- no number comes twice
abbrev pub IsFresh : List ℕ → Type 0
IsFresh [] = Unit {0}
IsFresh (a ∷ xs) = (has xs a ≡ false) × IsFresh xs

module _ {T ID : Type 0} (w : GraphModel T ID) where
  abbrev pub states : List (T × Bool) → List (ℕ × Bool)
  states top = map (λ p. (w.node p.0, p.1)) top

  -- a set of ids that has those of these numbers
  abbrev pub Has : (ID → Bool) → List ℕ → Type 0
  Has test ns = (i : ID) → w.is_node (w.id i) ≡ true → test i ≡ has ns (w.id i)

  abbrev pub Apart : (ID → ID → Bool) → Type 0
  Apart eq = (i j : ID) → w.is_node (w.id i) ≡ true → w.is_node (w.id j) ≡ true → eq i j ≡ (w.id i == w.id j)

  -- the invariant of the loop, with the stack from its top
  pub record IsUnwinding (starts : List ℕ) (visiting emitted : ID → Bool) (top : List (ℕ × Bool)) (yielded : List ℕ) : Type 0 where
    pub nodes : (a : ℕ) (f : Bool) → Contains top (a, f) → w.is_node a ≡ true
    pub emits : Has emitted yielded
    pub visits : Has visiting (visited_above top)
    pub fresh : IsFresh (visited_above top)
    pub apart : (a : ℕ) → has (visited_above top) a ≡ true → has yielded a ≡ false
    pub reached : (a : ℕ) (f : Bool) → Contains top (a, f) → ReachedFrom w.graph starts a
    pub hangs : Hangs w.graph top
    pub rest : (out : List ℕ) → Unwinds w.graph top yielded out → Postorder w.graph (reverse starts) [] out

  pub top_is_node : {starts : List ℕ} {visiting emitted : ID → Bool} {top : List (ℕ × Bool)} {yielded : List ℕ} (a : ℕ) (f : Bool)
      → IsUnwinding starts visiting emitted ((a, f) ∷ top) yielded → w.is_node a ≡ true
  top_is_node {top = top} a f k = k.nodes a f (Contains-append_left ((a, f) ∷ []) top (a, f) (0, omega arith, refl))

  pub here_reached : {starts : List ℕ} {visiting emitted : ID → Bool} {top : List (ℕ × Bool)} {yielded : List ℕ} {a : ℕ}
      → IsUnwinding starts visiting emitted ((a, false) ∷ top) yielded → ReachedFrom w.graph starts a
  here_reached {top = top} {a = a} k = k.reached a false (Contains-append_left ((a, false) ∷ []) top (a, false) (0, omega arith, refl))

  -- a node that is on the stack above itself is on a cycle
  pub unwinding_cycle : {starts : List ℕ} {visiting emitted : ID → Bool} {top : List (ℕ × Bool)} {yielded : List ℕ} (a : ℕ) (i : ID)
      → IsUnwinding starts visiting emitted ((a, false) ∷ top) yielded → w.id i ≡ a → visiting i ≡ true → OnCycleFrom w.graph starts a
  unwinding_cycle {starts} {visiting} {emitted} {top} {yielded} a i k same is =
      let here : w.is_node (w.id i) ≡ true = subst (λ (n : ℕ). w.is_node n ≡ true) (sym same) (top_is_node a false k) in
      let seen : has (visited_above top) a ≡ true = subst (λ (n : ℕ). has (visited_above top) n ≡ true) same (sym (k.visits i here) ∙ is) in
      (here_reached k, k.hangs.0 a (finished_above top a seen))

  -- an emitted node is on the stack to be skipped
  pub unwinding_passed : {starts : List ℕ} {visiting emitted : ID → Bool} {top : List (ℕ × Bool)} {yielded : List ℕ} (a : ℕ) (f : Bool) (i : ID)
      → IsUnwinding starts visiting emitted ((a, f) ∷ top) yielded → w.id i ≡ a → true ≡ emitted i → IsUnwinding starts visiting emitted top yielded
  unwinding_passed {starts} {visiting} {emitted} {top} {yielded} a true i k same is =
      let here : w.is_node (w.id i) ≡ true = subst (λ (n : ℕ). w.is_node n ≡ true) (sym same) (top_is_node a true k) in
      let seen : has yielded a ≡ true = subst (λ (n : ℕ). has yielded n ≡ true) same (sym (is ∙ k.emits i here)) in
      let self : (a == a) ≡ true = (Decides-eqb a a).1 refl in
      let not : has yielded a ≡ false = k.apart a (ap (λ b. b || has (visited_above top) a) self) in
      absurd (true≢false (sym seen ∙ not))
  unwinding_passed {starts} {visiting} {emitted} {top} {yielded} a false i k same is =
      let here : w.is_node (w.id i) ≡ true = subst (λ (n : ℕ). w.is_node n ≡ true) (sym same) (top_is_node a false k) in
      let seen : has yielded a ≡ true = subst (λ (n : ℕ). has yielded n ≡ true) same (sym (is ∙ k.emits i here)) in
      record {
        nodes = λ b f h. k.nodes b f (Contains-append_right ((a, false) ∷ []) top (b, f) h);
        emits = k.emits;
        visits = k.visits;
        fresh = k.fresh;
        apart = k.apart;
        reached = λ b f h. k.reached b f (Contains-append_right ((a, false) ∷ []) top (b, f) h);
        hangs = k.hangs.1;
        rest = λ out p. k.rest out (passed (Contains-from_has yielded a seen) p);
      }

  -- a node whose neighbors were walked is emitted
  pub unwinding_finished : {starts : List ℕ} {visiting emitted : ID → Bool} {top : List (ℕ × Bool)} {yielded : List ℕ} (eq : ID → ID → Bool) (visiting2 emitted2 : ID → Bool) (a : ℕ) (i : ID)
      → Apart eq → IsUnwinding starts visiting emitted ((a, true) ∷ top) yielded → w.id i ≡ a
      → ((q : ID) → visiting2 q ≡ cond (eq i q) false (visiting q)) → ((q : ID) → emitted2 q ≡ cond (eq i q) true (emitted q))
      → IsUnwinding starts visiting2 emitted2 top (yielded ++ a ∷ [])
  unwinding_finished {starts} {visiting} {emitted} {top} {yielded} eq visiting2 emitted2 a i is_id k same removes puts =
      let here : w.is_node (w.id i) ≡ true = subst (λ (n : ℕ). w.is_node n ≡ true) (sym same) (top_is_node a true k) in
      let told : (q : ID) → w.is_node (w.id q) ≡ true → eq i q ≡ (w.id q == a) =
      λ q h. is_id i q here h ∙ ap (λ n. n == w.id q) same ∙ eqb-flip a (w.id q) in
      record {
        nodes = λ b f h. k.nodes b f (Contains-append_right ((a, true) ∷ []) top (b, f) h);
        emits = λ q h. puts q ∙ ap (λ b. cond b true (emitted q)) (told q h) ∙ ap (λ b. cond (w.id q == a) true b) (k.emits q h) ∙ put (w.id q == a) (has yielded (w.id q)) ∙ sym (has-push yielded a (w.id q));
        visits = λ q h. removes q ∙ ap (λ b. cond b false (visiting q)) (told q h) ∙ ap (λ b. cond (w.id q == a) false b) (k.visits q h) ∙ gone (w.id q);
        fresh = k.fresh.1;
        apart = λ b h.
            let old : has yielded b ≡ false = k.apart b (ap (λ c. (b == a) || c) h ∙ or_true (b == a)) in
            let other : (b == a) ≡ false = differs b h in
            has-push yielded a b ∙ ap (λ c. c || has yielded b) other ∙ old;
        reached = λ b f h. k.reached b f (Contains-append_right ((a, true) ∷ []) top (b, f) h);
        hangs = k.hangs.1;
        rest = λ out p. k.rest out (finished p);
      }
    where
      put : (b d : Bool) → cond b true d ≡ (b || d)
      put true d = refl
      put false d = refl

      or_true : (b : Bool) → (b || true) ≡ true
      or_true true = refl
      or_true false = refl

      gone : (n : ℕ) → cond (n == a) false ((n == a) || has (visited_above top) n) ≡ has (visited_above top) n
      gone n =
          let P : Bool → Type 0 = λ b. n == a ≡ b → cond b false (b || has (visited_above top) n) ≡ has (visited_above top) n in
          elim (n == a) as P [ true ↦ λ e. sym (subst (λ (m : ℕ). has (visited_above top) m ≡ false) (sym ((Decides-eqb n a).0 e)) k.fresh.0) | false ↦ λ e. refl ] refl

      differs : (b : ℕ) → has (visited_above top) b ≡ true → (b == a) ≡ false
      differs b h =
          let P : Bool → Type 0 = λ t. b == a ≡ t → t ≡ false in
          elim (b == a) as P [ true ↦ λ e. absurd (true≢false (sym h ∙ subst (λ (m : ℕ). has (visited_above top) m ≡ false) (sym ((Decides-eqb b a).0 e)) k.fresh.0)) | false ↦ λ e. refl ] refl

  -- a new node stays, below its neighbors
  pub unwinding_entered : {starts : List ℕ} {visiting emitted : ID → Bool} {top : List (ℕ × Bool)} {yielded : List ℕ} (eq : ID → ID → Bool) (visiting2 : ID → Bool) (a : ℕ) (i : ID)
      → ((b : ℕ) → w.is_node b ≡ true → AreNodes w (w.graph b)) → Apart eq → IsUnwinding starts visiting emitted ((a, false) ∷ top) yielded → w.id i ≡ a
      → false ≡ emitted i → visiting i ≡ false → ((q : ID) → visiting2 q ≡ cond (eq i q) true (visiting q))
      → IsUnwinding starts visiting2 emitted (unvisited (reverse (w.graph a)) ++ (a, true) ∷ top) yielded
  unwinding_entered {starts} {visiting} {emitted} {top} {yielded} eq visiting2 a i closed is_id k same new first puts =
      let is_node : w.is_node a ≡ true = top_is_node a false k in
      let here : w.is_node (w.id i) ≡ true = subst (λ (n : ℕ). w.is_node n ≡ true) (sym same) is_node in
      let told : (q : ID) → w.is_node (w.id q) ≡ true → eq i q ≡ (w.id q == a) =
      λ q h. is_id i q here h ∙ ap (λ n. n == w.id q) same ∙ eqb-flip a (w.id q) in
      let fresh : has yielded a ≡ false = subst (λ (n : ℕ). has yielded n ≡ false) same (sym (new ∙ k.emits i here)) in
      let not_above : has (visited_above top) a ≡ false = subst (λ (n : ℕ). has (visited_above top) n ≡ false) same (sym (sym first ∙ k.visits i here)) in
      let above : visited_above (unvisited (reverse (w.graph a)) ++ (a, true) ∷ top) ≡ a ∷ visited_above top = visited_above-unvisited (reverse (w.graph a)) ((a, true) ∷ top) in
      let Visits : List ℕ → Type 0 = λ l. Has visiting2 l in
      let Fresh : List ℕ → Type 0 = λ l. IsFresh l in
      record {
        nodes = λ b f h. ⊎_elim (λ l. closed a is_node b (Contains-from_reverse (w.graph a) b (Contains-unvisited (reverse (w.graph a)) b f l)))
            (λ r. ⊎_elim (λ l. subst (λ (n : ℕ). w.is_node n ≡ true) (Contains-one a b true f l) is_node) (λ t. k.nodes b f (Contains-append_right ((a, false) ∷ []) top (b, f) t))
            (Contains-append_cases ((a, true) ∷ []) top (b, f) r))
            (Contains-append_cases (unvisited (reverse (w.graph a))) ((a, true) ∷ top) (b, f) h);
        emits = k.emits;
        visits = subst Visits (sym above) (λ q h. puts q ∙ ap (λ b. cond b true (visiting q)) (told q h) ∙ ap (λ b. cond (w.id q == a) true b) (k.visits q h) ∙ put (w.id q == a) (has (visited_above top) (w.id q)));
        fresh = subst Fresh (sym above) (not_above, k.fresh);
        apart = λ b h. separate fresh b (subst (λ (l : List ℕ). has l b ≡ true) above h);
        reached = λ b f h. ⊎_elim (λ l. ReachedFrom-edge w.graph starts a b (here_reached k) (Contains-from_reverse (w.graph a) b (Contains-unvisited (reverse (w.graph a)) b f l)))
            (λ r. ⊎_elim (λ l. subst (λ (n : ℕ). ReachedFrom w.graph starts n) (Contains-one a b true f l) (here_reached k)) (λ t. k.reached b f (Contains-append_right ((a, false) ∷ []) top (b, f) t))
            (Contains-append_cases ((a, true) ∷ []) top (b, f) r))
            (Contains-append_cases (unvisited (reverse (w.graph a))) ((a, true) ∷ top) (b, f) h);
        hangs = hangs_neighbors w.graph a top k.hangs.0 k.hangs.1 (reverse (w.graph a)) (λ b h. Contains-from_reverse (w.graph a) b h);
        rest = λ out p.
            let q = Unwinds-append w.graph (reverse (w.graph a)) ((a, true) ∷ top) yielded out p in
            k.rest out (entered (λ h. absurd (true≢false (sym (has-from_Contains yielded a h) ∙ fresh))) q.1 (Unwinds-finished w.graph a top q.0 out q.2));
      }
    where
      put : (b d : Bool) → cond b true d ≡ (b || d)
      put true d = refl
      put false d = refl

      separate : has yielded a ≡ false → (b : ℕ) → ((b == a) || has (visited_above top) b) ≡ true → has yielded b ≡ false
      separate fresh b h =
          let P : Bool → Type 0 = λ t. b == a ≡ t → has yielded b ≡ false in
          elim (b == a) as P [
            | true ↦ λ e. subst (λ (m : ℕ). has yielded m ≡ false) (sym ((Decides-eqb b a).0 e)) fresh
            | false ↦ λ e. k.apart b (subst (λ (t : Bool). (t || has (visited_above top) b) ≡ true) e h)
          ] refl

  pub unwinding_starts : {visiting emitted : ID → Bool} (starts : List ℕ) → AreNodes w starts → ((i : ID) → visiting i ≡ false) → ((i : ID) → emitted i ≡ false)
      → IsUnwinding starts visiting emitted (unvisited (reverse starts)) []
  unwinding_starts {visiting} {emitted} starts nodes none nothing =
      let whole : unvisited (reverse starts) ++ [] ≡ unvisited (reverse starts) = append-nil (unvisited (reverse starts)) in
      let above : visited_above (unvisited (reverse starts)) ≡ [] = ap visited_above (sym whole) ∙ visited_above-unvisited (reverse starts) [] in
      record {
        nodes = λ b f h. nodes b (Contains-from_reverse starts b (Contains-unvisited (reverse starts) b f h));
        emits = λ i h. nothing i;
        visits = λ i h. none i ∙ sym (ap (λ l. has l (w.id i)) above);
        fresh = subst (λ (l : List ℕ). IsFresh l) (sym above) tt;
        apart = λ a h. absurd (true≢false (sym h ∙ ap (λ l. has l a) above));
        reached = λ b f h. (b, Contains-from_reverse starts b (Contains-unvisited (reverse starts) b f h), (0, refl));
        hangs = hangs_starts w.graph (reverse starts);
        rest = λ out p.
            let q = Unwinds-append w.graph (reverse starts) [] [] out (subst (λ (l : List (ℕ × Bool)). Unwinds w.graph l [] out) (sym whole) p) in
            subst (λ (l : List ℕ). Postorder w.graph (reverse starts) [] l) (Unwinds-ended w.graph q.0 out q.2) q.1;
      }

  -- ---- the stack, whose top is its last entry

  abbrev pub from_top : List (T × Bool) → List (ℕ × Bool)
  from_top stack = reverse (states stack)

  pub from_top-push : (rest : List (T × Bool)) (x : T) (f : Bool) → from_top (rest ++ (x, f) ∷ []) ≡ (w.node x, f) ∷ from_top rest
  from_top-push rest x f = ap reverse (map-append (λ p. (w.node p.0, p.1)) rest ((x, f) ∷ [])) ∙ reverse-append (states rest) ((w.node x, f) ∷ [])

  from_top-unvisited : (ys : List T) → from_top (map (λ y. (y, false)) ys) ≡ unvisited (reverse (numbers w ys))
  from_top-unvisited [] = refl
  from_top-unvisited (y ∷ ys) =
      reverse-append ((w.node y, false) ∷ []) (states (map (λ z. (z, false)) ys)) ∙ ap (λ l. l ++ (w.node y, false) ∷ []) (from_top-unvisited ys)
      ∙ sym (ap unvisited (reverse-append (w.node y ∷ []) (numbers w ys)) ∙ map-append (λ a. (a, false)) (reverse (numbers w ys)) (w.node y ∷ []))

  pub from_top-neighbors : (rest : List (T × Bool)) (ys : List T) → from_top (rest ++ map (λ y. (y, false)) ys) ≡ unvisited (reverse (numbers w ys)) ++ from_top rest
  from_top-neighbors rest ys =
      ap reverse (map-append (λ p. (w.node p.0, p.1)) rest (map (λ y. (y, false)) ys)) ∙ reverse-append (states rest) (states (map (λ y. (y, false)) ys)) ∙ ap (λ l. l ++ from_top rest) (from_top-unvisited ys)
