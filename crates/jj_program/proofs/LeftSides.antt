-- The sides at the positions that are left, and those after a pair is dropped.
use Rattle.std.proofs.Common.{◌≡◌, ◌∙◌, ℕ, suc, ◌+◌, ◌<◌, Bool, true, false, List, [], ◌∷◌, ◌++◌, length, map, ap, sym, arith, get_or, remove, swap, set, take, drop, add-one, ⊎_elim}
use Rattle.std.specs.Prelude.{slice_index}
use Rattle.std.proofs.lemmas.Bool.{cases_eq}
use Rattle.std.proofs.lemmas.List.{drop-map, drop-set-lt, get_or-drop, get_or-map, get_or-set_other, get_or-set_same, length-drop, length-map, length-set, map-append, same_lists, take-map, take-set}
use Rattle.std.proofs.lemmas.List.Edits.{swap_is}
use Rattle.jj_merges.specs.Simplify.{SideIndices, cancel_pair}
use Rattle.jj_program.specs.MergeSimplify.{positions_below, remove_at, sides_at}
use Rattle.jj_program.proofs.LeftPositions.{HasRank, position-at, position-ranked, positions-dropped, rank, rank-below}

map-remove : (f : ℕ → ℕ) (xs : List ℕ) (k : ℕ) → map f (remove xs k) ≡ remove (map f xs) k
map-remove f xs k =
    let first = take-map f k xs in
    let last = drop-map f (suc k) xs in
    map-append f (take k xs) (drop (suc k) xs) ∙ (λ i. (sym first) i ++ (sym last) i)

remove-rest : (xs : List ℕ) (k : ℕ) → k + 1 < length xs → remove (drop 1 xs) k ≡ drop 1 (remove xs (k + 1))
remove-rest [] k h = absurd (omega arith)
remove-rest (x ∷ xs) k h = ap (λ n. drop 1 (remove (x ∷ xs) n)) (sym (add-one k))

remove-set : (xs : List ℕ) (k y : ℕ) → remove (set xs k y) k ≡ remove xs k
remove-set xs k y =
    let first = take-set xs k y in
    let last = drop-set-lt (suc k) xs k y (omega arith) in
    λ i. first i ++ last i

remove-swap : (xs : List ℕ) (i j : ℕ) → i < length xs → j < length xs → remove (swap xs i j) j ≡ remove (set xs i (get_or xs j 0)) j
remove-swap xs i j hi hj =
    ap (λ ys. remove ys j) (sym (swap_is xs i j 0 hi hj)) ∙ remove-set (set xs i (get_or xs j 0)) j (get_or xs i 0)

module _ (test : ℕ → Bool) (adds : List ℕ) (n : ℕ) where
  abbrev pub sides : SideIndices
  sides = sides_at adds (positions_below n test)

  pub length-adds : length sides.adds ≡ rank test n
  length-adds = length-map (positions_below n test) (slice_index adds)

  pub length-removes : 0 < rank test n → length sides.removes + 1 ≡ rank test n
  length-removes some = omega (arith, length-drop 1 (map remove_at (positions_below n test)), length-map (positions_below n test) remove_at)

  pub add-read : (p : ℕ) → test p ≡ true → p < n → get_or sides.adds (rank test p) 0 ≡ get_or adds p 0
  add-read p passes below =
      get_or-map (slice_index adds) (positions_below n test) (rank test p) 0 0 (rank-below test p n passes below)
      ∙ ap (slice_index adds) (position-at test n p 0 passes below)

  pub remove-read : (j : ℕ) → j < length sides.removes → (p : ℕ) × HasRank test n (1 + j) p × (get_or sides.removes j 0 ≡ remove_at p)
  remove-read j within =
      let size = length-drop 1 (map remove_at (positions_below n test)) in
      let count = length-map (positions_below n test) remove_at in
      let below : 1 + j < rank test n = omega arith in (
        get_or (positions_below n test) (1 + j) 0,
        position-ranked test n (1 + j) 0 below,
        get_or-drop 1 (map remove_at (positions_below n test)) j 0 ∙ get_or-map remove_at (positions_below n test) (1 + j) 0 0 below,
      )

  -- the remove at position q
  pub remove-at : (q k : ℕ) → test q ≡ true → q < n → rank test q ≡ 1 + k → get_or sides.removes k 0 ≡ remove_at q
  remove-at q k passes below ranked =
      let within = rank-below test q n passes below in
      get_or-drop 1 (map remove_at (positions_below n test)) k 0
      ∙ get_or-map remove_at (positions_below n test) (1 + k) 0 0 (omega arith)
      ∙ ap (λ j. remove_at (get_or (positions_below n test) j 0)) (sym ranked)
      ∙ ap remove_at (position-at test n q 0 passes below)

  pub sides-dropped : (other : ℕ → Bool) (p q k : ℕ) → n ≡ length adds → test p ≡ true → p < n → q < n → test q ≡ true → rank test q ≡ k + 1
      → other q ≡ false → ((o : ℕ) → o < n → (o ≡ q → ⊥) → other o ≡ test o)
      → cancel_pair sides (rank test p) k ≡ sides_at (set adds p (get_or adds q 0)) (positions_below n other)
  sides-dropped other p q k size passes_p below_p below_q passes_q ranked fails rest =
      let ps = positions_below n test in
      let i = rank test p in
      let xs = map (slice_index adds) ps in
      let next = set adds p (get_or adds q 0) in
      let hi : i < rank test n = rank-below test p n passes_p below_p in
      let hq : rank test q < rank test n = rank-below test q n passes_q below_q in
      let wide : length xs ≡ rank test n = length-map ps (slice_index adds) in
      let wide' : length (map remove_at ps) ≡ rank test n = length-map ps remove_at in
      let left : positions_below n other ≡ remove ps (k + 1) = positions-dropped test other n q below_q passes_q fails rest ∙ ap (remove ps) ranked in
      let moved : get_or xs (k + 1) 0 ≡ get_or adds q 0 = ap (λ j. get_or xs j 0) (sym ranked) ∙ add-read q passes_q below_q in
      let written : set xs i (get_or xs (k + 1) 0) ≡ map (slice_index next) ps =
      same_lists _ _ (omega (arith, length-set xs i (get_or xs (k + 1) 0), length-map ps (slice_index next)))
      (λ m d within.
      let hm : m < rank test n = omega (arith, length-set xs i (get_or xs (k + 1) 0)) in
      let there = position-ranked test n m 0 hm in
      let right : get_or (map (slice_index next) ps) m d ≡ get_or next (get_or ps m 0) 0 = get_or-map (slice_index next) ps m 0 d hm in
      ⊎_elim
      (λ (e : m ≡ i).
      let at_p : get_or ps m 0 ≡ p = ap (λ j. get_or ps j 0) e ∙ position-at test n p 0 passes_p below_p in
      let new : get_or next (get_or ps m 0) 0 ≡ get_or adds q 0 = ap (λ j. get_or next j 0) at_p ∙ get_or-set_same adds p (get_or adds q 0) 0 (omega arith) in
      ap (λ j. get_or (set xs i (get_or xs (k + 1) 0)) j d) e ∙ get_or-set_same xs i (get_or xs (k + 1) 0) d (omega arith) ∙ moved ∙ sym (right ∙ new))
      (λ (apart : m ≡ i → ⊥).
      let kept : get_or next (get_or ps m 0) 0 ≡ get_or adds (get_or ps m 0) 0 =
      get_or-set_other adds p (get_or ps m 0) (get_or adds q 0) 0 (λ e. apart (sym there.2 ∙ ap (rank test) e)) in
      get_or-set_other xs i m (get_or xs (k + 1) 0) d apart ∙ get_or-map (slice_index adds) ps m 0 d hm ∙ sym (right ∙ kept))
      (cases_eq m i)) in
      let new_adds : remove (swap xs i (k + 1)) (k + 1) ≡ map (slice_index next) (positions_below n other) =
      remove-swap xs i (k + 1) (omega arith) (omega arith)
      ∙ ap (λ ys. remove ys (k + 1)) written
      ∙ sym (map-remove (slice_index next) ps (k + 1))
      ∙ ap (map (slice_index next)) (sym left) in
      let new_removes : remove (drop 1 (map remove_at ps)) k ≡ drop 1 (map remove_at (positions_below n other)) =
      remove-rest (map remove_at ps) k (omega arith)
      ∙ ap (drop 1) (sym (map-remove remove_at ps (k + 1)) ∙ ap (map remove_at) (sym left)) in
      λ t. record { adds = new_adds t; removes = new_removes t }
