-- The members of a sparse set, before and after a number is inserted or removed.
use Rattle.std.proofs.Common.{◌≡◌, ◌≢◌, ℕ, ◌+◌, ◌-◌, ◌<◌, ◌≤◌, Bool, true, false, cond, List, [], ◌∷◌, ◌++◌, length, get_or, refl, sym, ◌∙◌, ap, arith, eqb, ⊎_elim}
use Rattle.std.specs.Bool.{one_answer}
use Rattle.std.specs.List.{Contains, IsDistinct}
use Rattle.std.specs.List.Sorted.{IsPermutation}
use Rattle.std.specs.Set.{is_member}
use Rattle.std.proofs.lemmas.List.Sorted.{IsPermutation-push_more, IsPermutation-refl, IsPermutation-sym}
use Rattle.std.proofs.lemmas.Bool.{cases_eq, cases_lt}
use Rattle.std.proofs.lemmas.Bool.Decides.{Decides-eqb}
use Rattle.std.proofs.lemmas.Grind.{get_or_default_zero}
use Rattle.std.proofs.lemmas.Map.Keys.{IsDistinct-from_apart}
use Rattle.jj_dag.specs.DenseSets.{IsSparseSet}
use Rattle.jj_dag.specs.NodeSets.{Updates}
use Rattle.jj_dag.proofs.Walking.{Decides-has}

pub differ : (a b : ℕ) → a ≢ b → eqb a b ≡ false
differ a b apart = by_test (eqb a b) refl
  where
    by_test : (t : Bool) → eqb a b ≡ t → eqb a b ≡ false
    by_test true is = absurd (apart ((Decides-eqb a b).0 is))
    by_test false is = is

-- the number at an index is a member
at_index : (xs : List ℕ) (k q : ℕ) → k < length xs → get_or xs k 0 ≡ q → Contains xs q
at_index xs k q within is = (k, within, get_or_default_zero xs k q within ∙ is)

index_in : (xs : List ℕ) (q : ℕ) → Contains xs q → (k : ℕ) × (k < length xs) × (get_or xs k 0 ≡ q)
index_in xs q (k, within, is) = (k, within, sym (get_or_default_zero xs k q within) ∙ is)

-- a number at no index is no member
absent : (xs : List ℕ) (q : ℕ) → ((k : ℕ) → k < length xs → get_or xs k 0 ≡ q → ⊥) → is_member eqb xs q ≡ false
absent xs q none = by_test (is_member eqb xs q) refl
  where
    by_test : (t : Bool) → is_member eqb xs q ≡ t → is_member eqb xs q ≡ false
    by_test true is = let (k, within, at) = index_in xs q ((Decides-has xs q).0 is) in absurd (none k within at)
    by_test false is = is

-- it is at no index
pub absent_at : (xs : List ℕ) (q : ℕ) → is_member eqb xs q ≡ false → (k : ℕ) → k < length xs → get_or xs k 0 ≢ q
absent_at xs q none k within is = let both : true ≡ false = sym ((Decides-has xs q).1 (at_index xs k q within is)) ∙ none in cc

module _ (xs ps : List ℕ) (indexed : IsSparseSet xs ps) where
  -- no number is at two indices
  pub one_index : (i j : ℕ) → i < length xs → j < length xs → get_or xs i 0 ≡ get_or xs j 0 → i ≡ j
  one_index i j inside inside' same = sym (indexed i inside).1 ∙ ap (λ m. get_or ps m 0) same ∙ (indexed j inside').1

  pub members_distinct : IsDistinct eqb xs
  members_distinct = IsDistinct-from_apart eqb xs (λ i j d less within.
      differ (get_or xs i d) (get_or xs j d) (λ same.
      let first = get_or_default_zero xs i d (omega (arith, less, within)) in
      let second = get_or_default_zero xs j d within in
      let at = one_index i j (omega (arith, less, within)) within (sym first ∙ same ∙ second) in
      omega (arith, less, at)))

  -- a number that is not found at its index is no member
  pub beyond : (q : ℕ) → length ps ≤ q → is_member eqb xs q ≡ false
  beyond q out = absent xs q (λ k within is. let (room, at) = indexed k within in omega (arith, out, room, is))

  pub elsewhere : (q index : ℕ) → get_or ps q 0 ≡ index → length xs ≤ index → is_member eqb xs q ≡ false
  elsewhere q index stands out = absent xs q (λ k within is.
      let (room, at) = indexed k within in
      let here : k ≡ index = sym at ∙ ap (λ m. get_or ps m 0) is ∙ stands in
      omega (arith, here, out, within))

  pub another : (q index : ℕ) → get_or ps q 0 ≡ index → get_or xs index 0 ≢ q → is_member eqb xs q ≡ false
  another q index stands other = absent xs q (λ k within is.
      let (room, at) = indexed k within in
      let here : k ≡ index = sym at ∙ ap (λ m. get_or ps m 0) is ∙ stands in
      other (ap (λ n. get_or xs n 0) (sym here) ∙ is))

-- the last member replaces one
pub record TakesPlace (xs ys : List ℕ) (index : ℕ) : Type 0 where
  pub len : length ys + 1 ≡ length xs
  pub moved : index + 1 < length xs → get_or ys index 0 ≡ get_or xs (length xs - 1) 0
  pub same : (k : ℕ) → k ≢ index → k + 1 < length xs → get_or ys k 0 ≡ get_or xs k 0

module _ (xs ys ps : List ℕ) (q index : ℕ) (indexed : IsSparseSet xs ps) (within : index < length xs) (is : get_or xs index 0 ≡ q) (takes : TakesPlace xs ys index) where
  -- each member that is left was at another index
  was_at : (k : ℕ) → k < length ys → (j : ℕ) × (j < length xs) × (get_or xs j 0 ≡ get_or ys k 0) × (j ≢ index)
  was_at k inside =
      ⊎_elim (λ here.
      let more : index + 1 < length xs = omega (arith, here, inside, takes.len) in
      let at = takes.moved more in
      (length xs - 1, omega (arith, within), sym (ap (λ n. get_or ys n 0) here ∙ at), λ e. omega (arith, e, more)))
      (λ apart. (k, omega (arith, inside, takes.len), sym (takes.same k apart (omega (arith, inside, takes.len))), apart))
      (cases_eq k index)

  was_member : (x : ℕ) → Contains ys x → Contains xs x
  was_member x h = let (k, inside, at) = index_in ys x h in let (j, inside', e, apart) = was_at k inside in at_index xs j x inside' (e ∙ at)

  gone : is_member eqb ys q ≡ false
  gone = absent ys q (λ k inside at. let (j, inside', e, apart) = was_at k inside in apart (one_index xs ps indexed j index inside' within (e ∙ at ∙ sym is)))

  stays : (x : ℕ) → q ≢ x → Contains xs x → Contains ys x
  stays x other h =
      let (k, inside, at) = index_in xs x h in
      let apart : k ≢ index = λ e. other (sym is ∙ ap (λ n. get_or xs n 0) (sym e) ∙ at) in
      ⊎_elim (λ less. at_index ys k x (omega (arith, less, takes.len)) (takes.same k apart less ∙ at))
      (λ least.
      let last : k ≡ length xs - 1 = omega (arith, least, inside) in
      let more : index + 1 < length xs = end k last apart inside in
      at_index ys index x (omega (arith, more, takes.len)) (takes.moved more ∙ ap (λ n. get_or xs n 0) (sym last) ∙ at))
      (cases_lt (k + 1) (length xs))
    where
      end : (k : ℕ) → k ≡ length xs - 1 → k ≢ index → k < length xs → index + 1 < length xs
      end k last apart inside = ⊎_elim (λ less. less) (λ least. absurd (apart (omega (arith, least, last, within)))) (cases_lt (index + 1) (length xs))

  pub taken_out : Updates eqb xs ys q false
  taken_out x = by_test (eqb q x) refl
    where
      by_test : (t : Bool) → eqb q x ≡ t → is_member eqb ys x ≡ cond t false (is_member eqb xs x)
      by_test true e = ap (λ n. is_member eqb ys n) (sym ((Decides-eqb q x).0 e)) ∙ gone
      by_test false e =
          let other : q ≢ x = λ same. let yes : eqb q x ≡ true = (Decides-eqb q x).1 same in let both : true ≡ false = sym yes ∙ e in cc in
          one_answer (is_member eqb ys x) (is_member eqb xs x) (Decides-has ys x) ((λ h. stays x other ((Decides-has xs x).0 h)), λ h. (Decides-has xs x).1 (was_member x h))

-- a number is appended
pub pushed : {X : Type 0} (xs : List X) (q : X) → IsPermutation (q ∷ xs) (xs ++ q ∷ [])
pushed xs q = IsPermutation-sym (xs ++ q ∷ []) (q ∷ xs) (IsPermutation-push_more xs xs (q ∷ xs) q (IsPermutation-refl xs) (IsPermutation-refl (q ∷ xs)))
