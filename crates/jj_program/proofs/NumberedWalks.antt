-- Numbers of ids, which are their indices in an ascending list.
use Rattle.std.proofs.Common.{◌≡◌, ◌∙◌, ◌+◌, ◌<◌, ◌≤◌, ℕ, suc, true, false, List, [], ◌∷◌, ◌++◌, length, get_or, map, take, nat_lt, ap, sym, subst, arith, rules, ⊎_elim}
use Rattle.std.specs.Prelude.{All, cond}
use Rattle.std.specs.List.{Contains, sum_by}
use Rattle.std.specs.List.Sorted.{IsStrictlyIncreasing}
use Rattle.std.proofs.lemmas.Bool.{cases_lt}
use Rattle.std.proofs.lemmas.List.{map-append, take_more}
use Rattle.std.proofs.lemmas.List.Elements.{All-contains}
use Rattle.std.proofs.lemmas.List.Kept.{AllPairs-from_increasing}
use Rattle.std.proofs.lemmas.List.Sums.{get_or-le-sum_by}
use Rattle.jj_dag.proofs.Relabelled.{Contains-map}
use Rattle.jj_program.specs.Parts.{id_of}

pub id_within : (ids : List ℕ) (number : ℕ) → number < length ids → id_of ids number ≡ get_or ids number 0
id_within ids number within = let yes : nat_lt number (length ids) ≡ true = search rules in ap (λ b. cond b (get_or ids number 0) (suc (sum_by (λ id. id) ids + number))) yes

id_beyond : (ids : List ℕ) (number : ℕ) → length ids ≤ number → id_of ids number ≡ suc (sum_by (λ id. id) ids + number)
id_beyond ids number beyond = let no : nat_lt number (length ids) ≡ false = search rules in ap (λ b. cond b (get_or ids number 0) (suc (sum_by (λ id. id) ids + number))) no

-- a number of an id in the list is an index
pub within_ids : (ids : List ℕ) (number : ℕ) → Contains ids (id_of ids number) → number < length ids
within_ids ids number named = ⊎_elim (λ within. within) (λ beyond. absurd (too_large beyond named)) (cases_lt number (length ids))
  where
    too_large : length ids ≤ number → Contains ids (id_of ids number) → ⊥
    too_large beyond (k, within, e) =
        let large = id_beyond ids number beyond in
        let small = get_or-le-sum_by (λ id. id) ids k (id_of ids number) within in
        omega (arith, large, small, e)

-- the ids of numbers ascend with them
pub id_rises : (ids : List ℕ) → IsStrictlyIncreasing ids → (i j : ℕ) → i < j → id_of ids i < id_of ids j
id_rises ids up i j less =
    ⊎_elim
    (λ inside.
    let first = id_within ids i (omega arith) in
    let second = id_within ids j inside in
    omega (arith, first, second, AllPairs-from_increasing ids up i j 0 less inside))
    (λ beyond. ⊎_elim
    (λ inside.
    let first = id_within ids i inside in
    let second = id_beyond ids j beyond in
    let small = get_or-le-sum_by (λ id. id) ids i 0 inside in
    omega (arith, first, second, small))
    (λ both.
    let first = id_beyond ids i both in
    let second = id_beyond ids j beyond in
    omega (arith, first, second))
    (cases_lt i (length ids)))
    (cases_lt j (length ids))

-- numbers of ids in the list are indices
pub numbers_within : (ids numbers args : List ℕ) → map (id_of ids) numbers ≡ args → All (Contains ids) args → (number : ℕ) → Contains numbers number → number < length ids
numbers_within ids numbers args same named number among =
    within_ids ids number (All-contains (Contains ids) args (id_of ids number) named (subst (λ xs. Contains xs (id_of ids number)) same (Contains-map (id_of ids) numbers number among)))

-- one more number, which is that of the next id
pub named_more : (name : ℕ → ℕ) (numbers grown : List ℕ) (number : ℕ) (ids : List ℕ) (i : ℕ) → i < length ids → map name numbers ≡ take i ids → grown ≡ numbers ++ number ∷ []
    → name number ≡ get_or ids i 0 → map name grown ≡ take (i + 1) ids
named_more name numbers grown number ids i within so_far is at =
    ap (map name) is ∙ map-append name numbers (number ∷ []) ∙ ap (λ l. l ++ name number ∷ []) so_far ∙ ap (λ x. take i ids ++ x ∷ []) at ∙ sym (take_more ids i 0 within)
