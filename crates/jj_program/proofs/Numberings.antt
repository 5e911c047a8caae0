-- A sorted list of ids that starts with all ids below a size: that it is sorted, and binary search in it.
use Rattle.std.proofs.Common.{◌≡◌, ◌∙◌, ◌+◌, ◌-◌, ◌<◌, ◌≤◌, ℕ, List, ◌++◌, length, length-append, get_or, arith, ap, sym, ⊎_elim}
use Rattle.std.proofs.lemmas.Bool.{cases_eq, cases_lt}
use Rattle.std.specs.Prelude.{All, Err}
use Rattle.std.specs.List.{Contains}
use Rattle.std.specs.List.Sorted.{IsBinarySearchResult, IsStrictlyIncreasing}
use Rattle.std.specs.Ordering.{nat_cmp}
use Rattle.std.proofs.lemmas.Grind.{get_or_default_zero}
use Rattle.std.proofs.lemmas.List.{get_or_append_left, get_or-append_right}
use Rattle.std.proofs.lemmas.List.Elements.{All-get_or}
use Rattle.std.proofs.lemmas.List.Kept.{AllPairs-from_increasing}
use Rattle.std.proofs.lemmas.List.Sorted.{searched}

rises : (ids : List ℕ) → IsStrictlyIncreasing ids → (i j : ℕ) → i ≤ j → j < length ids
    → get_or ids i 0 ≤ get_or ids j 0
rises ids up i j le within =
    ⊎_elim (λ same. omega (arith, ap (λ k. get_or ids k 0) same))
    (λ apart. let less = AllPairs-from_increasing ids up i j 0 (omega arith) within in omega (arith, less))
    (cases_eq i j)

-- an unsuccessful search means that the id is not in the list
pub none_missed : (ids : List ℕ) (id index : ℕ) → IsStrictlyIncreasing ids
    → IsBinarySearchResult (λ y. nat_cmp y id) ids (Err index) → Contains ids id → ⊥
none_missed ids id index up missed (k, within, is) =
    let at : get_or ids k 0 ≡ id = sym (get_or_default_zero ids k id within) ∙ is in
    let (end, before, after) = searched ids id (Err index) missed (rises ids up) in
    ⊎_elim (λ less. let below = before k less in omega (arith, at, below))
    (λ more. let above = after k (omega arith) within in omega (arith, at, above)) (cases_lt k index)

-- the numbers below a size, in ascending order
abbrev pub AreBelow : List ℕ → ℕ → Type 0
AreBelow ids size = (length ids ≡ size) × ((k : ℕ) → k < size → get_or ids k 0 ≡ k)

-- followed by ascending ids that are not below it
pub joined_ascending : (low high : List ℕ) (size : ℕ) → AreBelow low size → IsStrictlyIncreasing high → All (λ id. size ≤ id) high → IsStrictlyIncreasing (low ++ high)
joined_ascending low high size (long, is) up above k within =
    let whole = length-append low high in
    ⊎_elim
    (λ inside.
    let first : get_or (low ++ high) k 0 ≡ k = get_or_append_left low high 0 k (omega (arith, inside, long)) ∙ is k (omega (arith, inside)) in
    let second : get_or (low ++ high) (k + 1) 0 ≡ k + 1 = get_or_append_left low high 0 (k + 1) (omega (arith, inside, long)) ∙ is (k + 1) inside in
    omega (arith, first, second))
    (λ beyond.
    let second : get_or (low ++ high) (k + 1) 0 ≡ get_or high (k + 1 - size) 0 = get_or-append_right low high size (k + 1) 0 long beyond in
    let size_le : size ≤ get_or high (k + 1 - size) 0 = All-get_or (λ id. size ≤ id) high (k + 1 - size) 0 (omega (arith, within, whole, long, beyond)) above in
    ⊎_elim
    (λ last.
    let first : get_or (low ++ high) k 0 ≡ k = get_or_append_left low high 0 k (omega (arith, last, long)) ∙ is k last in
    omega (arith, first, second, size_le, last))
    (λ after.
    let first : get_or (low ++ high) k 0 ≡ get_or high (k - size) 0 = get_or-append_right low high size k 0 long after in
    let next : k - size + 1 ≡ k + 1 - size = omega (arith, after) in
    let rises : get_or high (k - size) 0 < get_or high (k - size + 1) 0 = up (k - size) (omega (arith, within, whole, long, after)) in
    omega (arith, first, second, rises, ap (λ j. get_or high j 0) next))
    (cases_lt k size))
    (cases_lt (k + 1) size)

-- each of these numbers is in it
pub below_contained : (low : List ℕ) (size id : ℕ) → AreBelow low size → id < size → Contains low id
below_contained low size id (long, is) below = (id, omega (arith, below, long), get_or_default_zero low id id (omega (arith, below, long)) ∙ is id below)
