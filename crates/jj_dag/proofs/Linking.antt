-- In-degrees, while lists of neighbors become lists of indices.
use Rattle.std.proofs.Common.{◌≡◌, ℕ, ◌+◌, ◌<◌, cond, Option, None, Some, List, [], ◌∷◌, ◌++◌, length, map, get_or, set, take, refl, arith, eqb, ⊎_elim, append-nil}
use Rattle.std.specs.List.{count_by, filter_map}
use Rattle.std.proofs.lemmas.List.{map_push, take_more}
use Rattle.std.proofs.lemmas.List.Elements.{filter_map-append}
use Rattle.std.proofs.lemmas.List.Sums.{sum_by_push}
use Rattle.jj_dag.specs.ReadyNodes.{in_degree}
use Rattle.jj_dag.proofs.TakingReady.{at_set, read_is}

-- the in-degrees are those of the linked lists and of the part of the next one
abbrev pub AreCounts : ℕ → List ℕ → List (List ℕ) → List ℕ → Type 0
AreCounts n degrees targets indices = (k : ℕ) → k < n → get_or degrees k 0 ≡ in_degree targets k + count_by (eqb k) indices

pub counts_edge : (n : ℕ) (degrees indices : List ℕ) (targets : List (List ℕ)) (p r c : ℕ) → AreCounts n degrees targets indices → p < length degrees → r ≡ get_or degrees p r → c ≡ r + 1
    → AreCounts n (set degrees p c) targets (indices ++ p ∷ [])
counts_edge n degrees indices targets p r c before lt e more k below =
    let was = before k below in
    let one_more : count_by (eqb k) (indices ++ p ∷ []) ≡ count_by (eqb k) indices + cond (eqb k p) 1 0 = sum_by_push (λ y. cond (eqb k y) 1 0) indices p in
    let is = read_is degrees p r lt e in
    ⊎_elim (λ (one, new, old). omega arith) (λ (none, other). omega arith) (at_set degrees p c k lt)

pub counts_list : (n : ℕ) (degrees indices : List ℕ) (targets : List (List ℕ)) → AreCounts n degrees targets indices → AreCounts n degrees (targets ++ indices ∷ []) []
counts_list n degrees indices targets before k below =
    let was = before k below in
    let more : in_degree (targets ++ indices ∷ []) k ≡ in_degree targets k + count_by (eqb k) indices = sum_by_push (λ l. count_by (eqb k) l) targets indices in
    omega arith

-- one more element of a list is mapped
pub filter_map_found : {X Y : Type 0} (h : X → Option Y) (xs : List X) (i : ℕ) (x : X) (y : Y) → i < length xs → x ≡ get_or xs i x → h x ≡ Some y
    → filter_map h (take (i + 1) xs) ≡ filter_map h (take i xs) ++ y ∷ []
filter_map_found h xs i x y lt e is = rw (take_more xs i x lt, filter_map-append, ← e, is) refl

pub filter_map_missed : {X Y : Type 0} (h : X → Option Y) (xs : List X) (i : ℕ) (x : X) → i < length xs → x ≡ get_or xs i x → h x ≡ None
    → filter_map h (take (i + 1) xs) ≡ filter_map h (take i xs)
filter_map_missed h xs i x lt e is = rw (take_more xs i x lt, filter_map-append, ← e, is) (append-nil (filter_map h (take i xs)))

pub map_one_more : {X Y : Type 0} (f : X → Y) (xs : List X) (i : ℕ) (x : X) → i < length xs → x ≡ get_or xs i x → map f (take (i + 1) xs) ≡ map f (take i xs) ++ f x ∷ []
map_one_more f xs i x lt e = rw (take_more xs i x lt, map_push, ← e) refl
