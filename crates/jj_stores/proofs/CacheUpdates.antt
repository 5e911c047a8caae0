-- A hit and an insertion of the LRU cache are `cache_after`.
use Rattle.std.proofs.Common.{◌≡◌, ℕ, zero, suc, ◌+◌, ◌-◌, ◌<◌, ◌≤◌, true, false, List, [], ◌∷◌, length, take, Option, Some, None, refl, sym, arith}
use Rattle.std.specs.Str.{bytes_eq}
use Rattle.std.specs.Cmp.Lexicographic.{same_text}
use Rattle.std.specs.Map.{lookup, lookup_entry, remove_entry}
use Rattle.std.proofs.lemmas.List.{take_all, length-take}
use Rattle.lru.specs.LruCache.{lru_cache, promoted, put_entries}
use Rattle.jj_stores.specs.Verdict.{Verdict}
use Rattle.jj_stores.specs.FirstDecisive.{cache_after}

-- a hit finds the only pair of the id; removing it leaves one pair fewer
found : (id : List ℕ) (v : Verdict) (es : List (List ℕ × Verdict)) → lookup (bytes_eq id) es ≡ Some v
    → (lookup_entry (bytes_eq id) es ≡ Some (id, v)) × (length (remove_entry (bytes_eq id) es) + 1 ≡ length es)
found id v [] h = cc
found id v (e ∷ es) h = (elim (bytes_eq id e.0) as (λ b. bytes_eq id e.0 ≡ b → (lookup_entry (bytes_eq id) (e ∷ es) ≡ Some (id, v)) × (length (remove_entry (bytes_eq id) (e ∷ es)) + 1 ≡ length (e ∷ es))) [
  | true ↦ λ t.
      let key : id ≡ e.0 = same_text id e.0 (sym t) in
      let value : e.1 ≡ v = (let g = rw t at h in cc) in
      (rw t (λ i. Some (sym key i, value i)), rw t (omega arith))
  | false ↦ λ t.
      let rest = found id v es (rw t at h) in
      (rw t rest.0, rw t (omega (arith, rest.1)))
]) refl

not_found : (id : List ℕ) (es : List (List ℕ × Verdict)) → lookup (bytes_eq id) es ≡ None
    → (lookup_entry (bytes_eq id) es ≡ None) × (remove_entry (bytes_eq id) es ≡ es)
not_found id [] h = (refl, refl)
not_found id (e ∷ es) h = (elim (bytes_eq id e.0) as (λ b. bytes_eq id e.0 ≡ b → (lookup_entry (bytes_eq id) (e ∷ es) ≡ None) × (remove_entry (bytes_eq id) (e ∷ es) ≡ e ∷ es)) [
  | true ↦ λ t. let g = rw t at h in cc
  | false ↦ λ t.
      let rest = not_found id es (rw t at h) in
      (rw t rest.0, rw t (λ i. e ∷ rest.1 i))
]) refl

pub promoted_remembered : (n : ℕ) (id : List ℕ) (v : Verdict) (es : List (List ℕ × Verdict)) → lookup (bytes_eq id) es ≡ Some v → length es ≤ n
    → promoted (bytes_eq id) es ≡ cache_after n id v es
promoted_remembered n id v es h fits =
    let f = found id v es h in
    let all : length ((id, v) ∷ remove_entry (bytes_eq id) es) ≤ n = omega (arith, f.1) in
    rw f.0 (sym (take_all n ((id, v) ∷ remove_entry (bytes_eq id) es) all))

first_taken : {X : Type 0} (n : ℕ) (x : X) (xs : List X) → 0 < n → x ∷ take (n - 1) xs ≡ take n (x ∷ xs)
first_taken zero x xs h = absurd (omega arith)
first_taken (suc n) x xs h = let e : suc n - 1 ≡ n = omega arith in rw e refl

pub put_remembered : (n : ℕ) (id : List ℕ) (v : Verdict) (es : List (List ℕ × Verdict)) → lookup (bytes_eq id) es ≡ None → 0 < n
    → put_entries bytes_eq (lru_cache es n) id v ≡ cache_after n id v es
put_remembered n id v es h some =
    let f = not_found id es h in
    rw (f.0, f.1) (first_taken n (id, v) es some)

pub length-remembered : (n : ℕ) (id : List ℕ) (v : Verdict) (es : List (List ℕ × Verdict)) → length (cache_after n id v es) ≤ n
length-remembered n id v es = rw length-take (omega arith)

pub same_found : {X : Type 0} (a b : X) (o : Option X) → Some a ≡ o → o ≡ Some b → a ≡ b
same_found a b o p q = cc
