-- Look-ups in and insertions into maps from ids.
use Rattle.std.proofs.Common.{◌≡◌, ◌≢◌, ℕ, Bool, true, false, not, cond, ◌&&◌, List, [], ◌∷◌, Option, Some, None, IsSome, refl, sym, ap, ◌∙◌, subst}
use Rattle.std.specs.Ordering.{nat_cmp}
use Rattle.std.specs.Cmp.Lexicographic.{slice_cmp, texts_ties, same_text, bytes_decides}
use Rattle.std.specs.BTreeMap.{BTreeMap, get_by, Updates}
use Rattle.std.specs.List.{find}
use Rattle.std.specs.Map.{keys_of, lookup}
use Rattle.std.specs.Str.{bytes_eq}
use Rattle.jj_backend.specs.Objects.{ById, put}
use Rattle.jj_stores.specs.OpStores.{IsMatch}
use Rattle.jj_stores_tests.specs.MemoryStores.{by_id, is_other_match}

module _ {V : Type 0} where
  -- by_id is the map's look-up
  pub by_id-get : (m : BTreeMap (List ℕ) V) (id : List ℕ) → by_id m.entries id ≡ get_by (slice_cmp nat_cmp id) m
  unfolding by_id
  by_id-get m id = λ i. lookup (λ q. texts_ties id q i) m.entries

  pub by_id-insert : (m n : BTreeMap (List ℕ) V) (id : List ℕ) (v : V) → Updates (slice_cmp nat_cmp) m n id (Some v)
      → by_id n.entries ≡ put (by_id m.entries) id v
  by_id-insert m n id v u = λ i q. at q i
    where
      at : (q : List ℕ) → by_id n.entries q ≡ put (by_id m.entries) id v q
      at q =
          by_id-get n q ∙ u.0 q ∙ ap (λ (b : Bool). cond b (Some v) (get_by (slice_cmp nat_cmp q) m)) (sym (texts_ties id q))
          ∙ ap (λ o. cond (bytes_eq id q) (Some v) o) (sym (by_id-get m q))

  put_there : (m : ById V) (id : List ℕ) (v : V) (b : Bool) (q : List ℕ) → bytes_eq id q ≡ b → m id ≡ Some v → cond b (Some v) (m q) ≡ m q
  put_there m id v true q t h = sym h ∙ ap m (same_text id q (sym t))
  put_there m id v false q t h = refl

  -- storing a value again changes nothing
  pub put-same : (m : ById V) (id : List ℕ) (v : V) → m id ≡ Some v → m ≡ put m id v
  put-same m id v h = λ i q. sym (put_there m id v (bytes_eq id q) q refl h) i

  some_either : (b : Bool) (v : V) (o : Option V) → IsSome o → IsSome (cond b (Some v) o)
  some_either true v o h = refl
  some_either false v o h = h

  -- a mapped id stays mapped
  pub put-mapped : (m : ById V) (id : List ℕ) (v : V) (q : List ℕ) → IsSome (m q) → IsSome (put m id v q)
  put-mapped m id v q h = some_either (bytes_eq id q) v (m q) h

  -- the id of the only value is mapped
  pub by_id-one : (es : List (List ℕ × V)) (id : List ℕ) (v : V) → es ≡ (id, v) ∷ [] → IsSome (by_id es id)
  unfolding by_id
  by_id-one es id v e = rw (e, (bytes_decides id id).1 refl) refl

  module _ (p : List ℕ → Bool) where
    -- an id that find returns is in the map and passes the test
    pub find-mapped : (es : List (List ℕ × V)) (id : List ℕ) → find p (keys_of es) ≡ Some id → IsSome (by_id es id) × (p id ≡ true)
    unfolding by_id
    find-mapped [] id h = absurd cc
    find-mapped (e ∷ es) id h = (elim (p e.0) as (λ b. p e.0 ≡ b → IsSome (lookup (bytes_eq id) (e ∷ es)) × (p id ≡ true)) [
      | true ↦ λ t.
          let g = rw t at h in
          let same : e.0 ≡ id = cc in
          let found : bytes_eq id e.0 ≡ true = (bytes_decides id e.0).1 (sym same) in
          (rw found refl, subst (λ k. p k ≡ true) same t)
      | false ↦ λ t.
          let rest = find-mapped es id (rw t at h) in
          (some_either _ _ _ rest.0, rest.1)
    ]) refl

    -- where find returns none, no id in the map passes the test
    pub find-unmapped : (es : List (List ℕ × V)) (id : List ℕ) → find p (keys_of es) ≡ None → IsSome (by_id es id) → p id ≡ true → ⊥
    unfolding by_id
    find-unmapped [] id h some passed = absurd cc
    find-unmapped (e ∷ es) id h some passed = (elim (p e.0) as (λ b. p e.0 ≡ b → ⊥) [
      | true ↦ λ t. let g = rw t at h in absurd cc
      | false ↦ λ t. (elim (bytes_eq id e.0) as (λ b. bytes_eq id e.0 ≡ b → ⊥) [
        | true ↦ λ s. let same : id ≡ e.0 = same_text id e.0 (sym s) in absurd cc
        | false ↦ λ s. find-unmapped es id (rw t at h) (rw s at some) passed
      ]) refl
    ]) refl

  -- where find returns no other match, each match is this id
  pub no_other : (es : List (List ℕ × V)) (prefix id other : List ℕ) → find (is_other_match prefix id) (keys_of es) ≡ None
      → IsMatch (by_id es) prefix other → other ≡ id
  no_other es prefix id other none match = (elim (bytes_eq other id) as (λ b. bytes_eq other id ≡ b → other ≡ id) [
    | true ↦ λ s. same_text other id (sym s)
    | false ↦ λ s. absurd (find-unmapped (is_other_match prefix id) es other none match.0 (rw (s, match.1) refl))
  ]) refl

  -- another match that find returns differs from this id
  pub another : (es : List (List ℕ × V)) (prefix id other : List ℕ) → find (is_other_match prefix id) (keys_of es) ≡ Some other
      → (id ≢ other) × IsMatch (by_id es) prefix other
  another es prefix id other some =
      let found = find-mapped (is_other_match prefix id) es other some in
      (λ same. differs _ _ found.1 ((bytes_decides other id).1 (sym same)), (found.0, both _ _ found.1))
    where
      differs : (a b : Bool) → not a && b ≡ true → a ≡ true → ⊥
      differs true b h e = cc
      differs false b h e = cc

      both : (a b : Bool) → not a && b ≡ true → b ≡ true
      both true b h = absurd cc
      both false b h = h
