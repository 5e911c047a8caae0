-- Look-ups in and insertions into the maps of an in-memory backend.
use Rattle.std.proofs.Common.{◌≡◌, ◌⊎◌, inl, inr, ℕ, Bool, true, false, cond, List, [], ◌∷◌, Option, Some, None, refl, sym, ap, ◌∙◌, subst}
use Rattle.std.specs.Ordering.{nat_cmp}
use Rattle.std.specs.Cmp.Lexicographic.{slice_cmp, texts_ties, same_text, bytes_decides}
use Rattle.std.specs.Str.{bytes_eq}
use Rattle.std.specs.BTreeMap.{BTreeMap, get_by, Updates}
use Rattle.std.specs.Map.{lookup}
use Rattle.std.specs.Bool.{MatchBool}
use Rattle.jj_backend.specs.Errors.{is_not_found}
use Rattle.jj_backend.specs.Objects.{ById, put, IsFree}
use Rattle.jj_backend.specs.declared.backend.errors.BackendError.{BackendError}
use Rattle.jj_backend.specs.declared.backend.errors.BackendError.TheVariants.{Memory}
use Rattle.jj_trees.specs.MemoryObjects.{ObjectEntries, by_id}

module _ {V : Type 0} where
  -- by_id is the map's look-up
  pub by_id-get : (m : BTreeMap (List ℕ) V) (id : List ℕ) → by_id m.entries id ≡ get_by (slice_cmp nat_cmp id) m
  unfolding by_id
  by_id-get m id = λ i. lookup (λ q. texts_ties id q i) m.entries

  pub by_id-insert : (m n : BTreeMap (List ℕ) V) (id : List ℕ) (v : V) → Updates (slice_cmp nat_cmp) m n id (Some v)
      → by_id n.entries ≡ put (by_id m.entries) id v
  by_id-insert m n id v u = λ i q. at q i
    where
      at : (q : List ℕ) → by_id n.entries q ≡ put (by_id m.entries) id v q
      at q =
          by_id-get n q ∙ u.0 q ∙ ap (λ (b : Bool). cond b (Some v) (get_by (slice_cmp nat_cmp q) m)) (sym (texts_ties id q))
          ∙ ap (λ o. cond (bytes_eq id q) (Some v) o) (sym (by_id-get m q))

  pub by_id-one : (entries : ObjectEntries V) (id : List ℕ) (v : V) → entries ≡ (id, v) ∷ [] → by_id entries id ≡ Some v
  unfolding by_id
  by_id-one entries id v e = ap (lookup (bytes_eq id)) e ∙ ap (λ (b : Bool). cond b (Some v) None) ((bytes_decides id id).1 refl)

  put_there : (m : ById V) (id : List ℕ) (v : V) (b : Bool) (q : List ℕ) → bytes_eq id q ≡ b → m id ≡ Some v → cond b (Some v) (m q) ≡ m q
  put_there m id v true q t h = sym h ∙ ap m (same_text id q (sym t))
  put_there m id v false q t h = refl

  -- storing an object again changes nothing
  pub put-same : (m : ById V) (id : List ℕ) (v : V) → m id ≡ Some v → m ≡ put m id v
  put-same m id v h = λ i q. sym (put_there m id v (bytes_eq id q) q refl h) i

  -- storing an object under a free id preserves the other objects
  pub put-preserves : (m : ById V) (id : List ℕ) (v : V) (q : List ℕ) (w : V) → IsFree m id v → m q ≡ Some w → put m id v q ≡ Some w
  put-preserves m id v q w free there = by (bytes_eq id q) refl
    where
      some_same : (o : Option V) → o ≡ Some w → (o ≡ None) ⊎ (o ≡ Some v) → Some v ≡ Some w
      some_same o is (inl none) = cc
      some_same o is (inr some) = sym some ∙ is

      by : (b : Bool) → bytes_eq id q ≡ b → cond b (Some v) (m q) ≡ Some w
      by true t = some_same (m id) (ap m (same_text id q (sym t)) ∙ there) free
      by false t = there

-- a read of a missing object fails with ObjectNotFound, or is out of memory
pub absent_read : (P : Type 0) (e : BackendError) → (is_not_found e ≡ true) ⊎ (e ≡ Memory) → P → MatchBool (is_not_found e) P (e ≡ Memory)
absent_read P e (inl t) p = subst (λ b. MatchBool b P (e ≡ Memory)) (sym t) p
absent_read P e (inr m) p = subst (λ f. MatchBool (is_not_found f) P (f ≡ Memory)) (sym m) refl
