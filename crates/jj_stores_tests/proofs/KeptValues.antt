-- Values that stay stored across writes and garbage collection, and the results of their reads.
use Rattle.std.proofs.Common.{◌≡◌, inl, inr, ℕ, Bool, true, false, cond, List, [], ◌∷◌, Option, Some, None, Result, Ok, Err, refl, sym, ap, subst, ◌∙◌}
use Rattle.std.proofs.lemmas.List.Elements.{Contains-append_right, Contains-push}
use Rattle.std.specs.Bool.{MatchBool}
use Rattle.std.specs.Cmp.{IsEquivalence, first_so, second_so}
use Rattle.std.specs.Cmp.Lexicographic.{bytes_decides, pointwise, pointwise_decides, same_text}
use Rattle.std.specs.Prelude.{Contains, IfOk, IfErr, IsErr, IsSomeAnd}
use Rattle.std.specs.Str.{bytes_eq}
use Rattle.jj_backend.specs.Objects.{ById}
use Rattle.jj_backend.specs.declared.backend.timestamp.MillisSinceEpoch.{MillisSinceEpoch}
use Rattle.jj_stores.specs.OperationLaws.{operation_eq}
use Rattle.jj_stores.specs.OpStores.{AddsEqual, IsKeptOperation, IsKeptView, IsReachable, ReadsEqual, RemovesOthers, Times}
use Rattle.jj_stores.specs.OpStores.IsReachable.{head, parent}
use Rattle.jj_stores.specs.declared.op_store.errors.OpStoreError.{OpStoreError}
use Rattle.jj_stores.specs.declared.op_store.operation.Operation.{Operation}
use Rattle.jj_stores.specs.declared.op_store.view.View.{View}

module _ {V : Type 0} (eq : V → V → Bool) (old new : ById V) (id : List ℕ) (value : V) (added : AddsEqual eq old new id value) where
  -- the id of a written value is mapped to the stored one
  pub stored_at : new id ≡ Some added.0
  stored_at = ap (λ m. m id) added.3 ∙ ap (λ (b : Bool). cond b (Some added.0) (old id)) ((bytes_decides id id).1 refl)

  -- a write keeps what is stored
  pub kept_by_write : (other : List ℕ) (stored : V) → old other ≡ Some stored → new other ≡ Some stored
  kept_by_write other stored there = ap (λ m. m other) added.3 ∙ by_test (bytes_eq id other) refl
    where
      by_test : (b : Bool) → bytes_eq id other ≡ b → cond b (Some added.0) (old other) ≡ Some stored
      by_test true same =
          let at : old id ≡ Some stored = ap old (same_text id other (sym same)) ∙ there in
          elim added.2 [ inl none ↦ absurd cc | inr stays ↦ sym stays ∙ at ]
      by_test false other_id = there

-- garbage collection does not remove a value that is in use
pub kept_by_gc : {V : Type 0} (IsKept : List ℕ → Type 0) (old new : ById V) → RemovesOthers IsKept old new → (id : List ℕ) → IsKept id → new id ≡ old id
kept_by_gc IsKept old new removed id kept = elim (removed id) [ inl same ↦ same | inr gone ↦ absurd (gone.1 kept) ]

-- ---- reads

not_missing : {V : Type 0} (b : Bool) (P : Type 0) (stored : V) (found : Option V) → found ≡ Some stored → MatchBool b (found ≡ None) P → P
not_missing true P stored found is h = absurd cc
not_missing false P stored found is h = h

module _ {V : Type 0} (eq : V → V → Bool) (May : OpStoreError → Type 0) (found : Option V) (stored : V) (there : found ≡ Some stored) where
  -- a value that is read back equals the written one
  pub equal_read : IsEquivalence eq → (value : V) → eq stored value ≡ true → (r : Result V OpStoreError) → ReadsEqual eq May found r → IfOk r (λ x. eq x value ≡ true)
  equal_read laws value same (Ok x) read =
      let P : Option V → Type 0 = λ o. IsSomeAnd o (λ v. eq x v ≡ true) in
      laws.congr x stored value (subst P there read) ∙ same
  equal_read laws value same (Err e) read = tt

  -- its read fails only as the store may
  pub failed_read : (r : Result V OpStoreError) → ReadsEqual eq May found r → IfErr r May
  failed_read (Ok x) read = tt
  failed_read (Err e) read = not_missing _ _ stored found there read

-- ---- an operation is written, and then garbage is collected with this operation as the head

module _ (old new : ById Operation) (id : List ℕ) (value : Operation) (added : AddsEqual operation_eq old new id value)
    (root : List ℕ) (heads : List (List ℕ)) (is : heads ≡ id ∷ []) (times : Times) (time : MillisSinceEpoch) where
  -- an equal operation has the same view and the same parents
  same_view : added.0.view_id ≡ value.view_id
  same_view = same_text _ _ (sym (first_so (bytes_eq added.0.view_id value.view_id) _ added.1))

  same_parents : added.0.parents.items ≡ value.parents.items
  same_parents =
      let rest = second_so (bytes_eq added.0.view_id value.view_id) _ added.1 in
      (pointwise_decides bytes_decides _ _).0 (first_so (pointwise bytes_eq added.0.parents.items value.parents.items) _ rest)

  itself : IsReachable new (root ∷ heads) id
  itself = head (Contains-append_right (root ∷ []) heads id (subst (λ l. Contains l id) (sym is) (Contains-push [] id)))

  -- its parents stay stored
  pub parent_kept : (after : ById Operation) → RemovesOthers (IsKeptOperation new (root ∷ heads) times time) new after
      → (parent_id : List ℕ) (stored : Operation) → Contains value.parents.items parent_id → old parent_id ≡ Some stored → after parent_id ≡ Some stored
  parent_kept after removed parent_id stored among there =
      let reached = parent itself (stored_at operation_eq old new id value added) (subst (λ l. Contains l parent_id) (sym same_parents) among) in
      kept_by_gc (IsKeptOperation new (root ∷ heads) times time) new after removed parent_id (inl reached) ∙ kept_by_write operation_eq old new id value added parent_id stored there

  -- its view stays stored
  pub view_kept : (views after : ById View) → RemovesOthers (IsKeptView new (root ∷ heads) times time) views after → after value.view_id ≡ views value.view_id
  view_kept views after removed =
      kept_by_gc (IsKeptView new (root ∷ heads) times time) views after removed value.view_id (inl (id, added.0, itself, stored_at operation_eq old new id value added, same_view))

-- a read of a value that was deleted fails
pub missing_fails : {V : Type 0} (eq : V → V → Bool) (May : OpStoreError → Type 0) (found : Option V) (r : Result V OpStoreError) → found ≡ None → ReadsEqual eq May found r → IsErr r
missing_fails {V} eq May found (Ok x) none read = let P : Option V → Type 0 = λ o. IsSomeAnd o (λ v. eq x v ≡ true) in absurd (subst P none read)
missing_fails eq May found (Err e) none read = refl
