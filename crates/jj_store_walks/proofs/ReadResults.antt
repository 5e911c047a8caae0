-- Properties of the results of reading several commits.
use Rattle.std.proofs.Common.{◌≡◌, ◌⊎◌, inl, inr, ℕ, suc, Result, Ok, Err, IfOk, List, [], ◌∷◌, ◌++◌, get_or, map, refl, sym, subst, arith, ⊎_elim}
use Rattle.std.specs.Prelude.{All, IfErr}
use Rattle.std.specs.List.{AllZip, Contains}
use Rattle.std.proofs.lemmas.List.Elements.{Contains-get_or}
use Rattle.jj_backend.specs.Objects.{Objects}
use Rattle.jj_backend.specs.declared.backend.errors.BackendError.{BackendError}
use Rattle.jj_backend.specs.declared.backend.errors.BackendError.TheVariants.{Memory}
use Rattle.jj_walks.proofs.Expanding.{at_first, first_or_rest, in_map, in_rest}
use Rattle.jj_store_walks.specs.ReadCommits.{IsErrorOfIds, IsReadFailure, IsStored, id_of}
use Rattle.jj_store_walks.specs.ReadResults.{AreReads, IsReadOf}
use Rattle.jj_store_walks.specs.declared.read_commit.ReadCommit.{ReadCommit}

abbrev pub Item : Type 0
Item = Result ReadCommit BackendError

pub zip_push : {X Y : Type 0} (R : X → Y → Type 0) (xs : List X) (ys : List Y) (x : X) (y : Y) → AllZip R xs ys → R x y → AllZip R (xs ++ x ∷ []) (ys ++ y ∷ [])
zip_push R [] [] x y h r = (r, tt)
zip_push R [] (b ∷ ys) x y h r = absurd h
zip_push R (a ∷ xs) [] x y h r = absurd h
zip_push R (a ∷ xs) (b ∷ ys) x y h r = (h.0, zip_push R xs ys x y h.1 r)

module _ (may_fail : BackendError → Type 0) (store : Objects) where
  -- the result of one read
  pub one_read : (id : List ℕ) (r : Item) → IfOk r (IsStored store) → IfOk r (λ c. c.id ≡ id) → IfErr r (λ e. IsReadFailure may_fail store e id) → IsReadOf may_fail store id r
  one_read id (Ok c) stored same error = (same, stored)
  one_read id (Err e) stored same error = error

  pub all_read : (ids : List (List ℕ)) (items : List Item) → AllZip (IsReadOf may_fail store) ids items → AreReads may_fail store ids items
  all_read [] [] h = tt
  all_read [] (x ∷ items) h = absurd h
  all_read (id ∷ ids) [] h = absurd h
  all_read (id ∷ ids) (x ∷ items) h = (h.0, inl (all_read ids items h.1))

  pub cut_reads : (ids : List (List ℕ)) (items : List Item) (id : List ℕ) (later : List (List ℕ)) → AllZip (IsReadOf may_fail store) ids items → AreReads may_fail store (ids ++ id ∷ later) (items ++ Err Memory ∷ [])
  cut_reads [] [] id later h = (inl refl, inr (refl, refl))
  cut_reads [] (x ∷ items) id later h = absurd h
  cut_reads (a ∷ ids) [] id later h = absurd h
  cut_reads (a ∷ ids) (x ∷ items) id later h = (h.0, inl (cut_reads ids items id later h.1))

  -- a commit that was read is stored under one of the ids
  pub reads_sound : (ids : List (List ℕ)) (items : List Item) → AreReads may_fail store ids items → (c : ReadCommit) → Contains items (Ok c) → Contains ids c.id × IsStored store c
  reads_sound [] [] k c h = absurd (omega (arith, h.1))
  reads_sound [] (x ∷ items) k c h = absurd k
  reads_sound (id ∷ ids) [] k c h = absurd k
  reads_sound (id ∷ ids) (x ∷ items) (one, rest) c h =
      ⊎_elim (λ here.
      let own : IsReadOf may_fail store id (Ok c) = subst (λ (y : Item). IsReadOf may_fail store id y) here one in
      (subst (λ (y : List ℕ). Contains (id ∷ ids) y) (sym own.0) (at_first id ids), own.1))
      (λ there.
      ⊎_elim (λ more. let k = reads_sound ids items more c there in (in_rest id ids c.id k.0, k.1))
      (λ cut. let none : Contains [] (Ok c) = subst (λ (l : List Item). Contains l (Ok c)) cut.0 there in absurd (omega (arith, none.1))) rest) (first_or_rest x items (Ok c) h)

  later_error : (id : List ℕ) (ids : List (List ℕ)) (e : BackendError) → IsErrorOfIds may_fail store ids e → IsErrorOfIds may_fail store (id ∷ ids) e
  later_error id ids e (inl memory) = inl memory
  later_error id ids e (inr (k, a, within, at, read)) = inr (suc k, a, omega arith, at, read)

  -- an error is one of reading one of the ids
  pub reads_errors : (ids : List (List ℕ)) (items : List Item) → AreReads may_fail store ids items → (e : BackendError) → Contains items (Err e) → IsErrorOfIds may_fail store ids e
  reads_errors [] [] k e h = absurd (omega (arith, h.1))
  reads_errors [] (x ∷ items) k e h = absurd k
  reads_errors (id ∷ ids) [] k e h = absurd k
  reads_errors (id ∷ ids) (x ∷ items) (one, rest) e h =
      ⊎_elim (λ here.
      let own : IsReadFailure may_fail store e id = subst (λ (y : Item). IsReadOf may_fail store id y) here one in
      ⊎_elim (λ memory. inl memory) (λ read. inr (0, id, omega arith, refl, read)) own)
      (λ there.
      ⊎_elim (λ more. later_error id ids e (reads_errors ids items more e there))
      (λ cut. let none : Contains [] (Err e) = subst (λ (l : List Item). Contains l (Err e)) cut.0 there in absurd (omega (arith, none.1))) rest) (first_or_rest x items (Err e) h)

  -- the results have a commit of this id, or an error of reading it
  abbrev pub HasRead : List Item → List ℕ → Type 0
  HasRead items id = ((c : ReadCommit) × Contains items (Ok c) × (c.id ≡ id)) ⊎ ((e : BackendError) × Contains items (Err e) × IsReadFailure may_fail store e id)

  first_read : (id : List ℕ) (x : Item) (items : List Item) → IsReadOf may_fail store id x → HasRead (x ∷ items) id
  first_read id (Ok c) items one = inl (c, at_first (Ok c) items, one.0)
  first_read id (Err e) items one = inr (e, at_first (Err e) items, one)

  later_read : (id : List ℕ) (x : Item) (items : List Item) → HasRead items id → HasRead (x ∷ items) id
  later_read id x items (inl (c, at, same)) = inl (c, in_rest x items (Ok c) at, same)
  later_read id x items (inr (e, at, fails)) = inr (e, in_rest x items (Err e) at, fails)

  pub reads_each : (ids : List (List ℕ)) (items : List Item) → AreReads may_fail store ids items → (id : List ℕ) → Contains ids id → HasRead items id
  reads_each [] [] k a h = absurd (omega (arith, h.1))
  reads_each [] (x ∷ items) k a h = absurd k
  reads_each (id ∷ ids) [] k a h = absurd k
  reads_each (id ∷ ids) (x ∷ items) (one, rest) a h =
      ⊎_elim (λ here. subst (λ (y : List ℕ). HasRead (x ∷ items) y) here (first_read id x items one))
      (λ there.
      ⊎_elim (λ more. later_read a x items (reads_each ids items more a there))
      (λ cut. inr (Memory, subst (λ (y : Item). Contains (x ∷ items) y) cut.1 (at_first x items), inl refl)) rest) (first_or_rest id ids a h)

  -- without an error these are the commits of the ids
  pub reads_whole : (ids : List (List ℕ)) (xs : List ReadCommit) → AreReads may_fail store ids (map (λ x. Ok x) xs) → map id_of xs ≡ ids
  reads_whole [] [] k = refl
  reads_whole [] (x ∷ xs) k = absurd k
  reads_whole (id ∷ ids) [] k = absurd k
  reads_whole (id ∷ ids) (x ∷ xs) (one, inl more) = let first = one.0 in let rest = reads_whole ids xs more in λ i. first i ∷ rest i
  reads_whole (id ∷ ids) (x ∷ xs) (one, inr cut) = let never : Ok x ≡ Err Memory = cut.1 in absurd cc

  pub reads_stored : (ids : List (List ℕ)) (xs : List ReadCommit) → AreReads may_fail store ids (map (λ x. Ok x) xs) → All (IsStored store) xs
  reads_stored ids xs k n d within =
      let wrap : ReadCommit → Item = λ x. Ok x in
      (reads_sound ids (map wrap xs) k (get_or xs n d) (in_map wrap xs (get_or xs n d) (Contains-get_or xs n d within))).1
