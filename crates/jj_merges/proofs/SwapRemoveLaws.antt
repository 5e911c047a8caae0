-- The sides of a merge after `swap_remove`.
use Rattle.std.proofs.Common.{◌≡◌, ℕ, ◌+◌, ◌-◌, ◌*◌, ◌/◌, ◌%◌, ◌<◌, ◌≤◌, suc, zero, List, [], ◌∷◌, length, take, refl, ap, arith, sym, ◌∙◌, get_or, Some}
use Rattle.std.specs.Prelude.{slice_set, slice_index_or, slice_get}
use Rattle.std.proofs.lemmas.List.{take_all, length-take}
use Rattle.std.proofs.lemmas.Option.{slice_get_read}
use Rattle.std.proofs.Math.ListN.{length-set}
use Rattle.std.specs.List.{swap_remove}
use Rattle.jj_merges.specs.Merge.{adds, removes}
use Rattle.jj_merges.proofs.Sides.{length-adds, length-removes}

take-none : {T : Type 0} (n : ℕ) → take {A = T} n [] ≡ []
take-none zero = refl
take-none (suc n) = refl

mutual
  pub adds-take : {T : Type 0} (m : List T) (n : ℕ) → adds (take n m) ≡ take ((n + 1) / 2) (adds m)
  adds-take {T} [] n = ap adds (take-none {T = T} n) ∙ sym (take-none {T = T} ((n + 1) / 2))
  adds-take (x ∷ m) zero = refl
  adds-take (x ∷ m) (suc n) =
      let e : (suc n + 1) / 2 ≡ suc (n / 2) = omega arith in
      rw e (ap (λ ys. x ∷ ys) (removes-take m n))

  pub removes-take : {T : Type 0} (m : List T) (n : ℕ) → removes (take n m) ≡ take (n / 2) (removes m)
  removes-take {T} [] n = ap removes (take-none {T = T} n) ∙ sym (take-none {T = T} (n / 2))
  removes-take (x ∷ m) zero = refl
  removes-take (x ∷ m) (suc n) = adds-take m n ∙ ap (λ k. take k (adds m)) (omega arith)

mutual
  pub adds-set : {T : Type 0} (m : List T) (i : ℕ) (x : T) → adds (slice_set m (i * 2) x) ≡ slice_set (adds m) i x
  adds-set [] i x = refl
  adds-set (y ∷ m) zero x = refl
  adds-set (y ∷ m) (suc i) x =
      let e : suc i * 2 ≡ suc (i * 2 + 1) = omega arith in
      rw e (ap (λ ys. y ∷ ys) (removes-set m i x))

  pub removes-set : {T : Type 0} (m : List T) (i : ℕ) (x : T) → removes (slice_set m (i * 2 + 1) x) ≡ slice_set (removes m) i x
  removes-set [] i x = refl
  removes-set (y ∷ m) i x = let e : i * 2 + 1 ≡ suc (i * 2) = omega arith in rw e (adds-set m i x)

mutual
  pub removes-set_add : {T : Type 0} (m : List T) (i : ℕ) (x : T) → removes (slice_set m (i * 2) x) ≡ removes m
  removes-set_add [] i x = refl
  removes-set_add (y ∷ m) zero x = refl
  removes-set_add (y ∷ m) (suc i) x = let e : suc i * 2 ≡ suc (i * 2 + 1) = omega arith in rw e (adds-set_remove m i x)

  pub adds-set_remove : {T : Type 0} (m : List T) (i : ℕ) (x : T) → adds (slice_set m (i * 2 + 1) x) ≡ adds m
  adds-set_remove [] i x = refl
  adds-set_remove (y ∷ m) i x = let e : i * 2 + 1 ≡ suc (i * 2) = omega arith in rw e (ap (λ ys. y ∷ ys) (removes-set_add m i x))

mutual
  pub get_or-adds : {T : Type 0} (m : List T) (i : ℕ) (d : T) → get_or (adds m) i d ≡ get_or m (i * 2) d
  get_or-adds [] i d = refl
  get_or-adds (y ∷ m) zero d = refl
  get_or-adds (y ∷ m) (suc i) d = let e : suc i * 2 ≡ suc (i * 2 + 1) = omega arith in rw e (get_or-removes m i d)

  pub get_or-removes : {T : Type 0} (m : List T) (i : ℕ) (d : T) → get_or (removes m) i d ≡ get_or m (i * 2 + 1) d
  get_or-removes [] i d = refl
  get_or-removes (y ∷ m) i d = let e : i * 2 + 1 ≡ suc (i * 2) = omega arith in rw e (get_or-adds m i d)

module _ {T : Type 0} (m : List T) (odd : length m % 2 ≡ 1) (a r : ℕ) (x y : T) (ha : a < length (adds m)) (hr : r < length (removes m)) where
  -- the terms after the add was removed, and after the remove was
  abbrev without_add : List T
  without_add = swap_remove m (a * 2) x

  abbrev without_both : List T
  without_both = swap_remove without_add (r * 2 + 1) y

  last_add : slice_index_or m (length m - 1) x ≡ get_or (adds m) (length (adds m) - 1) x
  last_add =
      let e : length m - 1 ≡ (length (adds m) - 1) * 2 = omega (arith, length-adds m) in
      ap (λ k. get_or m k x) e ∙ sym (get_or-adds m (length (adds m) - 1) x)

  adds_without_add : adds without_add ≡ swap_remove (adds m) a x
  adds_without_add =
      let e : (length m - 1 + 1) / 2 ≡ length (adds m) - 1 = omega (arith, length-adds m) in
      adds-take (slice_set m (a * 2) (slice_index_or m (length m - 1) x)) (length m - 1)
      ∙ (ap (λ k. take k (adds (slice_set m (a * 2) (slice_index_or m (length m - 1) x)))) e
      ∙ (ap (take (length (adds m) - 1)) (adds-set m a (slice_index_or m (length m - 1) x))
      ∙ ap (λ l. take (length (adds m) - 1) (slice_set (adds m) a l)) last_add))

  pub removes_without_add : removes without_add ≡ removes m
  removes_without_add =
      let e : length (removes m) ≤ (length m - 1) / 2 = omega (arith, length-removes m) in
      removes-take (slice_set m (a * 2) (slice_index_or m (length m - 1) x)) (length m - 1)
      ∙ (ap (take ((length m - 1) / 2)) (removes-set_add m a (slice_index_or m (length m - 1) x))
      ∙ take_all ((length m - 1) / 2) (removes m) e)

  length_without_add : length without_add + 1 ≡ length m
  length_without_add =
      omega (arith, length-take (length m - 1) (slice_set m (a * 2) (slice_index_or m (length m - 1) x)), length-set m (a * 2) (slice_index_or m (length m - 1) x), length-removes m)

  pub adds_without_both : adds without_both ≡ swap_remove (adds m) a x
  adds_without_both =
      let l = slice_index_or without_add (length without_add - 1) y in
      let e : length (adds without_add) ≤ (length without_add - 1 + 1) / 2 = omega (arith, length-adds without_add, length_without_add, length-removes m) in
      adds-take (slice_set without_add (r * 2 + 1) l) (length without_add - 1)
      ∙ (ap (take ((length without_add - 1 + 1) / 2)) (adds-set_remove without_add r l)
      ∙ (take_all ((length without_add - 1 + 1) / 2) (adds without_add) e ∙ adds_without_add))

  pub removes_without_both : removes without_both ≡ swap_remove (removes m) r y
  removes_without_both =
      let l = slice_index_or without_add (length without_add - 1) y in
      let k = length (removes m) - 1 in
      let e : (length without_add - 1) / 2 ≡ k = omega (arith, length_without_add, length-removes m) in
      let e' : length without_add - 1 ≡ k * 2 + 1 = omega (arith, length_without_add, length-removes m) in
      let last : l ≡ get_or (removes m) k y = ap (λ n. get_or without_add n y) e' ∙ (sym (get_or-removes without_add k y) ∙ ap (λ rs. get_or rs k y) removes_without_add) in
      removes-take (slice_set without_add (r * 2 + 1) l) (length without_add - 1)
      ∙ (ap (λ n. take n (removes (slice_set without_add (r * 2 + 1) l))) e
      ∙ (ap (take k) (removes-set without_add r l)
      ∙ (ap (λ rs. take k (slice_set rs r l)) removes_without_add ∙ ap (λ z. take k (slice_set (removes m) r z)) last)))

  pub added : x ≡ slice_index_or m (a * 2) x → slice_get (adds m) a ≡ Some x
  added e = slice_get_read (adds m) (length (adds m)) a x refl ha (e ∙ sym (get_or-adds m a x))

  pub removed_is : y ≡ slice_index_or without_add (r * 2 + 1) y → slice_get (removes m) r ≡ Some y
  removed_is e =
      slice_get_read (removes m) (length (removes m)) r y refl hr
      (e ∙ (sym (get_or-removes without_add r y) ∙ ap (λ rs. get_or rs r y) removes_without_add))
