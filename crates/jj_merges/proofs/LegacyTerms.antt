-- `legacy_terms`: its present terms, its length, and its value after one more remove or add.
use Rattle.std.proofs.Common.{◌≡◌, ◌%◌, ◌≤◌, List, [], ◌∷◌, ◌++◌, length, refl, ap, arith, sym, ◌∙◌}
use Rattle.std.specs.Prelude.{Option, Some, None}
use Rattle.jj_merges.specs.Legacy.{legacy_pairs, legacy_terms}
use Rattle.jj_merges.specs.Merge.{adds, removes}
use Rattle.jj_merges.specs.Options.{present}

module _ {T : Type 0} where
  mutual
    pub present-adds-pairs : (xs ys : List T) → present (removes (legacy_pairs xs ys)) ≡ ys
    present-adds-pairs [] [] = refl
    present-adds-pairs [] (a ∷ ys) = λ i. a ∷ present-adds-pairs [] ys i
    present-adds-pairs (r ∷ xs) [] = present-adds-pairs xs []
    present-adds-pairs (r ∷ xs) (a ∷ ys) = λ i. a ∷ present-adds-pairs xs ys i

    pub present-removes-pairs : (xs ys : List T) → present (adds (legacy_pairs xs ys)) ≡ xs
    present-removes-pairs [] [] = refl
    present-removes-pairs [] (a ∷ ys) = present-removes-pairs [] ys
    present-removes-pairs (r ∷ xs) [] = λ i. r ∷ present-removes-pairs xs [] i
    present-removes-pairs (r ∷ xs) (a ∷ ys) = λ i. r ∷ present-removes-pairs xs ys i

  -- the present adds and removes of the legacy form are the two lists
  pub present-adds-legacy : (xs ys : List T) → present (adds (legacy_terms xs ys)) ≡ ys
  present-adds-legacy xs [] = present-adds-pairs xs []
  present-adds-legacy xs (a ∷ ys) = λ i. a ∷ present-adds-pairs xs ys i

  pub present-removes-legacy : (xs ys : List T) → present (removes (legacy_terms xs ys)) ≡ xs
  present-removes-legacy xs [] = present-removes-pairs xs []
  present-removes-legacy xs (a ∷ ys) = present-removes-pairs xs ys

  -- each remove preceded by an add, or by `None` after the last add
  abbrev pub legacy_prefix : List T → List T → List (Option T)
  legacy_prefix [] ys = []
  legacy_prefix (r ∷ xs) [] = None ∷ Some r ∷ legacy_prefix xs []
  legacy_prefix (r ∷ xs) (a ∷ ys) = Some a ∷ Some r ∷ legacy_prefix xs ys

  pub legacy_prefix-push : (xs ys : List T) (r a : T) → length ys ≡ length xs → legacy_prefix (xs ++ r ∷ []) (ys ++ a ∷ []) ≡ (legacy_prefix xs ys ++ Some a ∷ []) ++ Some r ∷ []
  legacy_prefix-push [] [] r a e = refl
  legacy_prefix-push [] (b ∷ ys) r a e = absurd (omega arith)
  legacy_prefix-push (x ∷ xs) [] r a e = absurd (omega arith)
  legacy_prefix-push (x ∷ xs) (b ∷ ys) r a e = ap (λ zs. Some b ∷ Some x ∷ zs) (legacy_prefix-push xs ys r a (omega arith))

  pub legacy_prefix-push_none : (xs ys : List T) (r : T) → length ys ≤ length xs → legacy_prefix (xs ++ r ∷ []) ys ≡ (legacy_prefix xs ys ++ None ∷ []) ++ Some r ∷ []
  legacy_prefix-push_none [] [] r e = refl
  legacy_prefix-push_none [] (b ∷ ys) r e = absurd (omega arith)
  legacy_prefix-push_none (x ∷ xs) [] r e = ap (λ zs. None ∷ Some x ∷ zs) (legacy_prefix-push_none xs [] r (omega arith))
  legacy_prefix-push_none (x ∷ xs) (b ∷ ys) r e = ap (λ zs. Some b ∷ Some x ∷ zs) (legacy_prefix-push_none xs ys r (omega arith))

  legacy_pairs-cons : (x : T) (xs ys : List T) → legacy_pairs (x ∷ xs) ys ≡ Some x ∷ legacy_terms xs ys
  legacy_pairs-cons x xs [] = refl
  legacy_pairs-cons x xs (a ∷ ys) = refl

  -- no more adds than removes
  pub legacy_terms-short : (xs ys : List T) → length ys ≤ length xs → legacy_prefix xs ys ++ None ∷ [] ≡ legacy_terms xs ys
  legacy_terms-short [] [] e = refl
  legacy_terms-short [] (b ∷ ys) e = absurd (omega arith)
  legacy_terms-short (x ∷ xs) [] e = ap (λ zs. None ∷ Some x ∷ zs) (legacy_terms-short xs [] (omega arith))
  legacy_terms-short (x ∷ xs) (b ∷ ys) e = ap (λ zs. Some b ∷ Some x ∷ zs) (legacy_terms-short xs ys (omega arith)) ∙ ap (λ zs. Some b ∷ zs) (sym (legacy_pairs-cons x xs ys))

  -- more adds than removes
  pub legacy_terms-long : (xs ys zs : List T) (a : T) → length ys ≡ length xs → legacy_prefix xs ys ++ Some a ∷ legacy_pairs [] zs ≡ legacy_terms xs (ys ++ a ∷ zs)
  legacy_terms-long [] [] zs a e = refl
  legacy_terms-long [] (b ∷ ys) zs a e = absurd (omega arith)
  legacy_terms-long (x ∷ xs) [] zs a e = absurd (omega arith)
  legacy_terms-long (x ∷ xs) (b ∷ ys) zs a e =
      ap (λ ws. Some b ∷ Some x ∷ ws) (legacy_terms-long xs ys zs a (omega arith)) ∙ ap (λ ws. Some b ∷ ws) (sym (legacy_pairs-cons x xs (ys ++ a ∷ zs)))

  pub legacy_pairs-push : (zs : List T) (z : T) → legacy_pairs [] (zs ++ z ∷ []) ≡ legacy_pairs [] zs ++ None ∷ Some z ∷ []
  legacy_pairs-push [] z = refl
  legacy_pairs-push (a ∷ zs) z = ap (λ ws. None ∷ Some a ∷ ws) (legacy_pairs-push zs z)

  -- the number of terms is odd
  length-legacy_pairs : (xs ys : List T) → length (legacy_pairs xs ys) % 2 ≡ 0
  length-legacy_pairs [] [] = refl
  length-legacy_pairs [] (a ∷ ys) = omega (arith, length-legacy_pairs [] ys)
  length-legacy_pairs (x ∷ xs) [] = omega (arith, length-legacy_pairs xs [])
  length-legacy_pairs (x ∷ xs) (a ∷ ys) = omega (arith, length-legacy_pairs xs ys)

  pub odd_legacy_terms : (xs ys : List T) → length (legacy_terms xs ys) % 2 ≡ 1
  odd_legacy_terms xs [] = omega (arith, length-legacy_pairs xs [])
  odd_legacy_terms xs (a ∷ ys) = omega (arith, length-legacy_pairs xs ys)

  -- both lists can be restored
  pub legacy_terms-sides : (xs ys : List T) (m : List (Option T)) → m ≡ legacy_terms xs ys → (present (removes m) ≡ xs) × (present (adds m) ≡ ys)
  legacy_terms-sides xs ys m e = (ap (λ ts. present (removes ts)) e ∙ present-removes-legacy xs ys, ap (λ ts. present (adds ts)) e ∙ present-adds-legacy xs ys)
