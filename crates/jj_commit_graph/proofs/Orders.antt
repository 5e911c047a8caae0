-- Lists without duplicates, split at one of their elements.
use Rattle.std.proofs.Common.{◌≡◌, ◌≢◌, ◌∙◌, ◌+◌, ◌<◌, ◌++◌, ⊎_elim, suc, List, [], ◌∷◌, length, get_or, drop, refl, ap, sym, arith}
use Rattle.std.specs.Prelude.{AllPairs}
use Rattle.std.specs.List.{Contains}
use Rattle.std.proofs.lemmas.Bool.{cases_lt}
use Rattle.std.proofs.lemmas.List.{append_assoc, drop_at, get_or-append-add, get_or_at, length-append, length_push}

module _ {A : Type 0} (xs : List A) (once : AllPairs (λ a b. a ≢ b) xs) where
  -- an element is not again in the suffix after it
  pub not_after : (front back : List A) (a : A) → xs ≡ front ++ a ∷ back → Contains back a → ⊥
  not_after front back a split (k, below, at) =
      let size : length xs ≡ length front + suc (length back) = ap length split ∙ length-append front (a ∷ back) in
      once (length front) (length front + suc k) a (omega arith) (omega (arith, size, below))
      (ap (λ l. get_or l (length front) a) split
      ∙ get_or_at front a back a (length front) refl
      ∙ sym at
      ∙ sym (get_or-append-add front (a ∷ back) (suc k) a)
      ∙ sym (ap (λ l. get_or l (length front + suc k) a) split))

  -- so it is at one index
  same_front : (front back other rest : List A) (a : A) → xs ≡ front ++ a ∷ back → xs ≡ other ++ a ∷ rest → length front < length other → ⊥
  same_front front back other rest a split again less =
      let size : length xs ≡ length other + suc (length rest) = ap length again ∙ length-append other (a ∷ rest) in
      once (length front) (length other) a less (omega (arith, size))
      (ap (λ l. get_or l (length front) a) split ∙ get_or_at front a back a (length front) refl ∙ sym (get_or_at other a rest a (length other) refl) ∙ sym (ap (λ l. get_or l (length other) a) again))

  after : (front back : List A) (a : A) → xs ≡ front ++ a ∷ back → drop (length front + 1) xs ≡ back
  after front back a split = ap (drop (length front + 1)) (split ∙ sym (append_assoc front (a ∷ []) back)) ∙ drop_at (front ++ a ∷ []) back (length front + 1) (length_push front a)

  pub same_suffix : (front back other rest : List A) (a : A) → xs ≡ front ++ a ∷ back → xs ≡ other ++ a ∷ rest → back ≡ rest
  same_suffix front back other rest a split again =
      let size : length front ≡ length other =
      ⊎_elim (λ less. absurd (same_front front back other rest a split again less))
      (λ most. ⊎_elim (λ more. absurd (same_front other rest front back a again split more)) (λ least. omega (arith, most, least)) (cases_lt (length other) (length front)))
      (cases_lt (length front) (length other)) in
      sym (after front back a split) ∙ ap (λ n. drop (n + 1) xs) size ∙ after other rest a again
