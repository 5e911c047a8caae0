-- Results of lookups add up to one result, whatever their order.
use Rattle.std.proofs.Common.{◌≡◌, ◌≢◌, ◌+◌, ◌<◌, ◌≤◌, ℕ, suc, List, [], ◌∷◌, ◌++◌, length, get_or, set, take, drop, refl, ap, sym, ◌∙◌, subst, inl, inr}
use Rattle.std.specs.List.{swap}
use Rattle.std.specs.List.Sorted.{IsPermutation}
use Rattle.std.proofs.lemmas.Bool.Decides.{eqb_tells}
use Rattle.std.proofs.lemmas.List.{length-set, set-get_or, set_comm, set_split, take_all, take_more}
use Rattle.std.proofs.lemmas.List.Edits.{swap_is}
use Rattle.std.proofs.lemmas.List.Sorted.{IsPermutation-keeps}
use Rattle.jj_ids.specs.Resolution.{IsCloneOf, sum}
use Rattle.jj_ids.specs.declared.object_id.prefix_resolution.PrefixResolution.{PrefixResolution}
use Rattle.jj_ids.specs.declared.object_id.prefix_resolution.PrefixResolution.TheVariants.{NoMatch, SingleMatch, AmbiguousMatch}
use Rattle.jj_ids_tests.specs.Lookups.{sum_of}

module _ {T : Type 0} (associative : (a b c : PrefixResolution T) → sum (sum a b) c ≡ sum a (sum b c)) (commutative : (a b : PrefixResolution T) → sum a b ≡ sum b a)
    (neutral : (a : PrefixResolution T) → sum NoMatch a ≡ a) where
  exchange : (a b c : PrefixResolution T) → sum a (sum b c) ≡ sum b (sum a c)
  exchange a b c = sym (associative a b c) ∙ (ap (λ (s : PrefixResolution T). sum s c) (commutative a b) ∙ associative b a c)

  -- a result can be added first
  pull : (before : List (PrefixResolution T)) (x : PrefixResolution T) (after : List (PrefixResolution T)) → sum_of (before ++ x ∷ after) ≡ sum x (sum_of (before ++ after))
  pull [] x after = refl
  pull (b ∷ bs) x after = ap (sum b) (pull bs x after) ∙ exchange b x (sum_of (bs ++ after))

  written : (xs : List (PrefixResolution T)) (i : ℕ) (x : PrefixResolution T) → i < length xs → sum_of (set xs i x) ≡ sum x (sum_of (take i xs ++ drop (suc i) xs))
  written xs i x h = ap sum_of (set_split xs i x h) ∙ pull (take i xs) x (drop (suc i) xs)

  module _ (xs : List (PrefixResolution T)) (i j : ℕ) (i_in : i < length xs) (j_in : j < length xs) where
    -- two results at different indices are added in any order
    crossed : i ≢ j → (a b : PrefixResolution T) → sum_of (set (set xs i a) j b) ≡ sum_of (set (set xs i b) j a)
    crossed apart a b =
        let last = λ (u v : PrefixResolution T). written (set xs i u) j v (subst (λ (n : ℕ). j < n) (sym (length-set xs i u)) j_in) in
        let first = λ (u v : PrefixResolution T). ap sum_of (set_comm xs i j u v apart) ∙ written (set xs j v) i u (subst (λ (n : ℕ). i < n) (sym (length-set xs j v)) i_in) in
        let both = λ (u v : PrefixResolution T). first u v ∙ ap (sum u) (sym (neutral _) ∙ (sym (first NoMatch v) ∙ last NoMatch v)) in
        both a b ∙ (exchange a b _ ∙ sym (both b a))

    swapped : sum_of (swap xs i j) ≡ sum_of xs
    swapped =
        let a = get_or xs i NoMatch in
        let b = get_or xs j NoMatch in
        let same : set (set xs i a) j b ≡ xs = ap (λ (l : List (PrefixResolution T)). set l j b) (set-get_or xs i NoMatch) ∙ set-get_or xs j NoMatch in
        ap sum_of (sym (swap_is xs i j NoMatch i_in j_in)) ∙ elim (eqb_tells i j) [
          | inl one ↦ ap (λ (k : ℕ). sum_of (set (set xs i (get_or xs k NoMatch)) j a)) (sym one.1)
              ∙ (ap (λ (l : List (PrefixResolution T)). sum_of (set l j a)) (set-get_or xs i NoMatch)
              ∙ (ap (λ (k : ℕ). sum_of (set xs j (get_or xs k NoMatch))) one.1 ∙ ap sum_of (set-get_or xs j NoMatch)))
          | inr apart ↦ crossed apart.1 b a ∙ ap sum_of same
        ]

  -- a permutation has the same sum
  permuted : (xs ys : List (PrefixResolution T)) → IsPermutation xs ys → sum_of ys ≡ sum_of xs
  permuted xs ys = IsPermutation-keeps xs (λ l. sum_of l ≡ sum_of xs) refl (λ l i j i_in j_in h. swapped l i j i_in j_in ∙ h) ys

  -- one more result is added last
  pushed : (xs : List (PrefixResolution T)) (x : PrefixResolution T) → sum_of (xs ++ x ∷ []) ≡ sum (sum_of xs) x
  pushed [] x = commutative x NoMatch
  pushed (y ∷ ys) x = ap (sum y) (pushed ys x) ∙ sym (associative y (sum_of ys) x)

-- a clone of a result of commits equals it
clone_is : (found copy : PrefixResolution (List ℕ)) → IsCloneOf (λ id c. c ≡ id) found copy → copy ≡ found
clone_is NoMatch copy h = h
clone_is (SingleMatch x) NoMatch h = absurd h
clone_is (SingleMatch x) (SingleMatch y) h = ap SingleMatch h
clone_is (SingleMatch x) AmbiguousMatch h = absurd h
clone_is AmbiguousMatch copy h = h

module _ (associative : (a b c : PrefixResolution (List ℕ)) → sum (sum a b) c ≡ sum a (sum b c)) (commutative : (a b : PrefixResolution (List ℕ)) → sum a b ≡ sum b a)
    (neutral : (a : PrefixResolution (List ℕ)) → sum NoMatch a ≡ a) where
  -- the results up to an index, and the one at it
  pub added : (found : List (PrefixResolution (List ℕ))) (i : ℕ) (one all more : PrefixResolution (List ℕ)) → i < length found → one ≡ get_or found i one → all ≡ sum_of (take i found)
      → IsCloneOf (λ id c. c ≡ id) (sum all one) more → more ≡ sum_of (take (i + 1) found)
  added found i one all more within is so_far cloned =
      clone_is (sum all one) more cloned ∙ (ap (λ (a : PrefixResolution (List ℕ)). sum a one) so_far
      ∙ (sym (pushed associative commutative neutral (take i found) one)
      ∙ ap sum_of (ap (λ (x : PrefixResolution (List ℕ)). take i found ++ x ∷ []) is ∙ sym (take_more found i one within))))

  -- all results, in any order
  pub all_added : (found : List (PrefixResolution (List ℕ))) (n : ℕ) (all : PrefixResolution (List ℕ)) → length found ≤ n → all ≡ sum_of (take n found) → (order : List (PrefixResolution (List ℕ)))
      → IsPermutation found order → all ≡ sum_of order
  all_added found n all whole is order same =
      is ∙ (ap sum_of (take_all n found whole) ∙ sym (permuted associative commutative neutral found order same))
