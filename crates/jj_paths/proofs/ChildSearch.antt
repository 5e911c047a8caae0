-- Binary search among children that are sorted by name.
use Rattle.std.proofs.Common.{◌≡◌, ℕ, zero, suc, ◌-◌, ◌<◌, true, List, [], ◌∷◌, length, get_or, Result, Ok, Err, IfOk, IfErr, refl, sym, ap, ◌∙◌, arith}
use Rattle.std.specs.declared.cmp.Ordering.TheVariants.{Less, Equal}
use Rattle.std.specs.Ordering.{ordering_index}
use Rattle.std.specs.FinMap.{is_sorted}
use Rattle.std.specs.FinMap.Entries.{below_all}
use Rattle.std.specs.List.Sorted.{IsBinarySearchResult, IsSearchInRange, IsNonDecreasingBy}
use Rattle.std.proofs.lemmas.Bool.{and_parts}
use Rattle.jj_paths.specs.Paths.{Name, name_cmp}
use Rattle.jj_paths.specs.Tree.{Tree, IsIndexOf, IsInsertionPoint}
use Rattle.jj_paths.proofs.PathOrders.{name_cmp-same, less_from_is_lt, least_index, rises}

module _ {V : Type 0} where
  pub below_all-at : (x : Name) (es : List (Name × Tree V)) (j : ℕ) (d : Name × Tree V) → below_all name_cmp x es ≡ true → j < length es → name_cmp x (get_or es j d).0 ≡ Less
  below_all-at x [] j d all lt = absurd (omega arith)
  below_all-at x (e ∷ es) zero d all lt = less_from_is_lt _ (and_parts _ _ all).0
  below_all-at x (e ∷ es) (suc j) d all lt = below_all-at x es j d (and_parts _ _ all).1 (omega arith)

  pub comparisons_rise : (q : Name) (es : List (Name × Tree V)) → is_sorted name_cmp es ≡ true → IsNonDecreasingBy (λ e. ordering_index (name_cmp e.0 q)) es
  comparisons_rise q [] sorted i j d le lt = absurd (omega arith)
  comparisons_rise q (e ∷ es) sorted zero zero d le lt = omega arith
  comparisons_rise q (e ∷ es) sorted zero (suc j) d le lt = rises e.0 (get_or es j d).0 q _ refl (below_all-at e.0 es j d (and_parts _ _ sorted).0 (omega arith))
  comparisons_rise q (e ∷ es) sorted (suc i) zero d le lt = absurd (omega arith)
  comparisons_rise q (e ∷ es) sorted (suc i) (suc j) d le lt = comparisons_rise q es (and_parts _ _ sorted).1 i j d (omega arith) (omega arith)

  pub record IsSearchResult (es : List (Name × Tree V)) (q : Name) (r : Result ℕ ℕ) : Type 0 where
    pub found : IfOk r (IsIndexOf es q)
    pub absent : IfErr r (IsInsertionPoint es q)

  pub placed : (es : List (Name × Tree V)) (q : Name) (r : Result ℕ ℕ) → is_sorted name_cmp es ≡ true → IsSearchInRange r (length es) → IsBinarySearchResult (λ e. name_cmp e.0 q) es r → IsSearchResult es q r
  placed es q (Ok at) sorted range equal = record { found = record { in_range = range; has_name = λ d. name_cmp-same _ _ (equal d) }; absent = tt }
  placed es q (Err at) sorted range parted = record {
    found = tt;
    absent = record {
      in_range = range;
      smaller_before = λ j d lt. (parted (comparisons_rise q es sorted)).0 j d (omega arith) lt;
      greater_after = λ j d le lt. (parted (comparisons_rise q es sorted)).1 j d le lt;
    };
  }

  -- the search for a name that is not less than the last one
  module _ (es : List (Name × Tree V)) (q : Name) (last : Name × Tree V) (some : 0 < length es) (at_end : (d : Name × Tree V) → last ≡ get_or es (length es - 1) d) where
    pub behind_last : is_sorted name_cmp es ≡ true → name_cmp last.0 q ≡ Less → IsInsertionPoint es q (length es)
    behind_last sorted less = record {
      in_range = omega arith;
      smaller_before = λ j d lt. least_index _
          (let up = comparisons_rise q es sorted j (length es - 1) d (omega arith) (omega arith) in
          let top : ordering_index (name_cmp (get_or es (length es - 1) d).0 q) ≡ 0 = ap (λ x. ordering_index (name_cmp x.0 q)) (sym (at_end d)) ∙ ap ordering_index less in
          omega (arith, up, top));
      greater_after = λ j d le lt. absurd (omega arith);
    }

    pub at_last : name_cmp last.0 q ≡ Equal → IsIndexOf es q (length es - 1)
    at_last same = record { in_range = omega arith; has_name = λ d. ap (λ x. x.0) (sym (at_end d)) ∙ name_cmp-same _ _ same }
