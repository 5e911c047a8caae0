-- Binary search in a list of entries that is sorted by name.
use Rattle.std.proofs.Common.{◌≡◌, ℕ, zero, suc, ◌<◌, Bool, true, false, [], ◌∷◌, length, get_or, Some, None, Result, Ok, Err, refl, sym, ap, ◌∙◌, arith, inl, inr}
use Rattle.std.specs.declared.cmp.Ordering.{Ordering}
use Rattle.std.specs.declared.cmp.Ordering.TheVariants.{Less, Equal, Greater}
use Rattle.std.specs.Ordering.{ordering_index}
use Rattle.std.specs.FinMap.{is_sorted}
use Rattle.std.specs.List.Sorted.{IsBinarySearchResult, IsSearchInRange, IsNonDecreasingBy}
use Rattle.std.specs.Str.{bytes_eq}
use Rattle.std.proofs.lemmas.Bool.{and_parts, cases_lt}
use Rattle.std.proofs.lemmas.Slice.Eq.{bytes_eq-Decides}
use Rattle.jj_paths.specs.Paths.{Name, name_cmp}
use Rattle.jj_paths.proofs.PathOrders.{name_cmp-same, name_cmp-itself, rises}
use Rattle.jj_backend.specs.Trees.{Entries, value_at, IsEntryAt}
use Rattle.jj_backend.specs.declared.backend.tree_value.TreeValue.{TreeValue}
use Rattle.jj_backend.proofs.SortedEntries.{below_all-at}

differs : (x name : Name) (r : Ordering) → name_cmp x name ≡ r → (r ≡ Equal → ⊥) → bytes_eq name x ≡ false
differs x name r is unequal = by_cases (bytes_eq name x) refl
  where
    by_cases : (t : Bool) → bytes_eq name x ≡ t → t ≡ false
    by_cases true same = absurd (unequal (sym is ∙ ap (name_cmp x) ((bytes_eq-Decides name x).0 same) ∙ name_cmp-itself x))
    by_cases false same = refl

less_is_unequal : (r : Ordering) → r ≡ Less → r ≡ Equal → ⊥
less_is_unequal r less equal = let both : Less ≡ Equal = sym less ∙ equal in cc

greater_is_unequal : (r : Ordering) → r ≡ Greater → r ≡ Equal → ⊥
greater_is_unequal r greater equal = let both : Greater ≡ Equal = sym greater ∙ equal in cc

comparisons_rise : (q : Name) (es : Entries) → is_sorted name_cmp es ≡ true → IsNonDecreasingBy (λ e. ordering_index (name_cmp e.0 q)) es
comparisons_rise q [] sorted i j d le lt = absurd (omega arith)
comparisons_rise q (e ∷ es) sorted zero zero d le lt = omega arith
comparisons_rise q (e ∷ es) sorted zero (suc j) d le lt = rises e.0 (get_or es j d).0 q _ refl (below_all-at e.0 es j d (and_parts _ _ sorted).0 (omega arith))
comparisons_rise q (e ∷ es) sorted (suc i) zero d le lt = absurd (omega arith)
comparisons_rise q (e ∷ es) sorted (suc i) (suc j) d le lt = comparisons_rise q es (and_parts _ _ sorted).1 i j d (omega arith) (omega arith)

-- value_at finds the value of the entry at index i, by its name
pub value-at : (es : Entries) (name : Name) (i : ℕ) (d : Name × TreeValue) → is_sorted name_cmp es ≡ true → i < length es → (get_or es i d).0 ≡ name → value_at es name ≡ Some (get_or es i d).1
value-at [] name i d sorted lt is = absurd (omega arith)
value-at (e ∷ es) name zero d sorted lt is = rw ((bytes_eq-Decides name e.0).1 (sym is))
value-at (e ∷ es) name (suc i) d sorted lt is =
    let less : name_cmp e.0 name ≡ Less = ap (name_cmp e.0) (sym is) ∙ below_all-at e.0 es i d (and_parts _ _ sorted).0 (omega arith) in
    rw (differs e.0 name Less less (less_is_unequal Less refl)) (value-at es name i d (and_parts _ _ sorted).1 (omega arith) is)

-- value_at finds nothing if no entry has the name
pub value-absent : (es : Entries) (name : Name) (d : Name × TreeValue) → ((j : ℕ) → j < length es → bytes_eq name (get_or es j d).0 ≡ false) → value_at es name ≡ None
value-absent [] name d other = refl
value-absent (e ∷ es) name d other = rw (other 0 (omega arith)) (value-absent es name d (λ j lt. other (suc j) (omega arith)))

-- the result of a binary search: the index of the name, or an error if no entry has it
abbrev pub IsSearchResult : Entries → Name → Result ℕ ℕ → Type 0
IsSearchResult es q (Ok at) = IsEntryAt es q at
IsSearchResult es q (Err at) = value_at es q ≡ None

pub any_entry : (es : Entries) (q : Name) → ((d : Name × TreeValue) → value_at es q ≡ None) → value_at es q ≡ None
any_entry [] q f = refl
any_entry (e ∷ es) q f = f e

pub placed : (es : Entries) (q : Name) (r : Result ℕ ℕ) → is_sorted name_cmp es ≡ true → IsSearchInRange r (length es) → IsBinarySearchResult (λ e. name_cmp e.0 q) es r → IsSearchResult es q r
placed es q (Ok at) sorted range equal = record {
  in_range = range;
  has_name = λ d. name_cmp-same _ _ (equal d);
  has_value = λ d. value-at es q at d sorted range (name_cmp-same _ _ (equal d));
}
placed es q (Err at) sorted range parted = any_entry es q (λ d. value-absent es q d (λ j lt. elim (cases_lt j at) [
  | inl before ↦ differs (get_or es j d).0 q Less ((parted (comparisons_rise q es sorted)).0 j d (omega arith) before) (less_is_unequal Less refl)
  | inr after ↦ differs (get_or es j d).0 q Greater ((parted (comparisons_rise q es sorted)).1 j d after lt) (greater_is_unequal Greater refl)
]))
