-- Removing the first name of an ascending list.
use Rattle.std.proofs.Common.{◌≡◌, ℕ, List, [], ◌∷◌, ◌++◌, Bool, true, false, Option, Some, None, not, true≢false, sym, refl, ap, subst, ◌∙◌}
use Rattle.std.specs.Cmp.Lexicographic.{slice_cmp, nat_list_cmp_total, texts_ties}
use Rattle.std.specs.List.{AllByRecursion}
use Rattle.std.specs.Map.{keys_of, lookup}
use Rattle.std.specs.Map.Iter.{TakesFirst}
use Rattle.std.specs.Option.{option_map, option_to_list, IsNone}
use Rattle.std.specs.Ordering.{nat_cmp, is_gt, is_lt, is_eq, ordering_reverse}
use Rattle.std.specs.declared.cmp.Ordering.{Ordering}
use Rattle.std.specs.declared.cmp.Ordering.TheVariants.{Less, Equal, Greater}
use Rattle.std.specs.Str.{bytes_eq}
use Rattle.std.proofs.lemmas.List.Elements.{All-head, All-from_recursion, All-weaker}
use Rattle.std.proofs.lemmas.Cmp.{tied_itself, upto}
use Rattle.std.proofs.lemmas.Map.Keys.{sorted_head, sorted_tail}
use Rattle.jj_stores.specs.ViewJoins.{Named, IsAscending, IsLeast}

abbrev pub cmp : List ℕ → List ℕ → Ordering
cmp = slice_cmp nat_cmp

below_of : (r s : Ordering) → s ≡ ordering_reverse r → is_gt s ≡ false → is_eq r ≡ false → s ≡ Less
below_of Less s e p q = absurd (true≢false (sym (ap is_gt e) ∙ p))
below_of Equal s e p q = cc
below_of Greater s e p q = e

-- of two different names, the one that is not greater is less
pub below : (name other : List ℕ) → is_gt (cmp name other) ≡ false → bytes_eq other name ≡ false → cmp name other ≡ Less
below name other p q = below_of (cmp other name) (cmp name other) (nat_list_cmp_total.antisymm name other) p
    (sym (texts_ties other name) ∙ q)

-- a name differs from a greater one
pub apart : (a b : List ℕ) → cmp a b ≡ Less → bytes_eq a b ≡ false
apart a b p = texts_ties a b ∙ ap is_eq p

differ : (b : Bool) → true ≡ not b → b ≡ false
differ true h = cc
differ false h = refl

abbrev pub Above : List ℕ → List (List ℕ) → Type 0
Above name names = AllByRecursion (λ q. cmp name q ≡ Less) names

pub above_more : (a b : List ℕ) (names : List (List ℕ)) → cmp a b ≡ Less → Above b names → Above a names
above_more a b [] p h = tt
above_more a b (x ∷ xs) p h = (nat_list_cmp_total.trans a b x p h.0, above_more a b xs p h.1)

pub above_first : {V : Type 0} (name first : List ℕ) (value : V) (rest : Named V)
    → cmp name first ≡ Less → IsAscending ((first, value) ∷ rest)
    → Above name (keys_of ((first, value) ∷ rest))
above_first name first value rest under up = (
  under,
  above_more name first (keys_of rest) under
      (sorted_head cmp first (keys_of rest) up),
)

pub none_above : {V : Type 0} (name : List ℕ) (refs : Named V) → Above name (keys_of refs) → None ≡ lookup (bytes_eq name) refs
none_above name [] h = refl
none_above name (e ∷ es) h = rw (apart name e.0 h.0) (none_above name es h.1)

-- a name that is at most the first one, and is not the first one, does not occur
pub none_at : {V : Type 0} (name first : List ℕ) (value : V) (rest refs : Named V)
    → refs ≡ (first, value) ∷ rest → IsAscending refs → IsLeast name refs
    → true ≡ not (bytes_eq first name) → None ≡ lookup (bytes_eq name) refs
none_at name first value rest refs same up least other =
    let under : cmp name first ≡ Less = below name first
    (All-head (λ q. is_gt (cmp name q) ≡ false) first (keys_of rest) (subst (IsLeast name) same least)) (differ _ other) in
    let P : Named _ → Type 0 = λ r. None ≡ lookup (bytes_eq name) r in
    subst P (sym same) (none_above name ((first, value) ∷ rest)
    (above_first name first value rest under (subst IsAscending same up)))

-- the refs ascend after the first one is removed
pub still_ascending : {V A : Type 0} (shows : A → List ℕ × V) (old : Named V) (next : Option A)
    (new : Named V) → TakesFirst shows old next new → IsAscending old
    → IsAscending (option_to_list (option_map shows next) ++ new) × (IsNone next → new ≡ [])
still_ascending shows old None new h up = (subst IsAscending (h.0 ∙ sym h.1) up, λ _. h.1)
still_ascending shows old (Some x) new h up = (subst IsAscending h up, λ none. cc)

pub tail_ascending : {V : Type 0} (first : List ℕ) (value : V) (rest refs : Named V)
    → refs ≡ (first, value) ∷ rest → IsAscending refs → IsAscending rest
tail_ascending first value rest refs same up =
    sorted_tail cmp first (keys_of rest) (subst IsAscending same up)

-- ---- the least of names

pub not_above_itself : (name : List ℕ) → is_gt (cmp name name) ≡ false
not_above_itself name = ap is_gt (tied_itself nat_list_cmp_total name)

not_above_of : (r s : Ordering) → r ≡ ordering_reverse s → is_lt s ≡ false → is_gt r ≡ false
not_above_of r Less e p = cc
not_above_of r Equal e p = ap is_gt e
not_above_of r Greater e p = ap is_gt e

pub not_above_from_not_below : (name other : List ℕ) → false ≡ is_lt (cmp other name) → is_gt (cmp name other) ≡ false
not_above_from_not_below name other p =
    not_above_of (cmp name other) (cmp other name) (nat_list_cmp_total.antisymm name other) (sym p)

below_not_above : (r : Ordering) → r ≡ Less → is_gt r ≡ false
below_not_above r e = ap is_gt e

pub not_above_from_below : (r : Ordering) → true ≡ is_lt r → is_gt r ≡ false
not_above_from_below Less p = refl
not_above_from_below Equal p = refl
not_above_from_below Greater p = cc

least_above : (name : List ℕ) (names : List (List ℕ)) → Above name names
    → AllByRecursion (λ q. is_gt (cmp name q) ≡ false) names
least_above name [] h = tt
least_above name (x ∷ xs) h = (ap is_gt h.0, least_above name xs h.1)

pub least_at_first : {V : Type 0} (first : List ℕ) (value : V) (rest refs : Named V)
    → refs ≡ (first, value) ∷ rest → IsAscending refs → IsLeast first refs
least_at_first first value rest refs same up =
    let names = keys_of ((first, value) ∷ rest) in
    let up : IsAscending ((first, value) ∷ rest) = subst IsAscending same up in
    subst (IsLeast first) (sym same) (All-from_recursion (λ q. is_gt (cmp first q) ≡ false) names
    (not_above_itself first, least_above first (keys_of rest) (sorted_head cmp first (keys_of rest) up)))

pub least_lower : {V : Type 0} (name other : List ℕ) (refs : Named V)
    → is_gt (cmp name other) ≡ false → IsLeast other refs → IsLeast name refs
least_lower name other refs p h = All-weaker (λ q. is_gt (cmp other q) ≡ false)
    (λ q. is_gt (cmp name q) ≡ false) (λ q k. upto nat_list_cmp_total name other q p k) (keys_of refs) h
