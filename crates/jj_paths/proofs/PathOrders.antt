-- Lexicographic orders of names and paths.
use Rattle.std.proofs.Common.{◌≡◌, ◌≤◌, true, List, [], ◌∷◌, ◌++◌, refl, ap, sym, ◌∙◌, arith}
use mathlib.Core.Bool.{false≢true}
use Rattle.std.specs.declared.cmp.Ordering.{Ordering}
use Rattle.std.specs.declared.cmp.Ordering.TheVariants.{Less, Equal, Greater}
use Rattle.std.specs.Ordering.{is_lt, ordering_index, ordering_reverse, ordering_then}
use Rattle.std.specs.Cmp.Lexicographic.{nat_list_cmp_total}
use Rattle.std.specs.FinMap.{slice_cmp-IsAntisymmetric, nat_cmp-IsAntisymmetric}
use Rattle.std.specs.List.{AllByRecursion}
use Rattle.std.specs.List.Sorted.{IsStrictlySortedBy}
use Rattle.jj_paths.specs.Paths.{Name, Path, name_cmp, path_cmp}

-- 1. Names.

pub name_cmp-itself : (x : Name) → name_cmp x x ≡ Equal
name_cmp-itself x = by_antisymm (name_cmp x x) (nat_list_cmp_total.antisymm x x)
  where
    by_antisymm : (r : Ordering) → r ≡ ordering_reverse r → r ≡ Equal
    by_antisymm Less e = cc
    by_antisymm Equal e = refl
    by_antisymm Greater e = cc

pub name_cmp-same : (x y : Name) → name_cmp x y ≡ Equal → x ≡ y
name_cmp-same = slice_cmp-IsAntisymmetric nat_cmp-IsAntisymmetric

pub less_from_is_lt : (r : Ordering) → is_lt r ≡ true → r ≡ Less
less_from_is_lt Less e = refl
less_from_is_lt Equal e = absurd (false≢true e)
less_from_is_lt Greater e = absurd (false≢true e)

pub least_index : (r : Ordering) → ordering_index r ≤ 0 → r ≡ Less
least_index Less le = refl
least_index Equal le = absurd (omega arith)
least_index Greater le = absurd (omega arith)

-- comparison with a fixed name is monotone
pub rises : (x y q : Name) (r : Ordering) → name_cmp y q ≡ r → name_cmp x y ≡ Less → ordering_index (name_cmp x q) ≤ ordering_index r
rises x y q Less e less = rw (nat_list_cmp_total.trans x y q less e) (omega arith)
rises x y q Equal e less =
    let t = nat_list_cmp_total in
    let same : name_cmp y x ≡ name_cmp q x = t.congr y q x e in
    let back : name_cmp y x ≡ Greater = t.antisymm y x ∙ ap ordering_reverse less in
    let is : name_cmp x q ≡ Less = t.antisymm x q ∙ ap ordering_reverse (sym same ∙ back) in
    rw is (omega arith)
rises x y q Greater e less = at_most_two (name_cmp x q)
  where
    at_most_two : (r : Ordering) → ordering_index r ≤ 2
    at_most_two Less = omega arith
    at_most_two Equal = omega arith
    at_most_two Greater = omega arith

-- 2. Paths.

-- a common prefix does not affect a comparison
pub path_cmp-append : (dir a b : Path) → path_cmp (dir ++ a) (dir ++ b) ≡ path_cmp a b
path_cmp-append [] a b = refl
path_cmp-append (name ∷ dir) a b = ap (λ r. ordering_then r (path_cmp (dir ++ a) (dir ++ b))) (name_cmp-itself name) ∙ path_cmp-append dir a b

-- paths at or below a name precede those at or below a greater one
pub before_name : (dir : Path) (n m : Name) (a b : Path) → name_cmp n m ≡ Less → path_cmp (dir ++ n ∷ a) (dir ++ m ∷ b) ≡ Less
before_name dir n m a b e = path_cmp-append dir (n ∷ a) (m ∷ b) ∙ ap (λ r. ordering_then r (path_cmp a b)) e

-- a directory precedes the paths below it
pub before_below : (dir : Path) (n : Name) (a : Path) → path_cmp dir (dir ++ n ∷ a) ≡ Less
before_below [] n a = refl
before_below (name ∷ dir) n a = ap (λ r. ordering_then r (path_cmp dir (dir ++ n ∷ a))) (name_cmp-itself name) ∙ before_below dir n a

module _ {X : Type 0} where
  pub all-append : (P : X → Type 0) (xs ys : List X) → AllByRecursion P xs → AllByRecursion P ys → AllByRecursion P (xs ++ ys)
  all-append P [] ys h k = k
  all-append P (x ∷ xs) ys h k = (h.0, all-append P xs ys h.1 k)

-- the concatenation of two strictly ascending lists, if all of the first precede all of the second
pub sorted-append : (xs ys : List Path) → IsStrictlySortedBy path_cmp xs → IsStrictlySortedBy path_cmp ys → AllByRecursion (λ x. AllByRecursion (λ y. path_cmp x y ≡ Less) ys) xs → IsStrictlySortedBy path_cmp (xs ++ ys)
unfolding IsStrictlySortedBy
sorted-append [] ys h k before = k
sorted-append (x ∷ xs) ys h k before = (all-append (λ y. path_cmp x y ≡ Less) xs ys h.0 before.0, sorted-append xs ys h.1 k before.1)

pub sorted-cons : (x : Path) (xs : List Path) → AllByRecursion (λ y. path_cmp x y ≡ Less) xs → IsStrictlySortedBy path_cmp xs → IsStrictlySortedBy path_cmp (x ∷ xs)
unfolding IsStrictlySortedBy
sorted-cons x xs h k = (h, k)

pub sorted_none : IsStrictlySortedBy path_cmp []
unfolding IsStrictlySortedBy
sorted_none = tt
