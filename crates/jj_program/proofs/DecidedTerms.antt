-- The value that a merge of strings resolves to is one of its terms.
use Rattle.std.proofs.Common.{◌≡◌, ℕ, suc, ◌+◌, ◌<◌, ◌≤◌, Bool, true, false, List, [], ◌∷◌, cond, refl, sym, ap, arith, Contains}
use Rattle.std.specs.Prelude.{count_by}
use Rattle.std.specs.Str.{bytes_eq}
use Rattle.std.proofs.lemmas.Int.{ints}
use Rattle.std.proofs.lemmas.List.Sums.{sum_by-cons}
use Rattle.std.proofs.lemmas.Slice.Eq.{bytes_eq-Decides}
use Rattle.jj_merges.specs.declared.merge.SameChange.{SameChange}
use Rattle.jj_merges.specs.declared.merge.SameChange.TheVariants.{Keep, Accept}
use Rattle.jj_merges.specs.Merge.{adds, removes}
use Rattle.jj_merges.specs.Resolution.{ResolvesTo}

module _ {X : Type 0} (p : X → Bool) where
  count_cons : (x : X) (xs : List X) → count_by p (x ∷ xs) ≡ cond (p x) 1 0 + count_by p xs
  count_cons x xs = sum_by-cons (λ y. cond (p y) 1 0) x xs

  mutual
    adds_counted : (m : List X) → count_by p (adds m) ≤ count_by p m
    adds_counted [] = omega arith
    adds_counted (x ∷ xs) = omega (arith, removes_counted xs, count_cons x (removes xs), count_cons x xs)

    removes_counted : (m : List X) → count_by p (removes m) ≤ count_by p m
    removes_counted [] = omega arith
    removes_counted (x ∷ xs) = omega (arith, adds_counted xs, count_cons x xs)

-- a string with a positive count is a member
counted_stands : (v : List ℕ) (m : List (List ℕ)) → 0 < count_by (bytes_eq v) m → Contains m v
counted_stands v [] some = absurd (omega arith)
counted_stands v (x ∷ m) some = by_test (λ more. counted_stands v m more) (bytes_eq v x) refl
  where
    by_test : (0 < count_by (bytes_eq v) m → Contains m v) → (b : Bool) → bytes_eq v x ≡ b
        → Contains (x ∷ m) v
    by_test below true same = (0, omega arith, sym ((bytes_eq-Decides v x).0 same))
    by_test below false other =
        let none = ap (λ (b : Bool). let n : ℕ = cond b 1 0 in n) other in
        let later = below (omega (arith, some, none, count_cons (bytes_eq v) x m)) in
        (suc later.0, omega (arith, later.1), later.2)

pub decided_stands : (same_change : SameChange) (m : List (List ℕ)) (v : List ℕ)
    → ResolvesTo bytes_eq same_change m v → Contains m v
decided_stands Keep m v d = counted_stands v m
    (omega (arith, ints, d.0, adds_counted (bytes_eq v) m))
decided_stands Accept m v d = counted_stands v m
    (omega (arith, ints, d.0, adds_counted (bytes_eq v) m))
