-- A list of entries is sorted if and only if adjacent names ascend.
use Rattle.std.proofs.Common.{◌≡◌, ◌&&◌, ◌<◌, ℕ, zero, suc, Bool, true, false, [], ◌∷◌, length, get_or, refl, ap, subst, arith}
use Rattle.std.specs.FinMap.{is_sorted}
use Rattle.std.specs.FinMap.Entries.{below_all}
use Rattle.std.specs.Ordering.{is_lt}
use Rattle.std.specs.Cmp.Lexicographic.{nat_list_cmp_total}
use Rattle.std.specs.declared.cmp.Ordering.TheVariants.{Less}
use Rattle.std.proofs.lemmas.Bool.{and_parts}
use Rattle.jj_paths.specs.Paths.{Name, name_cmp}
use Rattle.jj_paths.proofs.PathOrders.{less_from_is_lt}
use Rattle.jj_backend.specs.Trees.{Entries}
use Rattle.jj_backend.specs.declared.backend.tree_value.TreeValue.{TreeValue}

both_true : (a b : Bool) → a ≡ true → b ≡ true → (a && b) ≡ true
both_true true b p q = q
both_true false b p q = p

pub below_all-at : (x : Name) (es : Entries) (j : ℕ) (d : Name × TreeValue) → below_all name_cmp x es ≡ true → j < length es → name_cmp x (get_or es j d).0 ≡ Less
below_all-at x [] j d all lt = absurd (omega arith)
below_all-at x (e ∷ es) zero d all lt = less_from_is_lt _ (and_parts _ _ all).0
below_all-at x (e ∷ es) (suc j) d all lt = below_all-at x es j d (and_parts _ _ all).1 (omega arith)

above_smaller : (n m : Name) (es : Entries) → name_cmp n m ≡ Less → below_all name_cmp m es ≡ true → below_all name_cmp n es ≡ true
above_smaller n m [] less above = refl
above_smaller n m (e ∷ es) less above =
    let p = and_parts _ _ above in
    both_true _ _ (ap is_lt (nat_list_cmp_total.trans n m e.0 less (less_from_is_lt _ p.0))) (above_smaller n m es less p.1)

-- adjacent names at indices below n ascend
abbrev pub AscendBelow : Entries → ℕ → Type 0
AscendBelow es n = (i : ℕ) (d : Name × TreeValue) → suc i < n → is_lt (name_cmp (get_or es i d).0 (get_or es (suc i) d).0) ≡ true

pub sorted : (es : Entries) → AscendBelow es (length es) → is_sorted name_cmp es ≡ true
sorted [] ascend = refl
sorted (e ∷ []) ascend = refl
sorted (e ∷ f ∷ es) ascend =
    let rest = sorted (f ∷ es) (λ i d lt. ascend (suc i) d (omega arith)) in
    let first : is_lt (name_cmp e.0 f.0) ≡ true = ascend 0 e (omega arith) in
    both_true _ _ (both_true _ _ first (above_smaller e.0 f.0 es (less_from_is_lt _ first) (and_parts _ _ rest).0)) rest

and_false : (a : Bool) → (a && false) ≡ false
and_false true = refl
and_false false = refl

-- a and b are adjacent entries whose names do not ascend
pub unsorted : (es : Entries) (i : ℕ) (a b : Name × TreeValue) → suc i < length es → a ≡ get_or es i a → b ≡ get_or es (suc i) b → is_lt (name_cmp a.0 b.0) ≡ false → is_sorted name_cmp es ≡ false
unsorted [] i a b lt p q h = absurd (omega arith)
unsorted (e ∷ []) i a b lt p q h = absurd (omega arith)
unsorted (e ∷ f ∷ es) zero a b lt p q h =
    let first : is_lt (name_cmp e.0 f.0) ≡ false = subst (λ x. is_lt (name_cmp x.0 f.0) ≡ false) p (subst (λ y. is_lt (name_cmp a.0 y.0) ≡ false) q h) in
    rw first refl
unsorted (e ∷ f ∷ es) (suc i) a b lt p q h =
    let rest : is_sorted name_cmp (f ∷ es) ≡ false = unsorted (f ∷ es) i a b (omega arith) p q h in
    rw rest (and_false (below_all name_cmp e.0 (f ∷ es)))
