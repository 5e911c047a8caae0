-- Entries whose neighbors ascend are sorted.
use Rattle.std.proofs.Common.{◌≡◌, ◌&&◌, ◌<◌, ℕ, suc, Bool, true, false, List, [], ◌∷◌, length, get_or, refl, ap, sym, true≢false, arith}
use Rattle.std.specs.FinMap.{is_sorted}
use Rattle.std.specs.FinMap.Entries.{below_all}
use Rattle.std.specs.Ordering.{is_lt}
use Rattle.std.specs.Cmp.Lexicographic.{nat_list_cmp_total}
use Rattle.std.specs.declared.cmp.Ordering.{Ordering}
use Rattle.std.specs.declared.cmp.Ordering.TheVariants.{Less, Equal, Greater}
use Rattle.std.proofs.lemmas.Bool.{and_parts}
use Rattle.jj_paths.specs.Paths.{Name, name_cmp}

less_from_is_lt : (r : Ordering) → is_lt r ≡ true → r ≡ Less
less_from_is_lt Less e = refl
less_from_is_lt Equal e = absurd (true≢false (sym e))
less_from_is_lt Greater e = absurd (true≢false (sym e))

both_true : (a b : Bool) → a ≡ true → b ≡ true → (a && b) ≡ true
both_true true b p q = q
both_true false b p q = p

module _ {V : Type 0} where
  above_smaller : (n m : Name) (es : List (Name × V)) → name_cmp n m ≡ Less → below_all name_cmp m es ≡ true → below_all name_cmp n es ≡ true
  above_smaller n m [] less above = refl
  above_smaller n m (e ∷ es) less above =
      let p = and_parts _ _ above in
      both_true _ _ (ap is_lt (nat_list_cmp_total.trans n m e.0 less (less_from_is_lt _ p.0))) (above_smaller n m es less p.1)

  -- neighbors below that index ascend
  abbrev pub AscendBelow : List (Name × V) → ℕ → Type 0
  AscendBelow es n = (i : ℕ) (d : Name × V) → suc i < n → name_cmp (get_or es i d).0 (get_or es (suc i) d).0 ≡ Less

  pub sorted : (es : List (Name × V)) → AscendBelow es (length es) → is_sorted name_cmp es ≡ true
  sorted [] ascend = refl
  sorted (e ∷ []) ascend = refl
  sorted (e ∷ f ∷ es) ascend =
      let rest = sorted (f ∷ es) (λ i d lt. ascend (suc i) d (omega arith)) in
      let first : name_cmp e.0 f.0 ≡ Less = ascend 0 e (omega arith) in
      both_true _ _ (both_true _ _ (ap is_lt first) (above_smaller e.0 f.0 es first (and_parts _ _ rest).0)) rest
