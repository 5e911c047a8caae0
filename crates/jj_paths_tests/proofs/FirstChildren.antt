-- The first child of a node.
use Rattle.std.proofs.Common.{◌≡◌, ℕ, ◌<◌, Bool, true, false, ◌&&◌, List, [], ◌∷◌, length, get_or, refl, sym, ap, ◌∙◌, subst, arith}
use Rattle.std.specs.Prelude.{IsTrue}
use Rattle.std.specs.FinMap.Entries.{below_all, is_sorted}
use Rattle.jj_paths.specs.Paths.{Name, name_cmp}
use Rattle.jj_paths.specs.Tree.{Tree}

and_first : (a b : Bool) → (a && b) ≡ true → a ≡ true
and_first true b e = refl
and_first false b e = e

pub first_is_least : (entries slice : List (Name × Tree ℕ)) (entry : Name × Tree ℕ) → slice ≡ entries
    → IsTrue (is_sorted name_cmp entries) → 0 < length slice → entry ≡ get_or slice 0 entry
    → (others : List (Name × Tree ℕ)) × (entries ≡ entry ∷ others) × IsTrue (below_all name_cmp entry.0 others)
first_is_least [] slice entry e sorted some at = absurd (omega (arith, ap length e))
first_is_least (x ∷ xs) slice entry e sorted some at =
    let same : entry ≡ x = at ∙ ap (λ es. get_or es 0 entry) e in (
      xs,
      ap (λ y. y ∷ xs) (sym same),
      subst (λ y. below_all name_cmp y.0 xs ≡ true) (sym same) (and_first (below_all name_cmp x.0 xs) (is_sorted name_cmp xs) sorted),
    )

pub none_first : (entries slice : List (Name × Tree ℕ)) → slice ≡ entries → length slice ≡ 0 → entries ≡ []
none_first [] slice e none = refl
none_first (x ∷ xs) slice e none = absurd (omega (arith, ap length e))

pub ruleset first_steps = (first_is_least, none_first)
