-- The longest common prefix of two paths.
use Rattle.std.proofs.Common.{◌≡◌, Bool, true, false, if◌then◌else◌, [], ◌∷◌, ◌++◌, length, refl, sym, ap, ◌∙◌, arith}
use Rattle.std.specs.Str.{bytes_eq}
use Rattle.std.proofs.lemmas.Slice.Eq.{bytes_eq-Decides}
use Rattle.jj_paths.specs.Paths.{Path, IsBelow, common_prefix, after_common}

pub common_prefix-whole : (p q : Path) → p ≡ common_prefix p q ++ after_common p q
common_prefix-whole [] q = refl
common_prefix-whole (n ∷ r) [] = refl
common_prefix-whole (n ∷ r) (m ∷ s) = by_test (bytes_eq n m) (common_prefix-whole r s)
  where
    by_test : (t : Bool) → r ≡ common_prefix r s ++ after_common r s → n ∷ r ≡ (if t then n ∷ common_prefix r s else []) ++ (if t then after_common r s else n ∷ r)
    by_test true later = ap (λ l. n ∷ l) later
    by_test false later = refl

pub common_prefix-other : (p q : Path) → IsBelow q (common_prefix p q)
common_prefix-other [] q = (q, refl)
common_prefix-other (n ∷ r) [] = ([], refl)
common_prefix-other (n ∷ r) (m ∷ s) = by_test (bytes_eq n m) refl (common_prefix-other r s)
  where
    by_test : (t : Bool) → bytes_eq n m ≡ t → IsBelow s (common_prefix r s) → IsBelow (m ∷ s) (if t then n ∷ common_prefix r s else [])
    by_test true same (x, e) = (x, ap (λ k. k ∷ s) (sym ((bytes_eq-Decides n m).0 same)) ∙ ap (λ l. n ∷ l) e)
    by_test false other later = (m ∷ s, refl)

pub common_prefix-longest : (prefix p q : Path) → IsBelow p prefix → IsBelow q prefix → IsBelow (common_prefix p q) prefix
common_prefix-longest [] p q a b = (common_prefix p q, refl)
common_prefix-longest (f ∷ fs) [] q (x, e) b = absurd (omega (arith, ap length e))
common_prefix-longest (f ∷ fs) (n ∷ r) [] a (y, e) = absurd (omega (arith, ap length e))
common_prefix-longest (f ∷ fs) (n ∷ r) (m ∷ s) (x, e) (y, g) =
    let n_is : n ≡ f = cc in
    let r_is : r ≡ fs ++ x = cc in
    let m_is : m ≡ f = cc in
    let s_is : s ≡ fs ++ y = cc in
    let same : bytes_eq n m ≡ true = (bytes_eq-Decides n m).1 (n_is ∙ sym m_is) in
    let below = common_prefix-longest fs r s (x, r_is) (y, s_is) in
    (below.0, rw same (ap (λ k. k ∷ common_prefix r s) n_is ∙ ap (λ l. f ∷ l) below.1))
