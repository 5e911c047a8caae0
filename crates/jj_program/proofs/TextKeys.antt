-- The order of keys is that of strings, as far as it goes.
use Rattle.std.proofs.Common.{◌≡◌, ◌∙◌, ℕ, zero, suc, ◌+◌, ◌*◌, ◌<◌, ◌≤◌, false, List, [], ◌∷◌, All, arith, ap, subst, sym, refl, get_or, drop, drop-cons, add-one, map, length, ◌⊎◌, inl, inr, ⊎_elim, true≢false}
use Rattle.std.proofs.lemmas.Bool.{cases_lt}
use Rattle.std.proofs.lemmas.Cmp.{ranked}
use Rattle.std.proofs.lemmas.List.Elements.{All-get_or}
use Rattle.std.specs.Cmp.Lexicographic.{slice_cmp}
use Rattle.std.specs.Ordering.{is_gt, is_lt, nat_cmp, ordering_then}
use Rattle.std.specs.List.Sorted.{IsSorted}
use Rattle.std.specs.declared.cmp.Ordering.{Ordering}
use Rattle.std.specs.declared.cmp.Ordering.TheVariants.{Less, Equal, Greater}
use Rattle.std.proofs.lemmas.List.{drop_all, get_or_past, get_or-map, length-map}
use Rattle.jj_program.specs.Lines.{Text}
use Rattle.jj_program.specs.MergeViews.{text_cmp}
use Rattle.jj_program.specs.TextKeys.{AreBytes, IsEntry, key_from, text_of}

-- one more byte
pub key_next : (key n i : ℕ) (text : List ℕ) → key_from key (suc n) (drop i text) ≡ key_from (key * 256 + get_or text i 0) n (drop (i + 1) text)
key_next key n i text = ⊎_elim
    (λ less. ap (key_from key (suc n)) (drop-cons text i 0 less) ∙ ap (λ k. key_from (key * 256 + get_or text i 0) n (drop k text)) (sym (add-one i)))
    (λ most. let none : drop i text ≡ [] = drop_all i text most in
    let past : get_or text i 0 ≡ 0 = get_or_past text i 0 most in
    let zero_at : key * 256 ≡ key * 256 + get_or text i 0 = omega (arith, past) in
    ap (key_from key (suc n)) none ∙ ap (λ k. key_from k n []) zero_at ∙ ap (key_from (key * 256 + get_or text i 0) n) (sym (drop_all (i + 1) text (omega (arith, most)))))
    (cases_lt i (length text))

pub bytes_next : (n i : ℕ) (text : List ℕ) → get_or text i 0 < 256 → AreBytes n (drop (i + 1) text) → AreBytes (suc n) (drop i text)
bytes_next n i text byte more = ⊎_elim
    (λ less. subst (AreBytes (suc n)) (sym (drop-cons text i 0 less)) (byte, subst (λ k. AreBytes n (drop k text)) (add-one i) more))
    (λ most. subst (AreBytes (suc n)) (sym (drop_all i text most)) tt)
    (cases_lt i (length text))

no_bytes : (n : ℕ) → AreBytes n []
no_bytes zero = tt
no_bytes (suc n) = tt

-- a smaller number before the bytes
key_less : (k l n : ℕ) (xs ys : List ℕ) → k < l → AreBytes n xs → key_from k n xs < key_from l n ys
key_less k l zero xs ys less are = less
key_less k l (suc n) [] [] less are = key_less (k * 256) (l * 256) n [] [] (omega (arith, less)) (no_bytes n)
key_less k l (suc n) [] (y ∷ ys) less are = key_less (k * 256) (l * 256 + y) n [] ys (omega (arith, less)) (no_bytes n)
key_less k l (suc n) (x ∷ xs) [] less are = key_less (k * 256 + x) (l * 256) n xs [] (omega (arith, less, are.0)) are.1
key_less k l (suc n) (x ∷ xs) (y ∷ ys) less are = key_less (k * 256 + x) (l * 256 + y) n xs ys (omega (arith, less, are.0)) are.1

compared : (x y : ℕ) (o : Ordering) → is_gt (ordering_then (nat_cmp x y) o) ≡ false → (x < y) ⊎ ((x ≡ y) × (is_gt o ≡ false))
compared x y o h = by (nat_cmp x y) refl h
  where
    by : (c : Ordering) → c ≡ nat_cmp x y → is_gt (ordering_then c o) ≡ false → (x < y) ⊎ ((x ≡ y) × (is_gt o ≡ false))
    by Less e h = inl (ranked x y Less e)
    by Equal e h = inr (ranked x y Equal e, h)
    by Greater e h = absurd (true≢false h)

-- a string that is not greater has no greater key
key_not_greater : (k n : ℕ) (xs ys : List ℕ) → AreBytes n xs → is_gt (slice_cmp nat_cmp xs ys) ≡ false → key_from k n xs ≤ key_from k n ys
key_not_greater k zero xs ys are h = omega arith
key_not_greater k (suc n) [] [] are h = omega arith
key_not_greater k (suc n) [] (y ∷ ys) are h = ⊎_elim
    (λ more. let less = key_less (k * 256) (k * 256 + y) n [] ys (omega (arith, more)) (no_bytes n) in omega (arith, less))
    (λ least. let same : k * 256 + y ≡ k * 256 = omega (arith, least) in
    subst (λ l. key_from (k * 256) n [] ≤ key_from l n ys) (sym same) (key_not_greater (k * 256) n [] ys (no_bytes n) (shorter ys)))
    (cases_lt 0 y)
  where
    shorter : (ys : List ℕ) → is_gt (slice_cmp nat_cmp [] ys) ≡ false
    shorter [] = refl
    shorter (y ∷ ys) = refl
key_not_greater k (suc n) (x ∷ xs) [] are h = absurd (true≢false h)
key_not_greater k (suc n) (x ∷ xs) (y ∷ ys) are h = ⊎_elim
    (λ less. let below = key_less (k * 256 + x) (k * 256 + y) n xs ys (omega (arith, less)) are.1 in omega (arith, below))
    (λ tied. let same : k * 256 + y ≡ k * 256 + x = omega (arith, tied.0) in
    subst (λ l. key_from (k * 256 + x) n xs ≤ key_from l n ys) (sym same) (key_not_greater (k * 256 + x) n xs ys are.1 tied.1))
    (compared x y (slice_cmp nat_cmp xs ys) h)

-- entries that are in order have their strings in order
pub ordered : (x y : ℕ × Text) → IsEntry x → IsEntry y → is_lt (ordering_then (nat_cmp x.0 y.0) (text_cmp x.1 y.1)) ≡ false → is_lt (text_cmp x.1 y.1) ≡ false
ordered x y is_x is_y h = by (nat_cmp x.0 y.0) (text_cmp x.1 y.1) refl refl h
  where
    by : (c o : Ordering) → c ≡ nat_cmp x.0 y.0 → o ≡ text_cmp x.1 y.1 → is_lt (ordering_then c o) ≡ false → is_lt o ≡ false
    by Less o e f h = absurd (true≢false h)
    by Equal o e f h = h
    by Greater Less e f h =
        let above : y.0 < x.0 = ranked x.0 y.0 Greater e in
        let most = key_not_greater 0 8 x.1.now y.1.now is_x.1 (ap is_gt (sym f)) in
        absurd (omega (arith, above, most, is_x.0, is_y.0))
    by Greater Equal e f h = refl
    by Greater Greater e f h = refl

pub texts_sorted : (entries : List (ℕ × Text)) → All IsEntry entries → IsSorted (λ (x y : ℕ × Text). ordering_then (nat_cmp x.0 y.0) (text_cmp x.1 y.1)) entries → IsSorted text_cmp (map text_of entries)
texts_sorted entries are sorted = λ k d low high.
    let n : length (map text_of entries) ≡ length entries = length-map entries text_of in
    let e : ℕ × Text = (0, d) in
    let first : k < length entries = omega (arith, high, n) in
    let next : k + 1 < length entries = omega (arith, high, n) in
    let at_first : get_or (map text_of entries) k d ≡ (get_or entries k e).1 = get_or-map text_of entries k e d first in
    let at_next : get_or (map text_of entries) (k + 1) d ≡ (get_or entries (k + 1) e).1 = get_or-map text_of entries (k + 1) e d next in
    let is = ordered (get_or entries (k + 1) e) (get_or entries k e) (All-get_or IsEntry entries (k + 1) e next are) (All-get_or IsEntry entries k e first are) (sorted k e low next) in
    rw (at_first, at_next) is
