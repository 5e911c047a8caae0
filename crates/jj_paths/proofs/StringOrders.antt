-- Comparing paths by components agrees with comparing their strings by bytes, with the slash as the least byte.
use Rattle.std.proofs.Common.{◌≡◌, ℕ, zero, suc, ◌+◌, ◌==◌, Bool, true, false, cond, List, [], ◌∷◌, drop, length, min, ◌⊎◌, inl, inr, length-drop, refl, sym, ap, ◌∙◌, arith}
use Rattle.std.specs.List.{slice_split, onto_first}
use Rattle.std.specs.declared.cmp.Ordering.{Ordering}
use Rattle.std.specs.declared.cmp.Ordering.TheVariants.{Less, Equal, Greater}
use Rattle.std.specs.Ordering.{nat_cmp, ordering_then}
use Rattle.std.specs.Cmp.Lexicographic.{slice_cmp}
use Rattle.std.specs.Cmp.{nat_cmp_is}
use Rattle.jj_paths.specs.Paths.{components, name_cmp, path_cmp}
use Rattle.jj_paths.specs.Orders.{slash_cmp}
use Rattle.jj_paths.proofs.PathStrings.{is_slash}

ordering_then-assoc : (a b c : Ordering) → ordering_then (ordering_then a b) c ≡ ordering_then a (ordering_then b c)
ordering_then-assoc Less b c = refl
ordering_then-assoc Equal b c = refl
ordering_then-assoc Greater b c = refl

-- the parts of a string, of which there is at least one
record Parted (parts : List (List ℕ)) : Type 0 where
  first : List ℕ
  more : List (List ℕ)
  is : parts ≡ first ∷ more

parted : (text : List ℕ) → Parted (slice_split is_slash text)
parted [] = record { first = []; more = []; is = refl }
parted (x ∷ xs) = by_slash (is_slash x) (slice_split is_slash xs) (parted xs)
  where
    by_slash : (t : Bool) (later : List (List ℕ)) → Parted later → Parted (cond t ([] ∷ later) (onto_first x later))
    by_slash true later known = record { first = []; more = later; is = refl }
    by_slash false later known = record { first = x ∷ known.first; more = known.more; is = ap (onto_first x) known.is }

-- one byte further on
byte_step : (x y : ℕ) (p q : List (List ℕ)) → Parted p → Parted q → (s t : Bool) → (x == 47) ≡ s → (y == 47) ≡ t →
    slice_cmp name_cmp (cond s ([] ∷ p) (onto_first x p)) (cond t ([] ∷ q) (onto_first y q)) ≡ ordering_then (cond s (cond t Equal Less) (cond t Greater (nat_cmp x y))) (slice_cmp name_cmp p q)
byte_step x y p q known known' true true e f = refl
byte_step x y p q known known' true false e f = ap (λ l. slice_cmp name_cmp ([] ∷ p) (onto_first y l)) known'.is
byte_step x y p q known known' false true e f = ap (λ l. slice_cmp name_cmp (onto_first x l) ([] ∷ q)) known.is
byte_step x y p q known known' false false e f =
    ap (λ l. slice_cmp name_cmp (onto_first x l) (onto_first y q)) known.is
    ∙ ap (λ l. slice_cmp name_cmp (onto_first x (known.first ∷ known.more)) (onto_first y l)) known'.is
    ∙ ordering_then-assoc (nat_cmp x y) (name_cmp known.first known'.first) (slice_cmp name_cmp known.more known'.more)
    ∙ ap (λ l. ordering_then (nat_cmp x y) (slice_cmp name_cmp l (known'.first ∷ known'.more))) (sym known.is)
    ∙ ap (λ l. ordering_then (nat_cmp x y) (slice_cmp name_cmp p l)) (sym known'.is)

less_than_more : (y : ℕ) (q : List (List ℕ)) → Parted q → (t : Bool) → slice_cmp name_cmp ([] ∷ []) (cond t ([] ∷ q) (onto_first y q)) ≡ Less
less_than_more y q known true = ap (λ l. slice_cmp name_cmp [] l) known.is
less_than_more y q known false = ap (λ l. slice_cmp name_cmp ([] ∷ []) (onto_first y l)) known.is

more_than_none : (x : ℕ) (p : List (List ℕ)) → Parted p → (t : Bool) → slice_cmp name_cmp (cond t ([] ∷ p) (onto_first x p)) ([] ∷ []) ≡ Greater
more_than_none x p known true = ap (λ l. slice_cmp name_cmp l []) known.is
more_than_none x p known false = ap (λ l. slice_cmp name_cmp (onto_first x l) ([] ∷ [])) known.is

parts_cmp : (a b : List ℕ) → slice_cmp name_cmp (slice_split is_slash a) (slice_split is_slash b) ≡ slice_cmp slash_cmp a b
parts_cmp [] [] = refl
parts_cmp [] (y ∷ ys) = less_than_more y (slice_split is_slash ys) (parted ys) (y == 47)
parts_cmp (x ∷ xs) [] = more_than_none x (slice_split is_slash xs) (parted xs) (x == 47)
parts_cmp (x ∷ xs) (y ∷ ys) = byte_step x y _ _ (parted xs) (parted ys) (x == 47) (y == 47) refl refl ∙ ap (ordering_then (slash_cmp x y)) (parts_cmp xs ys)

pub path_cmp-components : (a b : List ℕ) → path_cmp (components a) (components b) ≡ slice_cmp slash_cmp a b
path_cmp-components [] [] = refl
path_cmp-components [] (y ∷ ys) = let known = parted (y ∷ ys) in ap (λ l. path_cmp [] l) known.is
path_cmp-components (x ∷ xs) [] = let known = parted (x ∷ xs) in ap (λ l. path_cmp l []) known.is
path_cmp-components (x ∷ xs) (y ∷ ys) = parts_cmp (x ∷ xs) (y ∷ ys)

-- if one string is a prefix of the other, the shorter one is less
ended : (a b : List ℕ) (m n i : ℕ) → length a + i ≡ m → length b + i ≡ n → (length a ≡ 0) ⊎ (length b ≡ 0) → slice_cmp slash_cmp a b ≡ nat_cmp m n
ended [] [] m n i e f h = nat_cmp_is m n Equal (omega arith)
ended [] (y ∷ ys) m n i e f h = nat_cmp_is m n Less (omega arith)
ended (x ∷ xs) [] m n i e f h = nat_cmp_is m n Greater (omega arith)
ended (x ∷ xs) (y ∷ ys) m n i e f (inl none) = absurd (omega arith)
ended (x ∷ xs) (y ∷ ys) m n i e f (inr none) = absurd (omega arith)

pub shorter_first : (a b : List ℕ) (i : ℕ) → i ≡ min (length a) (length b) → slice_cmp slash_cmp (drop i a) (drop i b) ≡ nat_cmp (length a) (length b)
shorter_first a b i is = ended (drop i a) (drop i b) (length a) (length b) i (omega (arith, length-drop i a, is)) (omega (arith, length-drop i b, is)) (which (length (drop i a)) (length (drop i b)) (omega (arith, length-drop i a, length-drop i b, is)))
  where
    which : (m n : ℕ) → min m n ≡ 0 → (m ≡ 0) ⊎ (n ≡ 0)
    which zero n e = inl refl
    which (suc m) zero e = inr refl
    which (suc m) (suc n) e = absurd (omega arith)
