-- A buffer whose first flags are written.
use Rattle.std.proofs.Common.{◌≡◌, ◌∙◌, ℕ, zero, suc, ◌+◌, ◌<◌, List, [], ◌∷◌, ◌++◌, length, map, get_or, take, drop, set, Some, refl, sym, ap, subst, arith, add-one}
use Rattle.std.specs.Prelude.{slice_get}
use Rattle.std.specs.List.{AllZip}
use Rattle.std.proofs.lemmas.List.{drop-set-lt, map-append, take_more, take_more_set}
use Rattle.jj_core_c.proofs.PieceLists.{take_next}

pub AllZip-next : {A B : Type 0} (R : A → B → Type 0) (xs : List A) (ys : List B) (x : A) (y : B) → AllZip R xs ys → R x y → AllZip R (xs ++ x ∷ []) (ys ++ y ∷ [])
AllZip-next R [] [] x y all here = (here, tt)
AllZip-next R [] (z ∷ ys) x y all here = absurd all
AllZip-next R (w ∷ xs) [] x y all here = absurd all
AllZip-next R (w ∷ xs) (z ∷ ys) x y all here = (all.0, AllZip-next R xs ys x y all.1 here)

drop_suc : {A : Type 0} (i : ℕ) (xs : List A) → drop (suc i) xs ≡ drop 1 (drop i xs)
drop_suc zero xs = refl
drop_suc (suc i) [] = refl
drop_suc (suc i) (x ∷ xs) = drop_suc i xs

-- the flag at the index is written
pub written_next : {A B : Type 0} (R : A → B → Type 0) (xs : List A) (ys : List B) (i : ℕ) (x : A) (y : B) → slice_get xs i ≡ Some x → i < length ys → R x y
    → AllZip R (take i xs) (take i ys) → AllZip R (take (i + 1) xs) (take (i + 1) (set ys i y))
written_next {A} {B} R xs ys i x y at below here all =
    subst (λ (l : List A). AllZip R l (take (i + 1) (set ys i y))) (sym (take_next xs i x at))
    (subst (λ (l : List B). AllZip R (take i xs ++ x ∷ []) l) (sym (take_more_set ys i y below)) (AllZip-next R (take i xs) (take i ys) x y all here))

-- the flags after the index are unchanged
pub unchanged_next : {B : Type 0} (ys old : List B) (i : ℕ) (y : B) → drop i ys ≡ drop i old → drop (i + 1) (set ys i y) ≡ drop (i + 1) old
unchanged_next ys old i y same =
    drop-set-lt (i + 1) ys i y (omega arith) ∙ ap (λ (k : ℕ). drop k ys) (add-one i) ∙ drop_suc i ys ∙ ap (drop 1) same ∙ sym (drop_suc i old) ∙ ap (λ (k : ℕ). drop k old) (sym (add-one i))

-- a flag is appended
pub mapped_next : {X Y B : Type 0} (R : Y → B → Type 0) (shown : X → Y) (all : List X) (i : ℕ) (d : X) (flags : List B) (flag : B) → i < length all → R (shown (get_or all i d)) flag
    → AllZip R (map shown (take i all)) flags → AllZip R (map shown (take (i + 1) all)) (flags ++ flag ∷ [])
mapped_next R shown all i d flags flag below here before =
    subst (λ l. AllZip R l (flags ++ flag ∷ [])) (sym (ap (map shown) (take_more all i d below) ∙ map-append shown (take i all) (get_or all i d ∷ [])))
    (AllZip-next R (map shown (take i all)) flags (shown (get_or all i d)) flag before here)
