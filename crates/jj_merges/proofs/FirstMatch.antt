-- The result of `find_matching_remove`.
use Rattle.std.proofs.Common.{◌≡◌, ℕ, ◌<◌, Bool, true, false, List, length, Option, Some, None, refl, ap, arith, ◌∙◌, get_or}
use Rattle.std.specs.Prelude.{slice_index, nat_lt, position}
use Rattle.std.specs.List.{position_or_len}
use Rattle.std.proofs.lemmas.Bool.{lt-ltb}
use Rattle.std.proofs.lemmas.List.Sums.{position_or_len_is}
use Rattle.std.proofs.lemmas.Option.{slice_get_read}
use Rattle.std.proofs.lemmas.List.{get_or_default}
use Rattle.jj_merges.specs.Simplify.{equal_at}

pub position-found : (p : ℕ → Bool) (xs : List ℕ) (i : ℕ) → i < length xs → ((k : ℕ) → k < i → p (slice_index xs k) ≡ false) → p (slice_index xs i) ≡ true → Some i ≡ position p xs
position-found p xs i hi before here =
    let e : position_or_len p xs ≡ i = position_or_len_is p xs i 0 (omega arith) before (λ _. here) in
    let t : nat_lt i (length xs) ≡ true = lt-ltb i (length xs) hi in
    rw e (rw t refl)

pub position-none : (p : ℕ → Bool) (xs : List ℕ) → ((k : ℕ) → k < length xs → p (slice_index xs k) ≡ false) → None ≡ position p xs
position-none p xs before =
    let e : position_or_len p xs ≡ length xs = position_or_len_is p xs (length xs) 0 (omega arith) before (λ h. absurd (omega arith)) in
    rw e (grind (arith))

pub equal_at-read : {T : Type 0} (eq : T → T → Bool) (m : List T) (p q : ℕ) (x y : T) → p < length m → x ≡ get_or m p x → q < length m → y ≡ get_or m q y → equal_at eq m p q ≡ eq x y
equal_at-read eq m p q x y hp ex hq ey =
    let a = slice_get_read m (length m) p x refl hp ex in
    let b = slice_get_read m (length m) q y refl hq ey in
    rw (a, b) refl

-- the result in terms of the loop's values
pub position-at : (same : ℕ → ℕ → Bool) (adds removes rs : List ℕ) (i x : ℕ) (o : Option ℕ) → i < length adds → x ≡ get_or adds i x → rs ≡ removes → o ≡ position (same x) rs → o ≡ position (same (slice_index adds i)) removes
position-at same adds removes rs i x o hi ex er h =
    let e : x ≡ slice_index adds i = ex ∙ get_or_default adds i x 0 hi in
    h ∙ (ap (λ y. position (same y) rs) e ∙ ap (λ ys. position (same (slice_index adds i)) ys) er)
