-- Lists in one array, while the array grows.
use Rattle.std.proofs.Common.{◌≡◌, ◌∙◌, ⊎_elim, zero, suc, get_or, ℕ, ◌-◌, ◌≤◌, List, [], ◌∷◌, ◌++◌, All, length, map, take, drop, refl, ap, arith, length-drop}
use Rattle.std.specs.List.{Contains, slice_range}
use Rattle.std.proofs.lemmas.List.{drop-append-le, take-append-le}
use Rattle.std.proofs.lemmas.List.Elements.{All-head, All-tail, Contains-append_cases, Contains-append_left, Contains-append_right}

-- lists that end at most at n stay as they are
pub lists_kept : (numbers more : List ℕ) (parts : List (ℕ × ℕ)) (n : ℕ) → n ≤ length numbers → All (λ part. (part.0 ≤ part.1) × (part.1 ≤ n)) parts
    → map (λ part. slice_range (numbers ++ more) part.0 part.1) parts ≡ map (λ part. slice_range numbers part.0 part.1) parts
lists_kept numbers more [] n inside within = refl
lists_kept numbers more (part ∷ parts) n inside within =
    let (up, end) = All-head (λ part. (part.0 ≤ part.1) × (part.1 ≤ n)) part parts within in
    let first : slice_range (numbers ++ more) part.0 part.1 ≡ slice_range numbers part.0 part.1 =
    ap (take (part.1 - part.0)) (drop-append-le part.0 numbers more (omega (arith, up, end, inside)))
    ∙ take-append-le (part.1 - part.0) (drop part.0 numbers) more (omega (arith, up, end, inside, length-drop part.0 numbers)) in
    let rest = lists_kept numbers more parts n inside (All-tail (λ part. (part.0 ≤ part.1) × (part.1 ≤ n)) part parts within) in
    (λ i. first i ∷ rest i)

-- the members of a list are members of the array
in_none : (x : ℕ) {A : Type 0} → Contains [] x → A
in_none x (k, below, at) = absurd (omega arith)

in_drop : (n : ℕ) (xs : List ℕ) (x : ℕ) → Contains (drop n xs) x → Contains xs x
in_drop zero xs x h = h
in_drop (suc n) [] x h = h
in_drop (suc n) (y ∷ ys) x h = Contains-append_right (y ∷ []) ys x (in_drop n ys x h)

in_take : (n : ℕ) (xs : List ℕ) (x : ℕ) → Contains (take n xs) x → Contains xs x
in_take zero xs x h = in_none x h
in_take (suc n) [] x h = h
in_take (suc n) (y ∷ ys) x h =
    ⊎_elim (λ first. Contains-append_left (y ∷ []) ys x first) (λ later. Contains-append_right (y ∷ []) ys x (in_take n ys x later)) (Contains-append_cases (y ∷ []) (take n ys) x h)

pub in_list : (numbers : List ℕ) (parts : List (ℕ × ℕ)) (index x : ℕ) → Contains (get_or (map (λ part. slice_range numbers part.0 part.1) parts) index []) x → Contains numbers x
in_list numbers [] index x h = in_none x h
in_list numbers (part ∷ parts) zero x h = in_drop part.0 numbers x (in_take (part.1 - part.0) (drop part.0 numbers) x h)
in_list numbers (part ∷ parts) (suc index) x h = in_list numbers parts index x h
