-- Ranges of tokens, one more at a time.
use Rattle.std.proofs.Common.{◌≡◌, ℕ, ◌+◌, ◌<◌, Bool, true, false, List, [], ◌∷◌, ◌++◌, length, take, filter, get_or, refl, ap, sym, ◌∙◌, arith, cond}
use Rattle.std.proofs.lemmas.List.{take_more, take_all}
use Rattle.std.specs.declared.ops.Range.{Range}
use Rattle.jj_diff.specs.Ranges.{ranges_between, last_end}

between-push : (start : ℕ) (ends : List ℕ) (end : ℕ)
    → ranges_between start (ends ++ end ∷ []) ≡ ranges_between start ends ++ record { start = last_end start ends; end = end } ∷ []
between-push start [] end = refl
between-push start (e ∷ ends) end = ap (λ rs. record { start = start; end = e } ∷ rs) (between-push e ends end)

last-push : (start : ℕ) (ends : List ℕ) (end : ℕ) → last_end start (ends ++ end ∷ []) ≡ end
last-push start [] end = refl
last-push start (e ∷ ends) end = last-push e ends end

-- one more range
pub between_more : (ends : List ℕ) (i : ℕ) → i < length ends
    → ranges_between 0 (take (i + 1) ends)
    ≡ ranges_between 0 (take i ends) ++ record { start = last_end 0 (take i ends); end = get_or ends i 0 } ∷ []
between_more ends i lt = ap (ranges_between 0) (take_more ends i 0 lt) ∙ between-push 0 (take i ends) (get_or ends i 0)

pub last_more : (ends : List ℕ) (i : ℕ) → i < length ends → last_end 0 (take (i + 1) ends) ≡ get_or ends i 0
last_more ends i lt = ap (last_end 0) (take_more ends i 0 lt) ∙ last-push 0 (take i ends) (get_or ends i 0)

pub ruleset between_steps = (between_more, last_more, take_all)

filter-push_yes : (p : Range ℕ → Bool) (xs : List (Range ℕ)) (x : Range ℕ) → p x ≡ true → filter p (xs ++ x ∷ []) ≡ filter p xs ++ x ∷ []
filter-push_yes p [] x e = rw e refl
filter-push_yes p (y ∷ xs) x e =
    let P : Bool → Type 0 = λ b. cond b (y ∷ filter p (xs ++ x ∷ [])) (filter p (xs ++ x ∷ [])) ≡ cond b (y ∷ filter p xs) (filter p xs) ++ x ∷ [] in
    elim (p y) as P [ true ↦ ap (λ ys. y ∷ ys) (filter-push_yes p xs x e) | false ↦ filter-push_yes p xs x e ]

filter-push_no : (p : Range ℕ → Bool) (xs : List (Range ℕ)) (x : Range ℕ) → p x ≡ false → filter p (xs ++ x ∷ []) ≡ filter p xs
filter-push_no p [] x e = rw e refl
filter-push_no p (y ∷ xs) x e =
    let P : Bool → Type 0 = λ b. cond b (y ∷ filter p (xs ++ x ∷ [])) (filter p (xs ++ x ∷ [])) ≡ cond b (y ∷ filter p xs) (filter p xs) in
    elim (p y) as P [ true ↦ ap (λ ys. y ∷ ys) (filter-push_no p xs x e) | false ↦ filter-push_no p xs x e ]

pub filter_more_yes : (p : Range ℕ → Bool) (xs : List (Range ℕ)) (i : ℕ) (x : Range ℕ) → i < length xs → x ≡ get_or xs i x → p x ≡ true
    → filter p (take (i + 1) xs) ≡ filter p (take i xs) ++ x ∷ []
filter_more_yes p xs i x lt e f =
    ap (filter p) (take_more xs i x lt ∙ ap (λ y. take i xs ++ y ∷ []) (sym e)) ∙ filter-push_yes p (take i xs) x f

pub filter_more_no : (p : Range ℕ → Bool) (xs : List (Range ℕ)) (i : ℕ) (x : Range ℕ) → i < length xs → x ≡ get_or xs i x → p x ≡ false
    → filter p (take (i + 1) xs) ≡ filter p (take i xs)
filter_more_no p xs i x lt e f =
    ap (filter p) (take_more xs i x lt ∙ ap (λ y. take i xs ++ y ∷ []) (sym e)) ∙ filter-push_no p (take i xs) x f

pub ruleset filter_steps = (filter_more_yes, filter_more_no, take_all)
