-- Numbers for lists of numbers, as the bytes of an id: each list has one, which is not 0 and which
-- no other list has.
use Rattle.std.proofs.Common.{◌≡◌, ◌==◌, ℕ, zero, suc, ◌+◌, ◌≤◌, Bool, true, false, List, [], ◌∷◌, refl, ◌∙◌, ap, arith}
use Rattle.std.proofs.lemmas.Bool.Decides.{Decides-eqb}

double : ℕ → ℕ
double zero = zero
double (suc n) = suc (suc (double n))

half : ℕ → ℕ
half zero = zero
half (suc zero) = zero
half (suc (suc n)) = suc (half n)

is_odd : ℕ → Bool
is_odd zero = false
is_odd (suc zero) = true
is_odd (suc (suc n)) = is_odd n

-- that many ones below the other digits
ones : ℕ → ℕ → ℕ
ones zero n = n
ones (suc b) n = suc (double (ones b n))

-- the number of a list: in binary, from the lowest digit, each item as that many ones and a zero
pub number : List ℕ → ℕ
number [] = suc zero
number (b ∷ bs) = ones b (double (number bs))

one_more : List ℕ → List ℕ
one_more [] = []
one_more (b ∷ bs) = suc b ∷ bs

pick : ℕ → Bool → List ℕ → List ℕ
pick zero odd bs = []
pick (suc n) false bs = zero ∷ bs
pick (suc n) true bs = one_more bs

read : ℕ → ℕ → List ℕ
read zero n = []
read (suc fuel) n = pick (half n) (is_odd n) (read fuel (half n))

double-twice : (n : ℕ) → double n ≡ n + n
unfolding double
double-twice zero = refl
double-twice (suc n) = let e = double-twice n in omega (arith, e)

half-double : (n : ℕ) → half (double n) ≡ n
unfolding double half
half-double zero = refl
half-double (suc n) = ap suc (half-double n)

even-double : (n : ℕ) → is_odd (double n) ≡ false
unfolding double is_odd
even-double zero = refl
even-double (suc n) = even-double n

half-odd : (n : ℕ) → half (suc (double n)) ≡ n
unfolding double half
half-odd zero = refl
half-odd (suc n) = ap suc (half-odd n)

odd-double : (n : ℕ) → is_odd (suc (double n)) ≡ true
unfolding double is_odd
odd-double zero = refl
odd-double (suc n) = odd-double n

not_zero : (xs : List ℕ) → (n : ℕ) × (number xs ≡ suc n)
unfolding number ones double
not_zero [] = (zero, refl)
not_zero (zero ∷ bs) = let k = not_zero bs in (suc (double k.0), ap double k.1)
not_zero (suc b ∷ bs) = (double (ones b (double (number bs))), refl)

read-number : (fuel : ℕ) (xs : List ℕ) → number xs ≤ fuel → read fuel (number xs) ≡ xs
unfolding number ones read pick one_more half is_odd
read-number zero xs le = let k = not_zero xs in absurd (omega (arith, k.1))
read-number (suc fuel) [] le = refl
read-number (suc fuel) (zero ∷ bs) le =
    let k = not_zero bs in
    let twice = double-twice (number bs) in
    rw (half-double (number bs), even-double (number bs)) (ap (λ n. pick n false (read fuel (number bs))) k.1 ∙ ap (λ l. zero ∷ l) (read-number fuel bs (omega (arith, k.1, twice))))
read-number (suc fuel) (suc b ∷ bs) le =
    let k = not_zero (b ∷ bs) in
    let below = number (b ∷ bs) in
    let twice = double-twice below in
    rw (half-odd below, odd-double below) (ap (λ n. pick n true (read fuel below)) k.1 ∙ ap one_more (read-number fuel (b ∷ bs) (omega (arith, k.1, twice))))

-- the list of a number
pub list_of_number : ℕ → List ℕ
list_of_number n = read n n

pub list_of_number-number : (xs : List ℕ) → list_of_number (number xs) ≡ xs
unfolding list_of_number
list_of_number-number xs = read-number (number xs) xs (omega arith)

pub number-not_zero : (xs : List ℕ) → (number xs == 0) ≡ false
number-not_zero xs = by_test (number xs == 0) refl
  where
    by_test : (t : Bool) → (number xs == 0) ≡ t → (number xs == 0) ≡ false
    by_test true is =
        let k = not_zero xs in
        let no : number xs ≡ 0 = (Decides-eqb (number xs) 0).0 is in
        absurd (omega (arith, k.1, no))
    by_test false is = is
