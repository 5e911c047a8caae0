-- Lists of numbers without repetition, and their order in reverse.
use Rattle.std.proofs.Common.{◌≡◌, ◌≢◌, ℕ, ◌<◌, length, zero, suc, Bool, true, false, ◌&&◌, List, [], ◌∷◌, ◌++◌, get_or, map, reverse, refl, sym, ◌∙◌, ap, subst, arith, eqb, ⊎_elim, append_assoc}
use Rattle.std.specs.Prelude.{AllPairs}
use Rattle.std.specs.List.{Contains, IsDistinct, list_all, list_any}
use Rattle.std.proofs.lemmas.Bool.{or_left, or_right}
use Rattle.std.proofs.lemmas.Bool.Decides.{Decides-eqb}
use Rattle.std.proofs.lemmas.List.{reverse-append, map-append}
use Rattle.std.proofs.lemmas.List.Elements.{Contains-append_right, Contains-append_cases}
use Rattle.std.proofs.lemmas.List.Quantifiers.{all_pairs_push}
use Rattle.std.proofs.lemmas.Map.Keys.{IsDistinct-tail}
use Rattle.std.proofs.lemmas.Map.Made.{IsDistinct-from_AllPairs}
use Rattle.jj_dag.specs.Graph.{Precedes}
use Rattle.jj_dag.proofs.ReadyOrders.{distinct, twice}
use Rattle.jj_walks.proofs.Expanding.{at_first, first_or_rest, in_rest}
use Rattle.jj_log.proofs.Lists.{nothing}

pub back_in_map : {A B : Type 0} (f : A → B) (xs : List A) (y : B) → Contains (map f xs) y → (x : A) × Contains xs x × (f x ≡ y)
back_in_map f [] y h = nothing h
back_in_map f (x ∷ xs) y h =
    ⊎_elim (λ here. (x, at_first x xs, here)) (λ there. let r = back_in_map f xs y there in (r.0, in_rest x xs r.0 r.1, r.2)) (first_or_rest (f x) (map f xs) y h)

pub and_both : (a b : Bool) → (a && b) ≡ true → (a ≡ true) × (b ≡ true)
and_both true b h = (refl, h)
and_both false b h = absurd cc

module _ {A : Type 0} where
  pub all_at : (p : A → Bool) (xs : List A) (x : A) → list_all p xs ≡ true → Contains xs x → p x ≡ true
  all_at p [] x k m = nothing m
  all_at p (y ∷ xs) x k m =
      let both = and_both (p y) (list_all p xs) k in
      ⊎_elim (λ e. subst (λ z. p z ≡ true) e both.0) (λ l. all_at p xs x both.1 l) (first_or_rest y xs x m)

  pub any_in : (p : A → Bool) (xs : List A) (x : A) → Contains xs x → p x ≡ true → list_any p xs ≡ true
  any_in p [] x m e = nothing m
  any_in p (y ∷ xs) x m e =
      ⊎_elim (λ s. or_left (p y) (list_any p xs) (subst (λ z. p z ≡ true) (sym s) e)) (λ l. or_right (p y) (list_any p xs) (any_in p xs x l e)) (first_or_rest y xs x m)

  -- no element comes again
  abbrev pub HasNoRepeat : List A → Type 0
  HasNoRepeat [] = Unit {0}
  HasNoRepeat (x ∷ xs) = (Contains xs x → ⊥) × HasNoRepeat xs

  -- an element after the only occurrence of x does not occur up to it
  pub not_again : (front back front2 back2 : List A) (x y : A) → HasNoRepeat (front ++ x ∷ back) → front ++ x ∷ back ≡ front2 ++ x ∷ back2 → Contains back2 y → Contains (front ++ x ∷ []) y → ⊥
  not_again [] back [] back2 x y once same after here =
      let rest : back ≡ back2 = cc in
      ⊎_elim (λ e. once.0 (subst (λ z. Contains back z) (sym e) (subst (λ (l : List A). Contains l y) (sym rest) after))) (λ n. nothing n) (first_or_rest x [] y here)
  not_again [] back (z ∷ front2) back2 x y once same after here =
      let rest : back ≡ front2 ++ x ∷ back2 = cc in
      once.0 (subst (λ (l : List A). Contains l x) (sym rest) (Contains-append_right front2 (x ∷ back2) x (at_first x back2)))
  not_again (z ∷ front) back [] back2 x y once same after here =
      let first : z ≡ x = cc in
      once.0 (subst (λ w. Contains (front ++ x ∷ back) w) (sym first) (Contains-append_right front (x ∷ back) x (at_first x back)))
  not_again (z ∷ front) back (w ∷ front2) back2 x y once same after here =
      let first : z ≡ w = cc in
      let rest : front ++ x ∷ back ≡ front2 ++ x ∷ back2 = cc in
      ⊎_elim (λ e. once.0 (subst (λ v. Contains (front ++ x ∷ back) v) (sym e) (subst (λ (l : List A). Contains l y) (sym rest) (Contains-append_right front2 (x ∷ back2) y (in_rest x back2 y after)))))
      (λ l. not_again front back front2 back2 x y once.1 rest after l) (first_or_rest z (front ++ x ∷ []) y here)

  -- nor is x itself before
  pub not_before : (front back : List A) (x : A) → HasNoRepeat (front ++ x ∷ back) → Contains front x → ⊥
  not_before [] back x once here = nothing here
  not_before (z ∷ front) back x once here =
      ⊎_elim (λ e. once.0 (subst (λ v. Contains (front ++ x ∷ back) v) (sym e) (Contains-append_right front (x ∷ back) x (at_first x back)))) (λ l. not_before front back x once.1 l) (first_or_rest z front x here)

  turned : (x : A) (xs : List A) → reverse (x ∷ xs) ≡ reverse xs ++ x ∷ []
  turned x xs = reverse-append (x ∷ []) xs

  pub turned_twice : (xs : List A) → reverse (reverse xs) ≡ xs
  turned_twice [] = refl
  turned_twice (x ∷ xs) = ap reverse (reverse-append (x ∷ []) xs) ∙ reverse-append (reverse xs) (x ∷ []) ∙ ap (λ l. x ∷ l) (turned_twice xs)

  pub unturned : (xs : List A) (x : A) → Contains (reverse xs) x → Contains xs x
  unturned [] x h = h
  unturned (y ∷ xs) x h =
      ⊎_elim (λ l. in_rest y xs x (unturned xs x l)) (λ r. ⊎_elim (λ e. subst (λ z. Contains (y ∷ xs) z) e (at_first y xs)) (λ n. nothing n) (first_or_rest y [] x r))
      (Contains-append_cases (reverse xs) (y ∷ []) x (subst (λ (l : List A). Contains l x) (turned y xs) h))

  -- a list without repetition has none in reverse
  once_turned : (xs : List A) → HasNoRepeat xs → AllPairs (λ a b. a ≢ b) (reverse xs)
  once_turned [] once = λ i j d first second. absurd (omega (arith, first, second))
  once_turned (x ∷ xs) once =
      subst (AllPairs (λ a b. a ≢ b)) (sym (turned x xs))
      (all_pairs_push (λ a b. a ≢ b) (reverse xs) x (once_turned xs once.1)
      (λ k d less same. once.0 (unturned xs x (subst (λ z. Contains (reverse xs) z) same (k, less, get_or_other (reverse xs) k d (get_or (reverse xs) k d) less)))))
    where
      get_or_other : (l : List A) (k : ℕ) (d e : A) → k < length l → get_or l k e ≡ get_or l k d
      get_or_other [] k d e less = absurd (omega (arith, less))
      get_or_other (y ∷ l) zero d e less = refl
      get_or_other (y ∷ l) (suc k) d e less = get_or_other l k d e (omega (arith, less))

  pub split_at : (xs : List A) (a : A) → Contains xs a → (front back : List A) × (xs ≡ front ++ a ∷ back)
  split_at [] a h = nothing h
  split_at (x ∷ xs) a h =
      ⊎_elim (λ e. ([], xs, ap (λ y. y ∷ xs) e)) (λ l. let r = split_at xs a l in (x ∷ r.0, r.1, ap (λ l. x ∷ l) r.2)) (first_or_rest x xs a h)

pub no_repeat : (xs : List ℕ) → IsDistinct eqb xs → HasNoRepeat xs
no_repeat [] once = tt
no_repeat (x ∷ xs) once = (λ h. twice (x ∷ xs) [] xs x once refl h, no_repeat xs (IsDistinct-tail eqb x xs once))

pub distinct_turned : (xs : List ℕ) → HasNoRepeat xs → IsDistinct eqb (reverse xs)
distinct_turned xs once = IsDistinct-from_AllPairs Decides-eqb (reverse xs) (once_turned xs once)

-- an element that is older than another one, the newest first, comes before it in reverse
pub before_turned : (newer older : List ℕ) (a b : ℕ) → Contains older a → Precedes (reverse (newer ++ b ∷ older)) a b
before_turned newer older a b inside =
    let (o1, o2, split) = split_at older a inside in
    let tail = b ∷ reverse newer in
    let back = reverse o1 ++ tail in
    let whole : reverse (newer ++ b ∷ older) ≡ reverse older ++ tail =
    reverse-append newer (b ∷ older) ∙ ap (λ l. l ++ reverse newer) (turned b older) ∙ append_assoc (reverse older) (b ∷ []) (reverse newer) in
    let front_of : reverse older ≡ (reverse o2 ++ a ∷ []) ++ reverse o1 = ap reverse split ∙ reverse-append o1 (a ∷ o2) ∙ ap (λ l. l ++ reverse o1) (turned a o2) in
    let parts : reverse (newer ++ b ∷ older) ≡ reverse o2 ++ a ∷ back =
    whole ∙ ap (λ l. l ++ tail) front_of ∙ append_assoc (reverse o2 ++ a ∷ []) (reverse o1) tail ∙ append_assoc (reverse o2) (a ∷ []) back in
    (reverse o2, back, parts, Contains-append_right (reverse o1) tail b (at_first b (reverse newer)))

pub map_turned : {A B : Type 0} (f : A → B) (xs : List A) → map f (reverse xs) ≡ reverse (map f xs)
map_turned f [] = refl
map_turned f (x ∷ xs) =
    ap (map f) (reverse-append (x ∷ []) xs) ∙ map-append f (reverse xs) (x ∷ []) ∙ ap (λ l. l ++ f x ∷ []) (map_turned f xs) ∙ sym (reverse-append (f x ∷ []) (map f xs))

again : (ys : List ℕ) → HasNoRepeat ys → (front back : List ℕ) (a : ℕ) → ys ≡ front ++ a ∷ back → Contains front a → ⊥
again [] k [] back a e at = absurd cc
again [] k (f ∷ front) back a e at = absurd cc
again (y ∷ ys) k [] back a e at = nothing at
again (y ∷ ys) k (f ∷ front) back a e at =
    let head : y ≡ f = cc in
    let rest : ys ≡ front ++ a ∷ back = cc in
    ⊎_elim (λ same. k.0 (subst (λ z. Contains ys z) (sym (head ∙ same)) (subst (λ (l : List ℕ). Contains l a) (sym rest) (Contains-append_right front (a ∷ back) a (at_first a back)))))
    (λ later. again ys k.1 front back a rest later) (first_or_rest f front a at)

pub distinct_of : (xs : List ℕ) → HasNoRepeat xs → IsDistinct eqb xs
distinct_of xs h = distinct xs (again xs h)
