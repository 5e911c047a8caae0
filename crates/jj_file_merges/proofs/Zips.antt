-- Lists that are related index by index.
use Rattle.std.proofs.Common.{◌≡◌, ◌∙◌, ℕ, ◌+◌, ◌<◌, ◌≤◌, List, [], ◌∷◌, ◌++◌, length, get_or, map, take, refl, sym, ap, subst, suc}
use Rattle.std.specs.List.{AllZip}
use Rattle.std.proofs.lemmas.List.{map-append, take_all, take_more}

module _ {A B : Type 0} where
  pub zip_push : (R : A → B → Type 0) (xs : List A) (ys : List B) (x : A) (y : B) → AllZip R xs ys → R x y → AllZip R (xs ++ x ∷ []) (ys ++ y ∷ [])
  zip_push R [] [] x y h here = (here, tt)
  zip_push R [] (z ∷ ys) x y h here = absurd h
  zip_push R (z ∷ xs) [] x y h here = absurd h
  zip_push R (z ∷ xs) (w ∷ ys) x y h here = (h.0, zip_push R xs ys x y h.1 here)

  -- one more turn of a loop over the first list
  pub zip_more : (R : A → B → Type 0) (xs : List A) (ys : List B) (i : ℕ) (x : A) (y : B) → i < length xs → x ≡ get_or xs i x → AllZip R (take i xs) ys → R x y
      → AllZip R (take (i + 1) xs) (ys ++ y ∷ [])
  zip_more R xs ys i x y lt is before here =
      subst (λ l. AllZip R l (ys ++ y ∷ [])) (sym (take_more xs i x lt ∙ ap (λ v. take i xs ++ v ∷ []) (sym is))) (zip_push R (take i xs) ys x y before here)

  pub zip_end : (R : A → B → Type 0) (xs : List A) (ys : List B) (i : ℕ) → length xs ≤ i → AllZip R (take i xs) ys → AllZip R xs ys
  zip_end R xs ys i le h = subst (λ l. AllZip R l ys) (take_all i xs le) h

  pub zip_length : (R : A → B → Type 0) (xs : List A) (ys : List B) → AllZip R xs ys → length ys ≡ length xs
  zip_length R [] [] h = refl
  zip_length R [] (y ∷ ys) h = absurd h
  zip_length R (x ∷ xs) [] h = absurd h
  zip_length R (x ∷ xs) (y ∷ ys) h = ap suc (zip_length R xs ys h.1)

  pub zip_weaker : (R S : A → B → Type 0) → ((x : A) (y : B) → R x y → S x y) → (xs : List A) (ys : List B) → AllZip R xs ys → AllZip S xs ys
  zip_weaker R S weaker [] [] h = tt
  zip_weaker R S weaker [] (y ∷ ys) h = absurd h
  zip_weaker R S weaker (x ∷ xs) [] h = absurd h
  zip_weaker R S weaker (x ∷ xs) (y ∷ ys) h = (weaker x y h.0, zip_weaker R S weaker xs ys h.1)

-- the list that is made has the images of its items
pub zip_more_images : {A B C : Type 0} (R : A → B → Type 0) (f : C → B) (xs : List A) (ys : List C) (i : ℕ) (x : A) (y : C) → i < length xs → x ≡ get_or xs i x → AllZip R (take i xs) (map f ys) → R x (f y)
    → AllZip R (take (i + 1) xs) (map f (ys ++ y ∷ []))
zip_more_images R f xs ys i x y lt is before here =
    subst (AllZip R (take (i + 1) xs)) (sym (map-append f ys (y ∷ []))) (zip_more R xs (map f ys) i x (f y) lt is before here)
