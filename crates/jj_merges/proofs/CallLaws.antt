-- Lemmas about `CallsReturn`, and loop steps of maps over a list or an iterator.
use Rattle.std.proofs.Common.{◌≡◌, ◌∙◌, ℕ, ◌+◌, ◌<◌, suc, arith, take, drop, get_or, inl, inr, Option, Some, None, List, [], ◌∷◌, ◌++◌, length, map, refl, ap, append-nil, append_assoc, subst, sym}
use Rattle.std.proofs.lemmas.List.{take-append-drop, map-append, map_push, take_more}
use Rattle.std.proofs.Math.Seq.{drop-cons}
use Rattle.std.specs.Option.{option_to_list}
use Rattle.jj_merges.specs.Calls.{CallsReturn, StopsAtFailure}
use Rattle.jj_merges.specs.Options.{present}

module _ {F A B : Type 0} (call : F → A → B → F → Type 0) where
  pub CallsReturn-push : (f : F) (xs : List A) (ys : List B) (q : F) (x : A) (y : B) (r : F) → CallsReturn call f xs ys q → call q x y r → CallsReturn call f (xs ++ x ∷ []) (ys ++ y ∷ []) r
  CallsReturn-push f [] [] q x y r h c = (r, subst (λ p. call p x y r) (sym h) c, refl)
  CallsReturn-push f [] (z ∷ ys) q x y r h c = absurd h
  CallsReturn-push f (z ∷ xs) [] q x y r h c = absurd h
  CallsReturn-push f (z ∷ xs) (w ∷ ys) q x y r h c = (h.0, h.1, CallsReturn-push h.0 xs ys q x y r h.2 c)

  pub length-CallsReturn : (f : F) (xs : List A) (ys : List B) (q : F) → CallsReturn call f xs ys q → length ys ≡ length xs
  length-CallsReturn f [] [] q h = refl
  length-CallsReturn f [] (z ∷ ys) q h = absurd h
  length-CallsReturn f (z ∷ xs) [] q h = absurd h
  length-CallsReturn f (z ∷ xs) (w ∷ ys) q h = ap suc (length-CallsReturn h.0 xs ys q h.2)

  pub StopsAtFailure-at : (fails : F → A → Type 0) (f : F) (xs : List A) (ys : List B) (q : F) (x : A) (zs : List A) → CallsReturn call f xs ys q → fails q x → StopsAtFailure call fails f (xs ++ (x ∷ zs))
  StopsAtFailure-at fails f [] [] q x zs h e = inl (subst (λ p. fails p x) (sym h) e)
  StopsAtFailure-at fails f [] (y ∷ ys) q x zs h e = absurd h
  StopsAtFailure-at fails f (w ∷ xs) [] q x zs h e = absurd h
  StopsAtFailure-at fails f (w ∷ xs) (y ∷ ys) q x zs h e = inr (y, h.0, h.1, StopsAtFailure-at fails h.0 xs ys q x zs h.2 e)

-- a list is a prefix, the element at an index, and a suffix
pub split_at : {A : Type 0} (xs : List A) (i : ℕ) (x : A) → i < length xs → x ≡ get_or xs i x → take i xs ++ (x ∷ drop (i + 1) xs) ≡ xs
split_at xs i x h e =
    let more : suc i ≡ i + 1 = omega arith in
    let at : drop i xs ≡ x ∷ drop (i + 1) xs = drop-cons xs i x h ∙ (ap (λ y. y ∷ drop (suc i) xs) (sym e) ∙ ap (λ n. x ∷ drop n xs) more) in
    ap (λ ys. take i xs ++ ys) (sym at) ∙ take-append-drop i xs

module _ {A B : Type 0} (f : A → B) where
  -- one more item: its image is appended
  pub map-moved : (xs next : List A) (x : A) (ys rest all : List B) → next ≡ xs ++ x ∷ [] → ys ≡ f x ∷ rest → map f xs ++ ys ≡ all → map f next ++ rest ≡ all
  map-moved xs next x ys rest all pushed taken h =
      ap (λ zs. map f zs ++ rest) pushed
      ∙ (ap (λ zs. zs ++ rest) (map-append f xs (x ∷ [])) ∙ (append_assoc (map f xs) (f x ∷ []) rest ∙ (ap (λ zs. map f xs ++ zs) (sym taken) ∙ h)))

  -- after the last item
  pub map-ended : (xs : List A) (ys all : List B) → ys ≡ [] → map f xs ++ ys ≡ all → map f xs ≡ all
  map-ended xs ys all none h = sym (append-nil (map f xs)) ∙ (ap (λ zs. map f xs ++ zs) (sym none) ∙ h)

  -- one more element of a list
  pub map-taken : (xs next : List A) (x : A) (ys : List B) (i : ℕ) → i < length ys → f x ≡ get_or ys i (f x) → next ≡ xs ++ x ∷ [] → map f xs ≡ take i ys → map f next ≡ take (i + 1) ys
  map-taken xs next x ys i h here pushed so_far =
      ap (map f) pushed ∙ (map_push f xs x ∙ (ap (λ zs. zs ++ f x ∷ []) so_far ∙ (ap (λ y. take i ys ++ y ∷ []) here ∙ sym (take_more ys i (f x) h))))

  -- one more image moves from the remaining to the finished ones
  pub image-moved : (ps next : List A) (p : A) (xs new all : List B) → ps ≡ p ∷ next → new ≡ xs ++ f p ∷ [] → xs ++ map f ps ≡ all → new ++ map f next ≡ all
  image-moved ps next p xs new all taken pushed h =
      ap (λ zs. zs ++ map f next) pushed ∙ (append_assoc xs (f p ∷ []) (map f next) ∙ (ap (λ qs. xs ++ map f qs) (sym taken) ∙ h))

  pub image-ended : (ps : List A) (xs all : List B) → ps ≡ [] → xs ++ map f ps ≡ all → xs ≡ all
  image-ended ps xs all none h = sym (append-nil xs) ∙ (ap (λ qs. xs ++ map f qs) (sym none) ∙ h)

-- for optional values
pub present-moved : {T : Type 0} (o : Option T) (xs new : List T) (os : List (Option T)) (all : List T) → new ≡ xs ++ option_to_list o → xs ++ present (o ∷ os) ≡ all → new ++ present os ≡ all
present-moved None xs new os all pushed h = ap (λ ys. ys ++ present os) (pushed ∙ append-nil xs) ∙ h
present-moved (Some v) xs new os all pushed h = ap (λ ys. ys ++ present os) pushed ∙ (append_assoc xs (v ∷ []) (present os) ∙ h)

-- for values
pub item-moved : {T : Type 0} (x : T) (xs new rest all : List T) → new ≡ xs ++ x ∷ [] → xs ++ x ∷ rest ≡ all → new ++ rest ≡ all
item-moved x xs new rest all pushed h = ap (λ ys. ys ++ rest) pushed ∙ (append_assoc xs (x ∷ []) rest ∙ h)
