-- Concatenation of lists of entries that are sorted by path, name by name.
use Rattle.std.proofs.Common.{◌≡◌, ◌<◌, ℕ, suc, zero, ◌⊎◌, inl, inr, List, [], ◌∷◌, ◌++◌, length, get_or, map, refl, sym, ap, subst, ◌∙◌, arith}
use Rattle.std.specs.Prelude.{All, AllPairs, Contains, ◌↔◌}
use Rattle.std.specs.Cmp.{tied_itself}
use Rattle.std.specs.Cmp.Lexicographic.{nat_list_cmp_total}
use Rattle.std.specs.Ordering.{ordering_then}
use Rattle.std.specs.declared.cmp.Ordering.TheVariants.{Less}
use Rattle.std.proofs.lemmas.List.Elements.{All-append, All-map, All-contains, Contains-get_or, Contains-append_left, Contains-append_right, Contains-append_cases, Contains-push, Contains-push_cases}
use Rattle.std.proofs.lemmas.List.Kept.{AllPairs-cons}
use Rattle.jj_paths.specs.Paths.{Name, Path, name_cmp, path_cmp}
use Rattle.jj_trees.specs.DirectoryMerges.{IsListOf}

module _ {X : Type 0} where
  Contains-later : (x y : X) (xs : List X) → Contains xs y → Contains (x ∷ xs) y
  Contains-later x y xs h = let lt = h.1 in (suc h.0, omega arith, h.2)

  Contains-first : (x : X) (xs : List X) → Contains (x ∷ xs) x
  Contains-first x xs = (0, omega arith, refl)

  pub AllPairs-append : (R : X → X → Type 0) (xs ys : List X) → AllPairs R xs → AllPairs R ys → ((x y : X) → Contains xs x → Contains ys y → R x y) → AllPairs R (xs ++ ys)
  AllPairs-append R [] ys h k cross = k
  AllPairs-append R (x ∷ xs) ys h k cross =
      AllPairs-cons R x (xs ++ ys)
      (All-append (R x) xs ys (λ j d lt. h 0 (suc j) d (omega arith) (omega arith)) (λ j d lt. cross x (get_or ys j d) (Contains-first x xs) (Contains-get_or ys j d lt)))
      (AllPairs-append R xs ys (λ i j d lt within. h (suc i) (suc j) d (omega arith) (omega arith)) k (λ a b m n. cross a b (Contains-later x a xs m) n))

module _ {X Y : Type 0} (f : Y → X) where
  pub AllPairs-map : (R : X → X → Type 0) (ys : List Y) → AllPairs (λ a b. R (f a) (f b)) ys → AllPairs R (map f ys)
  AllPairs-map R [] h = λ i j d lt within. absurd (omega arith)
  AllPairs-map R (y ∷ ys) h =
      AllPairs-cons R (f y) (map f ys) (All-map (R (f y)) f ys (λ k d lt. h 0 (suc k) d (omega arith) (omega arith)))
      (AllPairs-map R ys (λ i j d lt within. h (suc i) (suc j) d (omega arith) (omega arith)))

  image_at : (ys : List Y) (x : X) (k : ℕ) → k < length (map f ys) → get_or (map f ys) k x ≡ x → (y : Y) × Contains ys y × (f y ≡ x)
  image_at [] x k lt is = absurd (omega arith)
  image_at (y ∷ ys) x zero lt is = (y, Contains-first y ys, is)
  image_at (y ∷ ys) x (suc k) lt is = let r = image_at ys x k (omega arith) is in (r.0, Contains-later y r.0 ys r.1, r.2)

  pub image_of : (ys : List Y) (x : X) → Contains (map f ys) x → (y : Y) × Contains ys y × (f y ≡ x)
  image_of ys x h = image_at ys x h.0 h.1 h.2

  into_at : (ys : List Y) (y : Y) (k : ℕ) → k < length ys → get_or ys k y ≡ y → Contains (map f ys) (f y)
  into_at [] y k lt is = absurd (omega arith)
  into_at (z ∷ ys) y zero lt is = subst (λ v. Contains (map f (z ∷ ys)) (f v)) is (Contains-first (f z) (map f ys))
  into_at (z ∷ ys) y (suc k) lt is = Contains-later (f z) (f y) (map f ys) (into_at ys y k (omega arith) is)

  pub into_image : (ys : List Y) (y : Y) → Contains ys y → Contains (map f ys) (f y)
  into_image ys y h = into_at ys y h.0 h.1 h.2

-- order of paths whose first names differ, and of paths below one name
first_less : (m n : Name) (p q : Path) → name_cmp m n ≡ Less → path_cmp (m ∷ p) (n ∷ q) ≡ Less
first_less m n p q h = ap (λ r. ordering_then r (path_cmp p q)) h

same_first : (n : Name) (p q : Path) → path_cmp p q ≡ Less → path_cmp (n ∷ p) (n ∷ q) ≡ Less
same_first n p q h = ap (λ r. ordering_then r (path_cmp p q)) (tied_itself nat_list_cmp_total n) ∙ h

module _ {E : Type 0} where
  -- an entry whose path is prefixed with that of its directory
  abbrev pub under : Path → Path × E → Path × E
  under dir e = (dir ++ e.0, e.1)

  abbrev pub below : Name → Path × E → Path × E
  below name e = (name ∷ e.0, e.1)

  pub same_list : (P Q : Path → E → Type 0) (xs : List (Path × E)) → ((p : Path) (e : E) → P p e ↔ Q p e) → IsListOf P xs → IsListOf Q xs
  same_list P Q xs both l = record {
    in_order = l.in_order;
    exactly = λ p e. (λ c. (both p e).0 ((l.exactly p e).0 c), λ q. (l.exactly p e).1 ((both p e).1 q));
  }

  module _ (Holds : Name → Path → E → Type 0) where
    -- Holds, for the rest of a path that begins with one of these names
    abbrev pub Below : List Name → Path → E → Type 0
    Below names [] e = ⊥
    Below names (name ∷ rest) e = Contains names name × Holds name rest e

    pub none : IsListOf (Below []) []
    none = record {
      in_order = λ i j d lt within. absurd (omega arith);
      exactly = λ p e. (λ h. let lt = h.1 in absurd (omega arith), λ q. nothing p e q);
    }
      where
        nothing : (p : Path) (e : E) → Below [] p e → Contains {X = Path × E} [] (p, e)
        nothing [] e q = absurd q
        nothing (n ∷ p) e q = let lt = q.0.1 in absurd (omega arith)

    module _ (names : List Name) (name : Name) (xs ys : List (Path × E)) (above : All (λ m. name_cmp m name ≡ Less) names) (old : IsListOf (Below names) xs) (new : IsListOf (Holds name) ys) where
      before : (p q : Path) (e : E) → Below names p e → path_cmp p (name ∷ q) ≡ Less
      before [] q e h = absurd h
      before (m ∷ p) q e h = first_less m name p q (All-contains (λ k. name_cmp k name ≡ Less) names m above h.0)

      across : (x y : Path × E) → Contains xs x → Contains (map (below name) ys) y → path_cmp x.0 y.0 ≡ Less
      across x y cx cy =
          let r = image_of (below name) ys y cy in
          subst (λ v. path_cmp x.0 v ≡ Less) (ap (λ v. v.0) r.2) (before x.0 r.0.0 x.1 ((old.exactly x.0 x.1).0 cx))

      there : (p : Path) (e : E) → Below names p e → Below (names ++ name ∷ []) p e
      there [] e h = h
      there (m ∷ p) e h = (Contains-append_left names (name ∷ []) m h.0, h.1)

      from_new : (p : Path) (e : E) (y : Path × E) → Contains ys y → below name y ≡ (p, e) → Below (names ++ name ∷ []) p e
      from_new p e y c is = subst (λ v. Below (names ++ name ∷ []) v.0 v.1) is (Contains-push names name, (new.exactly y.0 y.1).0 c)

      to : (p : Path) (e : E) → Contains (xs ++ map (below name) ys) (p, e) → Below (names ++ name ∷ []) p e
      to p e c = by (Contains-append_cases xs (map (below name) ys) (p, e) c)
        where
          by : Contains xs (p, e) ⊎ Contains (map (below name) ys) (p, e) → Below (names ++ name ∷ []) p e
          by (inl a) = there p e ((old.exactly p e).0 a)
          by (inr b) = let r = image_of (below name) ys (p, e) b in from_new p e r.0 r.1 r.2

      back : (p : Path) (e : E) → Below (names ++ name ∷ []) p e → Contains (xs ++ map (below name) ys) (p, e)
      back [] e h = absurd h
      back (m ∷ p) e h = by (Contains-push_cases names name m h.0)
        where
          by : Contains names m ⊎ (name ≡ m) → Contains (xs ++ map (below name) ys) (m ∷ p, e)
          by (inl a) = Contains-append_left xs (map (below name) ys) (m ∷ p, e) ((old.exactly (m ∷ p) e).1 (a, h.1))
          by (inr is) =
              subst (λ n. Contains (xs ++ map (below name) ys) (n ∷ p, e)) is
              (Contains-append_right xs (map (below name) ys) (name ∷ p, e) (into_image (below name) ys (p, e) ((new.exactly p e).1 (subst (λ n. Holds n p e) (sym is) h.1))))

      -- appends the entries below a greater name
      pub joined : IsListOf (Below (names ++ name ∷ [])) (xs ++ map (below name) ys)
      joined = record {
        in_order = AllPairs-append (λ a b. path_cmp a.0 b.0 ≡ Less) xs (map (below name) ys) old.in_order
            (AllPairs-map (below name) (λ a b. path_cmp a.0 b.0 ≡ Less) ys (λ i j d lt within. same_first name (get_or ys i d).0 (get_or ys j d).0 (new.in_order i j d lt within)))
            across;
        exactly = λ p e. (to p e, back p e);
      }
