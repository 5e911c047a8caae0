-- In the greatest child-first order each node is the greatest head of the suffix that it begins.
use Rattle.std.proofs.Common.{◌≡◌, ◌≢◌, ◌⊎◌, inl, inr, ⊎_elim, ℕ, zero, suc, ◌<◌, List, [], ◌∷◌, ◌++◌, length, get_or, refl, sym, ◌∙◌, ap, subst, arith}
use Rattle.std.specs.Prelude.{AllPairs}
use Rattle.std.specs.List.{Contains}
use Rattle.std.proofs.lemmas.List.Elements.{Contains-append_cases, Contains-append_left, Contains-append_right, Contains-push}
use Rattle.jj_dag.specs.NodeGraph.{IsChildFirstOrder, IsGreatestChildFirstOrder, IsMaximalNode, IsNodeBefore, NodeGraph, StrictlyReachesNode}

module _ {A : Type 0} where
  in_cons : (x : A) (xs : List A) (y : A) → Contains (x ∷ xs) y → (x ≡ y) ⊎ Contains xs y
  in_cons x xs y (zero, lt, e) = inl e
  in_cons x xs y (suc k, lt, e) = inr (k, omega arith, e)

  here : (x : A) (xs : List A) → Contains (x ∷ xs) x
  here x xs = Contains-append_left (x ∷ []) xs x (Contains-push [] x)

  there : (x : A) (xs : List A) (y : A) → Contains xs y → Contains (x ∷ xs) y
  there x xs y h = Contains-append_right (x ∷ []) xs y h

  -- a list around one of its elements
  split_at : (xs : List A) (b : A) → Contains xs b → (mid tail : List A) × (xs ≡ mid ++ b ∷ tail)
  split_at [] b h = absurd (omega (arith, h.1))
  split_at (x ∷ xs) b (zero, lt, e) = ([], xs, ap (λ z. z ∷ xs) e)
  split_at (x ∷ xs) b (suc k, lt, e) = let r = split_at xs b (k, omega arith, e) in (x ∷ r.0, r.1, ap (λ l. x ∷ l) r.2)

  -- members stay where one of them moves up
  moved_in : (L M tail : List A) (b y : A) → Contains (L ++ (M ++ b ∷ tail)) y → Contains (L ++ (b ∷ M ++ tail)) y
  moved_in [] M tail b y h =
      ⊎_elim (λ in_mid. there b (M ++ tail) y (Contains-append_left M tail y in_mid))
      (λ last. ⊎_elim (λ same. subst (λ z. Contains (b ∷ M ++ tail) z) same (here b (M ++ tail))) (λ in_tail. there b (M ++ tail) y (Contains-append_right M tail y in_tail)) (in_cons b tail y last))
      (Contains-append_cases M (b ∷ tail) y h)
  moved_in (z ∷ L) M tail b y h =
      ⊎_elim (λ same. subst (λ w. Contains (z ∷ L ++ (b ∷ M ++ tail)) w) same (here z (L ++ (b ∷ M ++ tail)))) (λ later. there z (L ++ (b ∷ M ++ tail)) y (moved_in L M tail b y later)) (in_cons z (L ++ (M ++ b ∷ tail)) y h)

  moved_back : (L M tail : List A) (b y : A) → Contains (L ++ (b ∷ M ++ tail)) y → Contains (L ++ (M ++ b ∷ tail)) y
  moved_back [] M tail b y h =
      ⊎_elim (λ same. subst (λ z. Contains (M ++ b ∷ tail) z) same (Contains-append_right M (b ∷ tail) b (here b tail)))
      (λ later. ⊎_elim (λ in_mid. Contains-append_left M (b ∷ tail) y in_mid) (λ in_tail. Contains-append_right M (b ∷ tail) y (there b tail y in_tail)) (Contains-append_cases M tail y later))
      (in_cons b (M ++ tail) y h)
  moved_back (z ∷ L) M tail b y h =
      ⊎_elim (λ same. subst (λ w. Contains (z ∷ L ++ (M ++ b ∷ tail)) w) same (here z (L ++ (M ++ b ∷ tail)))) (λ later. there z (L ++ (M ++ b ∷ tail)) y (moved_back L M tail b y later)) (in_cons z (L ++ (b ∷ M ++ tail)) y h)

  -- one node before another, by the first node of the list
  before_here : (x : A) (xs : List A) (y : A) → Contains xs y → IsNodeBefore (x ∷ xs) x y
  before_here x xs y h = ([], xs, refl, h)

  before_there : (z : A) (xs : List A) (x y : A) → IsNodeBefore xs x y → IsNodeBefore (z ∷ xs) x y
  before_there z xs x y (prefix, suffix, split, inside) = (z ∷ prefix, suffix, ap (λ l. z ∷ l) split, inside)

  before_cases : (z : A) (xs : List A) (x y : A) → IsNodeBefore (z ∷ xs) x y → ((z ≡ x) × Contains xs y) ⊎ IsNodeBefore xs x y
  before_cases z xs x y ([], suffix, split, inside) =
      let first : z ≡ x = cc in
      let rest : xs ≡ suffix = cc in
      inl (first, subst (λ l. Contains l y) (sym rest) inside)
  before_cases z xs x y (w ∷ prefix, suffix, split, inside) = let rest : xs ≡ prefix ++ x ∷ suffix = cc in inr (prefix, suffix, rest, inside)

  before_at : (z : A) (xs : List A) (x y : A) → z ≡ x → Contains xs y → IsNodeBefore (z ∷ xs) x y
  before_at z xs x y same h = subst (λ w. IsNodeBefore (z ∷ xs) w y) same (before_here z xs y h)

  -- the order of all other pairs stays where b moves up
  up : (M tail : List A) (b x y : A) → IsNodeBefore (M ++ b ∷ tail) x y → (Contains M x → y ≡ b → ⊥) → IsNodeBefore (b ∷ M ++ tail) x y
  up [] tail b x y h none = h
  up (z ∷ M) tail b x y h none =
      ⊎_elim (λ (same, later).
      before_there b (z ∷ M ++ tail) x y (before_at z (M ++ tail) x y same
      (⊎_elim (λ in_mid. Contains-append_left M tail y in_mid)
      (λ last. ⊎_elim (λ is. absurd (none (subst (λ w. Contains (z ∷ M) w) same (here z M)) (sym is))) (λ in_tail. Contains-append_right M tail y in_tail) (in_cons b tail y last))
      (Contains-append_cases M (b ∷ tail) y later))))
      (λ below.
      ⊎_elim (λ (same, later). before_at b (z ∷ M ++ tail) x y same (there z (M ++ tail) y later))
      (λ deeper. before_there b (z ∷ M ++ tail) x y (before_there z (M ++ tail) x y deeper))
      (before_cases b (M ++ tail) x y (up M tail b x y below (λ inside is. none (there z M x inside) is))))
      (before_cases z (M ++ b ∷ tail) x y h)

  moved_before : (L M tail : List A) (b x y : A) → IsNodeBefore (L ++ (M ++ b ∷ tail)) x y → (Contains M x → y ≡ b → ⊥) → IsNodeBefore (L ++ (b ∷ M ++ tail)) x y
  moved_before [] M tail b x y h none = up M tail b x y h none
  moved_before (z ∷ L) M tail b x y h none =
      ⊎_elim (λ (same, later). before_at z (L ++ (b ∷ M ++ tail)) x y same (moved_in L M tail b y later)) (λ below. before_there z (L ++ (b ∷ M ++ tail)) x y (moved_before L M tail b x y below none))
      (before_cases z (L ++ (M ++ b ∷ tail)) x y h)

  -- a node that comes twice after the move came twice before
  widen : (M tail : List A) (b x y : A) → IsNodeBefore (M ++ tail) x y → IsNodeBefore (M ++ b ∷ tail) x y
  widen [] tail b x y h = before_there b tail x y h
  widen (z ∷ M) tail b x y h =
      ⊎_elim (λ (same, later). before_at z (M ++ b ∷ tail) x y same
      (⊎_elim (λ in_mid. Contains-append_left M (b ∷ tail) y in_mid) (λ in_tail. Contains-append_right M (b ∷ tail) y (there b tail y in_tail)) (Contains-append_cases M tail y later)))
      (λ below. before_there z (M ++ b ∷ tail) x y (widen M tail b x y below)) (before_cases z (M ++ tail) x y h)

  before_last : (M tail : List A) (b x : A) → Contains M x → IsNodeBefore (M ++ b ∷ tail) x b
  before_last [] tail b x h = absurd (omega (arith, h.1))
  before_last (z ∷ M) tail b x h =
      ⊎_elim (λ same. before_at z (M ++ b ∷ tail) x b same (Contains-append_right M (b ∷ tail) b (here b tail))) (λ later. before_there z (M ++ b ∷ tail) x b (before_last M tail b x later)) (in_cons z M x h)

  after : (M xs : List A) (x y : A) → IsNodeBefore xs x y → IsNodeBefore (M ++ xs) x y
  after [] xs x y h = h
  after (z ∷ M) xs x y h = before_there z (M ++ xs) x y (after M xs x y h)

  twice_back : (L M tail : List A) (b x : A) → IsNodeBefore (L ++ (b ∷ M ++ tail)) x x → IsNodeBefore (L ++ (M ++ b ∷ tail)) x x
  twice_back [] M tail b x h =
      ⊎_elim (λ (same, later).
      ⊎_elim (λ in_mid. subst (λ w. IsNodeBefore (M ++ b ∷ tail) x w) same (before_last M tail b x in_mid))
      (λ in_tail. after M (b ∷ tail) x x (before_at b tail x x same in_tail)) (Contains-append_cases M tail x later))
      (λ below. widen M tail b x x below) (before_cases b (M ++ tail) x x h)
  twice_back (z ∷ L) M tail b x h =
      ⊎_elim (λ (same, later). before_at z (L ++ (M ++ b ∷ tail)) x x same (moved_back L M tail b x later)) (λ below. before_there z (L ++ (M ++ b ∷ tail)) x x (twice_back L M tail b x below))
      (before_cases z (L ++ (b ∷ M ++ tail)) x x h)

  -- elements are distinct exactly if none is before itself
  none_before : (xs : List A) → AllPairs (λ a b. a ≢ b) xs → (x : A) → IsNodeBefore xs x x → ⊥
  none_before [] once x ([], suffix, split, inside) = cc
  none_before [] once x (w ∷ prefix, suffix, split, inside) = cc
  none_before (z ∷ xs) once x h =
      ⊎_elim (λ (same, (k, less, is)). once 0 (suc k) x (omega arith) (omega (arith, less)) (same ∙ sym is))
      (λ below. none_before xs (λ i j d before within. once (suc i) (suc j) d (omega (arith, before)) (omega (arith, within))) x below) (before_cases z xs x x h)

  at_index : (xs : List A) (k : ℕ) (d : A) → k < length xs → Contains xs (get_or xs k d)
  at_index [] k d less = absurd (omega arith)
  at_index (x ∷ xs) zero d less = here x xs
  at_index (x ∷ xs) (suc k) d less = there x xs (get_or xs k d) (at_index xs k d (omega arith))

  distinct_from : (xs : List A) → ((x : A) → IsNodeBefore xs x x → ⊥) → AllPairs (λ a b. a ≢ b) xs
  distinct_from [] none i j d before within same = absurd (omega (arith, within))
  distinct_from (z ∷ xs) none zero zero d before within same = absurd (omega (arith, before))
  distinct_from (z ∷ xs) none zero (suc j) d before within same =
      none z (before_here z xs z (subst (λ w. Contains xs w) (sym same) (at_index xs j d (omega (arith, within)))))
  distinct_from (z ∷ xs) none (suc i) zero d before within same = absurd (omega (arith, before))
  distinct_from (z ∷ xs) none (suc i) (suc j) d before within same =
      distinct_from xs (λ x h. none x (before_there z xs x x h)) i j d (omega (arith, before)) (omega (arith, within)) same

  -- each node is the greatest head of the suffix that it begins
  pub heads_first : (IsBelow : A → A → Type 0) (g : NodeGraph A) (starts order : List A) → IsGreatestChildFirstOrder IsBelow g starts order
      → (prefix rest : List A) (a b : A) → order ≡ prefix ++ a ∷ rest → IsMaximalNode g (Contains (a ∷ rest)) b → b ≢ a → IsBelow b a
  heads_first IsBelow g starts order k prefix rest a b split (inside, head) differ =
      ⊎_elim (λ same. absurd (differ (sym same)))
      (λ in_rest.
      let (mid, tail, parts) = split_at rest b in_rest in
      let whole : order ≡ prefix ++ ((a ∷ mid) ++ b ∷ tail) = split ∙ ap (λ l. prefix ++ (a ∷ l)) parts in
      let other = prefix ++ (b ∷ (a ∷ mid) ++ tail) in
      let once = none_before order k.child_first.once in
      let child_first : IsChildFirstOrder g starts other = record {
        all = λ x. (
          λ h. (k.child_first.all x).0 (subst (λ l. Contains l x) (sym whole) (moved_back prefix (a ∷ mid) tail b x h)),
          λ h. moved_in prefix (a ∷ mid) tail b x (subst (λ l. Contains l x) whole ((k.child_first.all x).1 h)),
        );
        once = distinct_from other (λ x h. once x (subst (λ l. IsNodeBefore l x x) (sym whole) (twice_back prefix (a ∷ mid) tail b x h)));
        before = λ x y h far.
            let in_order = subst (λ l. Contains l x) (sym whole) (moved_back prefix (a ∷ mid) tail b x h) in
            let before = k.child_first.before x y in_order far in
            moved_before prefix (a ∷ mid) tail b x y (subst (λ l. IsNodeBefore l x y) whole before)
            (λ in_mid is.
            let reaches_b = subst (λ w. StrictlyReachesNode g x w) is far in
            let in_part : Contains (a ∷ rest) x = subst (λ l. Contains (a ∷ l) x) (sym parts) (Contains-append_left (a ∷ mid) (b ∷ tail) x in_mid) in
            head x in_part (λ same. once b (subst (λ w. IsNodeBefore order w b) same (k.child_first.before x b in_order reaches_b))) reaches_b);
      } in
      k.greatest other child_first prefix (mid ++ b ∷ tail) ((a ∷ mid) ++ tail) a b whole refl (λ same. differ (sym same)))
      (in_cons a rest b inside)
