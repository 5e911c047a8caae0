-- Partial and complete runs of an iterator, and the loop invariant of `push_interleaved`.
use Rattle.std.proofs.Common.{◌≡◌, ◌+◌, ◌%◌, ◌≤◌, List, [], ◌∷◌, ◌++◌, length, refl, subst, sym, ap, arith, ◌∙◌, append_assoc, length-append, append-nil}
use Rattle.std.specs.Prelude.{Option, Some, None, MatchOption}
use Rattle.std.specs.Iterator.{Yields, Drains, Count, IsFinite, MakesProgress}
use Rattle.std.proofs.iter.Next.{Yields-more, on}
use Rattle.jj_merges.specs.Sources.{IsFiniteFrom}
use Rattle.jj_merges.specs.Merge.{adds, removes}
use Rattle.jj_merges.proofs.SideAppend.{adds-push_even, adds-push_odd, removes-push_even, removes-push_odd}
use Rattle.jj_merges.proofs.Sides.{length-adds, length-removes}

-- equally many adds and removes are an even number of terms
pub even_terms : {A : Type 0} (xs terms : List A) → removes terms ≡ xs → length (adds terms) ≡ length xs → length terms % 2 ≡ 0
even_terms xs terms r a = omega (arith, ap length r, length-adds terms, length-removes terms)

-- concatenation of runs
pub Yields-append : {S A : Type 0} (steps : S → Option A → S → Type 0) (s : S) (xs : List A) (t : S) (ys : List A) (u : S) → Yields steps s xs t → Yields steps t ys u
    → Yields steps s (xs ++ ys) u
Yields-append steps s [] t ys u p q = subst (λ r. Yields steps r ys u) (sym p) q
Yields-append steps s (x ∷ xs) t ys u p q = (p.0, p.1, Yields-append steps p.0 xs t ys u p.2 q)

-- a `for` loop runs its iterator to the end
pub Drains-loop : {S A : Type 0} (steps : S → Option A → S → Type 0) (it looped s u : S) (xs : List A)
    → looped ≡ it → Yields steps looped xs s → steps s None u → Drains steps it xs
Drains-loop steps it looped s u xs e run step = (u, (s, subst (λ r. Yields steps r xs s) e run, step))

module _ {S A : Type 0} (steps : S → Option A → S → Type 0) (can : S → Type 0) (left : S → Count) (source : S) where
  -- the source has yielded these items, and is now in this state
  pub record HasYielded (state : S) (items : List A) : Type 0 where
    pub run : Yields steps source items state
    pub can_continue : can state
    pub ends : IsFinite (left state)

  HasYielded-start : IsFiniteFrom can left source → HasYielded source []
  HasYielded-start may = record { run = refl; can_continue = may.0; ends = may.1 }

  pub HasYielded-more : (s : S) (xs : List A) (x : A) (t : S) → HasYielded s xs → steps s (Some x) t → MakesProgress can left s (Some x) t → HasYielded t (xs ++ x ∷ [])
  HasYielded-more s xs x t r step goes =
      let next = on x refl goes r.ends in
      record { run = Yields-more steps source xs s x t r.run step; can_continue = next.0; ends = next.1 }

  pub HasYielded-end : (s : S) (xs : List A) (u : S) → HasYielded s xs → steps s None u → Drains steps source xs
  HasYielded-end s xs u r step = (u, (s, r.run, step))

  pub HasYielded-rest : (s : S) (xs ys : List A) → HasYielded s xs → Drains steps s ys → Drains steps source (xs ++ ys)
  HasYielded-rest s xs ys r d = (d.0, (d.1.0, Yields-append steps source xs s ys d.1.0 r.run d.1.1, d.1.2))

  pub HasYielded-next : (s : S) (xs : List A) (r : Option A) (t : S) → HasYielded s xs → steps s r t → MakesProgress can left s r t
      → MatchOption r (Drains steps source xs) (λ x. HasYielded t (xs ++ x ∷ []))
  HasYielded-next s xs None t run step goes = HasYielded-end s xs t run step
  HasYielded-next s xs (Some x) t run step goes = HasYielded-more s xs x t run step goes

  pub HasYielded-first : IsFiniteFrom can left source → (r : Option A) (t : S) → steps source r t → MakesProgress can left source r t
      → MatchOption r (Drains steps source []) (λ x. HasYielded t (x ∷ []))
  HasYielded-first may r t step goes = HasYielded-next source [] r t (HasYielded-start may) step goes

  -- The source has yielded the adds of `terms`, whose removes are xs, and one more, `pending`. If
  -- `pending` is `None`, it has ended after at most as many adds.
  abbrev pub InterleaveInvariant : S → Option A → List A → List A → Type 0
  InterleaveInvariant s pending xs terms =
      MatchOption pending ((ys : List A) × Drains steps source ys × (length ys ≤ length xs))
      (λ add. HasYielded s (adds terms ++ add ∷ []) × (removes terms ≡ xs) × (length (adds terms) ≡ length xs))

  pub InterleaveInvariant-start : (terms : List A) (pending : Option A) (t : S) → terms ≡ [] → MatchOption pending (Drains steps source []) (λ add. HasYielded t (add ∷ [])) → InterleaveInvariant t pending [] terms
  InterleaveInvariant-start terms None t e first = ([], first, omega arith)
  InterleaveInvariant-start terms (Some add) t e first = (subst (λ ys. HasYielded t (adds ys ++ add ∷ [])) (sym e) first, ap removes e, ap (λ ys. length (adds ys)) e)

  pub InterleaveInvariant-more : (s : S) (add : A) (xs terms : List A) (remove : A) (more : List A) (pending : Option A) (t : S) → InterleaveInvariant s (Some add) xs terms
      → more ≡ terms ++ add ∷ remove ∷ [] → steps s pending t → MakesProgress can left s pending t → InterleaveInvariant t pending (xs ++ remove ∷ []) more
  InterleaveInvariant-more s add xs terms remove more pending t h e step goes =
      let split = e ∙ sym (append_assoc terms (add ∷ []) (remove ∷ [])) in
      let even = even_terms xs terms h.1 h.2 in
      let odd : length (terms ++ add ∷ []) % 2 ≡ 1 = omega (arith, length-append terms (add ∷ [])) in
      let new_adds : adds more ≡ adds terms ++ add ∷ [] = ap adds split ∙ (adds-push_odd (terms ++ add ∷ []) remove odd ∙ adds-push_even terms add even) in
      let new_removes : removes more ≡ xs ++ remove ∷ [] =
      ap removes split ∙ (removes-push_odd (terms ++ add ∷ []) remove odd ∙ ap (λ ys. ys ++ remove ∷ []) (removes-push_even terms add even ∙ h.1)) in
      InterleaveInvariant-next s add xs terms remove more pending t h new_adds new_removes step goes
    where
      InterleaveInvariant-next : (s : S) (add : A) (xs terms : List A) (remove : A) (more : List A) (pending : Option A) (t : S) → InterleaveInvariant s (Some add) xs terms
          → adds more ≡ adds terms ++ add ∷ [] → removes more ≡ xs ++ remove ∷ [] → steps s pending t → MakesProgress can left s pending t → InterleaveInvariant t pending (xs ++ remove ∷ []) more
      InterleaveInvariant-next s add xs terms remove more None t h a r step goes =
          (adds terms ++ add ∷ [], HasYielded-end s (adds terms ++ add ∷ []) t h.0 step, omega (arith, length-append (adds terms) (add ∷ []), length-append xs (remove ∷ []), h.2))
      InterleaveInvariant-next s add xs terms remove more (Some next) t h a r step goes =
          (subst (λ ys. HasYielded t (ys ++ next ∷ [])) (sym a) (HasYielded-more s (adds terms ++ add ∷ []) next t h.0 step goes), r, omega (arith, ap length a, length-append (adds terms) (add ∷ []), length-append xs (remove ∷ []), h.2))

  no_items : (zs : List A) → length zs ≡ 0 → zs ≡ []
  no_items [] e = refl
  no_items (z ∷ zs) e = absurd (omega arith)

  -- after the loop: if there is one add more than removes, `pending` is the last
  pub InterleaveInvariant-end : (s : S) (add : A) (xs terms more zs : List A) → InterleaveInvariant s (Some add) xs terms → more ≡ terms ++ add ∷ [] → Drains steps s zs
      → ((ys : List A) → Drains steps source ys → length ys ≡ length xs + 1) → Drains steps source (adds more) × (removes more ≡ xs)
  InterleaveInvariant-end s add xs terms more zs h e d one_more =
      let even = even_terms xs terms h.1 h.2 in
      let new_adds : adds more ≡ adds terms ++ add ∷ [] = ap adds e ∙ adds-push_even terms add even in
      let all : Drains steps source ((adds terms ++ add ∷ []) ++ zs) = HasYielded-rest s (adds terms ++ add ∷ []) zs h.0 d in
      let none : zs ≡ [] = no_items zs (omega (arith, one_more ((adds terms ++ add ∷ []) ++ zs) all, length-append (adds terms ++ add ∷ []) zs, length-append (adds terms) (add ∷ []), h.2)) in (
        subst (λ ys. Drains steps source ys) (ap (λ ws. (adds terms ++ add ∷ []) ++ ws) none ∙ (append-nil (adds terms ++ add ∷ []) ∙ sym new_adds)) all,
        ap removes e ∙ (removes-push_even terms add even ∙ h.1),
      )
