-- Loop invariant of `push_legacy_terms`.
use Rattle.std.proofs.Common.{◌≡◌, ◌≤◌, true, false, List, [], ◌∷◌, ◌++◌, length, refl, sym, ap, arith, ◌∙◌, append_assoc, length-append}
use Rattle.std.specs.Prelude.{Option, Some, None, MatchOption, is_some}
use Rattle.std.specs.Iterator.{Drains, Count, MakesProgress}
use Rattle.jj_merges.specs.Legacy.{legacy_pairs, legacy_terms}
use Rattle.jj_merges.proofs.IteratorRuns.{HasYielded, HasYielded-more, HasYielded-end, HasYielded-rest}
use Rattle.jj_merges.proofs.LegacyTerms.{legacy_prefix, legacy_prefix-push, legacy_prefix-push_none, legacy_terms-short, legacy_terms-long}

module _ {S T : Type 0} (steps : S → Option T → S → Type 0) (can : S → Type 0) (left : S → Count) (source : S) where
  -- The terms pushed so far: each of the removes xs, preceded by an add. `pending` is the add that was
  -- read but not pushed; if it is `None`, the iterator of adds has ended.
  abbrev pub LegacyInvariant : S → Option T → List T → List (Option T) → Type 0
  LegacyInvariant s pending xs terms =
      MatchOption pending ((ys : List T) × Drains steps source ys × (length ys ≤ length xs) × (terms ≡ legacy_prefix xs ys))
      (λ add. (ys : List T) × HasYielded steps can left source s (ys ++ add ∷ []) × (length ys ≡ length xs) × (terms ≡ legacy_prefix xs ys))

  pub LegacyInvariant-start : (terms : List (Option T)) (pending : Option T) (t : S) → terms ≡ [] → MatchOption pending (Drains steps source []) (λ add. HasYielded steps can left source t (add ∷ []))
      → LegacyInvariant t pending [] terms
  LegacyInvariant-start terms None t e first = ([], first, omega arith, e)
  LegacyInvariant-start terms (Some add) t e first = ([], first, refl, e)

  more_terms : (terms more : List (Option T)) (prefix : List (Option T)) (pending : Option T) (remove : T) → more ≡ terms ++ pending ∷ Some remove ∷ [] → terms ≡ prefix
      → more ≡ (prefix ++ pending ∷ []) ++ Some remove ∷ []
  more_terms terms more prefix pending remove e f = e ∙ (sym (append_assoc terms (pending ∷ []) (Some remove ∷ [])) ∙ ap (λ ts. (ts ++ pending ∷ []) ++ Some remove ∷ []) f)

  pub LegacyInvariant-more : (s : S) (pending : Option T) (xs : List T) (terms : List (Option T)) (remove : T) (more : List (Option T)) (next : Option T) (t : S) → is_some pending ≡ true
      → LegacyInvariant s pending xs terms → more ≡ terms ++ pending ∷ Some remove ∷ [] → steps s next t → MakesProgress can left s next t
      → LegacyInvariant t next (xs ++ remove ∷ []) more
  LegacyInvariant-more s None xs terms remove more next t b h e step goes = cc
  LegacyInvariant-more s (Some add) xs terms remove more None t b h e step goes = (
    h.0 ++ add ∷ [],
    HasYielded-end steps can left source s (h.0 ++ add ∷ []) t h.1 step,
    omega (arith, length-append h.0 (add ∷ []), length-append xs (remove ∷ []), h.2),
    more_terms terms more (legacy_prefix xs h.0) (Some add) remove e h.3 ∙ sym (legacy_prefix-push xs h.0 remove add h.2),
  )
  LegacyInvariant-more s (Some add) xs terms remove more (Some next) t b h e step goes = (
    h.0 ++ add ∷ [],
    HasYielded-more steps can left source s (h.0 ++ add ∷ []) next t h.1 step goes,
    omega (arith, length-append h.0 (add ∷ []), length-append xs (remove ∷ []), h.2),
    more_terms terms more (legacy_prefix xs h.0) (Some add) remove e h.3 ∙ sym (legacy_prefix-push xs h.0 remove add h.2),
  )

  pub LegacyInvariant-ended : (s : S) (pending : Option T) (xs : List T) (terms : List (Option T)) (remove : T) (more : List (Option T)) (t : S) → is_some pending ≡ false
      → LegacyInvariant s pending xs terms → more ≡ terms ++ pending ∷ Some remove ∷ [] → LegacyInvariant t None (xs ++ remove ∷ []) more
  LegacyInvariant-ended s None xs terms remove more t b h e =
      (h.0, h.1, omega (arith, length-append xs (remove ∷ []), h.2), more_terms terms more (legacy_prefix xs h.0) None remove e h.3 ∙ sym (legacy_prefix-push_none xs h.0 remove h.2))
  LegacyInvariant-ended s (Some add) xs terms remove more t b h e = cc

  -- after the loop, if the adds ended first
  pub LegacyInvariant-short : (s : S) (pending : Option T) (xs : List T) (terms more : List (Option T)) → is_some pending ≡ false → LegacyInvariant s pending xs terms → more ≡ terms ++ pending ∷ []
      → (ys : List T) × Drains steps source ys × (more ≡ legacy_terms xs ys)
  LegacyInvariant-short s None xs terms more b h e = (h.0, h.1, e ∙ (ap (λ ts. ts ++ None ∷ []) h.3 ∙ legacy_terms-short xs h.0 h.2))
  LegacyInvariant-short s (Some add) xs terms more b h e = cc

  -- after the loop, if adds remain
  pub LegacyInvariant-long : (s : S) (pending : Option T) (xs : List T) (terms more : List (Option T)) (zs : List T) (all : List (Option T)) → is_some pending ≡ true
      → LegacyInvariant s pending xs terms → more ≡ terms ++ pending ∷ [] → Drains steps s zs → all ≡ more ++ legacy_pairs [] zs
      → (ys : List T) × Drains steps source ys × (all ≡ legacy_terms xs ys)
  LegacyInvariant-long s None xs terms more zs all b h e d f = cc
  LegacyInvariant-long s (Some add) xs terms more zs all b h e d f = (
    (h.0 ++ add ∷ []) ++ zs,
    HasYielded-rest steps can left source s (h.0 ++ add ∷ []) zs h.1 d,
    f ∙ (ap (λ ts. ts ++ legacy_pairs [] zs) (e ∙ ap (λ ts. ts ++ Some add ∷ []) h.3)
        ∙ (append_assoc (legacy_prefix xs h.0) (Some add ∷ []) (legacy_pairs [] zs) ∙ (legacy_terms-long xs h.0 zs add h.2 ∙ ap (legacy_terms xs) (sym (append_assoc h.0 (add ∷ []) zs))))),
  )
