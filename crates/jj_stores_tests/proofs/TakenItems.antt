-- Loop invariant of collecting an iterator: collected and remaining items together are all items.
use Rattle.std.proofs.Common.{◌≡◌, ◌++◌, ◌∷◌, [], ◌∙◌, List, map, ap, sym, subst, append-nil}
use Rattle.std.proofs.lemmas.List.{map-append, append_assoc}

module _ {X Y : Type 0} (f : X → Y) (AreAll : List Y → Type 0) (old : List X) (WereLeft : List Y → Type 0)
    (all : (rest : List Y) → WereLeft rest → AreAll (map f old ++ rest)) where
  -- one more item is collected
  pub one_taken : (new : List X) (x : X) (AreLeft : List Y → Type 0) → new ≡ old ++ x ∷ [] → ((rest : List Y) → AreLeft rest → WereLeft (f x ∷ rest))
      → (rest : List Y) → AreLeft rest → AreAll (map f new ++ rest)
  one_taken new x AreLeft is gave rest left =
      let more = sym (ap (λ l. map f l ++ rest) is ∙ ap (λ l. l ++ rest) (map-append f old (x ∷ [])) ∙ append_assoc (map f old) (f x ∷ []) rest) in
      subst AreAll more (all (f x ∷ rest) (gave rest left))

  -- no item remains
  pub all_taken : WereLeft [] → AreAll (map f old)
  all_taken none = subst AreAll (append-nil (map f old)) (all [] none)
