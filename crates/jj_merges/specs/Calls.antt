-- Calls of a closure at each item of a list, in order. `call f x y g`: called at x in state f, the
-- closure returns y and is then in state g.
-- Cited by contracts of public items: AreImages, CallsReturn, StopsAtFailure.
use Rattle.std.specs.Prelude.{◌≡◌, ◌⊎◌, List, [], ◌∷◌}

module _ {F A B : Type 0} (call : F → A → B → F → Type 0) where
  -- calls at xs return ys and take the closure from state f to `last`
  abbrev pub CallsReturn : F → List A → List B → F → Type 0
  CallsReturn f [] [] last = f ≡ last
  CallsReturn f [] (y ∷ ys) last = ⊥
  CallsReturn f (x ∷ xs) [] last = ⊥
  CallsReturn f (x ∷ xs) (y ∷ ys) last = (next : F) × call f x y next
      × CallsReturn next xs ys last

  -- calls at xs, from state f on, return ys
  abbrev pub AreImages : F → List A → List B → Type 0
  AreImages f xs ys = (last : F) × CallsReturn f xs ys last

  -- the calls at some first items of xs succeed, and the next call fails
  abbrev pub StopsAtFailure : (F → A → Type 0) → F → List A → Type 0
  StopsAtFailure fails f [] = ⊥
  StopsAtFailure fails f (x ∷ xs) = fails f x ⊎ ((y : B) × (next : F) × call f x y next
      × StopsAtFailure fails next xs)
