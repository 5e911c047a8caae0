-- Equality and hash of mapped lists, for labels as strings.
use Rattle.std.proofs.Common.{◌≡◌, ℕ, Bool, List, [], ◌∷◌, ◌++◌, map, length, refl, ap, sym, ◌∙◌}
use Rattle.std.specs.Prelude.{◌&&◌}
use Rattle.std.specs.Cmp.Lexicographic.{pointwise}
use Rattle.std.specs.Hash as fed
use Rattle.std.specs.List.{flat_map}
use Rattle.std.proofs.lemmas.List.{length-map}

module _ {X Y : Type 0} (f : X → Y) where
  -- comparison of mapped lists
  pub pointwise-map : (eq : Y → Y → Bool) (xs ys : List X) → pointwise eq (map f xs) (map f ys) ≡ pointwise (λ x y. eq (f x) (f y)) xs ys
  pointwise-map eq [] [] = refl
  pointwise-map eq [] (y ∷ ys) = refl
  pointwise-map eq (x ∷ xs) [] = refl
  pointwise-map eq (x ∷ xs) (y ∷ ys) = ap (λ b. eq (f x) (f y) && b) (pointwise-map eq xs ys)

  -- hash input of a mapped list
  flat_map-map : (write : Y → List (List ℕ)) (xs : List X) → flat_map (λ x. write (f x)) xs ≡ flat_map write (map f xs)
  flat_map-map write [] = refl
  flat_map-map write (x ∷ xs) = ap (λ ws. write (f x) ++ ws) (flat_map-map write xs)

  pub slice-map : (write : Y → List (List ℕ)) (xs : List X) → fed.slice (λ x. write (f x)) xs ≡ fed.slice write (map f xs)
  slice-map write xs = ap (λ n. fed.usize n ++ flat_map (λ x. write (f x)) xs) (sym (length-map xs f)) ∙ ap (λ ws. fed.usize (length (map f xs)) ++ ws) (flat_map-map write xs)
