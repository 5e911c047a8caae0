-- Lists of items of which none fails.
use Rattle.std.proofs.Common.{◌≡◌, Result, Ok, Err, List, [], ◌∷◌, ◌++◌, map}

module _ {X E : Type 0} where
  -- no error is among them
  pub no_error_in : (front : List (Result X E)) (e : E) (rest : List (Result X E)) (all : List X) → map (λ x. Ok x) all ≡ (front ++ Err e ∷ []) ++ rest → ⊥
  no_error_in [] e rest [] h = cc
  no_error_in [] e rest (x ∷ all) h = cc
  no_error_in (y ∷ front) e rest [] h = cc
  no_error_in (y ∷ front) e rest (x ∷ all) h =
      let tail : map (λ z. Ok z) all ≡ (front ++ Err e ∷ []) ++ rest = cc in
      no_error_in front e rest all tail

  -- where the items begin with some, so do their values
  pub split_oks : (front : List X) (x : X) (rest : List (Result X E)) (all : List X) → map {B = Result X E} (λ y. Ok y) all ≡ (map (λ y. Ok y) front ++ Ok x ∷ []) ++ rest → (back : List X) × (all ≡ front ++ x ∷ back)
  split_oks [] x rest [] h = absurd cc
  split_oks [] x rest (y ∷ all) h =
      let first : y ≡ x = cc in
      (all, λ i. first i ∷ all)
  split_oks (f ∷ front) x rest [] h = absurd cc
  split_oks (f ∷ front) x rest (y ∷ all) h =
      let first : y ≡ f = cc in
      let more = split_oks front x rest all cc in
      (more.0, λ i. first i ∷ more.1 i)
