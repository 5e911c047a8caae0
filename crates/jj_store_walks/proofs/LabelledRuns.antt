-- A walk over items whose errors have labels.
use Rattle.std.proofs.Common.{◌≡◌, ℕ, zero, suc, Result, Ok, Err, List, [], ◌∷◌, ◌++◌, map, reverse, refl, sym, ◌∙◌, ap, subst, arith}
use Rattle.std.specs.List.{Contains}
use Rattle.std.proofs.lemmas.List.{map-append, reverse-append}
use Rattle.std.proofs.lemmas.List.Elements.{Contains-append_right}
use Rattle.jj_dag.specs.FallibleGraphs.{FallibleGraph, FalliblePreorder}
use Rattle.jj_dag.specs.FallibleGraphs.FalliblePreorder.{ended, failed, passed, entered}

module _ {X K : Type 0} where
  -- an item without its label
  abbrev pub plain : Result ℕ (X × K) → Result ℕ K
  plain (Ok a) = Ok a
  plain (Err f) = Err f.1

  pub plain_in : (xs : List (Result ℕ (X × K))) (a : ℕ) → Contains (map plain xs) (Ok a) → Contains xs (Ok a)
  plain_in [] a (k, lt, e) = absurd (omega arith)
  plain_in (Ok b ∷ xs) a (zero, lt, e) = (0, omega arith, cc)
  plain_in (Ok b ∷ xs) a (suc k, lt, e) = Contains-append_right (Ok b ∷ []) xs (Ok a) (plain_in xs a (k, omega arith, e))
  plain_in (Err f ∷ xs) a (zero, lt, e) = cc
  plain_in (Err f ∷ xs) a (suc k, lt, e) = Contains-append_right (Err f ∷ []) xs (Ok a) (plain_in xs a (k, omega arith, e))

  pub plain_reverse : (xs : List (Result ℕ (X × K))) → map plain (reverse xs) ≡ reverse (map plain xs)
  plain_reverse [] = refl
  plain_reverse (x ∷ xs) =
      ap (map plain) (reverse-append (x ∷ []) xs) ∙ map-append plain (reverse xs) (x ∷ []) ∙ ap (λ l. l ++ plain x ∷ []) (plain_reverse xs) ∙ sym (reverse-append (plain x ∷ []) (map plain xs))

  plain_push : (yielded : List (Result ℕ K)) (labelled : List (Result ℕ (X × K))) (x : Result ℕ (X × K)) (y : Result ℕ K) → map plain labelled ≡ yielded → plain x ≡ y → map plain (labelled ++ x ∷ []) ≡ yielded ++ y ∷ []
  plain_push yielded labelled x y same one = map-append plain labelled (x ∷ []) ∙ ap (λ l. l ++ plain x ∷ []) same ∙ ap (λ z. yielded ++ z ∷ []) one

  -- a walk over plain items is one over the labelled items
  pub labelled : (g : FallibleGraph K) (h : FallibleGraph (X × K)) → ((a : ℕ) → map plain (h a) ≡ g a) → (todo yielded out : List (Result ℕ K)) → FalliblePreorder g todo yielded out
      → (todo2 yielded2 : List (Result ℕ (X × K))) → map plain todo2 ≡ todo → map plain yielded2 ≡ yielded → (out2 : List (Result ℕ (X × K))) × FalliblePreorder h todo2 yielded2 out2 × (map plain out2 ≡ out)
  labelled g h same [] yielded out ended [] yielded2 e f = (yielded2, ended, f)
  labelled g h same [] yielded out ended (x ∷ todo2) yielded2 e f = absurd cc
  labelled g h same (Err k ∷ todo) yielded out (failed p) [] yielded2 e f = absurd cc
  labelled g h same (Err k ∷ todo) yielded out (failed p) (Ok b ∷ todo2) yielded2 e f = absurd cc
  labelled g h same (Err k ∷ todo) yielded out (failed p) (Err l ∷ todo2) yielded2 e f =
      let first : plain (Err l) ≡ Err k = cc in
      let rest : map plain todo2 ≡ todo = cc in
      let q = labelled g h same todo (yielded ++ Err k ∷ []) out p todo2 (yielded2 ++ Err l ∷ []) rest (plain_push yielded yielded2 (Err l) (Err k) f first) in
      (q.0, failed q.1, q.2)
  labelled g h same (Ok a ∷ todo) yielded out (passed is p) [] yielded2 e f = absurd cc
  labelled g h same (Ok a ∷ todo) yielded out (passed is p) (Err l ∷ todo2) yielded2 e f = absurd cc
  labelled g h same (Ok a ∷ todo) yielded out (passed is p) (Ok b ∷ todo2) yielded2 e f =
      let first : b ≡ a = cc in
      let rest : map plain todo2 ≡ todo = cc in
      let q = labelled g h same todo yielded out p todo2 yielded2 rest f in
      (q.0, passed (subst (λ n. Contains yielded2 (Ok n)) (sym first) (plain_in yielded2 a (subst (λ l. Contains l (Ok a)) (sym f) is))) q.1, q.2)
  labelled g h same (Ok a ∷ todo) yielded out (entered {below = below} is m p) [] yielded2 e f = absurd cc
  labelled g h same (Ok a ∷ todo) yielded out (entered {below = below} is m p) (Err l ∷ todo2) yielded2 e f = absurd cc
  labelled g h same (Ok a ∷ todo) yielded out (entered {below = below} is m p) (Ok b ∷ todo2) yielded2 e f =
      let first : b ≡ a = cc in
      let rest : map plain todo2 ≡ todo = cc in
      let own : map plain (reverse (h b)) ≡ reverse (g a) = plain_reverse (h b) ∙ ap reverse (same b ∙ ap g first) in
      let one : plain (Ok b) ≡ Ok a = ap (λ n. Ok n) first in
      let q = labelled g h same (reverse (g a)) (yielded ++ Ok a ∷ []) below m (reverse (h b)) (yielded2 ++ Ok b ∷ []) own (plain_push yielded yielded2 (Ok b) (Ok a) f one) in
      let r = labelled g h same todo below out p todo2 q.0 rest q.2 in
      let new : Contains yielded2 (Ok b) → ⊥ = λ at. is (subst (λ l. Contains l (Ok a)) f (subst (λ n. Contains (map plain yielded2) (Ok n)) first (in_plain yielded2 b at))) in
      (r.0, entered new q.1 r.1, r.2)
    where
      in_plain : (xs : List (Result ℕ (X × K))) (n : ℕ) → Contains xs (Ok n) → Contains (map plain xs) (Ok n)
      in_plain [] n (i, lt, e) = absurd (omega arith)
      in_plain (x ∷ xs) n (zero, lt, e) = (0, omega arith, ap plain e)
      in_plain (x ∷ xs) n (suc i, lt, e) = Contains-append_right (plain x ∷ []) (map plain xs) (Ok n) (in_plain xs n (i, omega arith, e))
