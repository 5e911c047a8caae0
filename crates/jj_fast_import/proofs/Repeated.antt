-- Reading items one after the other, as a loop does.
use Rattle.std.proofs.Common.{◌≡◌, ℕ, suc, ◌-◌, ◌+◌, ◌≤◌, ◌<◌, List, [], ◌∷◌, ◌++◌, Option, Some, None, Result, Ok, Err, refl, sym, ap, ◌∙◌, append_assoc, append-nil, arith}
use Rattle.jj_fast_import.specs.declared.fault.Stop.{Stop}
use Rattle.jj_fast_import.specs.declared.fault.ParseError.{ParseError}
use Rattle.jj_fast_import.specs.declared.fault.ParseError.TheVariants as errors
use Rattle.jj_fast_import.specs.Lines.{◌>>=◌, Fails}
use Rattle.jj_fast_import.specs.Commands.{list_of, many}

-- the items read before, and those still to read
abbrev pub with_front : {A : Type 0} → List A → Result (List A × List ℕ) Stop → Result (List A × List ℕ) Stop
with_front front read = read >>= λ x. Ok (front ++ x.0, x.1)

regroup : {A : Type 0} (front : List A) (x : A) (read : Result (List A × List ℕ) Stop) → with_front front (read >>= λ others. Ok (x ∷ others.0, others.1)) ≡ with_front (front ++ x ∷ []) read
regroup {A} front x (Ok y) = ap (λ (xs : List A). Ok (xs, y.1)) (sym (append_assoc front (x ∷ []) y.0))
regroup front x (Err stop) = refl

module _ {A : Type 0} (read : List ℕ → Result (Option (A × List ℕ)) Stop) (front : List A) (limit i : ℕ) (bytes : List ℕ) (total : Result (List A × List ℕ) Stop) (so : with_front front (many read (limit - i) bytes) ≡ total) where
  pub goes_on : (x : A) (after : List ℕ) (new : List A) → i < limit → read bytes ≡ Ok (Some (x, after)) → new ≡ front ++ x ∷ [] → with_front new (many read (limit - (i + 1)) after) ≡ total
  unfolding many
  goes_on x after new below is pushed =
      let k : limit - i ≡ suc (limit - (i + 1)) = omega arith in
      let one : with_front front (many read (limit - i) bytes) ≡ with_front (front ++ x ∷ []) (many read (limit - (i + 1)) after) = rw (k, is) (regroup front x (many read (limit - (i + 1)) after)) in
      ap (λ (f : List A). with_front f (many read (limit - (i + 1)) after)) pushed ∙ sym one ∙ so

  pub stops : i < limit → read bytes ≡ Ok None → total ≡ Ok (front, bytes)
  unfolding many
  stops below is =
      let k : limit - i ≡ suc (limit - (i + 1)) = omega arith in
      let one : with_front front (many read (limit - i) bytes) ≡ Ok (front, bytes) = rw (k, is) (ap (λ (xs : List A). Ok (xs, bytes)) (append-nil front)) in
      sym so ∙ one

  pub fails : (e : ParseError) → i < limit → Fails e (read bytes) → Fails e total
  unfolding many
  fails errors.Memory below is = tt
  fails (errors.Stop stop) below is =
      let k : limit - i ≡ suc (limit - (i + 1)) = omega arith in
      let one : with_front front (many read (limit - i) bytes) ≡ Err stop = rw (k, is) refl in
      sym so ∙ one

  pub is_full : limit ≤ i → total ≡ Ok (front, bytes)
  unfolding many
  is_full past =
      let k : limit - i ≡ 0 = omega arith in
      let one : with_front front (many read (limit - i) bytes) ≡ Ok (front, bytes) = rw k (ap (λ (xs : List A). Ok (xs, bytes)) (append-nil front)) in
      sym so ∙ one
