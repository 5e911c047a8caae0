-- Data up to a delimiter, line by line.
use Rattle.std.proofs.Common.{◌≡◌, ◌∙◌, ℕ, ◌+◌, ◌<◌, ◌≤◌, Bool, true, nat_eq, List, ◌∷◌, length, take, drop, get_or, Option, Some, None, Ok, Err, ap, sym}
use Rattle.std.proofs.lemmas.List.{take_more, drop_more, drop_all}
use Rattle.jj_fast_import.specs.declared.fault.Stop.{Stop}
use Rattle.jj_fast_import.specs.declared.fault.Stop.TheVariants.{Incomplete}
use Rattle.jj_fast_import.specs.Words.{with_byte}
use Rattle.jj_fast_import.specs.Lines.{complete, delimited, end_of, or_else, until}
use Rattle.jj_fast_import.proofs.Splits.{prepended, prepended-push, prepended-ended, prepended-none}

module _ (d : List ℕ) (s : Bool) (i : ℕ) (xs : List ℕ) (so : prepended (take i xs) (until d s (drop i xs)) ≡ until d true xs) where
  here : i < length xs → (ends : Option (List ℕ)) → end_of d s (drop i xs) ≡ ends
      → prepended (take i xs) (or_else ends (with_byte (get_or xs i 0) (until d (nat_eq (get_or xs i 0) 10) (drop (i + 1) xs)))) ≡ until d true xs
  here below ends is =
      ap (λ e. prepended (take i xs) (or_else e (with_byte (get_or xs i 0) (until d (nat_eq (get_or xs i 0) 10) (drop (i + 1) xs))))) (sym is ∙ ap (end_of d s) (drop_more xs i 0 below))
      ∙ ap (λ l. prepended (take i xs) (until d s l)) (sym (drop_more xs i 0 below)) ∙ so

  pub until_found : (rest : List ℕ) → i < length xs → end_of d s (drop i xs) ≡ Some rest → delimited d xs ≡ Ok (take i xs, rest)
  until_found rest below is = ap complete (sym (here below (Some rest) is) ∙ prepended-ended (take i xs) rest)

  pub until_next : i < length xs → end_of d s (drop i xs) ≡ None → prepended (take (i + 1) xs) (until d (nat_eq (get_or xs i 0) 10) (drop (i + 1) xs)) ≡ until d true xs
  until_next below is =
      prepended-push (take i xs) (take (i + 1) xs) (get_or xs i 0) (until d (nat_eq (get_or xs i 0) 10) (drop (i + 1) xs)) (take_more xs i 0 below)
      ∙ here below None is

  pub until_nowhere : length xs ≤ i → delimited d xs ≡ Err Incomplete
  until_nowhere past = ap complete (sym so ∙ ap (λ l. prepended (take i xs) (until d s l)) (drop_all i xs past) ∙ prepended-none (take i xs))
