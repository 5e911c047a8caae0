-- Lists of symbols and tokens: their lengths after a step, and reversal.
use Rattle.std.proofs.Common.{◌≡◌, ℕ, ◌+◌, ap, arith, length, map, List, [], ◌∷◌, ◌++◌, reverse, refl}
use Rattle.std.proofs.lemmas.List.{reverse-append, length-map}
use Rattle.jj_globs.specs.declared.glob.symbol.Symbol.{Symbol}
use Rattle.jj_globs.specs.GlobSyntax.{symbol_of}

module _ {X : Type 0} where
  -- appending is prepending to the reversed list
  pub reverse-push : (xs ys : List X) (x : X) → ys ≡ xs ++ x ∷ [] → reverse ys ≡ x ∷ reverse xs
  reverse-push xs ys x e = rw (e, reverse-append xs (x ∷ [])) refl

-- a pattern is one byte longer than the pattern after its first symbol
pub length-next : (text rest : List ℕ) (symbol : Symbol) → map symbol_of text ≡ symbol ∷ map symbol_of rest → length text ≡ length rest + 1
length-next text rest symbol e =
    omega (arith, length-map text symbol_of, length-map rest symbol_of, ap length e)
