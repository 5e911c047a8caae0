-- The steps of an iterator that wraps each item in an `Ok`.
-- Cited by contracts of public items through ListOrError.
use Rattle.std.specs.Prelude.{Option, Result, MatchOption, MatchResult}
use Rattle.std.specs.declared.option.Option.TheVariants.{None, Some}

-- a call returns the end, or an item in an `Ok`, where one of the other iterator returns it without
abbrev pub StepsOk : {S T E : Type 0} → (S → Option T → S → Type 0) → S → Option (Result T E) → S
    → Type 0
StepsOk steps s r t = MatchOption r (steps s None t)
    (λ item. MatchResult item (λ x. steps s (Some x) t) (λ _. ⊥))
