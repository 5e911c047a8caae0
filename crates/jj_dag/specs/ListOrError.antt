-- The steps of an iterator over the items of a list, or over one error.
-- Cited by contracts of public items: CanList, IteratesOver, StepsListed, listed_left.
use Rattle.std.specs.Prelude.{◌≡◌, Option, Result}
use Rattle.std.specs.Option.{option_map}
use Rattle.std.specs.declared.option.Option.TheVariants.{None, Some}
use Rattle.std.specs.declared.result.Result.TheVariants.{Ok, Err}
use Rattle.std.specs.Iterator.{Count, at_most}
use Rattle.jj_dag.specs.AllOk.{StepsOk}
use Rattle.jj_dag.specs.declared.list_or_error.ListOrError.{ListOrError}
use Rattle.jj_dag.specs.declared.list_or_error.ListOrError.TheVariants.{List, Error}

-- the list, if there is one, may be advanced
abbrev pub CanList : {I E : Type 0} → (I → Type 0) → ListOrError I E → Type 0
CanList can (List it) = can it
CanList can (Error o) = Unit {0}

-- a call returns the next item of the list in an `Ok`; or the error, once
abbrev pub StepsListed : {I T E : Type 0} → (I → Option T → I → Type 0) → ListOrError I E
    → Option (Result T E) → ListOrError I E → Type 0
StepsListed steps (List it) r (List after) = StepsOk steps it r after
StepsListed steps (List it) r (Error p) = ⊥
StepsListed steps (Error o) r (List after) = ⊥
StepsListed steps (Error o) r (Error p) = (r ≡ option_map (λ e. Err e) o) × (p ≡ None)

-- how many items are left at most
abbrev pub listed_left : {I E : Type 0} → (I → Count) → ListOrError I E → Count
listed_left left (List it) = left it
listed_left left (Error None) = at_most 0
listed_left left (Error (Some e)) = at_most 1

-- the iterator over a result's list, or over its error
unfoldable pub IteratesOver : {U I E : Type 0} → (U → I → Type 0) → Result U E → ListOrError I E
    → Type 0
IteratesOver becomes (Ok list) (List it) = becomes list it
IteratesOver becomes (Ok list) (Error o) = ⊥
IteratesOver becomes (Err e) (List it) = ⊥
IteratesOver becomes (Err e) (Error o) = o ≡ Some e
