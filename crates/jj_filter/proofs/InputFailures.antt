-- Failures of a computation.
use Rattle.jj_filter.specs.Runs.{IsInputFailure}
use Rattle.jj_filter.specs.declared.failure.Failure.{Failure}
use Rattle.jj_filter.specs.declared.failure.Failure.TheVariants.{ReadInput, Memory, WriteOutput, Input}

-- a weaker statement on the fault
pub IsInputFailure-weaker : {F : Type 0} (P Q : F → Type 0) → ((fault : F) → P fault → Q fault) → (failure : Failure F) → IsInputFailure P failure → IsInputFailure Q failure
IsInputFailure-weaker P Q more ReadInput h = h
IsInputFailure-weaker P Q more Memory h = h
IsInputFailure-weaker P Q more (WriteOutput is_closed) h = h
IsInputFailure-weaker P Q more (Input fault) h = more fault h
