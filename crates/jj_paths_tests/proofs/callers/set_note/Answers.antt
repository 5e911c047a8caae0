use Rattle.std.proofs.Common.{◌≡◌, ◌≢◌, Option, Some, None, Result, Ok, Err, IfOk, IfErr}
use Rattle.std.specs.Result.{MatchResult}
use Rattle.std.specs.Option.{option_and_then}
use Rattle.jj_paths.specs.Paths.{Path}
use Rattle.jj_paths.specs.Tree.{Tree, value_at, AddsDefaults, SetsValue}
use Rattle.jj_paths_tests.proofs.SetValues.{set_reads, extended_reads}
use Rattle.jj_paths_tests.proofs.callers.set_note.Goals as goal

abbrev read : {T : Type 0} → Option (Option T) → Option T
read note = option_and_then (λ n. n) note

module _ {T U E : Type 0} where
  -- whether the call succeeded or failed, every other path is read as before
  others : (answer : Result U E) (More : U → Type 0) (old new : Tree (Option T)) (path : Path) (note : T)
      → IfOk answer (λ done. SetsValue (λ v. v ≡ None) old path (Some note) new) → MatchResult answer More (λ e. AddsDefaults (λ v. v ≡ None) old path new)
      → (other : Path) → other ≢ path → read (value_at new other) ≡ read (value_at old other)
  others (Ok done) More old new path note set more = set_reads (λ v. v ≡ None) read (λ v e. e) old new path (Some note) set
  others (Err e) More old new path note set extended = λ other off. extended_reads (λ v. v ≡ None) read (λ v e. e) old new path extended other

  -- after a failure, every path is read as before
  failed : (answer : Result U E) (More : U → Type 0) (old new : Tree (Option T)) (path : Path) → MatchResult answer More (λ e. AddsDefaults (λ v. v ≡ None) old path new)
      → IfErr answer (λ e. (any : Path) → read (value_at new any) ≡ read (value_at old any))
  failed (Ok done) More old new path more = tt
  failed (Err e) More old new path extended = extended_reads (λ v. v ≡ None) read (λ v e. e) old new path extended

pub returns-clause-others : goal.returns-clause-others
returns-clause-others c = others c.set.result _ _ _ _ _ c.set.ensures.as_map c.set.ensures.edited

pub returns-clause-error : goal.returns-clause-error
returns-clause-error c = failed c.set.result _ _ _ _ c.set.ensures.edited
