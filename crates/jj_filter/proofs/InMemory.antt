-- Runs over readers and writers in memory.
use Rattle.std.proofs.Common.{◌≡◌, ◌∙◌, ℕ, List, [], ◌++◌, Option, None, Some, Result, Ok, Err, IfErr, ap, sym, subst, append-nil}
use Rattle.std.specs.Io.KnownBytes.{Consumes, IsAtEnd}
use Rattle.jj_files.specs.Streams.{streams}
use Rattle.jj_filter.specs.Runs.{CanFailBy, EndsBy, ReadsAll}
use Rattle.jj_filter.specs.declared.failure.Failure.{Failure}
use Rattle.jj_filter.specs.declared.failure.Failure.TheVariants.{ReadInput, Memory, WriteOutput, Input}

-- a source that was read to its end was consumed whole
read_all : (input read : List ℕ) (after : Option (List ℕ)) → Consumes (Some input) after read → IsAtEnd after → read ≡ input
read_all input read None consumed end = absurd consumed
read_all input read (Some rest) consumed end = sym (consumed ∙ ap (λ l. read ++ l) end ∙ append-nil read)

module _ {O F : Type 0} (Yields : List ℕ → List ℕ → O → Type 0) (Fails : List ℕ → F → Type 0) (input source : List ℕ) (is : source ≡ input) (unread : Option (List ℕ)) where
  -- the bytes read are the input
  all_read : (written left : Option (List ℕ)) (read : List ℕ) → ReadsAll (streams (Some source) written) (streams unread left) read → read ≡ input
  all_read written left read (consumed, end) = read_all source read unread consumed end ∙ is

  -- a run fails by the input's fault, or a stream failed
  pub failed : (written left : Option (List ℕ)) (failure : Failure F) → EndsBy Yields Fails (streams (Some source) written) (streams unread left) (Err failure) → CanFailBy Yields Fails input failure
  failed written left ReadInput h = tt
  failed written left Memory h = tt
  failed written left (WriteOutput is_closed) (read, output, outcome, all, yields, prefix) =
      (output, outcome, subst (λ bytes. Yields bytes output outcome) (all_read written left read all) yields)
  failed written left (Input fault) (read, all, fails, kept) = subst (λ bytes. Fails bytes fault) (all_read written left read all) fails

  -- the contents of a sink that was empty are the output
  pub wrote : (sunk bytes given : List ℕ) → sunk ≡ [] → given ≡ bytes → (outcome : O)
      → EndsBy Yields Fails (streams (Some source) (Some sunk)) (streams unread (Some bytes)) (Ok outcome) → Yields input given outcome
  wrote sunk bytes given empty same outcome (read, output, all, yields, appended) =
      let whole : output ≡ given = sym (same ∙ appended ∙ ap (λ l. l ++ output) empty) in
      subst (λ l. Yields l given outcome) (all_read (Some sunk) (Some bytes) read all) (subst (λ l. Yields read l outcome) whole yields)

-- `?` propagates the failure
pub fails_at : {A F : Type 0} (Fails : Failure F → Type 0) (r : Result A (Failure F)) (y e : Failure F) → r ≡ Err y → y ≡ e → Fails e → IfErr r Fails
fails_at Fails r y e is same h = subst (λ x. IfErr x Fails) (sym is) (subst Fails (sym same) h)
